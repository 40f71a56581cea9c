-- A search begun here and stepped here stays at entries in use, so that its closing is accepted and leaves all as it was.
use Rattle.std.proofs.Common.{◌≡◌, ℕ, zero, suc, ◌+◌, ◌-◌, true, false, not, ◌||◌, is_some, Some, None, Ok, Err, Option, refl, ap, ◌∙◌, arith}
use Rattle.std.specs.Prelude.{if◌then◌else◌, nat_le, ◌==◌}
use Rattle.std.proofs.lemmas.List.{length-map}
use Rattle.std.specs.List.{slice_get}
use Rattle.std.proofs.lemmas.Bool.{cond_both, cond-false, eq-eqb, ne_eqb, or_from}
use Rattle.space.specs.Sense.{Sense}
use Rattle.catalogue.specs.declared.entries.Entry.{Entry}
use Rattle.catalogue.specs.declared.inquiries.Inquiry.{Inquiry}
use Rattle.catalogue.specs.declared.refusals.Refusal.TheVariants.{NotHere, NoSeatLeft, AlreadyFinished}
use Rattle.catalogue.specs.declared.searches.Phase.{Phase}
use Rattle.catalogue.specs.declared.searches.Phase.TheVariants.{Start, Down, First, Second, Up, Finished}
use Rattle.catalogue.specs.Ending.{closed}
use Rattle.catalogue.specs.Entries.{child}
use Rattle.catalogue.specs.Nearest.{ran, enough, found}
use Rattle.catalogue.specs.Searches.{Progress, Report}
use Rattle.catalogue.specs.Seats.{begun, strange}
use Rattle.catalogue.specs.States.{State, Outcome, done, refused, with_out}
use Rattle.catalogue.specs.Trees.{Tree}
use Rattle.catalogue.proofs.Fronts.{element}
use Rattle.catalogue.specs.Stepping.{stepped, moved, lost, finished, visit, climb, own, other, passed}

-- the root, if there is one, is in use
abbrev pub Rooted : {P B : Type 0} → State P B → Type 0
Rooted c = (i : ℕ) → c.root ≡ Some i → is_some (slice_get c.entries i) ≡ true

pub tree_rooted : {P B : Type 0} (c : State P B) → Tree c.entries c.root → Rooted c
tree_rooted c t i e = ap is_some (element c.entries i (omega (arith, (t.rooted i e).0, length-map c.entries (λ x. x.turn)))).1

module _ {P B : Type 0} (S : Sense P B) (c : State P B) where
  abbrev Stays : Phase → Type 0
  Stays f = lost c f ≡ false

  here : (i : ℕ) → is_some (slice_get c.entries i) ≡ true → not (is_some (slice_get c.entries i)) ≡ false
  here i e = ap not e

  visit_stays : (s : Progress P) (link : Option ℕ) (f : Phase) → Stays f → Stays (visit S c s link f)
  visit_stays s None f h = h
  visit_stays s (Some j) f h = at (slice_get c.entries j) refl
    where
      at : (o : Option (Entry P B)) → slice_get c.entries j ≡ o → Stays (elim o [ None ↦ f | Some e ↦ (if passed S s e.region then f else Down j) ])
      at None q = h
      at (Some e) q = cond_both (passed S s e.region) f (Down j) Stays (λ _. h) (λ _. here j (ap is_some q))

  climb_stays : (s : Progress P) (i : ℕ) (link : Option ℕ) → Stays (climb S c s i link)
  climb_stays s i None = refl
  climb_stays s i (Some j) = at (slice_get c.entries j) refl
    where
      beside : (e : Entry P B) → is_some (slice_get c.entries j) ≡ true → (o : Option ℕ) → Stays (elim o [ None ↦ Up j | Some first ↦ (if first == i then Second j else Up j) ])
      beside e q None = here j q
      beside e q (Some first) = cond_both (first == i) (Second j) (Up j) Stays (λ _. here j q) (λ _. here j q)

      at : (o : Option (Entry P B)) → slice_get c.entries j ≡ o → Stays (elim o [ None ↦ Finished | Some e ↦ elim (child (own S s e) e) [ None ↦ Up j | Some first ↦ (if first == i then Second j else Up j) ] ])
      at None q = refl
      at (Some e) q = beside e (ap is_some q) (child (own S s e) e)

  module _ (rooted : Rooted c) where
    at_entry : (i : ℕ) (s : Progress P) (f : Entry P B → Progress P) → Stays s.phase → ((e : Entry P B) → is_some (slice_get c.entries i) ≡ true → Stays (f e).phase)
        → Stays (elim (slice_get c.entries i) as (λ _. Progress P) [ None ↦ s | Some e ↦ f e ]).phase
    at_entry i s f h k = at (slice_get c.entries i) refl
      where
        at : (o : Option (Entry P B)) → slice_get c.entries i ≡ o → Stays (elim o as (λ _. Progress P) [ None ↦ s | Some e ↦ f e ]).phase
        at None q = h
        at (Some e) q = k e (ap is_some q)

    from_root : (o : Option ℕ) → c.root ≡ o → Stays (elim o [ None ↦ Finished | Some r ↦ Down r ])
    from_root None q = refl
    from_root (Some r) q = here r (rooted r q)

    moved_stays : (f : Phase) (s : Progress P) → Stays s.phase → Stays (moved S f c s).phase
    moved_stays Start s h = from_root c.root refl
    moved_stays (Down i) s h = at_entry i s _ h (λ e q. here i q)
    moved_stays (First i) s h = at_entry i s _ h (λ e q. visit_stays s (child (own S s e) e) (Second i) (here i q))
    moved_stays (Second i) s h = at_entry i s _ h (λ e q. visit_stays s (child (other (own S s e)) e) (Up i) (here i q))
    moved_stays (Up i) s h = at_entry i s _ h (λ e q. climb_stays s i e.parent)
    moved_stays Finished s h = h

    stepped_stays : (s : Progress P) → Stays s.phase → Stays (stepped S c s).after.phase
    stepped_stays s h =
        let P₁ : Outcome (Progress P) (Unit {0}) → Type 0 = λ o. Stays o.after.phase in
        cond_both (strange c s.mark || lost c s.phase) (refused NotHere s)
        (if finished s.phase then refused AlreadyFinished s else done (moved S s.phase c s) tt) P₁
        (λ _. h)
        (λ _. cond_both (finished s.phase) (refused AlreadyFinished s) (done (moved S s.phase c s) tt) P₁
        (λ _. h)
        (λ _. moved_stays s.phase s h))

    ran_stays : (n : ℕ) (s : Progress P) → Stays s.phase → Stays (ran S n c s).phase
    ran_stays zero s h = h
    ran_stays (suc n) s h = ran_stays n (stepped S c s).after (stepped_stays s h)

  marked : (s : Progress P) (f : Entry P B → Progress P) → ((e : Entry P B) → (f e).mark ≡ s.mark) → (o : Option (Entry P B))
      → (elim o as (λ _. Progress P) [ None ↦ s | Some e ↦ f e ]).mark ≡ s.mark
  marked s f h None = refl
  marked s f h (Some e) = h e

  moved_mark : (f : Phase) (s : Progress P) → (moved S f c s).mark ≡ s.mark
  moved_mark Start s = refl
  moved_mark (Down i) s = marked s _ (λ e. refl) (slice_get c.entries i)
  moved_mark (First i) s = marked s _ (λ e. refl) (slice_get c.entries i)
  moved_mark (Second i) s = marked s _ (λ e. refl) (slice_get c.entries i)
  moved_mark (Up i) s = marked s _ (λ e. refl) (slice_get c.entries i)
  moved_mark Finished s = refl

  stepped_mark : (s : Progress P) → (stepped S c s).after.mark ≡ s.mark
  stepped_mark s =
      let P₁ : Outcome (Progress P) (Unit {0}) → Type 0 = λ o. o.after.mark ≡ s.mark in
      cond_both (strange c s.mark || lost c s.phase) (refused NotHere s)
      (if finished s.phase then refused AlreadyFinished s else done (moved S s.phase c s) tt) P₁
      (λ _. refl)
      (λ _. cond_both (finished s.phase) (refused AlreadyFinished s) (done (moved S s.phase c s) tt) P₁
      (λ _. refl)
      (λ _. moved_mark s.phase s))

  ran_mark : (n : ℕ) (s : Progress P) → (ran S n c s).mark ≡ s.mark
  ran_mark zero s = refl
  ran_mark (suc n) s = ran_mark n (stepped S c s).after ∙ stepped_mark s

module _ {P B : Type 0} (S : Sense P B) (q : Inquiry P) (c : State P B) (rooted : Rooted c) where
  abbrev taken : State P B
  taken = with_out (c.out + 1) c

  abbrev last : Progress P
  last = ran S (enough S c) taken (begun c.mark q)

  welcome : (strange taken last.mark || lost taken last.phase) ≡ false
  welcome =
      let m : last.mark ≡ c.mark = ran_mark S taken (enough S c) (begun c.mark q) in
      or_from (strange taken last.mark) (lost taken last.phase)
      (or_from (not (last.mark == c.mark)) (c.out + 1 == 0) (ap not (eq-eqb last.mark c.mark m)) (ne_eqb (c.out + 1) 0 (λ e. omega arith)))
      (ran_stays S taken rooted (enough S c) (begun c.mark q) refl)

  -- a search that takes a seat gives it back
  pub found_back : (found S q c).after ≡ c
  found_back =
      let Back : Outcome (State P B) ℕ → Type 0 = λ o. after o ≡ c in
      cond_both (nat_le 8 c.out) (refused NoSeatLeft c) (done taken c.mark) Back (λ _. refl)
      (λ _. ap (λ (o : Outcome (State P B) Report). o.after) (cond-false (strange taken last.mark || lost taken last.phase) (refused NotHere taken) _ welcome)
      ∙ ap (λ n. with_out n c) {x = c.out + 1 - 1} {y = c.out} (omega arith))
    where
      after : Outcome (State P B) ℕ → State P B
      after o = (elim o.answer as (λ _. Outcome (State P B) Report) [ Ok mark ↦ closed o.after (ran S (enough S c) o.after (begun mark q)) | Err e ↦ refused e c ]).after
