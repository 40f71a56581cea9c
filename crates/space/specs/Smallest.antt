-- Boxes are the least ones: from a relation between boxes that single and widening keep; for a pair from its halves; one place
-- at a time.
use Rattle.std.specs.Prelude.{◌≡◌, List, [], ◌∷◌, ◌++◌, map, fold, refl}
use Rattle.std.proofs.Common.{subst}
use Rattle.std.specs.List.{AllByRecursion}
use Rattle.std.proofs.ByRecursion.{All-append}
use Rattle.space.specs.Sense.{Sense, Lawful}
use Rattle.space.specs.Least.{Within, boxed, Least, WideningLeast}
use Rattle.space.specs.Pairs.{paired, BothHold}
use Rattle.space.specs.declared.pairs.Both.{Both}

module _ {P B : Type 0} (S : Sense P B) (Holds : B → P → Type 0) (Inside : B → B → Type 0)
    (holds : (b c : B) → Inside b c → Within Holds b c)
    (one : (p : P) (c : B) → Holds c p → Inside (S.single p) c)
    (more : (b : B) (p : P) (c : B) → Inside b c → Holds c p → Inside (S.widened b p) c)
  where
    all_inside : (c : B) (ps : List P) (b : B) → Inside b c → AllByRecursion (Holds c) ps → Inside (fold S.widened b ps) c
    all_inside c [] b i h = i
    all_inside c (p ∷ ps) b i h = all_inside c ps (S.widened b p) (more b p c i h.0) h.1

    pub least_from : Least S Holds
    least_from p ps c h hs = holds (boxed S p ps) c (all_inside c ps (S.single p) (one p c h) hs)

module _ {P Q X Y : Type 0} (S : Sense P X) (R : Sense Q Y) (H : X → P → Type 0) (K : Y → Q → Type 0) where
  halves : (ps : List (Both P Q)) (b : Both X Y) →
      fold (paired S R).widened b ps
      ≡ record {
        first = fold S.widened b.first (map (λ (z : Both P Q). z.first) ps);
        second = fold R.widened b.second (map (λ (z : Both P Q). z.second) ps);
      }
  halves [] b = refl
  halves (p ∷ ps) b = halves ps ((paired S R).widened b p)

  firsts : (c : Both X Y) (ps : List (Both P Q)) → AllByRecursion (BothHold H K c) ps → AllByRecursion (H c.first) (map (λ (z : Both P Q). z.first) ps)
  firsts c [] hs = tt
  firsts c (p ∷ ps) hs = (hs.0.0, firsts c ps hs.1)

  seconds : (c : Both X Y) (ps : List (Both P Q)) → AllByRecursion (BothHold H K c) ps → AllByRecursion (K c.second) (map (λ (z : Both P Q). z.second) ps)
  seconds c [] hs = tt
  seconds c (p ∷ ps) hs = (hs.0.1, seconds c ps hs.1)

  pub least_both : Least S H → Least R K → Least (paired S R) (BothHold H K)
  least_both l m p ps c h hs o held =
      let apart = subst (λ (b : Both X Y). BothHold H K b o) (halves ps ((paired S R).single p)) held in (
        l p.first (map (λ (z : Both P Q). z.first) ps) c.first h.0 (firsts c ps hs) o.first apart.0,
        m p.second (map (λ (z : Both P Q). z.second) ps) c.second h.1 (seconds c ps hs) o.second apart.1,
      )

module _ {P B : Type 0} (S : Sense P B) (Holds : B → P → Type 0) (laws : Lawful S Holds) where
  still_held : (ps : List P) (b : B) (o : P) → Holds b o → Holds (fold S.widened b ps) o
  still_held [] b o h = h
  still_held (p ∷ ps) b o h = still_held ps (S.widened b p) o (laws.widened_keeps b p o h)

  all_held : (ps : List P) (b : B) → AllByRecursion (Holds (fold S.widened b ps)) ps
  all_held [] b = tt
  all_held (p ∷ ps) b = (still_held ps (S.widened b p) p (laws.widened_holds b p), all_held ps (S.widened b p))

  moved : (b c : B) (ps : List P) → Within Holds b c → AllByRecursion (Holds b) ps → AllByRecursion (Holds c) ps
  moved b c [] w hs = tt
  moved b c (p ∷ ps) w hs = (w p hs.0, moved b c ps w hs.1)

  one_more : (ps : List P) (b : B) (o : P) → fold S.widened b (ps ++ (o ∷ [])) ≡ S.widened (fold S.widened b ps) o
  one_more [] b o = refl
  one_more (p ∷ ps) b o = one_more ps (S.widened b p) o

  pub widening_least : Least S Holds → WideningLeast S Holds
  widening_least least p ps o c w h =
      subst (λ (b : B). Within Holds b c) (one_more ps (S.single p) o)
      (least p (ps ++ (o ∷ [])) c
      (w p (still_held ps (S.single p) p (laws.single_holds p)))
      (All-append (Holds c) ps (o ∷ []) (moved (boxed S p ps) c ps w (all_held ps (S.single p))) (h, tt)))
