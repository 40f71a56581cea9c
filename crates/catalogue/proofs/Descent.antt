-- The descent of an add, level by level: what is left to do from an entry makes the whole, and where it ends.
use Rattle.std.proofs.Common.{◌≡◌, ℕ, suc, ◌+◌, ◌-◌, ◌<◌, List, [], ◌∷◌, ◌++◌, length, get_or, set, Some, None, Option, sym, refl, ap, ◌∙◌, arith, length-set}
use Rattle.std.proofs.lemmas.List.{length-map, get_or-set_same, set-set}
use Rattle.std.proofs.lemmas.Option.{slice_get_read, get_or_from_slice_get}
use Rattle.std.specs.List.{slice_get}
use Rattle.std.specs.Option.{option_and_then, option_map_or}
use Rattle.catalogue.specs.declared.entries.Entry.{Entry}
use Rattle.space.specs.Sense.{Sense}
use Rattle.catalogue.specs.Entries.{child, with_child, leaf, wider}
use Rattle.catalogue.specs.Adding.{next_down, widened_at, attached, hung, grown}
use Rattle.catalogue.specs.States.{State, with_tree}
use Rattle.catalogue.specs.Trees.{Sound, turns, Tree}
use Rattle.catalogue.proofs.Fronts.{element}
use Rattle.catalogue.proofs.Shapes.{turn_read, sound_read, leads_child, turns_set}

-- the turn of entry i
abbrev pub turn_of : {P B : Type 0} → List (Entry P B) → ℕ → ℕ
turn_of es i = get_or (turns es) i 0

module _ {P B : Type 0} (S : Sense P B) (n : ℕ) (p : P) where
  hung_on : (k i j : ℕ) (es : List (Entry P B)) (e : Entry P B) → slice_get es i ≡ Some e → child (S.side p e.place e.turn) e ≡ Some j → hung S (suc k) n p i es ≡ hung S k n p j (set es i (wider S p e))
  hung_on k i j es e r c = rw (r, hung) (rw c)

  hung_end : (k i : ℕ) (es : List (Entry P B)) (e : Entry P B) → slice_get es i ≡ Some e → child (S.side p e.place e.turn) e ≡ None → hung S (suc k) n p i es ≡ set es i (with_child (S.side p e.place e.turn) (length es) (wider S p e)) ++ (leaf S n p (e.turn + 1) (Some i) ∷ [])
  hung_end k i es e r c = rw (r, hung) (rw c)

  -- The descent has come to entry i: what is left to do from here makes the whole.
  pub record Going (first now : State P B) (root i : ℕ) : Type 0 where
    pub same : hung S (length first.entries - turn_of now.entries i) n p i now.entries ≡ hung S (length first.entries) n p root first.entries
    pub kept : now ≡ with_tree now.entries first.root first
    pub full : length now.entries ≡ length first.entries
    pub inside : i < length now.entries

  pub going_first : (c : State P B) (root : ℕ) → Tree c.entries c.root → c.root ≡ Some root → Going c c root root
  going_first c root t q =
      let at = t.rooted root q in
      record {
        same = ap (λ k. hung S k n p root c.entries) (omega (arith, at.1));
        kept = refl;
        full = refl;
        inside = omega (arith, at.0, length-map c.entries (λ (x : Entry P B). x.turn));
      }

  module _ (first now : State P B) (root i : ℕ) (t : Tree now.entries now.root) (g : Going first now root i) where
    abbrev es : List (Entry P B)
    es = now.entries

    e : Entry P B
    e = (element es i g.inside).0

    at : slice_get es i ≡ Some e
    unfolding e
    at = (element es i g.inside).1

    read : e ≡ get_or es i e
    read = sym (get_or_from_slice_get es i e e at)

    good : Sound (turns es) e
    good = sound_read es i e now.root t g.inside read

    turned : turn_of es i ≡ e.turn
    turned = turn_read es i e g.inside read

    all : length (turns es) ≡ length es
    all = length-map es (λ (x : Entry P B). x.turn)

    early : e.turn < length first.entries
    early = omega (arith, good.early, all, g.full)

    fuel : length first.entries - turn_of es i ≡ suc (length first.entries - suc e.turn)
    fuel = omega (arith, turned, early)

    wide : widened_at S p i es ≡ set es i (wider S p e)
    wide = ap (λ (o : Option (Entry P B)). option_map_or (λ x. set es i (wider S p x)) o es) at

    down : next_down S p i es ≡ child (S.side p e.place e.turn) e
    down = ap (λ (o : Option (Entry P B)). option_and_then (λ x. child (S.side p x.place x.turn) x) o) at

    module _ (j : ℕ) (c : next_down S p i es ≡ Some j) (next : State P B) (q : next ≡ with_tree (widened_at S p i es) now.root now) where
      lead : (j < length (turns es)) × (get_or (turns es) j 0 ≡ suc e.turn)
      lead = leads_child (turns es) e (S.side p e.place e.turn) good j (sym down ∙ c)

      entries : next.entries ≡ set es i (wider S p e)
      entries = ap (λ (s : State P B). s.entries) q ∙ wide

      further : turn_of next.entries j ≡ suc e.turn
      further = ap (λ (us : List (Entry P B)). turn_of us j) entries ∙ (ap (λ ts. get_or ts j 0) (turns_set es i e (wider S p e) g.inside read refl) ∙ lead.1)

      pub falls : length first.entries - turn_of next.entries j < length first.entries - turn_of es i
      falls = omega (arith, further, turned, early)

      pub going_on : Going first next root j
      going_on = record {
        same =
            ap (λ k. hung S k n p j next.entries) (ap (λ u. length first.entries - u) further)
            ∙ (ap (hung S (length first.entries - suc e.turn) n p j) entries
            ∙ (sym (ap (λ k. hung S k n p i es) fuel ∙ hung_on (length first.entries - suc e.turn) i j es e at (sym down ∙ c)) ∙ g.same));
        kept = let k = g.kept in cc;
        full = ap length entries ∙ (length-set es i (wider S p e) ∙ g.full);
        inside = omega (arith, lead.0, all, ap length entries, length-set es i (wider S p e));
      }

    pub going_done : (rooted : first.root ≡ Some root) → next_down S p i es ≡ None → (next last : State P B) → next ≡ with_tree (widened_at S p i es) now.root now
        → last ≡ with_tree (attached S n p i next.entries) next.root next → last ≡ grown S n p first
    going_done rooted c next last q q' =
        let w : Entry P B = wider S p e in
        let entries : next.entries ≡ set es i w = ap (λ (s : State P B). s.entries) q ∙ wide in
        let here : slice_get (set es i w) i ≡ Some w = slice_get_read (set es i w) (length es) i w (sym (length-set es i w)) g.inside (sym (get_or-set_same es i w w g.inside)) in
        let whole : attached S n p i (set es i w) ≡ hung S (length first.entries) n p root first.entries =
        ap (λ (o : Option (Entry P B)). option_map_or (λ x. set (set es i w) i (with_child (S.side p x.place x.turn) (length (set es i w)) x) ++ (leaf S n p (x.turn + 1) (Some i) ∷ [])) o (set es i w)) here
        ∙ (ap (λ m. set (set es i w) i (with_child (S.side p e.place e.turn) m w) ++ (leaf S n p (e.turn + 1) (Some i) ∷ [])) (length-set es i w)
        ∙ (ap (λ (us : List (Entry P B)). us ++ (leaf S n p (e.turn + 1) (Some i) ∷ [])) (set-set es i w (with_child (S.side p e.place e.turn) (length es) w))
        ∙ (sym (ap (λ k. hung S k n p i es) fuel ∙ hung_end (length first.entries - suc e.turn) i es e at (sym down ∙ c)) ∙ g.same))) in
        let k = g.kept in
        let state : last ≡ with_tree (hung S (length first.entries) n p root first.entries) (Some root) first = cc in
        rw (rooted, grown) state
