-- What an add writes to a table, and the tree that it leaves of the entries in use.
use Rattle.std.proofs.Common.{◌≡◌, ℕ, ◌+◌, ◌<◌, ◌≤◌, List, [], ◌∷◌, ◌++◌, length, get_or, take, set, Some, None, Option, sym, refl, ap, ◌∙◌, subst, arith, add-one}
use Rattle.std.proofs.Math.Seq.{take-set-lt}
use Rattle.std.proofs.lemmas.List.{length-take-le, take_more_set, get_or-take, set-append_left, length-map}
use Rattle.std.specs.List.{slice_get}
use Rattle.std.specs.Option.{option_and_then, option_map_or}
use Rattle.space.specs.declared.laws.Side.{Side}
use Rattle.space.specs.Sense.{Sense}
use Rattle.catalogue.specs.declared.entries.Entry.{Entry}
use Rattle.catalogue.specs.Adding.{next_down, widened_at, attached}
use Rattle.catalogue.specs.Entries.{child, with_child, leaf, wider}
use Rattle.catalogue.specs.Trees.{Sound, turns, Tree}
use Rattle.catalogue.proofs.Fronts.{front_read}
use Rattle.catalogue.proofs.Shapes.{sound_read, tree_set, tree_first, tree_pushed, tree_attached}

module _ {P B : Type 0} (S : Sense P B) (p : P) (table : List (Entry P B)) (used : ℕ) (o : Option ℕ) (t : Tree (take used table) o) where
  abbrev es : List (Entry P B)
  es = take used table

  -- entry i, in use
  module _ (i : ℕ) (e : Entry P B) (within : used ≤ length table) (l : i < used) (r : e ≡ get_or table i e) where
    full : length es ≡ used
    full = length-take-le used table within

    inside : i < length es
    inside = omega (arith, full, l)

    read : e ≡ get_or es i e
    read = r ∙ sym (get_or-take used table i e l)

    at : slice_get es i ≡ Some e
    at = front_read table used i e within l r

    good : Sound (turns es) e
    good = sound_read es i e o t inside read

    pub early : e.turn < used
    early = omega (arith, good.early, length-map es (λ (x : Entry P B). x.turn), full)

    pub down : next_down S p i es ≡ child (S.side p e.place e.turn) e
    down = ap (λ (x : Option (Entry P B)). option_and_then (λ y. child (S.side p y.place y.turn) y) x) at

    module _ (w : Entry P B) (q : w ≡ wider S p e) where
      front : take used (set table i w) ≡ set es i (wider S p e)
      front = take-set-lt used table i w l ∙ ap (set es i) q

      pub widened : take used (set table i w) ≡ widened_at S p i es
      widened = front ∙ sym (ap (λ (x : Option (Entry P B)). option_map_or (λ y. set es i (wider S p y)) x es) at)

      pub widened_tree : Tree (take used (set table i w)) o
      widened_tree = subst (λ us. Tree us o) (sym front)
          (tree_set es i e (wider S p e) o t inside read refl (record { early = good.early; to_left = good.to_left; to_right = good.to_right; to_parent = good.to_parent }))

    -- a leaf in the next entry, and its parent's link to it
    module _ (n : ℕ) (room : used < length table) (x : Entry P B) (q : x ≡ leaf S n p (e.turn + 1) (Some i)) where
      abbrev new : Entry P B
      new = leaf S n p (e.turn + 1) (Some i)

      last : take (used + 1) (set table used x) ≡ es ++ (new ∷ [])
      last = take_more_set table used x room ∙ ap (λ y. es ++ (y ∷ [])) q

      pub leaf_tree : Tree (take (used + 1) (set table used x)) o
      leaf_tree = subst (λ us. Tree us o) (sym last) (tree_pushed es i e new o t inside read (add-one e.turn) refl refl refl)

      module _ (v : Entry P B) (way : Side) (s : way ≡ S.side p e.place e.turn) (u : v ≡ with_child way used e) where
        linked : take (used + 1) (set (set table used x) i v) ≡ set es i (with_child way (length es) e) ++ (new ∷ [])
        linked =
            take-set-lt (used + 1) (set table used x) i v (omega (arith, l))
            ∙ (ap (λ (us : List (Entry P B)). set us i v) last
            ∙ (set-append_left es (new ∷ []) i v inside
            ∙ ap (λ y. set es i y ++ (new ∷ [])) (u ∙ ap (λ m. with_child way m e) (sym full))))

        pub attached_front : take (used + 1) (set (set table used x) i v) ≡ attached S n p i es
        attached_front =
            linked
            ∙ (ap (λ d. set es i (with_child d (length es) e) ++ (new ∷ [])) s
            ∙ sym (ap (λ (y : Option (Entry P B)). option_map_or (λ z. set es i (with_child (S.side p z.place z.turn) (length es) z) ++ (leaf S n p (z.turn + 1) (Some i) ∷ [])) y es) at))

        pub attached_tree : Tree (take (used + 1) (set (set table used x) i v)) o
        attached_tree = subst (λ us. Tree us o) (sym linked) (tree_attached es i e new o t inside read (add-one e.turn) refl refl refl way)

  -- the first entry
  module _ (n : ℕ) (room : used < length table) (none : o ≡ None) (x : Entry P B) (q : x ≡ leaf S n p 0 None) where
    pub first_front : take (used + 1) (set table used x) ≡ es ++ (leaf S n p 0 None ∷ [])
    first_front = take_more_set table used x room ∙ ap (λ y. es ++ (y ∷ [])) q

    pub first_tree : Tree (take (used + 1) (set table used x)) (Some used)
    first_tree =
        subst (λ us. Tree us (Some used)) (sym first_front)
        (subst (λ m. Tree (es ++ (leaf S n p 0 None ∷ [])) (Some m)) (length-take-le used table (omega (arith, room)))
        (tree_first es (leaf S n p 0 None) (subst (λ (z : Option ℕ). Tree es z) none t) refl refl refl refl))
