-- comes_before: the order of hits. inserted: one more in a list, in order. last: the last one of a list.
-- before_last, above_last: what is compared with it. Assumes nothing.
use Rattle.std.specs.Prelude.{ℕ, Bool, false, if◌then◌else◌, ◌&&◌, ◌||◌, List, [], ◌∷◌, Some, None, Option, ◌==◌, nat_lt}
use Rattle.catalogue.specs.declared.findings.Hit.{Hit}

-- by key, and then by number
abbrev pub comes_before : Hit → Hit → Bool
comes_before x y = nat_lt x.key y.key || (x.key == y.key && nat_lt x.number y.number)

abbrev pub inserted : Hit → List Hit → List Hit
inserted x [] = x ∷ []
inserted x (y ∷ ys) = if comes_before x y then x ∷ y ∷ ys else y ∷ inserted x ys

abbrev pub last : List Hit → Option Hit
last [] = None
last (x ∷ xs) = elim (last xs) [ None ↦ Some x | Some y ↦ Some y ]

abbrev pub before_last : Hit → List Hit → Bool
before_last x xs = elim (last xs) [ None ↦ false | Some y ↦ comes_before x y ]

-- a bound, against the last one's key
abbrev pub above_last : ℕ → List Hit → Bool
above_last d xs = elim (last xs) [ None ↦ false | Some y ↦ nat_lt y.key d ]
