-- Within: all that one box holds, another holds too. boxed: the box made of places. Least: what a space with least boxes owes.
-- WideningLeast: the same, one place at a time. Assumes nothing.
use Rattle.std.specs.Prelude.{List, fold}
use Rattle.std.specs.List.{AllByRecursion}
use Rattle.space.specs.Sense.{Sense}

abbrev pub Within : {P B : Type 0} → (B → P → Type 0) → B → B → Type 0
Within {P} Holds b c = (o : P) → Holds b o → Holds c o

-- the box of p, widened by each of ps in their order: every box of a space is made so
abbrev pub boxed : {P B : Type 0} → Sense P B → P → List P → B
boxed S p ps = fold S.widened (S.single p) ps

module _ {P B : Type 0} (S : Sense P B) (Holds : B → P → Type 0) where
  -- every box that holds the places that a box was made of contains that box
  abbrev pub Least : Type 0
  Least = (p : P) (ps : List P) (c : B) → Holds c p → AllByRecursion (Holds c) ps → Within Holds (boxed S p ps) c

  -- every box that holds the places of the old box and the new place contains the widened box
  abbrev pub WideningLeast : Type 0
  WideningLeast = (p : P) (ps : List P) (o : P) (c : B) → Within Holds (boxed S p ps) c → Holds c o → Within Holds (S.widened (boxed S p ps) o) c
