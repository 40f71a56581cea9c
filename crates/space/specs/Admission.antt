-- only_if: a value that needs a test to have passed. Placed: coordinates and places tell each other.
-- admitted: what admit answers. refusal_number: the number of its refusal. Assumes nothing.
use Rattle.std.specs.Prelude.{◌≡◌, ℕ, Bool, true, false, T, Some, None, Ok, Err, Option, Result}
use Rattle.space.specs.declared.laws.NotAdmitted.{NotAdmitted}

abbrev pub only_if : {X : Type 0} → (b : Bool) → (T b → Option X) → Option X
only_if true f = f tt
only_if false f = None

-- `at` gives the place of coordinates, if they have one, and `spot` the coordinates of a place
pub record Placed {C P : Type 0} (at : C → Option P) (spot : P → C) : Type 0 where
  pub returns : (p : P) → at (spot p) ≡ Some p
  pub true_to : (c : C) (p : P) → at c ≡ Some p → spot p ≡ c

abbrev pub admitted : {P : Type 0} → Option P → Result P NotAdmitted
admitted None = Err (record {})
admitted (Some p) = Ok p

abbrev pub refusal_number : NotAdmitted → ℕ
refusal_number r = 1
