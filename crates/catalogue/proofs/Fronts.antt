-- Reading the front of a list, `take n xs`. An element inside a list.
use Rattle.std.proofs.Common.{◌≡◌, ℕ, zero, suc, ◌<◌, ◌≤◌, List, [], ◌∷◌, length, get_or, take, Some, sym, refl, ap, ◌∙◌, arith}
use Rattle.std.proofs.lemmas.List.{get_or-take, length-take-le}
use Rattle.std.proofs.lemmas.Option.{slice_get-get_or}
use Rattle.std.specs.List.{slice_get}

pub front_read : {X : Type 0} (xs : List X) (n i : ℕ) (x : X) → n ≤ length xs → i < n → x ≡ get_or xs i x → slice_get (take n xs) i ≡ Some x
front_read xs n i x w l e = slice_get-get_or (take n xs) i x (omega (arith, length-take-le n xs w)) ∙ ap Some (get_or-take n xs i x l ∙ sym e)

-- the element at an index
pub element : {X : Type 0} (xs : List X) (i : ℕ) → i < length xs → (x : X) × (slice_get xs i ≡ Some x)
element [] i l = let z : ⊥ = omega arith in absurd z
element (x ∷ xs) zero l = (x, refl)
element (x ∷ xs) (suc i) l = element xs i (omega arith)
