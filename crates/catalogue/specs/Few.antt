-- Lists of at most sixteen: none_few, of nothing; take_few, the front of a list; if_few, one list or another; map_few, as many
-- others. Assumes nothing.
use Rattle.std.specs.Prelude.{ℕ, ◌≤◌, Bool, true, false, if◌then◌else◌, List, [], length, take, map}
use Rattle.std.proofs.Common.{leb→le, sym, subst}
use Rattle.std.proofs.Math.Nat.{min-le_left, le_trans}
use Rattle.std.proofs.lemmas.List.{length-take, length-map}

pub none_few : (A : Type 0) → length {A = A} [] ≤ 16
none_few A = leb→le 0 16 tt

module _ {A : Type 0} where
  pub take_few : (k : ℕ) (xs : List A) → k ≤ 16 → length (take k xs) ≤ 16
  take_few k xs few = subst (λ n. n ≤ 16) (sym (length-take k xs)) (le_trans (min-le_left k (length xs)) few)

  pub if_few : (b : Bool) (xs ys : List A) → length xs ≤ 16 → length ys ≤ 16 → length (if b then xs else ys) ≤ 16
  if_few true xs ys p q = p
  if_few false xs ys p q = q

pub map_few : {A B : Type 0} (f : A → B) (xs : List A) → length xs ≤ 16 → length (map f xs) ≤ 16
map_few f xs few = subst (λ n. n ≤ 16) (sym (length-map xs f)) few
