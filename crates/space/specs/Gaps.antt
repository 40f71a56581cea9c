-- Distances: what lies beyond an end is no nearer than that end. Squares: what is nearer has the smaller square.
-- Whole numbers are in order.
use Rattle.std.specs.Prelude.{◌≡◌, ℕ, ◌<◌, ◌≤◌, min, Bool, true, false, cond, ℤ, ◌-ℤ◌, int_lt, unsigned_abs, refl}
use Rattle.std.specs.Ordering.{is_lt, int_cmp}
use Rattle.std.proofs.Common.{mul-le-mul, arith, ⊎_elim}
use Rattle.std.proofs.lemmas.Bool.{cases_lt}
use Rattle.std.proofs.lemmas.Int.{ints}
use Rattle.space.specs.Lines.{square}
use Rattle.space.specs.Spans.{Ordered}

pub square_mono : (a b : ℕ) → a ≤ b → square a ≤ square b
square_mono a b h = mul-le-mul h h

-- the smaller of two squares is at most that of anything no nearer than both
pub square_least : (a b c : ℕ) → min a b ≤ c → min (square a) (square b) ≤ square c
square_least a b c h =
    ⊎_elim (λ (l : a < b). let m = square_mono a c (omega arith) in omega arith)
    (λ (l : b ≤ a). let m = square_mono b c (omega arith) in omega arith)
    (cases_lt a b)

-- p lies beyond l, seen from q
pub gap_up : (q l p : ℤ) → int_lt q l ≡ true → int_lt p l ≡ false → unsigned_abs (q -ℤ l) ≤ unsigned_abs (q -ℤ p)
gap_up q l p h k = grind (arith, ints)

pub gap_down : (q l p : ℤ) → int_lt l q ≡ true → int_lt l p ≡ false → unsigned_abs (q -ℤ l) ≤ unsigned_abs (q -ℤ p)
gap_down q l p h k = grind (arith, ints)

-- a distance that is 0 from inside, at the nearest place of a range
pub at_nearest : {P : Type 0} (f : P → ℕ) (s t : Bool) (low high q : P) → f q ≡ 0 → f (cond s low (cond t high q)) ≡ cond s (f low) (cond t (f high) 0)
at_nearest f true t low high q z = refl
at_nearest f false true low high q z = refl
at_nearest f false false low high q z = z

pub less_int : (x y : ℤ) → is_lt (int_cmp x y) ≡ int_lt x y
less_int x y = grind (arith, ints)

pub components_ordered : Ordered int_lt
components_ordered = record {
  irreflexive = λ p. grind (arith, ints);
  transitive = λ p q r h k. grind (arith, ints);
}
