-- Distances: a range is no farther than what it holds.
use Rattle.std.specs.Prelude.{◌≡◌, ◌≤◌, false, cond, ℤ, ◌+ℤ◌, ◌-ℤ◌, neg_ℤ, int_lt, unsigned_abs}
use Rattle.std.proofs.Common.{arith}
use Rattle.std.proofs.lemmas.Int.{ints}
use Rattle.std.proofs.lemmas.Bool.{cond_both}
use Rattle.pipe.specs.Squares.{gap_to}
use Rattle.space.specs.Gaps.{gap_up, gap_down, at_nearest}
use Rattle.space.specs.Spans.{span_nearest}
use Rattle.space.specs.declared.spans.Span.{Span}

pub gap_near : (low high q p : ℤ) → int_lt p low ≡ false → int_lt high p ≡ false → gap_to low high q ≤ unsigned_abs (q -ℤ p)
gap_near low high q p h k =
    cond_both (int_lt q low) (unsigned_abs (q -ℤ low)) (cond (int_lt high q) (unsigned_abs (q -ℤ high)) 0) (λ z. z ≤ unsigned_abs (q -ℤ p))
    (λ t. gap_up q low p t h)
    (λ _. cond_both (int_lt high q) (unsigned_abs (q -ℤ high)) 0 (λ z. z ≤ unsigned_abs (q -ℤ p)) (λ t. gap_down q high p t k) (λ _. omega arith))

nowhere : (q : ℤ) → unsigned_abs (q -ℤ q) ≡ 0
nowhere q = omega (arith, ints)

-- the gap is the distance to the nearest place of the range
pub gap_nearest : {P : Type 0} (value : P → ℤ) (b : Span P) (q : P) →
    unsigned_abs (value q -ℤ value (span_nearest (λ p o. int_lt (value p) (value o)) b q)) ≡ gap_to (value b.low) (value b.high) (value q)
gap_nearest value b q =
    at_nearest (λ p. unsigned_abs (value q -ℤ value p)) (int_lt (value q) (value b.low)) (int_lt (value b.high) (value q)) b.low b.high q (nowhere (value q))

pub turned_difference : (x y : ℤ) → unsigned_abs (neg_ℤ x -ℤ y) ≡ unsigned_abs (x +ℤ y)
turned_difference x y = omega (arith, ints)
