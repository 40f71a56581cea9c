-- Attitudes: their places, key, bound and boxes. q and −q turn the pig the same way, so each counts under both signs.
-- Assumes nothing.
use Rattle.std.specs.Prelude.{ℕ, min, ℤ, ◌+ℤ◌, ◌-ℤ◌, neg_ℤ, Some, Option, int_lt, nat_le, unsigned_abs}
use Rattle.std.proofs.Common.{leb→le}
use Rattle.space.specs.Sense.{Sense}
use Rattle.space.specs.Admission.{only_if}
use Rattle.pipe.specs.Axes.{along, each, total, axis_at}
use Rattle.space.specs.Lines.{square}
use Rattle.pipe.specs.Squares.{gap_to, sum_of_squares}
use Rattle.space.specs.Spans.{Between, span_of, span_widened, side_of}
use Rattle.pipe.specs.declared.axes.Axis.{Axis}
use Rattle.pipe.specs.declared.axes.PerAxis.{PerAxis}
use Rattle.pipe.specs.declared.coordinates.AttitudePlace.{AttitudePlace}
use Rattle.pipe.specs.declared.boxes.AttitudeBox.{AttitudeBox}

-- components are a place where their squares sum to 268,402,687 up to 268,468,225: about 16,384 times a unit quaternion
abbrev pub attitude_at : PerAxis ℤ → Option AttitudePlace
attitude_at v =
    only_if (nat_le 268402687 (sum_of_squares v))
    (λ l. only_if (nat_le (sum_of_squares v) 268468225)
    (λ h. Some (record { value = v; lowest = leb→le 268402687 (sum_of_squares v) l; highest = leb→le (sum_of_squares v) 268468225 h })))

abbrev pub attitude_spot : AttitudePlace → PerAxis ℤ
attitude_spot p = p.value

-- on every axis
abbrev pub AttitudeHolds : AttitudeBox → AttitudePlace → Type 0
AttitudeHolds b p = (i : Axis) → Between int_lt (along b.ranges i) (along p.value i)

-- all signs turned
abbrev pub turned : PerAxis ℤ → PerAxis ℤ
turned v = each (λ i. neg_ℤ (along v i))

-- the square of the distance
abbrev pub chord : PerAxis ℤ → PerAxis ℤ → ℕ
chord v u = total (λ i. square (unsigned_abs (along v i -ℤ along u i)))

-- the square of the distance to the negative
abbrev pub far_chord : PerAxis ℤ → PerAxis ℤ → ℕ
far_chord v u = total (λ i. square (unsigned_abs (along v i +ℤ along u i)))

abbrev pub attitude_key : AttitudePlace → AttitudePlace → ℕ
attitude_key q p = min (chord q.value p.value) (far_chord q.value p.value)

-- the sum of the squared gaps to the ranges
abbrev pub gaps_to : AttitudeBox → PerAxis ℤ → ℕ
gaps_to b v = total (λ i. square (gap_to (along b.ranges i).low (along b.ranges i).high (along v i)))

-- the smaller of the sums for the place and for it with all signs turned
abbrev pub attitude_bound : AttitudePlace → AttitudeBox → ℕ
attitude_bound q b = min (gaps_to b q.value) (gaps_to b (turned q.value))

abbrev pub attitude_sense : Sense AttitudePlace AttitudeBox
attitude_sense = record {
  key = attitude_key;
  bound = attitude_bound;
  single = λ p. record { ranges = each (λ i. span_of (along p.value i)) };
  widened = λ b p. record { ranges = each (λ i. span_widened int_lt (along b.ranges i) (along p.value i)) };
  side = λ p pivot turn. side_of int_lt (along p.value (axis_at turn)) (along pivot.value (axis_at turn));
}
