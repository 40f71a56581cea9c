-- Distances of whole numbers and their squares. gap_to: how far a number is from a range.
-- sum_of_squares: of four components. Assumes nothing.
use Rattle.std.specs.Prelude.{ℕ, if◌then◌else◌, ℤ, ◌-ℤ◌, int_lt, unsigned_abs}
use Rattle.space.specs.Lines.{square}
use Rattle.pipe.specs.Axes.{along, total}
use Rattle.pipe.specs.declared.axes.PerAxis.{PerAxis}

-- 0 inside, and outside the distance to the nearer end
abbrev pub gap_to : ℤ → ℤ → ℤ → ℕ
gap_to low high v = if int_lt v low then unsigned_abs (v -ℤ low) else (if int_lt high v then unsigned_abs (v -ℤ high) else 0)

abbrev pub sum_of_squares : PerAxis ℤ → ℕ
sum_of_squares v = total (λ i. square (unsigned_abs (along v i)))
