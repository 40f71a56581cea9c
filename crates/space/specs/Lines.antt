-- The line: its places, order, key, bound and boxes. Assumes nothing.
use Rattle.std.specs.Prelude.{ℕ, ◌*◌, Bool, if◌then◌else◌, ℤ, pos, negsuc, ◌-ℤ◌, Some, Option, int_le, int_lt, unsigned_abs}
use Rattle.space.specs.Sense.{Sense}
use Rattle.space.specs.Admission.{only_if}
use Rattle.space.specs.Spans.{Between, spans_sense}
use Rattle.space.specs.declared.coordinates.LinePlace.{LinePlace}
use Rattle.space.specs.declared.spans.Span.{Span}

abbrev pub square : ℕ → ℕ
square n = n * n

-- every signed 32-bit number is a place
abbrev pub line_at : ℤ → Option LinePlace
line_at z =
    only_if (int_le (negsuc 2147483647) z)
    (λ l. only_if (int_le z (pos 2147483647))
    (λ h. Some (record { value = z; lowest = record { le = l }; highest = record { le = h } })))

abbrev pub line_spot : LinePlace → ℤ
line_spot p = p.value

abbrev pub line_below : LinePlace → LinePlace → Bool
line_below p o = int_lt p.value o.value

abbrev pub LineHolds : Span LinePlace → LinePlace → Type 0
LineHolds = Between line_below

-- the square of the difference
abbrev pub line_key : LinePlace → LinePlace → ℕ
line_key q p = square (unsigned_abs (q.value -ℤ p.value))

-- 0 inside, and outside the square of the gap to the nearer end
abbrev pub line_bound : LinePlace → Span LinePlace → ℕ
line_bound q b = if line_below q b.low then line_key q b.low else (if line_below b.high q then line_key q b.high else 0)

abbrev pub line_sense : Sense LinePlace (Span LinePlace)
line_sense = spans_sense line_below line_key line_bound
