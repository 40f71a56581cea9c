-- The clock face: its places, order, key, bound and boxes. Assumes nothing.
use Rattle.std.specs.Prelude.{ℕ, ◌+◌, ◌-◌, min, Bool, if◌then◌else◌, ◌||◌, Some, Option, nat_lt}
use Rattle.std.proofs.Common.{ltb→lt}
use Rattle.space.specs.Sense.{Sense}
use Rattle.space.specs.Admission.{only_if}
use Rattle.space.specs.Lines.{square}
use Rattle.space.specs.Spans.{Between, spans_sense}
use Rattle.space.specs.declared.coordinates.ClockPlace.{ClockPlace}
use Rattle.space.specs.declared.spans.Span.{Span}

-- the minutes below 720 are the places
abbrev pub clock_at : ℕ → Option ClockPlace
clock_at m = only_if (nat_lt m 720) (λ t. Some (record { minute = m; face = ltb→lt m 720 t }))

abbrev pub clock_spot : ClockPlace → ℕ
clock_spot p = p.minute

abbrev pub clock_below : ClockPlace → ClockPlace → Bool
clock_below p o = nat_lt p.minute o.minute

abbrev pub ClockHolds : Span ClockPlace → ClockPlace → Type 0
ClockHolds = Between clock_below

-- the plain difference
abbrev pub gap : ℕ → ℕ → ℕ
gap m n = (m - n) + (n - m)

-- the shorter way round
abbrev pub arc : ℕ → ℕ → ℕ
arc m n = min (gap m n) (720 - gap m n)

abbrev pub clock_key : ClockPlace → ClockPlace → ℕ
clock_key q p = square (arc q.minute p.minute)

-- 0 inside, and outside the smaller of the keys to the two ends
abbrev pub clock_bound : ClockPlace → Span ClockPlace → ℕ
clock_bound q b = if clock_below q b.low || clock_below b.high q then min (clock_key q b.low) (clock_key q b.high) else 0

abbrev pub clock_sense : Sense ClockPlace (Span ClockPlace)
clock_sense = spans_sense clock_below clock_key clock_bound
