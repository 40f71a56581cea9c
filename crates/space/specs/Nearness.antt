-- The bounds of the line and of the clock are at most the keys of all that a box holds.
use Rattle.std.specs.Prelude.{◌≡◌, ℕ, ◌^◌, ◌<◌, ◌≤◌, min, true, false, cond, ◌||◌, ◌⊎◌, ℤ, pos, negsuc, ◌-ℤ◌, ◌≤ℤ◌, nat_lt, unsigned_abs}
use Rattle.std.specs.Ordering.{is_lt, int_cmp}
use Rattle.std.proofs.Common.{ap, ◌∙◌, arith, inl, inr, ⊎_elim}
use Rattle.std.proofs.lemmas.Int.{ints}
use Rattle.std.proofs.lemmas.Bool.{cond_both, ltb-true, ltb-false, or_cases}
use Rattle.space.specs.Lines.{square, line_bound, line_key, line_below, LineHolds}
use Rattle.space.specs.Clocks.{clock_bound, clock_key, clock_below, ClockHolds, arc}
use Rattle.space.specs.declared.coordinates.LinePlace.{LinePlace}
use Rattle.space.specs.declared.coordinates.ClockPlace.{ClockPlace}
use Rattle.space.specs.declared.spans.Span.{Span}
use Rattle.space.specs.Spans.{Ordered, span_nearest}
use Rattle.std.proofs.lemmas.Bool.Decides.{nat_tests}
use Rattle.space.specs.Gaps.{square_mono, square_least, gap_up, gap_down, at_nearest, less_int}

pub line_ordered : Ordered line_below
line_ordered = record { irreflexive = λ p. grind (arith, ints); transitive = λ p q r h k. grind (arith, ints) }

pub clock_ordered : Ordered clock_below
clock_ordered = record { irreflexive = λ p. grind (arith, nat_tests); transitive = λ p q r h k. grind (arith, nat_tests) }

pub line_at_least : (p q r : LinePlace) → line_below p q ≡ false → line_below q r ≡ false → line_below p r ≡ false
line_at_least p q r h k = grind (arith, ints)

pub clock_at_least : (p q r : ClockPlace) → clock_below p q ≡ false → clock_below q r ≡ false → clock_below p r ≡ false
clock_at_least p q r h k = grind (arith, nat_tests)

-- the key to the nearest place of a range
pub line_nearest : (b : Span LinePlace) (q : LinePlace) → line_key q (span_nearest (λ p o. is_lt (int_cmp p.value o.value)) b q) ≡ line_bound q b
line_nearest b q =
    at_nearest (line_key q) (is_lt (int_cmp q.value b.low.value)) (is_lt (int_cmp b.high.value q.value)) b.low b.high q (let z : unsigned_abs (q.value -ℤ q.value) ≡ 0 = omega (arith, ints) in ap square z)
    ∙ (λ i. cond (less_int q.value b.low.value i) (line_key q b.low) (cond (less_int b.high.value q.value i) (line_key q b.high) 0))

pub line_near : (q : LinePlace) (b : Span LinePlace) (p : LinePlace) → LineHolds b p → line_bound q b ≤ line_key q p
line_near q b p h =
    cond_both (line_below q b.low) (line_key q b.low) (cond (line_below b.high q) (line_key q b.high) 0) (λ z. z ≤ line_key q p)
    (λ t. square_mono _ _ (gap_up q.value b.low.value p.value t h.0))
    (λ _. cond_both (line_below b.high q) (line_key q b.high) 0 (λ z. z ≤ line_key q p)
    (λ t. square_mono _ _ (gap_down q.value b.high.value p.value t h.1))
    (λ _. omega arith))

apart_fits : (a b : ℤ) → negsuc 2147483647 ≤ℤ a → a ≤ℤ pos 2147483647 → negsuc 2147483647 ≤ℤ b → b ≤ℤ pos 2147483647 → unsigned_abs (a -ℤ b) ≤ 4294967295
apart_fits a b h i j k = omega (arith, ints)

pub line_fits : (q p : LinePlace) → line_key q p < 2 ^ 64
line_fits q p = let m = square_mono (unsigned_abs (q.value -ℤ p.value)) 4294967295 (apart_fits q.value p.value q.lowest q.highest p.lowest p.highest) in omega arith

outside : (q a b : ℕ) → (nat_lt q a || nat_lt b q) ≡ true → (q < a) ⊎ (b < q)
outside q a b t = ⊎_elim (λ l. inl (ltb-true q a l)) (λ r. inr (ltb-true b q r)) (or_cases (nat_lt q a) (nat_lt b q) t)

-- round the face, one of the ends is met before anything between them
arcs : (q a b p : ℕ) → p < 720 → a ≤ p → p ≤ b → (q < a) ⊎ (b < q) → min (arc q a) (arc q b) ≤ arc q p
arcs q a b p f l h (inl o) = omega arith
arcs q a b p f l h (inr o) = omega arith

pub clock_near : (q : ClockPlace) (b : Span ClockPlace) (p : ClockPlace) → ClockHolds b p → clock_bound q b ≤ clock_key q p
clock_near q b p h =
    cond_both (clock_below q b.low || clock_below b.high q) (min (clock_key q b.low) (clock_key q b.high)) 0 (λ z. z ≤ clock_key q p)
    (λ t. square_least (arc q.minute b.low.minute) (arc q.minute b.high.minute) (arc q.minute p.minute)
    (arcs q.minute b.low.minute b.high.minute p.minute p.face (ltb-false p.minute b.low.minute h.0) (ltb-false b.high.minute p.minute h.1)
    (outside q.minute b.low.minute b.high.minute t)))
    (λ _. omega arith)

pub clock_fits : (q p : ClockPlace) → clock_key q p < 2 ^ 64
clock_fits q p = let m = square_mono (arc q.minute p.minute) 720 (omega arith) in omega arith
