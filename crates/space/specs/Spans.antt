-- less: below, by what `partial_cmp` answers. Ordered: what an order of places owes. Between: a span holds a place. span_of, span_widened: the spans that are made.
-- side_of: left is below. spans_sense: a space whose boxes are spans. Assumes nothing.
use Rattle.std.specs.Prelude.{◌≡◌, ℕ, Bool, true, false, Option, if◌then◌else◌}
use Rattle.std.specs.Ordering.{partial_lt}
use Rattle.std.specs.declared.cmp.Ordering.{Ordering}
use Rattle.space.specs.Sense.{Sense}
use Rattle.space.specs.declared.laws.Side.{Side}
use Rattle.space.specs.declared.laws.Side.TheVariants.{Left, Right}
use Rattle.space.specs.declared.spans.Span.{Span}

abbrev pub less : {P : Type 0} → (P → P → Option Ordering) → P → P → Bool
less cmp p o = partial_lt cmp p o

pub record Ordered {P : Type 0} (below : P → P → Bool) : Type 0 where
  pub irreflexive : (p : P) → below p p ≡ false
  pub transitive : (p q r : P) → below p q ≡ true → below q r ≡ true → below p r ≡ true

abbrev pub span_of : {P : Type 0} → P → Span P
span_of p = record { low = p; high = p }

module _ {P : Type 0} (below : P → P → Bool) where
  -- neither below the low end nor above the high one
  abbrev pub Between : Span P → P → Type 0
  Between b p = (below p b.low ≡ false) × (below b.high p ≡ false)

  abbrev pub span_widened : Span P → P → Span P
  span_widened b p = record { low = if below p b.low then p else b.low; high = if below b.high p then p else b.high }

  -- an end from outside, the place itself from inside
  abbrev pub span_nearest : Span P → P → P
  span_nearest b p = if below p b.low then b.low else (if below b.high p then b.high else p)

  abbrev pub side_of : P → P → Side
  side_of p pivot = if below p pivot then Left else Right

  -- by the keys of places and the bounds of spans
  abbrev pub spans_sense : (P → P → ℕ) → (P → Span P → ℕ) → Sense P (Span P)
  spans_sense key bound = record {
    key = key;
    bound = bound;
    single = span_of;
    widened = span_widened;
    side = λ p pivot turn. side_of p pivot;
  }
