-- The laws of spans, from what an order of places owes, and of the spaces whose boxes they are. Inside: one span ends within another.
use Rattle.std.specs.Prelude.{◌≡◌, ℕ, ◌^◌, ◌<◌, ◌≤◌, Bool, true, false, Option, Some, None, option_map, refl, if◌then◌else◌}
use Rattle.std.specs.Cmp.{IsPartialOrder}
use Rattle.std.specs.Ordering.{is_lt, is_eq, is_some_and, ordering_reverse}
use Rattle.std.specs.declared.cmp.Ordering.{Ordering}
use Rattle.std.specs.declared.cmp.Ordering.TheVariants.{Less, Equal, Greater}
use Rattle.std.proofs.Common.{ap, ⊎_elim}
use Rattle.std.proofs.lemmas.Bool.{cond_both, cases_Bool, both_ways}
use Rattle.space.specs.Sense.{Lawful}
use Rattle.space.specs.Least.{Least}
use Rattle.space.specs.Smallest.{least_from}
use Rattle.space.specs.Spans.{less, Ordered, Between, span_of, span_widened, spans_sense}
use Rattle.space.specs.declared.spans.Span.{Span}

abbrev pub Inside : {P : Type 0} → (P → P → Bool) → Span P → Span P → Type 0
Inside below b c = (below b.low c.low ≡ false) × (below c.high b.high ≡ false)

is_less : (o : Option Ordering) → is_some_and is_lt o ≡ true → o ≡ Some Less
is_less None h = absurd (both_ways false refl h)
is_less (Some Less) h = refl
is_less (Some Equal) h = absurd (both_ways false refl h)
is_less (Some Greater) h = absurd (both_ways false refl h)

-- what is its own reverse is not below
not_less : (o : Option Ordering) → o ≡ option_map ordering_reverse o → is_some_and is_lt o ≡ false
not_less None h = refl
not_less (Some Less) h = ap (is_some_and is_lt) h
not_less (Some Equal) h = refl
not_less (Some Greater) h = refl

-- whatever has `PartialOrd` has an order of places: what spans owe to it
pub less_ordered : {P : Type 0} (eq : P → P → Bool) (cmp : P → P → Option Ordering) → IsPartialOrder eq cmp → Ordered (less cmp)
less_ordered eq cmp o = record {
  irreflexive = λ p. not_less _ (o.antisymm p p);
  transitive = λ p q r h k. ap (is_some_and is_lt) (o.trans p q r (is_less _ h) (is_less _ k));
}

-- what `partial_cmp` answers of places in an order: places that are not below one another are not compared
abbrev pub by_order : Bool → Bool → Option Ordering
by_order s t = if s then Some Less else (if t then Some Greater else None)

reversed : (s t : Bool) → (s ≡ true → t ≡ true → ⊥) → by_order s t ≡ option_map ordering_reverse (by_order t s)
reversed true true h = absurd (h refl refl)
reversed true false h = refl
reversed false true h = refl
reversed false false h = refl

is_below : (s t : Bool) → by_order s t ≡ Some Less → s ≡ true
is_below true t h = refl
is_below false true h = ap (is_some_and is_lt) h
is_below false false h = ap (is_some_and is_lt) h

never_equal : (s t : Bool) → by_order s t ≡ Some Equal → false ≡ true
never_equal true t h = ap (is_some_and is_eq) h
never_equal false true h = ap (is_some_and is_eq) h
never_equal false false h = ap (is_some_and is_eq) h

-- and whatever is in an order can have `PartialOrd`, so that a span asks no more of its places
pub ordered_partially : {P : Type 0} (below : P → P → Bool) → Ordered below → IsPartialOrder (λ p q. false) (λ p q. by_order (below p q) (below q p))
ordered_partially below o = record {
  antisymm = λ p q. reversed (below p q) (below q p) (λ h k. both_ways (below p p) (o.irreflexive p) (o.transitive p q p h k));
  trans = λ p q r h k. ap (λ b. by_order b (below r p)) (o.transitive p q r (is_below (below p q) (below q p) h) (is_below (below q r) (below r q) k));
  matches_eq = λ p q. (λ e. absurd (both_ways false refl e), λ e. never_equal (below p q) (below q p) e);
  congr = λ p q r e. absurd (both_ways false refl e);
}

module _ {P : Type 0} (below : P → P → Bool) (o : Ordered below) where
  -- what is below p is below all that p is below
  not_below : (p q r : P) → below p r ≡ false → below q r ≡ true → below p q ≡ false
  not_below p q r h k = ⊎_elim (λ t. absurd (both_ways (below p r) h (o.transitive p q r t k))) (λ f. f) (cases_Bool (below p q))

  not_above : (p q r : P) → below r p ≡ false → below r q ≡ true → below q p ≡ false
  not_above p q r h k = ⊎_elim (λ t. absurd (both_ways (below r p) h (o.transitive r q p k t))) (λ f. f) (cases_Bool (below q p))

  pub of_holds : (p : P) → Between below (span_of p) p
  of_holds p = (o.irreflexive p, o.irreflexive p)

  pub widened_new : (b : Span P) (p : P) → Between below (span_widened below b p) p
  widened_new b p = (
    cond_both (below p b.low) p b.low (λ z. below p z ≡ false) (λ _. o.irreflexive p) (λ f. f),
    cond_both (below b.high p) p b.high (λ z. below z p ≡ false) (λ _. o.irreflexive p) (λ f. f),
  )

  pub widened_old : (b : Span P) (p q : P) → Between below b q → Between below (span_widened below b p) q
  widened_old b p q h = (
    cond_both (below p b.low) p b.low (λ z. below q z ≡ false) (λ t. not_below q p b.low h.0 t) (λ _. h.0),
    cond_both (below b.high p) p b.high (λ z. below z q ≡ false) (λ t. not_above q p b.high h.1 t) (λ _. h.1),
  )

module _ {P : Type 0} (below : P → P → Bool) (at_least_lem : (p q r : P) → below p q ≡ false → below q r ≡ false → below p r ≡ false) where
  pub inside_holds : (b c : Span P) (p : P) → Inside below b c → Between below b p → Between below c p
  inside_holds b c p i h = (at_least_lem p b.low c.low h.0 i.0, at_least_lem c.high b.high p i.1 h.1)

  pub widened_inside : (b : Span P) (p : P) (c : Span P) → Inside below b c → Between below c p → Inside below (span_widened below b p) c
  widened_inside b p c i h = (
    cond_both (below p b.low) p b.low (λ z. below z c.low ≡ false) (λ _. h.0) (λ _. i.0),
    cond_both (below b.high p) p b.high (λ z. below c.high z ≡ false) (λ _. h.1) (λ _. i.1),
  )

-- the laws of a space whose boxes are spans
module _ {P : Type 0} (below : P → P → Bool) (key : P → P → ℕ) (bound : P → Span P → ℕ) where
  pub spans_lawful : Ordered below → ((q : P) (b : Span P) (p : P) → Between below b p → bound q b ≤ key q p) → ((q p : P) → key q p < 2 ^ 64) →
      Lawful (spans_sense below key bound) (Between below)
  spans_lawful o near fits = record {
    single_holds = of_holds below o;
    widened_holds = widened_new below o;
    widened_keeps = widened_old below o;
    bound_below = near;
    key_fits = fits;
  }

  pub spans_least : ((p q r : P) → below p q ≡ false → below q r ≡ false → below p r ≡ false) → Least (spans_sense below key bound) (Between below)
  spans_least at_least =
      least_from (spans_sense below key bound) (Between below) (Inside below) (λ b c i p. inside_holds below at_least b c p i) (λ p c h. h) (widened_inside below at_least)
