-- asked: the inquiry of a place, a count and a limit, or why there is none. Assumes nothing.
use Rattle.std.specs.Prelude.{ℕ, Some, None, Ok, Err, Option, Result, nat_le}
use Rattle.std.proofs.Common.{leb→le}
use Rattle.space.specs.Admission.{only_if}
use Rattle.catalogue.specs.declared.inquiries.Inquiry.{Inquiry}
use Rattle.catalogue.specs.declared.refusals.Refusal.{Refusal}
use Rattle.catalogue.specs.declared.refusals.Refusal.TheVariants.{CountOutOfRange}

module _ {P : Type 0} where
  -- the count goes from 1 to 16
  abbrev pub inquiry : P → ℕ → ℕ → Option (Inquiry P)
  inquiry p k limit =
      only_if (nat_le 1 k)
      (λ low. only_if (nat_le k 16)
      (λ high. Some (record { place = p; count = k; limit = limit; some = leb→le 1 k low; few = leb→le k 16 high })))

  abbrev pub made_or_refused : Option (Inquiry P) → Result (Inquiry P) Refusal
  made_or_refused None = Err CountOutOfRange
  made_or_refused (Some q) = Ok q

  abbrev pub asked : P → ℕ → ℕ → Result (Inquiry P) Refusal
  asked p k limit = made_or_refused (inquiry p k limit)
