-- Which counts make an inquiry.
use Rattle.std.proofs.Common.{◌≡◌, ℕ, ◌≤◌, Err, Ok, ap, ◌∙◌, le→leb, leb→le}
use Rattle.std.specs.Prelude.{nat_le}
use Rattle.std.proofs.Math.Bridge.{le_prop}
use Rattle.space.specs.Admitting.{only_if_passed, only_if_none}
use Rattle.catalogue.specs.declared.refusals.Refusal.TheVariants.{CountOutOfRange}
use Rattle.catalogue.specs.Inquiries.{asked, made_or_refused}

module _ {P : Type 0} (p : P) (k limit : ℕ) where
  pub asked_within : (low : 1 ≤ k) (high : k ≤ 16) → asked p k limit ≡ Ok (record { place = p; count = k; limit = limit; some = low; few = high })
  asked_within low high =
      ap made_or_refused (only_if_passed (nat_le 1 k) (le→leb 1 k low) _ ∙ only_if_passed (nat_le k 16) (le→leb k 16 high) _)
      ∙ (λ i. Ok (record {
        place = p;
        count = k;
        limit = limit;
        some = le_prop (leb→le 1 k (le→leb 1 k low)) low i;
        few = le_prop (leb→le k 16 (le→leb k 16 high)) high i;
      }))

  pub asked_outside : (1 ≤ k → k ≤ 16 → ⊥) → asked p k limit ≡ Err CountOutOfRange
  asked_outside out =
      ap made_or_refused (only_if_none (nat_le 1 k) _ (λ low. only_if_none (nat_le k 16) _ (λ high. absurd (out (leb→le 1 k low) (leb→le k 16 high)))))
