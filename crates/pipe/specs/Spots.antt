-- Places and components of attitudes tell each other.
use Rattle.std.specs.Prelude.{◌≡◌, ℕ, ◌<◌, ◌⊎◌, ℤ, Some, None, nat_le}
use Rattle.std.proofs.Common.{◌∙◌, inl, inr, arith, leb→le, le→leb}
use Rattle.std.proofs.Math.Bridge.{le_prop}
use Rattle.space.specs.Admitting.{only_if_passed, only_if_some, only_if_none}
use Rattle.pipe.specs.Squares.{sum_of_squares}
use Rattle.pipe.specs.Attitudes.{attitude_at}
use Rattle.pipe.specs.declared.axes.PerAxis.{PerAxis}
use Rattle.pipe.specs.declared.coordinates.AttitudePlace.{AttitudePlace}

pub attitude_back : (p : AttitudePlace) → attitude_at p.value ≡ Some p
attitude_back p =
    only_if_passed (nat_le 268402687 (sum_of_squares p.value)) (le→leb 268402687 (sum_of_squares p.value) p.lowest) _
    ∙ only_if_passed (nat_le (sum_of_squares p.value) 268468225) (le→leb (sum_of_squares p.value) 268468225 p.highest) _
    ∙ (λ i. Some (record {
      value = p.value;
      lowest = le_prop (leb→le 268402687 (sum_of_squares p.value) (le→leb 268402687 (sum_of_squares p.value) p.lowest)) p.lowest i;
      highest = le_prop (leb→le (sum_of_squares p.value) 268468225 (le→leb (sum_of_squares p.value) 268468225 p.highest)) p.highest i;
    }))

pub attitude_true : (v : PerAxis ℤ) (p : AttitudePlace) → attitude_at v ≡ Some p → p.value ≡ v
attitude_true v p e =
    let a = only_if_some (nat_le 268402687 (sum_of_squares v)) _ p e in
    let b = only_if_some (nat_le (sum_of_squares v) 268468225) _ p a.1 in
    let c = b.1 in
    cc

pub attitude_outside : (v : PerAxis ℤ) (n : ℕ) → n ≡ sum_of_squares v → (n < 268402687) ⊎ (268468225 < n) → attitude_at v ≡ None
attitude_outside v n e (inl below) =
    only_if_none (nat_le 268402687 (sum_of_squares v)) _ (λ l. let k = leb→le 268402687 (sum_of_squares v) l in absurd (omega arith))
attitude_outside v n e (inr above) =
    only_if_none (nat_le 268402687 (sum_of_squares v)) _ (λ l. only_if_none (nat_le (sum_of_squares v) 268468225) _ (λ h.
    let k = leb→le (sum_of_squares v) 268468225 h in absurd (omega arith)))
