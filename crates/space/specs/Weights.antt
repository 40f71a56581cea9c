-- cut: at 2^64 − 1. weighted: a space's sense with its keys and bounds multiplied. Assumes nothing.
use Rattle.std.specs.Prelude.{ℕ, ◌-◌, ◌*◌, ◌^◌, min}
use Rattle.space.specs.Sense.{Sense}

abbrev pub cut : ℕ → ℕ
cut n = min n (2 ^ 64 - 1)

abbrev pub weighted : {P B : Type 0} → ℕ → Sense P B → Sense P B
weighted w S = record {
  key = λ q p. cut (w * S.key q p);
  bound = λ q b. cut (w * S.bound q b);
  single = S.single;
  widened = S.widened;
  side = S.side;
}
