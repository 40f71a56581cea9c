-- Two spaces side by side: places, boxes, keys, sides. Assumes nothing.
use Rattle.std.specs.Prelude.{◌+◌, ◌/◌, ◌%◌, if◌then◌else◌, Some, None, Option, ◌==◌}
use Rattle.space.specs.Sense.{Sense}
use Rattle.space.specs.Weights.{cut}
use Rattle.space.specs.declared.pairs.Both.{Both}

abbrev pub both : {A B : Type 0} → Option A → Option B → Option (Both A B)
both None y = None
both (Some a) None = None
both (Some a) (Some b) = Some (record { first = a; second = b })

abbrev pub both_at : {C D P Q : Type 0} → (C → Option P) → (D → Option Q) → Both C D → Option (Both P Q)
both_at f g c = both (f c.first) (g c.second)

abbrev pub both_spot : {C D P Q : Type 0} → (P → C) → (Q → D) → Both P Q → Both C D
both_spot f g p = record { first = f p.first; second = g p.second }

-- what both halves hold
abbrev pub BothHold : {P Q X Y : Type 0} → (X → P → Type 0) → (Y → Q → Type 0) → Both X Y → Both P Q → Type 0
BothHold H K b p = H b.first p.first × K b.second p.second

abbrev pub paired : {P Q X Y : Type 0} → Sense P X → Sense Q Y → Sense (Both P Q) (Both X Y)
paired S R = record {
  key = λ q p. cut (S.key q.first p.first + R.key q.second p.second);
  bound = λ q b. cut (S.bound q.first b.first + R.bound q.second b.second);
  single = λ p. record { first = S.single p.first; second = R.single p.second };
  widened = λ b p. record { first = S.widened b.first p.first; second = R.widened b.second p.second };
  side = λ p pivot turn.
      if turn % 2 == 0 then S.side p.first pivot.first (turn / 2) else R.side p.second pivot.second (turn / 2);
}
