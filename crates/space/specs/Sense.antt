-- Sense: the meaning of a space, and what its functions compute. Lawful: the laws. Assumes nothing.
use Rattle.std.specs.Prelude.{ℕ, ◌^◌, ◌<◌, ◌≤◌}
use Rattle.space.specs.declared.laws.Side.{Side}

pub record Sense (P B : Type 0) : Type 0 where
  -- of the query's place and a record's
  pub key : P → P → ℕ
  -- of the query's place and a box
  pub bound : P → B → ℕ
  -- the box of one place
  pub single : P → B
  pub widened : B → P → B
  -- of a place, against a pivot, at a turn
  pub side : P → P → ℕ → Side

pub record Lawful {P B : Type 0} (S : Sense P B) (Holds : B → P → Type 0) : Type 0 where
  pub single_holds : (p : P) → Holds (S.single p) p
  pub widened_holds : (b : B) (p : P) → Holds (S.widened b p) p
  pub widened_keeps : (b : B) (p o : P) → Holds b o → Holds (S.widened b p) o
  pub bound_below : (q : P) (b : B) (p : P) → Holds b p → S.bound q b ≤ S.key q p
  pub key_fits : (q p : P) → S.key q p < 2 ^ 64
