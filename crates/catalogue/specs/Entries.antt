-- child, with_child: the links of an entry. unused: an entry that was never added. leaf: the entry of a new record.
-- wider: an entry whose box holds one place more. Assumes nothing.
use Rattle.std.specs.Prelude.{ℕ, true, false, Some, None, Option}
use Rattle.space.specs.Sense.{Sense}
use Rattle.space.specs.declared.laws.Side.{Side}
use Rattle.space.specs.declared.laws.Side.TheVariants.{Left, Right}
use Rattle.catalogue.specs.declared.entries.Entry.{Entry}

module _ {P B : Type 0} where
  abbrev pub child : Side → Entry P B → Option ℕ
  child Left e = e.left
  child Right e = e.right

  abbrev pub with_child : Side → ℕ → Entry P B → Entry P B
  with_child Left i e = record { number = e.number; place = e.place; turn = e.turn; region = e.region; left = Some i; right = e.right; parent = e.parent; stands = e.stands }
  with_child Right i e = record { number = e.number; place = e.place; turn = e.turn; region = e.region; left = e.left; right = Some i; parent = e.parent; stands = e.stands }

module _ {P B : Type 0} (S : Sense P B) where
  abbrev pub unused : P → Entry P B
  unused p = record { number = 0; place = p; turn = 0; region = S.single p; left = None; right = None; parent = None; stands = false }

  -- a record of this number and place, at this turn under this parent
  abbrev pub leaf : ℕ → P → ℕ → Option ℕ → Entry P B
  leaf n p t up = record { number = n; place = p; turn = t; region = S.single p; left = None; right = None; parent = up; stands = true }

  abbrev pub wider : P → Entry P B → Entry P B
  wider p e = record { number = e.number; place = e.place; turn = e.turn; region = S.widened e.region p; left = e.left; right = e.right; parent = e.parent; stands = e.stands }
