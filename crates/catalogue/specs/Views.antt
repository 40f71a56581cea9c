-- seen: the state of a catalogue. table_of: its whole table; table_from: its table from one entry on.
-- Extends: more entries of it are in use. Assumes nothing.
use Rattle.std.specs.Prelude.{◌≡◌, ℕ, ◌+◌, List, drop}
use Rattle.space.specs.declared.laws.Space.{Ghosts}
use Rattle.catalogue.specs.declared.entries.Entry.{Entry}
use Rattle.catalogue.specs.declared.table.Catalogue.{Catalogue}
use Rattle.catalogue.specs.States.{State, held}

-- X is the space, C, P and B are its coordinates, places and boxes, and G its ghost members
module _ {X C P B : Type 0} {G : Ghosts X C P B} where
  abbrev pub seen : Catalogue X C P B G → State P B
  seen c = held c.entries.now c.used c.root c.mark c.out

  abbrev pub table_of : Catalogue X C P B G → List (Entry P B)
  table_of c = c.entries.now

  abbrev pub table_from : ℕ → Catalogue X C P B G → List (Entry P B)
  table_from n c = drop n c.entries.now

  -- so many entries more are in use, and past them the table is as it was
  pub record Extends (more : ℕ) (old new : Catalogue X C P B G) : Type 0 where
    pub used : new.used ≡ old.used + more
    pub rest : table_from new.used new ≡ table_from new.used old
