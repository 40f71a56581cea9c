-- Tree: the entries in use hang together as a tree, told by their turns alone. Boxes and numbers are no part of it.
-- Leads, Hangs: where a link leads. Sound: the links of one entry. turns: the turns of a table. Assumes nothing.
use Rattle.std.specs.Prelude.{◌≡◌, ℕ, suc, ◌<◌, List, All, map, length, Option, slice_index}
use Rattle.std.specs.Option.{ForSome}
use Rattle.catalogue.specs.declared.entries.Entry.{Entry}

-- a link, if there is one, leads to an entry of this turn; `ts` are the turns of the entries in use
abbrev pub Leads : List ℕ → ℕ → Option ℕ → Type 0
Leads ts t link = ForSome link (λ j. (j < length ts) × (slice_index ts j ≡ t))

-- a link, if there is one, leads to an entry whose turn is one less than this
abbrev pub Hangs : List ℕ → ℕ → Option ℕ → Type 0
Hangs ts t link = ForSome link (λ j. (j < length ts) × (suc (slice_index ts j) ≡ t))

-- the turn of an entry, and where its links lead
pub record Sound {P B : Type 0} (ts : List ℕ) (e : Entry P B) : Type 0 where
  pub early : e.turn < length ts
  pub to_left : Leads ts (suc e.turn) e.left
  pub to_right : Leads ts (suc e.turn) e.right
  pub to_parent : Hangs ts e.turn e.parent

abbrev pub turns : {P B : Type 0} → List (Entry P B) → List ℕ
turns es = map (λ e. e.turn) es

pub record Tree {P B : Type 0} (es : List (Entry P B)) (root : Option ℕ) : Type 0 where
  pub rooted : Leads (turns es) 0 root
  pub sound : All (Sound (turns es)) es
