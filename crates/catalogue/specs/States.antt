-- State: what a catalogue holds. held: the state that its fields hold. made: the state of a fresh one.
-- Outcome, Gives: what a call leaves and answers; done, refused: the two ways. Assumes nothing.
use Rattle.std.specs.Prelude.{◌≡◌, ℕ, min, List, [], length, take, None, Ok, Err, Option, Result}
use Rattle.catalogue.specs.declared.entries.Entry.{Entry}
use Rattle.catalogue.specs.declared.refusals.Refusal.{Refusal}

pub record State (P B : Type 0) : Type 0 where
  -- those in use, in table order
  pub entries : List (Entry P B)
  -- how many the table can take
  pub room : ℕ
  pub root : Option ℕ
  pub mark : ℕ
  -- how many seats are out
  pub out : ℕ

module _ {P B : Type 0} where
  -- of a table, of which so many entries are in use, with this root, mark and count of seats out
  abbrev pub held : List (Entry P B) → ℕ → Option ℕ → ℕ → ℕ → State P B
  held table used root mark out = record { entries = take used table; room = min (length table) 65535; root = root; mark = mark; out = out }

  -- over a table of this size, with this mark
  abbrev pub made : ℕ → ℕ → State P B
  made size m = record { entries = []; room = min size 65535; root = None; mark = m; out = 0 }

  abbrev pub with_tree : List (Entry P B) → Option ℕ → State P B → State P B
  with_tree es r c = record { entries = es; room = c.room; root = r; mark = c.mark; out = c.out }

  abbrev pub with_out : ℕ → State P B → State P B
  with_out n c = record { entries = c.entries; room = c.room; root = c.root; mark = c.mark; out = n }

pub record Outcome (X A : Type 0) : Type 0 where
  pub after : X
  pub answer : Result A Refusal

abbrev pub Gives : {X A : Type 0} → Outcome X A → X → Result A Refusal → Type 0
Gives o x a = (x ≡ o.after) × (a ≡ o.answer)

abbrev pub done : {X A : Type 0} → X → A → Outcome X A
done x a = record { after = x; answer = Ok a }

-- what was there stays as it was
abbrev pub refused : {X A : Type 0} → Refusal → X → Outcome X A
refused e x = record { after = x; answer = Err e }
