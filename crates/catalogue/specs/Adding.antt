-- borne: a number is in use. next_down, widened_at: one level of the way down. attached: a leaf at its end. hung: an entry
-- is hung into the tree. grown: one record more. added: an add, or why not. added_by: how many records an add adds.
-- Assumes nothing.
use Rattle.std.specs.Prelude.{ℕ, zero, suc, ◌+◌, Bool, if◌then◌else◌, List, [], ◌∷◌, ◌++◌, length, Option, Some, None, Ok, Err, Result, nat_eq, nat_le, slice_set}
use Rattle.std.specs.List.{list_any, slice_get}
use Rattle.std.specs.Option.{option_and_then, option_map_or}
use Rattle.space.specs.Sense.{Sense}
use Rattle.space.specs.declared.laws.Side.{Side}
use Rattle.catalogue.specs.declared.entries.Entry.{Entry}
use Rattle.catalogue.specs.declared.refusals.Refusal.{Refusal}
use Rattle.catalogue.specs.declared.refusals.Refusal.TheVariants.{NumberInUse, TableFull}
use Rattle.catalogue.specs.Entries.{child, with_child, leaf, wider}
use Rattle.catalogue.specs.States.{State, Outcome, with_tree, done, refused}

-- some entry in use, standing or withdrawn, bears the number
abbrev pub borne : {P B : Type 0} → ℕ → List (Entry P B) → Bool
borne n es = list_any (λ e. nat_eq e.number n) es

-- one, where the add was accepted
abbrev pub added_by : Result (Unit {0}) Refusal → ℕ
added_by (Ok _) = 1
added_by (Err _) = 0

module _ {P B : Type 0} (S : Sense P B) where
  -- the child of entry i on the side of a place
  abbrev pub next_down : P → ℕ → List (Entry P B) → Option ℕ
  next_down p i es = option_and_then (λ e. child (S.side p e.place e.turn) e) (slice_get es i)

  -- the box of entry i is wider by a place
  abbrev pub widened_at : P → ℕ → List (Entry P B) → List (Entry P B)
  widened_at p i es = option_map_or (λ e. slice_set es i (wider S p e)) (slice_get es i) es

  -- entry i has a new leaf for its child on the place's side
  abbrev pub attached : ℕ → P → ℕ → List (Entry P B) → List (Entry P B)
  attached n p i es = option_map_or (λ e. slice_set es i (with_child (S.side p e.place e.turn) (length es) e) ++ (leaf S n p (e.turn + 1) (Some i) ∷ [])) (slice_get es i) es

  -- From entry i down to the new place's side, each box on the way widened, until a child is missing: there the new
  -- entry hangs, one turn further. The first number bounds the levels; as many as there are entries suffice.
  abbrev pub hung : ℕ → ℕ → P → ℕ → List (Entry P B) → List (Entry P B)
  hung zero n p i es = es
  hung (suc levels) n p i es = elim (slice_get es i) [
    | None ↦ es
    | Some e ↦
        let way : Side = S.side p e.place e.turn in
        elim (child way e) [
          | None ↦ slice_set es i (with_child way (length es) (wider S p e)) ++ (leaf S n p (e.turn + 1) (Some i) ∷ [])
          | Some j ↦ hung levels n p j (slice_set es i (wider S p e))
        ]
  ]

  -- one record more, in the next entry of the table
  abbrev pub grown : ℕ → P → State P B → State P B
  grown n p c = elim c.root [
    | None ↦ with_tree (c.entries ++ (leaf S n p 0 None ∷ [])) (Some (length c.entries)) c
    | Some r ↦ with_tree (hung (length c.entries) n p r c.entries) (Some r) c
  ]

  -- a number in use is refused first, then a full table
  abbrev pub added : ℕ → P → State P B → Outcome (State P B) (Unit {0})
  added n p c =
      if borne n c.entries then refused NumberInUse c
      else if nat_le c.room (length c.entries) then refused TableFull c
      else done (grown n p c) tt
