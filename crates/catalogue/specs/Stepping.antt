-- stepped: one step of a search, or why not; moved: the move of each phase. What they are made of:
-- counted: one more of a count. finished, lost: where a search is. entered: its first move. other, own: sides. into: an
-- accepted step. hit: an entry as a hit. listable, looking: an entry is looked at. passed: a box is passed over.
-- visit, climb: down and up. Assumes nothing.
use Rattle.std.specs.Prelude.{ℕ, ◌+◌, ◌-◌, ◌^◌, min, Bool, true, false, if◌then◌else◌, not, ◌&&◌, ◌||◌, length, take, is_some, Some, None, Option, ◌==◌, nat_le, nat_lt}
use Rattle.std.specs.List.{slice_get}
use Rattle.space.specs.Sense.{Sense}
use Rattle.space.specs.declared.laws.Side.{Side}
use Rattle.space.specs.declared.laws.Side.TheVariants.{Left, Right}
use Rattle.catalogue.specs.declared.entries.Entry.{Entry}
use Rattle.catalogue.specs.declared.findings.Hit.{Hit}
use Rattle.catalogue.specs.declared.refusals.Refusal.TheVariants.{AlreadyFinished, NotHere}
use Rattle.catalogue.specs.declared.searches.Phase.{Phase}
use Rattle.catalogue.specs.declared.searches.Phase.TheVariants.{Start, Down, First, Second, Up, Finished}
use Rattle.catalogue.specs.Entries.{child}
use Rattle.catalogue.specs.Few.{take_few, if_few}
use Rattle.catalogue.specs.Hits.{inserted, before_last, above_last}
use Rattle.catalogue.specs.Searches.{Progress}
use Rattle.catalogue.specs.Seats.{strange}
use Rattle.catalogue.specs.States.{State, Outcome, done, refused}

-- up to 2^32 − 1
abbrev pub counted : ℕ → ℕ
counted n = min (n + 1) (2 ^ 32 - 1)

abbrev pub finished : Phase → Bool
finished Start = false
finished (Down i) = false
finished (First i) = false
finished (Second i) = false
finished (Up i) = false
finished Finished = true

abbrev pub other : Side → Side
other Left = Right
other Right = Left

-- to the root, if there is one
abbrev pub entered : {P B : Type 0} → State P B → Phase
entered c = elim c.root [ None ↦ Finished | Some r ↦ Down r ]

-- an unfinished search is at an entry not in use
abbrev pub lost : {P B : Type 0} → State P B → Phase → Bool
lost c Start = false
lost c (Down i) = not (is_some (slice_get c.entries i))
lost c (First i) = not (is_some (slice_get c.entries i))
lost c (Second i) = not (is_some (slice_get c.entries i))
lost c (Up i) = not (is_some (slice_get c.entries i))
lost c Finished = false

module _ {P : Type 0} where
  -- one accepted step, into this phase
  abbrev pub into : Phase → Progress P → Progress P
  into f s = record { mark = s.mark; inquiry = s.inquiry; phase = f; hits = s.hits; looked = s.looked; steps = counted s.steps; few = s.few }

  -- it is within the limit, and there is room or it comes before the last
  abbrev pub listable : Hit → Progress P → Bool
  listable x s = nat_le x.key s.inquiry.limit && (nat_lt (length s.hits) s.inquiry.count || before_last x s.hits)

module _ {P B : Type 0} (S : Sense P B) where
  -- the query's own side of an entry
  abbrev pub own : Progress P → Entry P B → Side
  own s e = S.side s.inquiry.place e.place e.turn

  abbrev pub hit : Entry P B → Progress P → Hit
  hit e s = record { number = e.number; key = S.key s.inquiry.place e.place }

  -- an entry is looked at: if it stands and is listable, it is listed in order, and the list is cut to the count
  abbrev pub looking : Entry P B → Progress P → Progress P
  looking e s = record {
    mark = s.mark;
    inquiry = s.inquiry;
    phase = s.phase;
    hits = if e.stands && listable (hit e s) s then take s.inquiry.count (inserted (hit e s) s.hits) else s.hits;
    looked = counted s.looked;
    steps = s.steps;
    few = if_few (e.stands && listable (hit e s) s) _ s.hits (take_few s.inquiry.count (inserted (hit e s) s.hits) s.inquiry.few) s.few;
  }

  -- a box's bound is above the limit, or as many hits as wanted are listed and it is above the last one's key
  abbrev pub passed : Progress P → B → Bool
  passed s b = nat_lt s.inquiry.limit (S.bound s.inquiry.place b) || (nat_le s.inquiry.count (length s.hits) && above_last (S.bound s.inquiry.place b) s.hits)

  -- down to the child if there is one and it is not passed over; else this other phase
  abbrev pub visit : State P B → Progress P → Option ℕ → Phase → Phase
  visit c s None f = f
  visit c s (Some j) f = elim (slice_get c.entries j) [ None ↦ f | Some e ↦ (if passed s e.region then f else Down j) ]

  -- up from entry i to its parent, where the other child is next if i is the first child there; finished at the root
  abbrev pub climb : State P B → Progress P → ℕ → Option ℕ → Phase
  climb c s i None = Finished
  climb c s i (Some j) = elim (slice_get c.entries j) [
    | None ↦ Finished
    | Some e ↦ elim (child (own s e) e) [ None ↦ Up j | Some first ↦ (if first == i then Second j else Up j) ]
  ]

  -- The one move of the phase. An entry that is not in use is not met here: `stepped` refuses first.
  abbrev pub moved : Phase → State P B → Progress P → Progress P
  moved Start c s = into (entered c) s
  moved (Down i) c s = elim (slice_get c.entries i) [ None ↦ s | Some e ↦ into (First i) (looking e s) ]
  moved (First i) c s = elim (slice_get c.entries i) [ None ↦ s | Some e ↦ into (visit c s (child (own s e) e) (Second i)) s ]
  moved (Second i) c s = elim (slice_get c.entries i) [ None ↦ s | Some e ↦ into (visit c s (child (other (own s e)) e) (Up i)) s ]
  moved (Up i) c s = elim (slice_get c.entries i) [ None ↦ s | Some e ↦ into (climb c s i e.parent) s ]
  moved Finished c s = s

  -- a search that is not one of those out here is refused first, then a finished one
  abbrev pub stepped : State P B → Progress P → Outcome (Progress P) (Unit {0})
  stepped c s =
      if strange c s.mark || lost c s.phase then refused NotHere s
      else if finished s.phase then refused AlreadyFinished s
      else done (moved s.phase c s) tt
