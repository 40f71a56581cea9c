-- ran: a search after some steps more. found: a search from a free seat to its closing. Assumes nothing.
use Rattle.std.specs.Prelude.{ℕ, zero, suc, ◌+◌, ◌*◌, length, Ok, Err}
use Rattle.space.specs.Sense.{Sense}
use Rattle.catalogue.specs.declared.inquiries.Inquiry.{Inquiry}
use Rattle.catalogue.specs.Ending.{closed}
use Rattle.catalogue.specs.Searches.{Progress, Report}
use Rattle.catalogue.specs.Seats.{seated, begun}
use Rattle.catalogue.specs.States.{State, Outcome, refused}
use Rattle.catalogue.specs.Stepping.{stepped}

module _ {P B : Type 0} (S : Sense P B) where
  -- after so many steps, of which those refused change nothing
  abbrev pub ran : ℕ → State P B → Progress P → Progress P
  ran zero c s = s
  ran (suc n) c s = ran n c (stepped S c s).after

  -- how many steps are made at most: four for each entry in use, and one
  abbrev pub enough : State P B → ℕ
  enough c = 4 * length c.entries + 1

  -- a seat is taken, the search begun, stepped to its end and closed
  abbrev pub found : Inquiry P → State P B → Outcome (State P B) Report
  found q c = elim (seated c).answer [
    | Ok mark ↦ closed (seated c).after (ran (enough c) (seated c).after (begun mark q))
    | Err e ↦ refused e c
  ]
