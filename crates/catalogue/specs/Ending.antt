-- standing: a number has a standing entry. named: a hit as closing names it. closed: a search is closed, or why not.
-- Assumes nothing.
use Rattle.std.specs.Prelude.{ℕ, ◌-◌, Bool, if◌then◌else◌, ◌&&◌, ◌||◌, List, map, ◌==◌}
use Rattle.std.specs.List.{list_any}
use Rattle.catalogue.specs.declared.entries.Entry.{Entry}
use Rattle.catalogue.specs.declared.findings.Hit.{Hit}
use Rattle.catalogue.specs.declared.findings.Named.{Named}
use Rattle.catalogue.specs.declared.refusals.Refusal.TheVariants.{NotHere}
use Rattle.catalogue.specs.Few.{map_few}
use Rattle.catalogue.specs.States.{State, Outcome, with_out, done, refused}
use Rattle.catalogue.specs.Searches.{Progress, Report}
use Rattle.catalogue.specs.Seats.{strange}
use Rattle.catalogue.specs.Stepping.{finished, lost}

module _ {P B : Type 0} where
  abbrev pub standing : ℕ → List (Entry P B) → Bool
  standing n es = list_any (λ e. e.stands && e.number == n) es

  abbrev pub named : State P B → Hit → Named
  named c x = record { number = x.number; key = x.key; standing = standing x.number c.entries }

  -- the seat is free again, and the search tells what it has found so far
  abbrev pub closed : State P B → Progress P → Outcome (State P B) Report
  closed c s =
      if strange c s.mark || lost c s.phase then refused NotHere c
      else done (with_out (c.out - 1) c) (record {
        hits = map (named c) s.hits;
        finished = finished s.phase;
        looked = s.looked;
        steps = s.steps;
        few = map_few (named c) s.hits s.few;
      })
