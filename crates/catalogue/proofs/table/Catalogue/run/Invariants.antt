-- The steps still to come lead to the same end.
use Rattle.std.proofs.Common.{◌≡◌, ◌-◌}
use Rattle.catalogue.specs.Nearest.{ran, enough}
use Rattle.catalogue.specs.Views.{seen}
use Rattle.catalogue.proofs.table.Catalogue.run.Given as goal

abbrev pub invariant-loop-taken : goal.invariant-loop-taken
invariant-loop-taken g l =
    ran g.S.Space.sense (enough g.S.Space.sense (seen l.self) - l._taken) (seen l.self) l.search
    ≡ ran g.S.Space.sense (enough g.S.Space.sense (seen l.self)) (seen l.self) l.initial.search
