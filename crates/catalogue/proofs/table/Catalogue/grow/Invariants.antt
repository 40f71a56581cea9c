-- What is left to do from the entry reached makes the whole; its turn rises.
use Rattle.std.proofs.Common.{◌-◌, length}
use Rattle.catalogue.specs.Views.{seen, Extends}
use Rattle.catalogue.proofs.Descent.{Going, turn_of}
use Rattle.catalogue.proofs.table.Catalogue.grow.Given as goal

abbrev pub invariant-loop-next : goal.invariant-loop-next
invariant-loop-next g l = record {
  going : Going g.S.Space.sense l.number l.place (seen l.initial.self) (seen l.self) l.root l.at;
  table : Extends 0 l.initial.self l.self;
}

abbrev pub decreases-loop-next : goal.decreases-loop-next
decreases-loop-next g l = length (seen l.initial.self).entries - turn_of (seen l.self).entries l.at
