-- The hits passed so far are named.
use Rattle.std.proofs.Common.{◌≡◌, map, take}
use Rattle.catalogue.specs.Ending.{named}
use Rattle.catalogue.specs.Views.{seen}
use Rattle.catalogue.proofs.table.Catalogue.names.Given as goal

abbrev pub invariant-loop-x : goal.invariant-loop-x
invariant-loop-x g l = l.names.items ≡ map (named (seen l.self)) (take l.x-index l.x-items)
