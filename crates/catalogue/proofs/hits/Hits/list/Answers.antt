-- Room is made where there is none, and the hit goes in its place, if that is among the first k.
use Rattle.std.proofs.Common.{arith}
use Rattle.std.proofs.lemmas.Grind.{common_steps}
use Rattle.catalogue.proofs.Placing.{place_within, inserted-place, take-insert_within, take-insert_past}
use Rattle.catalogue.proofs.hits.Hits.list.Goals as goal

pub insert-requires : goal.insert-requires
insert-requires c = grind (arith, common_steps, place_within)

pub returns-then-place-k : goal.returns-then-place-k
returns-then-place-k c = grind (arith, common_steps, inserted-place, take-insert_within)

pub returns-else-place-k : goal.returns-else-place-k
returns-else-place-k c = grind (arith, common_steps, place_within, inserted-place, take-insert_past)
