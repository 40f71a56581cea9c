-- The last item is the last hit.
use Rattle.std.proofs.Common.{rules}
use Rattle.catalogue.proofs.Placing.{last-end}
use Rattle.catalogue.proofs.hits.Hits.last.Goals as goal

pub returns : goal.returns
returns c = search (rules, last-end)
