-- Components are in the order of whole numbers.
use Rattle.std.proofs.Common.{rules}
use Rattle.space.specs.Gaps.{less_int}
use Rattle.pipe.proofs.attitudes.AttitudeSpace.side.Goals as goal

pub returns : goal.returns
returns c = search (rules, less_int)
