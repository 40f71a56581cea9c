-- The key to the nearest place of the span.
use Rattle.std.proofs.Common.{rules}
use Rattle.space.specs.Nearness.{line_nearest}
use Rattle.space.proofs.lines.LineSpace.bound.Goals as goal

pub returns : goal.returns
returns c = let at_end = line_nearest c.args.region c.args.query in search rules
