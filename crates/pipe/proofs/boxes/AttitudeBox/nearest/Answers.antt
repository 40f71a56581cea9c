-- Components are in the order of whole numbers.
use Rattle.std.specs.Prelude.{int_lt}
use Rattle.std.proofs.Common.{rules}
use Rattle.space.specs.Gaps.{less_int}
use Rattle.space.specs.Spans.{span_nearest}
use Rattle.pipe.specs.Axes.{along, each_same}
use Rattle.pipe.proofs.boxes.AttitudeBox.nearest.Goals as goal

pub returns : goal.returns
returns c =
    each_same c.map.result (λ i. span_nearest int_lt (along c.args.self.ranges i) (along c.args.value i)) (search (rules, less_int))
