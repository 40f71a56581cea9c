-- Components are in the order of whole numbers.
use Rattle.std.specs.Prelude.{int_lt}
use Rattle.std.proofs.Common.{rules}
use Rattle.space.specs.Gaps.{less_int}
use Rattle.space.specs.Spans.{span_widened}
use Rattle.pipe.specs.Axes.{along, each_same}
use Rattle.pipe.proofs.attitudes.AttitudeSpace.widen.Goals as goal

pub returns : goal.returns
returns c =
    let same = each_same c.map.result (λ i. span_widened int_lt (along c.args.region.ranges i) (along c.args.place.value i)) (search (rules, less_int)) in
    λ i. record { ranges = same i }
