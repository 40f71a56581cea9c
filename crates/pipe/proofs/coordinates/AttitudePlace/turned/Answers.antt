-- A component of a place has a negative in 16 bits.
use Rattle.std.proofs.Common.{rules}
use Rattle.std.specs.Prelude.{neg_ℤ}
use Rattle.pipe.specs.declared.axes.Axis.TheVariants.{W, X, Y, Z}
use Rattle.pipe.specs.Axes.{along, each_same}
use Rattle.pipe.specs.Chords.{component_small, negated}
use Rattle.pipe.proofs.coordinates.AttitudePlace.turned.Goals as goal

pub returns : goal.returns
returns c =
    let p = c.args.self in
    each_same c.map.result (λ i. neg_ℤ (along p.value i)) (search (rules, negated, component_small p W, component_small p X, component_small p Y, component_small p Z))
