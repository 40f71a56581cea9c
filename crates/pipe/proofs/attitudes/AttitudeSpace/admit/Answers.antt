-- The place made is the place of its own components; outside the band there is none.
use Rattle.std.proofs.Common.{sym, ap, rules, ◌<◌}
use Rattle.std.specs.Prelude.{◌⊎◌}
use Rattle.space.specs.Admission.{admitted}
use Rattle.pipe.specs.Spots.{attitude_back, attitude_outside}
use Rattle.pipe.proofs.attitudes.AttitudeSpace.admit.Goals as goal

pub returns-then-contains : goal.returns-then-contains
returns-then-contains c = sym (ap admitted (attitude_back _))

pub returns-else-contains : goal.returns-else-contains
returns-else-contains c =
    let n = c.sum_of_squares-sum.result in
    let outside : (n < 268402687) ⊎ (268468225 < n) = search rules in
    sym (ap admitted (attitude_outside c.args.coordinates n c.sum_of_squares-sum.ensures outside))
