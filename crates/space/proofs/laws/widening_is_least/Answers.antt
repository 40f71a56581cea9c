-- From the least box of a list of places to one place more.
use Rattle.space.specs.Smallest.{widening_least}
use Rattle.space.proofs.laws.widening_is_least.Goals as goal

pub returns : goal.returns
returns g c =
    widening_least g.S.Space.sense g.S.Space.Holds g.met.S.Space.lawful g.met.S.LeastBoxes.least
