-- The place made is the place of its own minute.
use Rattle.std.proofs.Common.{sym, ap}
use Rattle.space.specs.Admission.{admitted}
use Rattle.space.specs.Admitting.{clock_back}
use Rattle.space.proofs.clocks.ClockSpace.admit.Goals as goal

pub returns-then-coordinates-lt-FACE : goal.returns-then-coordinates-lt-FACE
returns-then-coordinates-lt-FACE c = sym (ap admitted (clock_back _))
