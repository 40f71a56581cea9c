-- The sense of bends, and what their boxes hold. Assumes nothing.
use Rattle.space.specs.Sense.{Sense}
use Rattle.space.specs.Lines.{line_sense, LineHolds}
use Rattle.pipe.specs.Attitudes.{attitude_sense, AttitudeHolds}
use Rattle.space.specs.Weights.{weighted}
use Rattle.space.specs.Pairs.{paired, BothHold}
use Rattle.space.specs.declared.coordinates.LinePlace.{LinePlace}
use Rattle.pipe.specs.declared.coordinates.AttitudePlace.{AttitudePlace}
use Rattle.pipe.specs.declared.boxes.AttitudeBox.{AttitudeBox}
use Rattle.space.specs.declared.pairs.Both.{Both}
use Rattle.space.specs.declared.spans.Span.{Span}

-- line and attitude, a component's square weighing 4
abbrev pub bends_sense : Sense (Both LinePlace AttitudePlace) (Both (Span LinePlace) AttitudeBox)
bends_sense = paired line_sense (weighted 4 attitude_sense)

abbrev pub BendsHold : Both (Span LinePlace) AttitudeBox → Both LinePlace AttitudePlace → Type 0
BendsHold = BothHold LineHolds AttitudeHolds
