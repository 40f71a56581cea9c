-- The senses of the kinds of record. Assumes nothing.
use Rattle.space.specs.Sense.{Sense}
use Rattle.space.specs.Lines.{line_sense, LineHolds}
use Rattle.space.specs.Clocks.{clock_sense, ClockHolds}
use Rattle.space.specs.Weights.{weighted}
use Rattle.space.specs.Pairs.{paired, BothHold}
use Rattle.space.specs.declared.coordinates.LinePlace.{LinePlace}
use Rattle.space.specs.declared.coordinates.ClockPlace.{ClockPlace}
use Rattle.space.specs.declared.pairs.Both.{Both}
use Rattle.space.specs.declared.spans.Span.{Span}

-- line and clock, a minute's square weighing 49
abbrev pub features_sense : Sense (Both LinePlace ClockPlace) (Both (Span LinePlace) (Span ClockPlace))
features_sense = paired line_sense (weighted 49 clock_sense)

abbrev pub FeaturesHold : Both (Span LinePlace) (Span ClockPlace) → Both LinePlace ClockPlace → Type 0
FeaturesHold = BothHold LineHolds ClockHolds
