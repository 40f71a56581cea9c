-- FeaturePlace, FeatureState: the types of features. sightings_of: a file's sightings, or why there are none. Assumes nothing.
use Rattle.std.specs.Prelude.{ℕ, List, length, Err, Result, nat_lt, if◌then◌else◌}
use Rattle.space.specs.declared.coordinates.LinePlace.{LinePlace}
use Rattle.space.specs.declared.coordinates.ClockPlace.{ClockPlace}
use Rattle.space.specs.declared.pairs.Both.{Both}
use Rattle.space.specs.declared.spans.Span.{Span}
use Rattle.catalogue.specs.States.{State}
use Rattle.runs.specs.Rests.{Rest}
use Rattle.runs.specs.declared.faults.FileFault.TheVariants.{FileLength}
use Rattle.runs.specs.declared.faults.RunFault.{RunFault}
use Rattle.runs.specs.declared.faults.RunFault.TheVariants.{Header}
use Rattle.runfile.specs.Features.{features}
use Rattle.runfile.specs.Sightings.{opened}

abbrev pub FeaturePlace : Type 0
FeaturePlace = Both LinePlace ClockPlace

abbrev pub FeatureState : Type 0
FeatureState = State FeaturePlace (Both (Span LinePlace) (Span ClockPlace))

-- a file of more than 16,384 bytes is not looked at
abbrev pub sightings_of : List ℕ → Result (Rest FeaturePlace) RunFault
sightings_of bytes = if nat_lt 16384 (length bytes) then Err (Header (FileLength (length bytes))) else opened features bytes
