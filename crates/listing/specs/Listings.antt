-- near: the records that a search names. row_of, rows_of: the rows of sightings. listed_run: the listing of a run;
-- listing_of: of a file. Assumes nothing.
use Rattle.std.specs.Prelude.{ℕ, ◌-◌, ◌^◌, List, [], ◌++◌, Ok, Err, Result}
use Rattle.std.specs.List.{slice_get}
use Rattle.space.specs.Kinds.{features_sense}
use Rattle.catalogue.specs.Inquiries.{asked}
use Rattle.catalogue.specs.Nearest.{found}
use Rattle.catalogue.specs.Searches.{Report}
use Rattle.catalogue.specs.States.{made}
use Rattle.catalogue.specs.declared.findings.Named.{Named}
use Rattle.catalogue.specs.declared.inquiries.Inquiry.{Inquiry}
use Rattle.catalogue.specs.declared.refusals.Refusal.{Refusal}
use Rattle.runs.specs.Rests.{Rest}
use Rattle.runs.specs.Rests.Rest.{end, broke, next}
use Rattle.runs.specs.Loading.{loaded, answered}
use Rattle.runs.specs.Telling.{load_told, run_told}
use Rattle.runs.specs.declared.faults.LoadFault.{LoadFault}
use Rattle.runs.specs.declared.faults.RunFault.{RunFault}
use Rattle.runs.specs.declared.sightings.Sighting.{Sighting}
use Rattle.listing.specs.Opening.{FeaturePlace, FeatureState, sightings_of}
use Rattle.listing.specs.Lines.{heading, row_text, fault_text}

abbrev pub hits_in : Result Report Refusal → List Named
hits_in (Ok report) = report.hits
hits_in (Err refusal) = []

abbrev pub hits_of : Result (Inquiry FeaturePlace) Refusal → FeatureState → List Named
hits_of (Ok inquiry) c = hits_in (found features_sense inquiry c).answer
hits_of (Err refusal) c = []

-- the records that a search of a catalogue names: two at most, with no limit
abbrev pub near : FeatureState → FeaturePlace → List Named
near c place = hits_of (asked place 2 (2 ^ 64 - 1)) c

-- a sighting's number and coordinates, and the first two records near it
abbrev pub row_of : (FeaturePlace → List Named) → Sighting FeaturePlace → List ℕ
row_of nearby s =
    row_text s.number s.place.first.value s.place.second.minute (slice_get (nearby s.place) 0) (slice_get (nearby s.place) 1)

abbrev pub rows_of : (FeaturePlace → List Named) → Rest FeaturePlace → List ℕ
rows_of nearby end = []
rows_of nearby (broke fault) = []
rows_of nearby (next s r) = row_of nearby s ++ rows_of nearby r

abbrev pub rows_if : (FeaturePlace → List Named) → Result (Rest FeaturePlace) RunFault → List ℕ
rows_if nearby (Ok rest) = rows_of nearby rest
rows_if nearby (Err fault) = []

-- a run that was opened: all of it is loaded first; then the heading and the rows, or the fault of the load
abbrev pub list_of : Result ℕ LoadFault → List ℕ → List ℕ
list_of (Ok added) rows = heading ++ rows
list_of (Err fault) rows = fault_text (load_told fault).number fault.added

abbrev pub listed_run : Rest FeaturePlace → FeatureState → List ℕ
listed_run rest c = list_of (answered (loaded features_sense rest c)) (rows_of (near (loaded features_sense rest c).catalogue) rest)

-- of a file that may not open
abbrev pub listed_if : Result (Rest FeaturePlace) RunFault → FeatureState → List ℕ
listed_if (Ok rest) c = listed_run rest c
listed_if (Err fault) c = fault_text (run_told fault).number 0

-- over a table of 512 entries
abbrev pub listing_of : List ℕ → List ℕ
listing_of bytes = listed_if (sightings_of bytes) (made 512 1)
