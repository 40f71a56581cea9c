-- The rows so far and those to come are all the rows, and the catalogue stays as it was.
use Rattle.std.proofs.Common.{◌≡◌, ◌++◌, string_bytes}
use Rattle.catalogue.specs.Views.{seen}
use Rattle.runfile.specs.Features.{features}
use Rattle.runfile.specs.Reads.{remaining}
use Rattle.runs.proofs.Turns.{remaining as to_come}
use Rattle.listing.specs.Listings.{near, rows_of}
use Rattle.listing.proofs.texts.write_rows.Given as goal

abbrev pub invariant-loop-sighting : goal.invariant-loop-sighting
invariant-loop-sighting l = record {
  rows : string_bytes l.text ++ rows_of (near (seen l.initial.catalogue)) (remaining features l.run)
      ≡ string_bytes l.initial.text ++ rows_of (near (seen l.initial.catalogue)) (remaining features l.initial.run);
  same : seen l.catalogue ≡ seen l.initial.catalogue;
}

abbrev pub decreases-loop-sighting : goal.decreases-loop-sighting
decreases-loop-sighting l = to_come (remaining features l.run)
