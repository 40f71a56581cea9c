-- The lines of a listing as bytes: heading, row_text, neighbour_text, fault_text; row_line: of a row. Assumes nothing.
use Rattle.std.specs.Prelude.{ℕ, List, ◌++◌, ℤ, Some, None, codes, decimal, Option}
use Rattle.std.specs.Fmt.{signed_decimal}
use Rattle.catalogue.specs.declared.findings.Named.{Named}
use Rattle.listing.specs.declared.rows.Row.{Row}

abbrev pub heading : List ℕ
heading = codes "number chainage clock first key second key\n"

-- number and key, or a dash for each
abbrev pub neighbour_text : Option Named → List ℕ
neighbour_text None = codes "- -"
neighbour_text (Some x) = decimal x.number ++ (codes " " ++ decimal x.key)

abbrev pub row_text : ℕ → ℤ → ℕ → Option Named → Option Named → List ℕ
row_text number chainage clock first second =
    decimal number ++ (codes " " ++ (signed_decimal chainage ++ (codes " " ++ (decimal clock ++ (codes " "
    ++ (neighbour_text first ++ (codes " " ++ (neighbour_text second ++ codes "\n"))))))))

abbrev pub row_line : Row → List ℕ
row_line row = row_text row.number row.chainage row.clock row.first.hit row.second.hit

abbrev pub fault_text : ℕ → ℕ → List ℕ
fault_text number added = codes "fault " ++ (decimal number ++ (codes " after " ++ (decimal added ++ codes "\n")))
