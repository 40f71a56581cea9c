-- A search begins with the mark of its seat, its inquiry and no hits, field by field.
use Rattle.std.proofs.Common.{rules}
use Rattle.catalogue.proofs.Alike.{progress_by_fields}
use Rattle.catalogue.proofs.seats.begin.Goals as goal

pub returns : goal.returns
returns g c = progress_by_fields _ _ (search rules) (search rules) (search rules) (search rules) (search rules) (search rules)
