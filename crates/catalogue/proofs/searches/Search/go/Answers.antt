-- One step more, field by field.
use Rattle.std.proofs.Common.{rules}
use Rattle.catalogue.proofs.Alike.{progress_by_fields}
use Rattle.catalogue.proofs.searches.Search.go.Goals as goal

pub returns : goal.returns
returns g c = progress_by_fields _ _ (search rules) (search rules) (search rules) (search rules) (search rules) (search rules)
