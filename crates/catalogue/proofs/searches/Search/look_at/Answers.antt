-- What is looked at is listed or not, and counted, field by field.
use Rattle.std.proofs.Common.{rules}
use Rattle.catalogue.proofs.Alike.{progress_by_fields}
use Rattle.catalogue.proofs.searches.Search.look_at.Goals as goal

pub returns : goal.returns
returns g c = progress_by_fields _ _ (search rules) (search rules) (search rules) (search rules) (search rules) (search rules)
