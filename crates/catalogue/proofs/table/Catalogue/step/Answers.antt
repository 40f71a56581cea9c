-- Each phase has its move, field by field.
use Rattle.std.proofs.Common.{arith}
use Rattle.std.proofs.lemmas.Grind.{common_steps}
use Rattle.catalogue.proofs.Alike.{progress_by_fields}
use Rattle.catalogue.proofs.table.Catalogue.step.Goals as goal

pub returns : goal.returns
returns g c = (
  progress_by_fields _ _
      (grind (arith, common_steps)) (grind (arith, common_steps)) (grind (arith, common_steps))
      (grind (arith, common_steps)) (grind (arith, common_steps)) (grind (arith, common_steps)),
  grind (arith, common_steps),
)
