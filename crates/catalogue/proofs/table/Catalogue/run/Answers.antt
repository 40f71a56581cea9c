-- Each accepted step is one of those to come; after a refused one there are none that matter.
use Rattle.std.proofs.Common.{sym, ◌∙◌, arith}
use Rattle.catalogue.specs.Nearest.{enough}
use Rattle.catalogue.specs.Views.{seen}
use Rattle.catalogue.proofs.Running.{ran_on, ran_out}
use Rattle.catalogue.proofs.table.Catalogue.run.Goals as goal

pub loop-taken-preserved : goal.loop-taken-preserved
loop-taken-preserved g c =
    ran_on g.S.Space.sense (seen c.args.self.now) (enough g.S.Space.sense (seen c.args.self.now)) c.loop-taken._taken _ _ _ c.step.ensures.0 c.step.ensures.1 (omega arith) ∙ c.loop-taken.invariant

pub returns-then-is_err : goal.returns-then-is_err
returns-then-is_err g c =
    ran_out g.S.Space.sense (seen c.args.self.now) (enough g.S.Space.sense (seen c.args.self.now)) c.loop-taken._taken _ _ _ c.step.ensures.0 c.step.ensures.1 (sym c.if-is_err.ensures.value) ∙ c.loop-taken.invariant
