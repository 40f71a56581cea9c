-- The place made is the place of its own coordinate.
use Rattle.std.proofs.Common.{sym, ap, ◌∙◌, w32}
use Rattle.std.proofs.lemmas.Int.{to_z-of_z}
use Rattle.space.specs.Admission.{admitted}
use Rattle.space.specs.Lines.{line_at}
use Rattle.space.specs.Admitting.{line_back}
use Rattle.space.proofs.lines.LineSpace.admit.Goals as goal

pub returns : goal.returns
returns c =
    sym (ap (λ z. admitted (line_at z)) (sym (to_z-of_z w32 c.args.coordinates c.ranges.coordinates)) ∙ ap admitted (line_back _))
