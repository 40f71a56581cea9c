-- What closing tells is made of the search's own counts, and of its hits as they are named.
use Rattle.std.proofs.Common.{rules, arith, sym, ap}
use Rattle.std.proofs.lemmas.Grind.{common_steps}
use Rattle.catalogue.specs.Views.{seen}
use Rattle.catalogue.proofs.Alike.{closed_as}
use Rattle.catalogue.proofs.table.Catalogue.close.Goals as goal

pub returns-clause-gives : goal.returns-clause-gives
returns-clause-gives g c =
    let e = closed_as (seen c.args.self.now) c.args.search (search rules) (search rules) _ (grind (arith, common_steps)) (search rules) (search rules) (search rules) in
    (sym (ap (λ o. o.after) e), sym (ap (λ o. o.answer) e))
