-- The search that is begun here is also closed here, and gives its seat back.
use Rattle.std.proofs.Common.{◌∙◌, rules}
use Rattle.catalogue.specs.Nearest.{found}
use Rattle.catalogue.specs.States.{Gives}
use Rattle.catalogue.specs.Views.{seen}
use Rattle.catalogue.proofs.Staying.{found_back, tree_rooted}
use Rattle.catalogue.proofs.table.Catalogue.nearest.Goals as goal

pub returns-clause-back : goal.returns-clause-back
returns-clause-back g c =
    let gives : Gives (found g.S.Space.sense c.args.inquiry (seen c.args.self.now)) (seen c.close.new.self) c.close.result = search rules in
    gives.0 ∙ found_back g.S.Space.sense c.args.inquiry (seen c.args.self.now) (tree_rooted (seen c.args.self.now) c.args.self.now.tree)
