-- The entry keeps its links and its turn.
use Rattle.std.proofs.Common.{take, ap, ◌∙◌, arith, length-set}
use Rattle.catalogue.specs.Adding.{widened_at}
use Rattle.catalogue.proofs.Writes.{widened, widened_tree}
use Rattle.catalogue.proofs.table.Catalogue.widen.Goals as goal

pub invariant_of-self-clause-tree : goal.invariant_of-self-clause-tree
invariant_of-self-clause-tree g c =
    widened_tree g.S.Space.sense c.args.place c.args.self.now.entries.now c.args.self.now.used c.args.self.now.root c.args.self.now.tree
    c.from-at.result c.index-self-at.result c.args.self.now.within (omega arith) c.index-self-at.is c.widened.result (cc)

pub returns-clause-after : goal.returns-clause-after
returns-clause-after g c =
    let k = length-set c.args.self.now.entries.now c.from-at.result c.widened.result in
    let f =
    widened g.S.Space.sense c.args.place c.args.self.now.entries.now c.args.self.now.used c.args.self.now.root c.args.self.now.tree
    c.from-at.result c.index-self-at.result c.args.self.now.within (omega arith) c.index-self-at.is c.widened.result (cc)
    ∙ ap (λ m. widened_at g.S.Space.sense c.args.place m (take c.args.self.now.used c.args.self.now.entries.now)) c.from-at.ensures in
    cc
