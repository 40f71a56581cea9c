-- The new leaf hangs below its parent before the parent links to it, so that the tree stands after either write.
use Rattle.std.proofs.Common.{take, ap, ◌∙◌, arith, length-set, set}
use Rattle.catalogue.specs.Adding.{attached}
use Rattle.catalogue.proofs.Writes.{leaf_tree, attached_front, attached_tree}
use Rattle.catalogue.proofs.table.Catalogue.attach.Goals as goal

pub invariant_of-self-clause-tree : goal.invariant_of-self-clause-tree
invariant_of-self-clause-tree g c =
    leaf_tree g.S.Space.sense c.args.place c.args.self.now.entries.now c.args.self.now.used c.args.self.now.root c.args.self.now.tree
    c.from-at.result c.index-self-at.result c.args.self.now.within (omega arith) c.index-self-at.is
    c.args.number (omega arith) c.leaf.result (cc)

pub invariant_of-self-2-clause-tree : goal.invariant_of-self-2-clause-tree
invariant_of-self-2-clause-tree g c =
    attached_tree g.S.Space.sense c.args.place c.args.self.now.entries.now c.args.self.now.used c.args.self.now.root c.args.self.now.tree
    c.from-at.result c.index-self-at.result c.args.self.now.within (omega arith) c.index-self-at.is
    c.args.number (omega arith) c.leaf.result (cc) c.with_child.result c.side-side.result (cc) (cc)

pub returns-clause-after : goal.returns-clause-after
returns-clause-after g c =
    let f =
    attached_front g.S.Space.sense c.args.place c.args.self.now.entries.now c.args.self.now.used c.args.self.now.root c.args.self.now.tree
    c.from-at.result c.index-self-at.result c.args.self.now.within (omega arith) c.index-self-at.is
    c.args.number (omega arith) c.leaf.result (cc) c.with_child.result c.side-side.result (cc) (cc)
    ∙ ap (λ m. attached g.S.Space.sense c.args.number c.args.place m (take c.args.self.now.used c.args.self.now.entries.now)) c.from-at.ensures in
    let k = length-set c.args.self.now.entries.now c.args.self.now.used c.leaf.result in
    let m = length-set (set c.args.self.now.entries.now c.args.self.now.used c.leaf.result) c.from-at.result c.with_child.result in
    cc
