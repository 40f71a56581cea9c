-- The first record; one level further down; and the end of the descent.
use Rattle.std.proofs.Common.{arith, rules}
use Rattle.catalogue.specs.Views.{seen}
use Rattle.catalogue.proofs.Descent.{going_first, falls, going_on, going_done}
use Rattle.catalogue.proofs.Writes.{first_tree}
use Rattle.catalogue.proofs.table.Catalogue.grow.Goals as goal

pub invariant_of-self-clause-tree : goal.invariant_of-self-clause-tree
invariant_of-self-clause-tree g c =
    first_tree g.S.Space.sense c.args.place c.args.self.now.entries.now c.args.self.now.used c.args.self.now.root c.args.self.now.tree
    c.args.number (omega arith) c.in_default.is c.leaf.result c.leaf.ensures

pub loop-next-init : goal.loop-next-init
loop-next-init g c = record {
  going = going_first g.S.Space.sense c.args.number c.args.place (seen c.args.self.now) c.in-Some.root c.args.self.now.tree c.in-Some.is;
  table = search rules;
}

pub loop-next-smaller : goal.loop-next-smaller
loop-next-smaller g c =
    falls g.S.Space.sense c.args.number c.args.place (seen c.args.self.now) (seen c.loop-next.self) c.in-Some.root c.loop-next.at c.loop-next.self.tree
    c.loop-next.invariant.going c.in-Some-widen.next (cc) (seen c.widen.new.self) c.widen.ensures.after

pub loop-next-preserved : goal.loop-next-preserved
loop-next-preserved g c = record {
  going =
      going_on g.S.Space.sense c.args.number c.args.place (seen c.args.self.now) (seen c.loop-next.self) c.in-Some.root c.loop-next.at c.loop-next.self.tree
      c.loop-next.invariant.going c.in-Some-widen.next (cc) (seen c.widen.new.self) c.widen.ensures.after;
  table = search rules;
}

pub returns-clause-after : goal.returns-clause-after
returns-clause-after g c =
    going_done g.S.Space.sense c.args.number c.args.place (seen c.args.self.now) (seen c.loop-next.self) c.in-Some.root c.loop-next.at c.loop-next.self.tree
    c.loop-next.invariant.going c.in-Some.is (cc) (seen c.widen.new.self) (seen c.attach.new.self) c.widen.ensures.after c.attach.ensures.after
