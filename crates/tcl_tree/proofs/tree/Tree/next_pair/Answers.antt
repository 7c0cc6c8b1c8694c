use Rattle.std.proofs.Common.{◌∙◌}
use Rattle.slab.specs.Slab.{get}
use Rattle.tcl_tree.proofs.WalkLemmas.{both_some, zip_of, leaves, then_less, to_children}
use Rattle.tcl_tree.proofs.tree.Tree.next_pair.Goals as goal

pub returns-in-Some-clause-some : goal.returns-in-Some-clause-some
returns-in-Some-clause-some c =
    let z = both_some _ _ c.in-Some.child c.in-Some.twin_child (zip_of _ _ _ _ _ c.zip-children.ensures c.first_child.ensures.first c.first_child-2.ensures.first ∙ c.in-Some.is) in
    (to_children (get c.args.self.now.nodes) (get c.args.other.now.nodes) c.args.self.now.root c.args.other.now.root c.args.self.now.sound c.args.other.now.sound c.args.key c.args.twin c.in-Some.child c.in-Some.twin_child
    c.requires.reached c.requires.like c.first_child.ensures.distinct z.0 z.1).0

pub returns-in-Some-clause-less : goal.returns-in-Some-clause-less
returns-in-Some-clause-less c =
    let z = both_some _ _ c.in-Some.child c.in-Some.twin_child (zip_of _ _ _ _ _ c.zip-children.ensures c.first_child.ensures.first c.first_child-2.ensures.first ∙ c.in-Some.is) in
    (to_children (get c.args.self.now.nodes) (get c.args.other.now.nodes) c.args.self.now.root c.args.other.now.root c.args.self.now.sound c.args.other.now.sound c.args.key c.args.twin c.in-Some.child c.in-Some.twin_child
    c.requires.reached c.requires.like c.first_child.ensures.distinct z.0 z.1).1

pub pair_behind-requires-clause-same : goal.pair_behind-requires-clause-same
pair_behind-requires-clause-same c =
    leaves (get c.args.self.now.nodes) (get c.args.other.now.nodes) c.args.self.now.root c.args.other.now.root c.args.self.now.sound c.args.other.now.sound c.args.key c.args.twin
    c.requires.like (zip_of _ _ _ _ _ c.zip-children.ensures c.first_child.ensures.first c.first_child-2.ensures.first ∙ c.in_default.is)

pub returns-clause-less : goal.returns-clause-less
returns-clause-less c = then_less (get c.args.self.now.nodes) c.args.key c.pair_behind.result c.pair_behind.ensures.less
