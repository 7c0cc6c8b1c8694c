use Rattle.std.proofs.Common.{◌∙◌, arith}
use Rattle.slab.specs.Slab.{get}
use Rattle.tcl_tree.proofs.WalkLemmas.{both_some, zip_of, if_none, at_top, to_parents, to_siblings}
use Rattle.tcl_tree.proofs.tree.Tree.pair_behind.Goals as goal

pub returns-in-Some-clause-some : goal.returns-in-Some-clause-some
returns-in-Some-clause-some c =
    let z = both_some _ _ c.in-Some.sibling c.in-Some.twin_sibling (zip_of _ _ _ _ _ c.zip-siblings.ensures c.next_sibling.ensures c.next_sibling-in-climb.ensures ∙ c.in-Some.is) in
    (to_siblings (get c.args.self.now.nodes) (get c.args.other.now.nodes) c.args.self.now.root c.args.other.now.root c.args.self.now.sound c.args.other.now.sound c.climb.at c.climb.twin_at c.in-Some.sibling c.in-Some.twin_sibling
    c.climb.invariant.reached c.climb.invariant.same z.0 z.1).0

pub returns-in-Some-clause-less : goal.returns-in-Some-clause-less
returns-in-Some-clause-less c =
    let z = both_some _ _ c.in-Some.sibling c.in-Some.twin_sibling (zip_of _ _ _ _ _ c.zip-siblings.ensures c.next_sibling.ensures c.next_sibling-in-climb.ensures ∙ c.in-Some.is) in
    let less = (to_siblings (get c.args.self.now.nodes) (get c.args.other.now.nodes) c.args.self.now.root c.args.other.now.root c.args.self.now.sound c.args.other.now.sound c.climb.at c.climb.twin_at c.in-Some.sibling c.in-Some.twin_sibling
    c.climb.invariant.reached c.climb.invariant.same z.0 z.1).1 in
    let before = c.climb.invariant.less in
    omega (arith, less, before)

pub returns-in_err-parent-clause-none : goal.returns-in_err-parent-clause-none
returns-in_err-parent-clause-none c =
    if_none c.from_residual.result
    (at_top (get c.args.self.now.nodes) (get c.args.other.now.nodes) c.args.self.now.root c.args.other.now.root c.args.self.now.sound c.args.other.now.sound c.climb.at c.climb.twin_at
    c.climb.invariant.reached c.climb.invariant.same (zip_of _ _ _ _ _ c.zip.ensures c.parent_key.ensures c.parent_key-in-climb.ensures ∙ c.in_err-parent.was))

pub climb-smaller : goal.climb-smaller
climb-smaller c =
    let none = zip_of _ _ _ _ _ c.zip-siblings.ensures c.next_sibling.ensures c.next_sibling-in-climb.ensures ∙ c.in_default.is in
    let z = both_some _ _ c.in_ok-parent.parent c.in_ok-parent.twin_parent (zip_of _ _ _ _ _ c.zip.ensures c.parent_key.ensures c.parent_key-in-climb.ensures ∙ c.in_ok-parent.was) in
    (to_parents (get c.args.self.now.nodes) (get c.args.other.now.nodes) c.args.self.now.root c.args.other.now.root c.args.self.now.sound c.args.other.now.sound c.climb.at c.climb.twin_at c.in_ok-parent.parent c.in_ok-parent.twin_parent
    c.climb.invariant.reached c.climb.invariant.same none z.0 z.1).3

pub climb-preserved : goal.climb-preserved
climb-preserved c =
    let none = zip_of _ _ _ _ _ c.zip-siblings.ensures c.next_sibling.ensures c.next_sibling-in-climb.ensures ∙ c.in_default.is in
    let z = both_some _ _ c.in_ok-parent.parent c.in_ok-parent.twin_parent (zip_of _ _ _ _ _ c.zip.ensures c.parent_key.ensures c.parent_key-in-climb.ensures ∙ c.in_ok-parent.was) in
    let up = to_parents (get c.args.self.now.nodes) (get c.args.other.now.nodes) c.args.self.now.root c.args.other.now.root c.args.self.now.sound c.args.other.now.sound c.climb.at c.climb.twin_at c.in_ok-parent.parent c.in_ok-parent.twin_parent
    c.climb.invariant.reached c.climb.invariant.same none z.0 z.1 in
    let less = up.2 in
    let before = c.climb.invariant.less in
    record { reached = up.0; same = up.1; less = omega (arith, less, before) }
