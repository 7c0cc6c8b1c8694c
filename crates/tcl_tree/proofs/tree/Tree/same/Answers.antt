use Rattle.std.proofs.Common.{◌≡◌, ap, true}
use Rattle.slab.specs.Slab.{get}
use Rattle.tcl_tree.specs.Walking.Reached.{Tops}
use Rattle.tcl_tree.proofs.ComparingLemmas.{never}
use Rattle.tcl_tree.proofs.WalkLemmas.{views_equal}
use Rattle.tcl_tree.proofs.tree.Tree.same.Goals as goal

pub walk-init : goal.walk-init
walk-init c = Tops

pub returns-then-not-is_like : goal.returns-then-not-is_like
returns-then-not-is_like c = never (λ p.
    let like = views_equal (get c.args.self.now.nodes) (get c.args.other.now.nodes) c.args.self.now.root c.args.other.now.root c.args.self.now.sound c.args.other.now.sound c.walk.key c.walk.twin c.walk.invariant (λ q. ap (λ f. f q) p.0) in
    let same : c.is_like.result ≡ true = c.is_like.ensures.1 like in
    let other = c.if-not-is_like.true in
    cc)
