use Rattle.std.proofs.Common.{◌≡◌, None, Some, arith, ap, sym, ◌∙◌}
use Rattle.tcl_core.specs.Paths.{rise}
use Rattle.tcl_tree.specs.TreeOf.{key_of}
use Rattle.slab.specs.Slab.{get}
use Rattle.tcl_core.proofs.PathLaws.{rise_past}
use Rattle.tcl_tree.specs.Nodes.{follow}
use Rattle.tcl_interpreter.specs.Paths.{Path, ancestor}
use Rattle.tcl_interpreter.proofs.PathLemmas.{ancestor_itself}
use Rattle.tcl_tree.proofs.StepLemmas.{climb_up, climb_end, leads_somewhere}
use Rattle.tcl_interpreter.proofs.PathLemmas.{rise_is}
use Rattle.tcl_tree.proofs.NamingLemmas.{if_none}
use Rattle.tcl_tree.proofs.tree.Tree.rise.Goals as goal

pub climb-init : goal.climb-init
climb-init c = record {
  within = omega arith;
  leads = λ p lead. record { short = omega arith; at = ap (follow (get c.args.self.now.nodes) c.args.self.now.root) (ancestor_itself p) ∙ lead };
}

pub returns-in_err-node-clause-outside : goal.returns-in_err-node-clause-outside
returns-in_err-node-clause-outside c =
    let outside : (p : Path) → key_of c.args.self.now p ≡ Some c.args.key → rise c.args.up p ≡ None =
    λ p lead. absurd (leads_somewhere _ _ c.args.self.now.sound _ _ (c.climb.invariant.leads p lead).at (sym c.in_err-node.ensures)) in
    if_none _ outside

pub returns-in_err-at-clause-outside : goal.returns-in_err-at-clause-outside
returns-in_err-at-clause-outside c =
    let outside : (p : Path) → key_of c.args.self.now p ≡ Some c.args.key → rise c.args.up p ≡ None = λ p lead.
    let i = c.climb.invariant.leads p lead in
    let top = climb_end _ _ c.args.self.now.sound p _ _ _ i.short i.at (sym c.in_ok-node.ensures) c.in_err-at.was in
    let less = c.climb-test.true in
    rise_past c.args.up p (omega arith) in
    if_none _ outside

pub climb-preserved : goal.climb-preserved
climb-preserved c = record {
  within = let less = c.climb-test.true in omega arith;
  leads = λ p lead.
      let i = c.climb.invariant.leads p lead in
      let up = climb_up _ _ c.args.self.now.sound p _ _ _ _ i.short i.at (sym c.in_ok-node.ensures) c.in_ok-at.was in
      record { short = let w = up.within in omega arith; at = up.leads };
}

pub returns-clause-there : goal.returns-clause-there
returns-clause-there c = λ p lead.
    let i = c.climb.invariant.leads p lead in
    let all = c.climb-test.false in
    let most = c.climb.invariant.within in
    let short = i.short in
    let same : c.climb.level ≡ c.args.up = omega arith in
    (ancestor p c.args.up, rise_is c.args.up p (omega arith), ap (λ n. follow (get c.args.self.now.nodes) c.args.self.now.root (ancestor p n)) (sym same) ∙ i.at)
