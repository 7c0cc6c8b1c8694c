use Rattle.std.proofs.Common.{◌≡◌, ◌++◌, ◌∷◌, [], None, sym, ◌∙◌}
use Rattle.tcl_interpreter.specs.Paths.{Path}
use Rattle.tcl_tree.specs.TreeOf.{tree_of, Names}
use Rattle.tcl_tree.proofs.HeapLemmas.{then_child}
use Rattle.tcl_tree.proofs.StepLemmas.{leads_somewhere, tree_no_child, child-at}
use Rattle.tcl_tree.proofs.NamingLemmas.{if_none}
use Rattle.tcl_tree.proofs.tree.Tree.child_at.Goals as goal

pub returns-in_err-node-clause-missing : goal.returns-in_err-node-clause-missing
returns-in_err-node-clause-missing c =
    let missing : (p : Path) → Names c.args.self.now c.args.place p → tree_of c.args.self.now (p ++ c.args.name.now ∷ []) ≡ None =
    λ p at. absurd (leads_somewhere _ _ c.args.self.now.sound p _ at (sym c.in_err-node.ensures)) in
    if_none _ missing

pub returns-in_err-key-clause-missing : goal.returns-in_err-key-clause-missing
returns-in_err-key-clause-missing c =
    let missing : (p : Path) → Names c.args.self.now c.args.place p → tree_of c.args.self.now (p ++ c.args.name.now ∷ []) ≡ None =
    λ p at. tree_no_child _ _ p _ c.args.name.now _ at (sym c.in_ok-node.ensures) (sym c.in_err-key.ensures.value) in
    if_none _ missing

pub returns-clause-there : goal.returns-clause-there
returns-clause-there c = λ p at. then_child _ _ p c.args.name.now _ at ∙ child-at _ _ c.args.name.now _ (sym c.in_ok-node.ensures) ∙ sym c.in_ok-key.ensures.value
