use Rattle.std.proofs.Common.{sym, ap, ◌∙◌, ◌+◌}
use Rattle.std.specs.Prelude.{slice_get}
use Rattle.slab.specs.Slab.{get}
use Rattle.tcl_tree.proofs.WalkLemmas.{sibling_at, value_there, value_nowhere}
use Rattle.tcl_tree.proofs.tree.Tree.next_sibling.Goals as goal

pub returns-in_err-sibling : goal.returns-in_err-sibling
returns-in_err-sibling c =
    c.from_residual-in_err-sibling.ensures
    ∙ sym (sibling_at (get c.args.self.now.nodes) c.args.key c.in_ok-up.up c.in_ok-index.index c.in_ok-node.node.now c.in_ok-parent.parent.now (sym c.in_ok-node.ensures) c.in_ok-up.was (sym c.in_ok-parent.ensures) (sym c.in_ok-index.ensures.index)
    ∙ value_nowhere c.in_ok-parent.parent.now.children.entries (c.in_ok-index.index + 1) (ap (λ es. slice_get es (c.in_ok-index.index + 1)) (sym c.as_slice-children.ensures.entries) ∙ sym c.in_err-sibling.ensures.entry))

pub returns : goal.returns
returns c =
    sym (sibling_at (get c.args.self.now.nodes) c.args.key c.in_ok-up.up c.in_ok-index.index c.in_ok-node.node.now c.in_ok-parent.parent.now (sym c.in_ok-node.ensures) c.in_ok-up.was (sym c.in_ok-parent.ensures) (sym c.in_ok-index.ensures.index)
    ∙ value_there c.in_ok-parent.parent.now.children.entries (c.in_ok-index.index + 1) c.in_ok-sibling.field-0-0.now c.in_ok-sibling.sibling.now (ap (λ es. slice_get es (c.in_ok-index.index + 1)) (sym c.as_slice-children.ensures.entries) ∙ sym c.in_ok-sibling.ensures.entry))
