use Rattle.std.proofs.Common.{ℕ, ◌<◌, ◌^◌, length, sym, ◌∙◌, ap, subst}
use Rattle.tcl_core.specs.Trees.{Node}
use Rattle.tcl_tree.specs.Own.{Own}
use Rattle.tcl_tree.proofs.CoreLemmas.{tree_there}
use Rattle.tcl_tree.proofs.NamingLemmas.{if_ok_map}
use Rattle.tcl_run.proofs.Steady.{stands}
use Rattle.tcl_tree.specs.TreeOf.{tree_of}
use Rattle.tcl_core.specs.Paths.{Text}
use Rattle.tcl_value.specs.Limits.{IsWithin}
use Rattle.tcl_interp.proofs.Options.{free_name_within}
use Rattle.tcl_interp.proofs.creating.free_name.Goals as goal

pub returns-clause-within : goal.returns-clause-within
returns-clause-within c = if_ok_map c.child_name.result c.child_name.ensures (λ name h.
    let at = c.requires in
    let n = stands (tree_of c.args.tree.now at.0) (tree_there c.args.tree.now at.0 _ at.1) in
    subst (λ (x : Text). IsWithin x) (sym (h at.0 n.0 at.1 n.1))
    (free_name_within n.0.own (subst (λ (k : ℕ). k < 2 ^ 63) (c.len-few.ensures.len ∙ ap (λ (m : Node Own). length m.own.commands) (c.node.ensures at.0 n.0 at.1 n.1)) c.len-few.ensures.small)))
