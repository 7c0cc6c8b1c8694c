use Rattle.std.proofs.Common.{◌∙◌, ℕ, ap, subst}
use Rattle.tcl_core.specs.Trees.{Node}
use Rattle.tcl_tree.specs.Own.{Own}
use Rattle.std.proofs.Common.{◌<◌, ◌^◌, length}
use Rattle.tcl_tree.proofs.NamingLemmas.{if_ok_map}
use Rattle.tcl_calls.proofs.Counting.{first_is_free_name}
use Rattle.tcl_calls.proofs.serving.child_name.Goals as goal

pub returns : goal.returns
returns c = if_ok_map c.free_name_at.result c.free_name_at.ensures.free (λ name h p n at is.
    first_is_free_name n.own name (subst (λ (k : ℕ). k < 2 ^ 63) (c.len-few.ensures.len ∙ ap (λ (m : Node Own). length m.own.commands) (c.node.ensures p n at is)) c.len-few.ensures.small) (h p n at is))
