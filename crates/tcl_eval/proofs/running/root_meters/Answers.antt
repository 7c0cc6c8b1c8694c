use Rattle.std.proofs.Common.{◌≡◌, None, [], sym, ap, ◌∙◌}
use Rattle.std.specs.Option.{option_copied, option_map}
use Rattle.tcl_core.proofs.PathLaws.{not_both}
use Rattle.tcl_tree.proofs.CoreLemmas.{top_there}
use Rattle.tcl_tree.specs.Nodes.{view_of}
use Rattle.tcl_tree.specs.TreeOf.{tree_of}
use Rattle.tcl_run.proofs.Steady.{stands}
use Rattle.tcl_eval.proofs.running.root_meters.Goals as goal

pub unreachable-requires : goal.unreachable-requires
unreachable-requires c =
    let gone : tree_of c.args.tree.now [] ≡ None = sym (c.node_at.ensures [] c.root.ensures) ∙ ap (λ o. option_map view_of (option_copied o)) c.in-None.is in
    elim (not_both gone (stands (tree_of c.args.tree.now []) (top_there c.args.tree.now)).1) [ ]
