use Rattle.std.proofs.Common.{◌≡◌, Some, None, ◌∙◌}
use Rattle.tcl_calls.proofs.Served.{there}
use Rattle.tcl_calls.proofs.questions.node.Goals as goal

pub unreachable-requires : goal.unreachable-requires
unreachable-requires c =
    let n = there c.args.tree.now c.args.place c.requires.0 c.requires.1 in
    let clash : None ≡ Some n.0 = c.in-None.ensures c.requires.0 c.requires.1 ∙ n.1 in
    cc
