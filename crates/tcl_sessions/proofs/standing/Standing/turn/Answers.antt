use Rattle.std.proofs.Common.{ap}
use Rattle.tcl_run.specs.Entering.{whole_entry}
use Rattle.tcl_run.proofs.Steady.{holds_stood}
use Rattle.tcl_sessions.proofs.Coming.{comes_cut, comes_heard}
use Rattle.tcl_tree.specs.TreeOf.{tree_of}
use Rattle.tcl_sessions.proofs.standing.Standing.turn.Goals as goal

pub returns-in_ok-hear-in-None-AskHost-clause-comes : goal.returns-in_ok-hear-in-None-AskHost-clause-comes
returns-in_ok-hear-in-None-AskHost-clause-comes c = λ p d at past.
    comes_heard (tree_of c.args.tree.now) c.args.self.now c.hear.new.self p d c.args.up (whole_entry c.args.entry.now) c.in-None-AskHost.request c.in_ok-hear-in-None-AskHost.field-0
    past c.requires c.in-None-AskHost.is-0 (ap whole_entry c.in-None-AskHost.is-1) c.in_ok-hear-in-None-AskHost.ensures

pub returns-in_ok-wait-in-Some-default-clause-comes : goal.returns-in_ok-wait-in-Some-default-clause-comes
returns-in_ok-wait-in-Some-default-clause-comes c = λ p d at past.
    comes_cut (tree_of c.args.tree.now) c.args.self.now c.wait.new.self p d c.args.up c.in-Some-default.field-0-0 (whole_entry c.args.entry.now)
    past c.requires c.in-Some-default.is-0
    (c.in_ok-wait-in-Some-default.ensures p (holds_stood c.args.tree.now c.args.caller p d at))
