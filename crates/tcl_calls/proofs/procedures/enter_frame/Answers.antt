use Rattle.std.proofs.Common.{rules}
use Rattle.tcl_run.proofs.Steady.{lent_level}
use Rattle.tcl_calls.proofs.procedures.enter_frame.Goals as goal

pub returns-in_err-push_call-clause-level : goal.returns-in_err-push_call-clause-level
returns-in_err-push_call-clause-level c = lent_level c.args.tree.now _ c.args.place c.requires.0 _ c.requires.1 (c.frames_of.follows.holds c.push_call.new.self (search rules) c.requires.0 c.requires.1)

pub returns-clause-level : goal.returns-clause-level
returns-clause-level c = lent_level c.args.tree.now _ c.args.place c.requires.0 _ c.requires.1 (c.frames_of.follows.holds c.bind_all.new.frames (search rules) c.requires.0 c.requires.1)
