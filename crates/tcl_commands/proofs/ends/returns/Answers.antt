use Rattle.tcl_flow.specs.View.{completion_of}
use Rattle.tcl_commands.proofs.Answering.{returns_told, returns_fails}
use Rattle.tcl_commands.proofs.ends.returns.Goals as goal

pub returns-in-Ok-clause-acts : goal.returns-in-Ok-clause-acts
returns-in-Ok-clause-acts c = returns_told c.args.tree.now c.args.place c.args.args.now (completion_of c.in-Ok.completion) c.of_completion.result c.integers.result c.integers.ensures c.in-Ok.ensures.made c.of_completion.ensures

pub returns-in-Err-clause-acts : goal.returns-in-Err-clause-acts
returns-in-Err-clause-acts c = returns_fails c.args.tree.now c.args.place c.args.args.now c.in-Err.error c.options_failure.result c.integers.result c.integers.ensures c.in-Err.ensures.refused c.options_failure.ensures
