use Rattle.std.proofs.Common.{◌∙◌, sym, arith}
use Rattle.tcl_calls.proofs.Listed.{alias_end}
use Rattle.tcl_calls.proofs.questions.alias_names.Goals as goal

pub returns : goal.returns
returns c = sym (alias_end c.args.commands.now.entries c.commands.index c.commands.names.items (omega (arith, c.len-index-end.ensures.len, c.commands-test.false))) ∙ c.commands.invariant
