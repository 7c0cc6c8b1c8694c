use Rattle.std.proofs.Common.{sym}
use Rattle.tcl_interpreter.proofs.PlainLemmas.{given_plain}
use Rattle.tcl_interpreter.proofs.node.State.give.Goals as goal

pub invariant_of-self-clause-plain : goal.invariant_of-self-clause-plain
invariant_of-self-clause-plain c = λ known. given_plain c.insert.result _ _ _ _ c.insert.ensures.entries c.insert.ensures.err (c.args.self.now.plain known) (sym c.if-not-is_command_name.ensures)
