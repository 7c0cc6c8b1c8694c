use Rattle.std.proofs.Common.{sym}
use Rattle.std.specs.Str.{bytes_eq}
use Rattle.std.specs.Map.{lookup}
use Rattle.tcl_interpreter.proofs.PlainLemmas.{taken_plain}
use Rattle.tcl_interpreter.proofs.node.State.hide.Goals as goal

pub invariant_of-self-clause-plain : goal.invariant_of-self-clause-plain
invariant_of-self-clause-plain c = λ known.
    let old = c.args.self.now.commands.entries in
    taken_plain c.move_command.result (lookup (bytes_eq c.args.name.now) old) (bytes_eq c.args.name.now) old _ (sym c.if-not-contains_key.ensures) c.move_command.ensures.taken c.move_command.ensures.from_kept (c.args.self.now.plain known)
