use Rattle.std.proofs.Common.{sym}
use Rattle.std.specs.Str.{bytes_eq}
use Rattle.std.specs.Map.{lookup}
use Rattle.tcl_interpreter.proofs.PlainLemmas.{pushed_plain}
use Rattle.tcl_interpreter.proofs.node.State.expose.Goals as goal

pub invariant_of-self-clause-plain : goal.invariant_of-self-clause-plain
invariant_of-self-clause-plain c = λ known.
    let old = c.args.self.now.commands.entries in
    let plain = c.args.self.now.plain known in
    pushed_plain c.move_command.result (lookup (bytes_eq c.args.hidden.now) c.args.self.now.hidden.entries) old old _ c.args.name (sym c.if-not-contains_key.ensures) c.move_command.ensures.put c.move_command.ensures.to_kept plain plain
    (sym c.if-not-is_command_name.ensures)
