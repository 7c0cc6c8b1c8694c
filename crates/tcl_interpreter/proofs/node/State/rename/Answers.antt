use Rattle.std.proofs.Common.{sym}
use Rattle.std.specs.Str.{bytes_eq}
use Rattle.std.specs.Map.{lookup}
use Rattle.tcl_interpreter.proofs.PlainLemmas.{plain_removed, pushed_plain}
use Rattle.tcl_interpreter.proofs.node.State.rename.Goals as goal

pub invariant_of-self-clause-plain : goal.invariant_of-self-clause-plain
invariant_of-self-clause-plain c = λ known.
    let old = c.args.self.now.commands.entries in
    let plain = c.args.self.now.plain known in
    pushed_plain c.move_name.result (lookup (bytes_eq c.args.name.now) old) _ old _ c.args.new_name (sym c.if-not-contains_key.ensures) c.move_name.ensures.moved c.move_name.ensures.kept
    (plain_removed (bytes_eq c.args.name.now) old plain) plain (sym c.if-not-is_command_name.ensures)
