use Rattle.std.proofs.Common.{true, false, refl}
use Rattle.std.specs.Prelude.{codes}
use Rattle.tcl_language.specs.Procedures as procedures
use Rattle.tcl_commands.proofs.SubcommandNames.{procedures_chosen}
use Rattle.tcl_commands.proofs.procedures.subcommand.Goals as goal

pub returns-then-is_text-4-clause-acts : goal.returns-then-is_text-4-clause-acts
returns-then-is_text-4-clause-acts c =
    procedures_chosen c.args.tree.now c.args.tree.now c.args.place c.args.word.now (codes "commands") c.args.args.now (procedures.names false (codes "info commands ?pattern?") c.args.args.now) c.names.result
    (c.is_text-4.ensures.0 c.if-is_text-4.true) refl c.names.ensures

pub returns-then-is_text-5-clause-acts : goal.returns-then-is_text-5-clause-acts
returns-then-is_text-5-clause-acts c =
    procedures_chosen c.args.tree.now c.args.tree.now c.args.place c.args.word.now (codes "procs") c.args.args.now (procedures.names true (codes "info procs ?pattern?") c.args.args.now) c.names-then-is_text-5.result
    (c.is_text-5.ensures.0 c.if-is_text-5.true) refl c.names-then-is_text-5.ensures
