use Rattle.std.proofs.Common.{refl}
use Rattle.std.specs.Prelude.{Ok}
use Rattle.std.proofs.lemmas.Result.{err_from_is_err_and}
use Rattle.tcl_language.specs.Interpreters.{done_so, renaming}
use Rattle.tcl_language.specs.Naming as language
use Rattle.tcl_tree.specs.Changes.{with_command}
use Rattle.tcl_tree.specs.Naming as tree
use Rattle.tcl_tree.specs.Own.{command_in}
use Rattle.tcl_interpreter.specs.declared.command.Command.TheVariants as command
use Rattle.tcl_commands.proofs.Going.{passed_acts}
use Rattle.tcl_commands.proofs.Renames.{bad_name_ends, named_so, renaming_done, renaming_level, renaming_refused}
use Rattle.tcl_commands.proofs.definitions.define.Goals as goal

pub returns-in_err-kept-clause-acts : goal.returns-in_err-kept-clause-acts
returns-in_err-kept-clause-acts c =
    let p = err_from_is_err_and c.from_residual.result c.from_residual.ensures.1 in
    passed_acts c.args.tree.now c.args.tree.now c.args.place (λ style. renaming done_so (λ own. language.named own c.args.name.now (command.Procedure c.args.procedure))) c.in_err-kept.field-0.0 p.0 c.from_residual.result p.1 p.2
    (bad_name_ends c.args.tree.now c.args.place (λ own. language.named own c.args.name.now (command.Procedure c.args.procedure)) c.args.name.now
    (λ own plain. language.keeps_child (command_in own plain) c.args.name.now (Ok (with_command plain (command.Procedure c.args.procedure) own))) c.in_err-kept.field-0.0 (λ own. refl) c.in_err-kept.ensures.refused)

pub returns-in-Ok-clause-acts : goal.returns-in-Ok-clause-acts
returns-in-Ok-clause-acts c =
    renaming_done c.args.tree.now c.set_proc_at.new.self c.args.place (λ own. language.named own c.args.name.now (command.Procedure c.args.procedure)) (λ own. tree.named own c.in_ok-kept.kept (command.Procedure c.args.procedure))
    c.args.name.now c.empty.result c.empty.ensures c.in-Ok.ensures.set (λ p n at there. named_so n.own c.args.name.now c.in_ok-kept.kept c.in_ok-kept.ensures.kept (command.Procedure c.args.procedure))

pub returns-in-Ok-clause-level : goal.returns-in-Ok-clause-level
returns-in-Ok-clause-level c =
    renaming_level c.args.tree.now c.set_proc_at.new.self c.args.place (λ own. language.named own c.args.name.now (command.Procedure c.args.procedure)) (λ own. tree.named own c.in_ok-kept.kept (command.Procedure c.args.procedure))
    c.requires c.in-Ok.ensures.set c.in-Ok.ensures.keys c.in-Ok.ensures.held c.in-Ok.ensures.marks

pub returns-in-Err-clause-acts : goal.returns-in-Err-clause-acts
returns-in-Err-clause-acts c =
    renaming_refused c.args.tree.now c.set_proc_at.new.self c.args.place (λ own. language.named own c.args.name.now (command.Procedure c.args.procedure)) (λ own. tree.named own c.in_ok-kept.kept (command.Procedure c.args.procedure))
    c.in-Err.refusal c.args.name.now c.naming_failure.result c.in-Err.ensures.unchanged c.naming_failure.ensures c.in-Err.ensures.refused
    (λ p n at there. named_so n.own c.args.name.now c.in_ok-kept.kept c.in_ok-kept.ensures.kept (command.Procedure c.args.procedure))
