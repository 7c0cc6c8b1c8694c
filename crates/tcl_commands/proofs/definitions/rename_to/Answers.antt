use Rattle.std.proofs.Common.{refl}
use Rattle.std.proofs.lemmas.Result.{err_from_is_err_and}
use Rattle.tcl_language.specs.Interpreters.{done_so, renaming}
use Rattle.tcl_language.specs.Naming as language
use Rattle.tcl_tree.specs.Naming as tree
use Rattle.tcl_tree.specs.Own.{command_in}
use Rattle.tcl_commands.proofs.Going.{passed_acts}
use Rattle.tcl_commands.proofs.Renames.{bad_name_ends, bad_other_ends, no_own_ends, renamed_so, renaming_done, renaming_level, renaming_refused}
use Rattle.tcl_commands.proofs.definitions.rename_to.Goals as goal

pub returns-in_err-name-clause-acts : goal.returns-in_err-name-clause-acts
returns-in_err-name-clause-acts c =
    let p = err_from_is_err_and c.from_residual.result c.from_residual.ensures.1 in
    passed_acts c.args.tree.now c.args.tree.now c.args.place (λ style. renaming done_so (λ own. language.renamed own c.args.old.now c.args.new.now)) c.in_err-name.field-0.0 p.0 c.from_residual.result p.1 p.2
    (bad_name_ends c.args.tree.now c.args.place (λ own. language.renamed own c.args.old.now c.args.new.now) c.args.old.now
    (λ own plain. language.renames own plain c.args.old.now c.args.new.now (command_in own plain)) c.in_err-name.field-0.0 (λ own. refl) c.in_err-name.ensures.refused)

pub returns-in_err-own_command-clause-acts : goal.returns-in_err-own_command-clause-acts
returns-in_err-own_command-clause-acts c =
    let p = err_from_is_err_and c.from_residual-in_err-own_command.result c.from_residual-in_err-own_command.ensures.1 in
    passed_acts c.args.tree.now c.args.tree.now c.args.place (λ style. renaming done_so (λ own. language.renamed own c.args.old.now c.args.new.now)) c.in_err-own_command.field-0.0 p.0 c.from_residual-in_err-own_command.result p.1 p.2
    (no_own_ends c.args.tree.now c.args.place c.args.old.now c.in_ok-name.name c.args.new.now c.in_err-own_command.field-0.0 c.in_ok-name.ensures.kept c.in_err-own_command.ensures.refused)

pub returns-in_err-new_name-clause-acts : goal.returns-in_err-new_name-clause-acts
returns-in_err-new_name-clause-acts c =
    let p = err_from_is_err_and c.from_residual-in_err-new_name.result c.from_residual-in_err-new_name.ensures.1 in
    passed_acts c.args.tree.now c.args.tree.now c.args.place (λ style. renaming done_so (λ own. language.renamed own c.args.old.now c.args.new.now)) c.in_err-new_name.field-0.0 p.0 c.from_residual-in_err-new_name.result p.1 p.2
    (bad_other_ends c.args.tree.now c.args.place c.args.old.now c.in_ok-name.name c.args.new.now c.in_err-new_name.field-0.0 c.in_ok-name.ensures.kept c.in_ok-own_command.ensures.there c.in_err-new_name.ensures.refused)

pub returns-in-Ok-clause-acts : goal.returns-in-Ok-clause-acts
returns-in-Ok-clause-acts c =
    renaming_done c.args.tree.now c.rename_at.new.self c.args.place (λ own. language.renamed own c.args.old.now c.args.new.now) (λ own. tree.renamed own c.in_ok-name.name c.in_ok-new_name.new_name)
    c.args.new.now c.empty.result c.empty.ensures c.in-Ok.ensures.renamed
    (λ p n at there. renamed_so n.own c.args.old.now c.in_ok-name.name c.args.new.now c.in_ok-new_name.new_name c.in_ok-name.ensures.kept c.in_ok-new_name.ensures.kept (c.in_ok-own_command.ensures.there p n at there))

pub returns-in-Ok-clause-level : goal.returns-in-Ok-clause-level
returns-in-Ok-clause-level c =
    renaming_level c.args.tree.now c.rename_at.new.self c.args.place (λ own. language.renamed own c.args.old.now c.args.new.now) (λ own. tree.renamed own c.in_ok-name.name c.in_ok-new_name.new_name)
    c.requires c.in-Ok.ensures.renamed c.in-Ok.ensures.keys c.in-Ok.ensures.held c.in-Ok.ensures.marks

pub returns-clause-acts : goal.returns-clause-acts
returns-clause-acts c =
    renaming_refused c.args.tree.now c.rename_at.new.self c.args.place (λ own. language.renamed own c.args.old.now c.args.new.now) (λ own. tree.renamed own c.in_ok-name.name c.in_ok-new_name.new_name)
    c.in-Err.refusal c.args.new.now c.naming_failure.result c.in-Err.ensures.unchanged c.naming_failure.ensures c.in-Err.ensures.refused
    (λ p n at there. renamed_so n.own c.args.old.now c.in_ok-name.name c.args.new.now c.in_ok-new_name.new_name c.in_ok-name.ensures.kept c.in_ok-new_name.ensures.kept (c.in_ok-own_command.ensures.there p n at there))
