use Rattle.std.proofs.Common.{refl, inr}
use Rattle.std.proofs.lemmas.Result.{err_from_is_err_and}
use Rattle.tcl_language.specs.Interpreters.{done_so, renaming}
use Rattle.tcl_language.specs.Naming as language
use Rattle.tcl_tree.specs.Naming as tree
use Rattle.tcl_tree.specs.Own.{command_in}
use Rattle.tcl_commands.proofs.Going.{passed_acts}
use Rattle.tcl_commands.proofs.Renames.{bad_name_ends, removed_so, renaming_done, renaming_level, renaming_refused}
use Rattle.tcl_commands.proofs.definitions.remove.Goals as goal

pub returns-in_err-kept-clause-acts : goal.returns-in_err-kept-clause-acts
returns-in_err-kept-clause-acts c =
    let p = err_from_is_err_and c.from_residual.result c.from_residual.ensures.1 in
    passed_acts c.args.tree.now c.args.tree.now c.args.place (λ style. renaming done_so (λ own. language.removed own c.args.name.now)) c.in_err-kept.field-0.0 p.0 c.from_residual.result p.1 p.2
    (bad_name_ends c.args.tree.now c.args.place (λ own. language.removed own c.args.name.now) c.args.name.now
    (λ own plain. language.removes own plain c.args.name.now (command_in own plain)) c.in_err-kept.field-0.0 (λ own. refl) c.in_err-kept.ensures.refused)

pub returns-in-Ok-clause-acts : goal.returns-in-Ok-clause-acts
returns-in-Ok-clause-acts c =
    renaming_done c.args.tree.now c.remove_at.new.self c.args.place (λ own. language.removed own c.args.name.now) (λ own. tree.removed own c.in_ok-kept.kept)
    c.args.name.now c.empty.result c.empty.ensures c.in-Ok.ensures.removed (λ p n at there. removed_so n.own c.args.name.now c.in_ok-kept.kept c.in_ok-kept.ensures.kept)

pub returns-in-Ok-clause-level : goal.returns-in-Ok-clause-level
returns-in-Ok-clause-level c =
    renaming_level c.args.tree.now c.remove_at.new.self c.args.place (λ own. language.removed own c.args.name.now) (λ own. tree.removed own c.in_ok-kept.kept)
    c.requires c.in-Ok.ensures.removed c.in-Ok.ensures.keys c.in-Ok.ensures.held c.in-Ok.ensures.marks

pub returns-clause-acts : goal.returns-clause-acts
returns-clause-acts c =
    renaming_refused c.args.tree.now c.remove_at.new.self c.args.place (λ own. language.removed own c.args.name.now) (λ own. tree.removed own c.in_ok-kept.kept)
    c.in-Err.refusal c.args.name.now c.naming_failure.result c.in-Err.ensures.unchanged c.naming_failure.ensures (λ p at v there. inr (c.in-Err.ensures.refused p at v there))
    (λ p n at there. removed_so n.own c.args.name.now c.in_ok-kept.kept c.in_ok-kept.ensures.kept)
