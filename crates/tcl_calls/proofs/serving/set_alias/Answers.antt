use Rattle.std.proofs.Common.{◌∙◌, sym, ap, subst}
use Rattle.std.proofs.lemmas.Result.{err_from_is_err_and}
use Rattle.tcl_core.specs.Paths.{Text}
use Rattle.tcl_language.specs.Naming as language
use Rattle.tcl_tree.specs.Naming as tree
use Rattle.tcl_language.specs.Interpreters.{renaming, done_so, refusal_text}
use Rattle.tcl_language.specs.Naming.{with_word}
use Rattle.tcl_interpreter.specs.declared.command.Command.TheVariants as command
use Rattle.tcl_calls.specs.Naming.{Tells}
use Rattle.tcl_calls.proofs.Changing.{named_is, bad_named}
use Rattle.tcl_calls.proofs.Served.{passed_acts, renaming_bad, renaming_done, renaming_refused}
use Rattle.tcl_calls.proofs.Standing.{named_level}
use Rattle.tcl_calls.proofs.serving.set_alias.Goals as goal

pub returns-in_err-kept-clause-acts : goal.returns-in_err-kept-clause-acts
returns-in_err-kept-clause-acts c =
    let p = err_from_is_err_and c.from_residual.result c.from_residual.ensures.1 in
    passed_acts c.args.tree.now c.args.tree.now c.args.place (renaming done_so (λ own. language.named own c.args.name.now (command.Alias c.args.alias.now))) c.from_residual.result c.in_err-kept.field-0.0 p.0 p.1 p.2
    (renaming_bad c.args.tree.now c.args.place (λ own. language.named own c.args.name.now (command.Alias c.args.alias.now)) c.args.name.now c.in_err-kept.field-0.0
    (λ q n at is e. bad_named n.own c.args.name.now (command.Alias c.args.alias.now) e) c.in_err-kept.ensures.refused)

pub returns-in-Ok-clause-acts : goal.returns-in-Ok-clause-acts
returns-in-Ok-clause-acts c = renaming_done c.args.tree.now c.set_alias_at.new.self c.args.place (λ own. language.named own c.args.name.now (command.Alias c.args.alias.now))
    (λ own. tree.named own c.in_ok-kept.kept (command.Alias c.in_ok-clone.field-0)) c.empty.result c.empty.ensures
    (λ q n at is own e. named_is n.own c.args.name.now c.in_ok-kept.kept (command.Alias c.args.alias.now) c.in_ok-kept.ensures.kept
    ∙ ap (λ a. with_word c.args.name.now (tree.named n.own c.in_ok-kept.kept (command.Alias a))) (sym c.in_ok-clone.ensures.cases) ∙ ap (with_word c.args.name.now) e)
    c.in-Ok.ensures.set

pub returns-in-Ok-clause-level : goal.returns-in-Ok-clause-level
returns-in-Ok-clause-level c = named_level c.args.tree.now c.set_alias_at.new.self c.args.place (λ own. tree.named own c.in_ok-kept.kept (command.Alias c.in_ok-clone.field-0)) c.in-Ok.ensures.marks c.in-Ok.ensures.keys c.in-Ok.ensures.held c.requires c.in-Ok.ensures.set

pub returns-in-Err-clause-acts : goal.returns-in-Err-clause-acts
returns-in-Err-clause-acts c = renaming_refused c.args.tree.now c.set_alias_at.new.self c.args.place (λ own. language.named own c.args.name.now (command.Alias c.args.alias.now))
    (λ own. tree.named own c.in_ok-kept.kept (command.Alias c.in_ok-clone.field-0)) c.in-Err.refusal c.args.name.now c.refusal_failure.result c.requires
    (λ q n at is e. named_is n.own c.args.name.now c.in_ok-kept.kept (command.Alias c.args.alias.now) c.in_ok-kept.ensures.kept
    ∙ ap (λ a. with_word c.args.name.now (tree.named n.own c.in_ok-kept.kept (command.Alias a))) (sym c.in_ok-clone.ensures.cases) ∙ ap (with_word c.args.name.now) e)
    c.in-Err.ensures.refused c.in-Err.ensures.unchanged
    (subst (λ (x : Text). Tells c.in-Err.refusal (refusal_text c.in-Err.refusal x) c.refusal_failure.result) c.as_str.ensures c.refusal_failure.ensures)
