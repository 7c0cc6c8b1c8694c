use Rattle.std.proofs.Common.{◌≡◌, ◌∙◌, refl, sym, ap, subst}
use Rattle.std.proofs.lemmas.Result.{err_from_is_err_and}
use Rattle.tcl_core.specs.Endings.Reply.{Completed}
use Rattle.tcl_core.specs.Paths.{Text}
use Rattle.tcl_language.specs.Interpreters.{renaming, done_so}
use Rattle.tcl_language.specs.Naming as language
use Rattle.tcl_run.specs.Ends.{Interrupts, failing}
use Rattle.tcl_tree.specs.Naming as tree
use Rattle.tcl_calls.specs.Naming.{Tells}
use Rattle.tcl_language.specs.Interpreters.{already_exists}
use Rattle.tcl_interpreter.specs.declared.refusal.TreeError.TheVariants as refusal
use Rattle.tcl_calls.specs.Naming.{hiding_text}
use Rattle.tcl_calls.proofs.Changing.{hidden_is, child_stays, bad_hidden, with_words, words_err, hiding_word, hiding_same}
use Rattle.tcl_calls.proofs.Served.{passed_acts, renaming_bad, renaming_done, renaming_fails, renaming_refused}
use Rattle.tcl_calls.proofs.Standing.{named_level}
use Rattle.tcl_calls.proofs.serving.hide.Goals as goal

pub returns-in_err-kept-clause-acts : goal.returns-in_err-kept-clause-acts
returns-in_err-kept-clause-acts c =
    let p = err_from_is_err_and c.from_residual.result c.from_residual.ensures.1 in
    passed_acts c.args.tree.now c.args.tree.now c.args.place (renaming done_so (λ own. language.hidden_as own c.args.name.now c.args.hidden.now)) c.from_residual.result c.in_err-kept.field-0.0 p.0 p.1 p.2
    (renaming_bad c.args.tree.now c.args.place (λ own. language.hidden_as own c.args.name.now c.args.hidden.now) c.args.name.now c.in_err-kept.field-0.0
    (λ q n at is e. bad_hidden n.own c.args.name.now c.args.hidden.now e) c.in_err-kept.ensures.refused)

pub returns-then-names_child-clause-acts : goal.returns-then-names_child-clause-acts
returns-then-names_child-clause-acts c = renaming_fails c.args.tree.now c.args.tree.now c.args.place (λ own. language.hidden_as own c.args.name.now c.args.hidden.now) refusal.Exists c.args.name.now c.already_exists.result
    (λ q n at is. child_stays n.own c.args.name.now c.in_ok-kept.kept c.args.hidden.now c.in_ok-kept.ensures.kept (sym (c.names_child.ensures q n at is) ∙ c.if-names_child.true)) refl
    (subst (λ (x : Text). Interrupts c.already_exists.result (λ r. r ≡ Completed (failing (already_exists x)))) c.as_str.ensures c.already_exists.ensures)

pub returns-in-Ok-clause-acts : goal.returns-in-Ok-clause-acts
returns-in-Ok-clause-acts c = renaming_done c.args.tree.now c.hide_at.new.self c.args.place (λ own. language.hidden_as own c.args.name.now c.args.hidden.now)
    (λ own. tree.hidden_under own c.in_ok-kept.kept c.in_ok-clone.field-0) c.empty.result c.empty.ensures
    (λ q n at is own e. hidden_is n.own c.args.name.now c.in_ok-kept.kept c.args.hidden.now c.in_ok-kept.ensures.kept (sym (c.names_child.ensures q n at is) ∙ c.if-names_child.false)
    ∙ ap (λ h. with_words c.args.name.now c.args.hidden.now (tree.hidden_under n.own c.in_ok-kept.kept h)) (sym c.in_ok-clone.ensures.cases) ∙ ap (with_words c.args.name.now c.args.hidden.now) e)
    c.in-Ok.ensures.moved

pub returns-in-Ok-clause-level : goal.returns-in-Ok-clause-level
returns-in-Ok-clause-level c = named_level c.args.tree.now c.hide_at.new.self c.args.place (λ own. tree.hidden_under own c.in_ok-kept.kept c.in_ok-clone.field-0) c.in-Ok.ensures.marks c.in-Ok.ensures.keys c.in-Ok.ensures.held c.requires c.in-Ok.ensures.moved

pub returns-clause-acts : goal.returns-clause-acts
returns-clause-acts c = renaming_refused c.args.tree.now c.hide_at.new.self c.args.place (λ own. language.hidden_as own c.args.name.now c.args.hidden.now)
    (λ own. tree.hidden_under own c.in_ok-kept.kept c.in_ok-clone.field-0) c.in-Err.refusal (hiding_word c.args.name.now c.args.hidden.now c.in-Err.refusal) c.hiding_failure.result c.requires
    (λ q n at is e. hidden_is n.own c.args.name.now c.in_ok-kept.kept c.args.hidden.now c.in_ok-kept.ensures.kept (sym (c.names_child.ensures q n at is) ∙ c.if-names_child.false)
    ∙ ap (λ h. with_words c.args.name.now c.args.hidden.now (tree.hidden_under n.own c.in_ok-kept.kept h)) (sym c.in_ok-clone.ensures.cases) ∙ ap (with_words c.args.name.now c.args.hidden.now) e
    ∙ words_err c.args.name.now c.args.hidden.now c.in-Err.refusal)
    c.in-Err.ensures.refused c.in-Err.ensures.unchanged
    (subst (λ (x : Text). Tells c.in-Err.refusal x c.hiding_failure.result)
    (ap (λ (x : Text). hiding_text c.in-Err.refusal x c.as_str-in-Err-2.result.now) c.as_str-in-Err.ensures ∙ ap (λ (x : Text). hiding_text c.in-Err.refusal c.args.name.now x) c.as_str-in-Err-2.ensures
    ∙ hiding_same c.args.name.now c.args.hidden.now c.in-Err.refusal) c.hiding_failure.ensures)
