use Rattle.std.proofs.Common.{◌≡◌, ◌∙◌, refl, sym, ap, subst}
use Rattle.std.proofs.lemmas.Result.{err_from_is_err_and}
use Rattle.tcl_core.specs.Endings.Reply.{Completed}
use Rattle.tcl_core.specs.Paths.{Text}
use Rattle.tcl_language.specs.Interpreters.{renaming, done_so, refusal_text}
use Rattle.tcl_language.specs.Naming as language
use Rattle.tcl_run.specs.Ends.{Interrupts, failing}
use Rattle.tcl_tree.specs.Naming as tree
use Rattle.tcl_calls.specs.Naming.{Tells}
use Rattle.tcl_language.specs.Faults.{invalid_hidden}
use Rattle.tcl_language.specs.Naming.{with_word}
use Rattle.tcl_interpreter.specs.declared.refusal.TreeError.TheVariants as refusal
use Rattle.tcl_calls.proofs.Changing.{exposed_is, bad_exposed, unhidden_stays}
use Rattle.tcl_calls.proofs.Served.{passed_acts, renaming_bad, renaming_done, renaming_fails, renaming_refused}
use Rattle.tcl_calls.proofs.Standing.{named_level}
use Rattle.tcl_calls.proofs.serving.expose.Goals as goal

pub returns-then-not-names_hidden-clause-acts : goal.returns-then-not-names_hidden-clause-acts
returns-then-not-names_hidden-clause-acts c = renaming_fails c.args.tree.now c.args.tree.now c.args.place (λ own. language.exposed_as own c.args.hidden.now c.args.name.now) refusal.NoHidden c.args.hidden.now c.invalid_hidden.result
    (λ q n at is. unhidden_stays n.own c.args.hidden.now c.args.name.now (sym (c.names_hidden.ensures q n at is) ∙ c.if-not-names_hidden.true)) refl
    (subst (λ (x : Text). Interrupts c.invalid_hidden.result (λ r. r ≡ Completed (failing (invalid_hidden x)))) c.as_str.ensures c.invalid_hidden.ensures)

pub returns-in_err-kept-clause-acts : goal.returns-in_err-kept-clause-acts
returns-in_err-kept-clause-acts c =
    let p = err_from_is_err_and c.from_residual.result c.from_residual.ensures.1 in
    passed_acts c.args.tree.now c.args.tree.now c.args.place (renaming done_so (λ own. language.exposed_as own c.args.hidden.now c.args.name.now)) c.from_residual.result c.in_err-kept.field-0.0 p.0 p.1 p.2
    (renaming_bad c.args.tree.now c.args.place (λ own. language.exposed_as own c.args.hidden.now c.args.name.now) c.args.name.now c.in_err-kept.field-0.0
    (λ q n at is e. bad_exposed n.own c.args.hidden.now c.args.name.now (sym (c.names_hidden.ensures q n at is) ∙ c.if-not-names_hidden.false) e) c.in_err-kept.ensures.refused)

pub returns-in-Ok-clause-acts : goal.returns-in-Ok-clause-acts
returns-in-Ok-clause-acts c = renaming_done c.args.tree.now c.expose_at.new.self c.args.place (λ own. language.exposed_as own c.args.hidden.now c.args.name.now)
    (λ own. tree.exposed_under own c.args.hidden.now c.in_ok-kept.kept) c.empty.result c.empty.ensures
    (λ q n at is own e. exposed_is n.own c.args.hidden.now c.args.name.now c.in_ok-kept.kept (sym (c.names_hidden.ensures q n at is) ∙ c.if-not-names_hidden.false) c.in_ok-kept.ensures.kept ∙ ap (with_word c.args.name.now) e)
    c.in-Ok.ensures.moved

pub returns-in-Ok-clause-level : goal.returns-in-Ok-clause-level
returns-in-Ok-clause-level c = named_level c.args.tree.now c.expose_at.new.self c.args.place (λ own. tree.exposed_under own c.args.hidden.now c.in_ok-kept.kept) c.in-Ok.ensures.marks c.in-Ok.ensures.keys c.in-Ok.ensures.held c.requires c.in-Ok.ensures.moved

pub returns-in-Err-clause-acts : goal.returns-in-Err-clause-acts
returns-in-Err-clause-acts c = renaming_refused c.args.tree.now c.expose_at.new.self c.args.place (λ own. language.exposed_as own c.args.hidden.now c.args.name.now)
    (λ own. tree.exposed_under own c.args.hidden.now c.in_ok-kept.kept) c.in-Err.refusal c.args.name.now c.refusal_failure.result c.requires
    (λ q n at is e. exposed_is n.own c.args.hidden.now c.args.name.now c.in_ok-kept.kept (sym (c.names_hidden.ensures q n at is) ∙ c.if-not-names_hidden.false) c.in_ok-kept.ensures.kept ∙ ap (with_word c.args.name.now) e)
    c.in-Err.ensures.refused c.in-Err.ensures.unchanged
    (subst (λ (x : Text). Tells c.in-Err.refusal (refusal_text c.in-Err.refusal x) c.refusal_failure.result) c.as_str-in-Err.ensures c.refusal_failure.ensures)
