use Rattle.std.proofs.Common.{◌≡◌, Bool, true, false, sym, ap, ◌∙◌, subst}
use Rattle.std.specs.Prelude.{IfOk}
use Rattle.tcl_core.specs.Paths.{Text}
use Rattle.tcl_flow.specs.View.{completion_of}
use Rattle.tcl_language.specs.Trying.{begins_read, is_handled}
use Rattle.tcl_text.specs.Lists.{list_of}
use Rattle.tcl_calls.specs.Trying.{handles_of}
use Rattle.tcl_calls.specs.declared.trying.Handles as kind
use Rattle.tcl_calls.proofs.Handling.{errors_on}
use Rattle.tcl_calls.proofs.trying.is_handled.Goals as goal

pub returns-then-not-is_error : goal.returns-then-not-is_error
returns-then-not-is_error c =
    sym (ap (λ (h : kind.Handles). is_handled (completion_of c.args.completion.now) (handles_of h)) c.in-Errors.is ∙ errors_on (completion_of c.args.completion.now) c.in-Errors.pattern false (sym c.is_error.ensures ∙ c.if-not-is_error.true))

pub returns-in_ok-kind-in-Errors : goal.returns-in_ok-kind-in-Errors
returns-in_ok-kind-in-Errors c =
    let whole = ap (λ (h : kind.Handles). is_handled (completion_of c.args.completion.now) (handles_of h)) c.in-Errors.is
    ∙ errors_on (completion_of c.args.completion.now) c.in-Errors.pattern true (sym c.is_error.ensures ∙ c.if-not-is_error.false)
    ∙ ap (λ (t : Text). begins_read c.in-Errors.pattern (list_of t)) (sym c.in_ok-kind-in-Errors.ensures) in
    subst (λ (b : Bool). IfOk c.begins_read.result (λ handled. handled ≡ b)) (sym whole) c.begins_read.ensures
