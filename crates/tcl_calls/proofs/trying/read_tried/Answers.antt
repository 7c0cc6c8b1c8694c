use Rattle.std.proofs.Common.{◌-◌, List, take, drop, length, sym, ap, ◌∙◌, subst}
use Rattle.std.specs.Option.{option_copied}
use Rattle.std.specs.Prelude.{Result}
use Rattle.std.proofs.lemmas.List.{map-append}
use Rattle.std.proofs.lemmas.Result.{err_from_is_err_and}
use Rattle.tcl_core.specs.Paths.{Text}
use Rattle.tcl_language.specs.Instructions.{Handler}
use Rattle.tcl_language.specs.Trying as trying
use Rattle.tcl_language.specs.Trying.{Tried, tried_of}
use Rattle.tcl_run.specs.Ends.{IsFailure, itself}
use Rattle.tcl_run.proofs.Endings.{ended_err}
use Rattle.tcl_text.specs.declared.integer.Integers.{Integers}
use Rattle.tcl_calls.specs.Trying.{handler_of, handlers_of, handles_of}
use Rattle.tcl_calls.specs.declared.trying.Handler as read
use Rattle.tcl_calls.proofs.Handling.{behind, behind_none, ends_read, ends_refused, four_left, handler_on, handler_refused}
use Rattle.tcl_calls.proofs.trying.read_tried.Goals as goal

pub handlers-init : goal.handlers-init
handlers-init c =
    sym (ap (λ (hs : List read.Handler). behind (handlers_of hs) (tried_of c.args.style c.args.words.now)) c.new-handlers.ensures.items ∙ behind_none (tried_of c.args.style c.args.words.now))

pub returns-in_err-handles : goal.returns-in_err-handles
returns-in_err-handles c =
    let p = err_from_is_err_and c.from_residual.result c.from_residual.ensures.1 in
    let left = c.handlers.left.now in
    let four = four_left left c.word-item.result c.what-item.result c.names-item.result c.script-item.result c.in-len4-up.len_at_least c.word-item.is c.what-item.is c.names-item.is c.script-item.is in
    ended_err c.from_residual.result c.in_err-handles.field-0.0 p.0 _ (IsFailure itself (trying.handles_of c.args.style c.word-item.result c.what-item.result)) (IsFailure itself (tried_of c.args.style c.args.words.now)) p.1 p.2 c.in_err-handles.ensures
    (λ e h. subst (λ (r : Result Tried Text). IsFailure itself r e) (sym c.handlers.invariant)
    (handler_refused c.args.style (handlers_of c.handlers.handlers.items) left c.word-item.result c.what-item.result c.names-item.result c.script-item.result _ e four h))

pub handlers-preserved : goal.handlers-preserved
handlers-preserved c =
    let left = c.handlers.left.now in
    let four = four_left left c.word-item.result c.what-item.result c.names-item.result c.script-item.result c.in-len4-up.len_at_least c.word-item.is c.what-item.is c.names-item.is c.script-item.is in
    let made = ap handlers_of c.in_ok-push.ensures.items ∙ map-append handler_of c.handlers.handlers.items _ in
    c.handlers.invariant
    ∙ handler_on c.args.style (handlers_of c.handlers.handlers.items) left c.word-item.result c.what-item.result c.names-item.result c.script-item.result _ (handles_of c.in_ok-handles.handles) four c.in_ok-handles.ensures
    ∙ ap (λ (hs : List Handler). behind hs (tried_of c.args.style (take (length left - 4) (drop 4 left)))) (sym made)

pub returns-in_err-last : goal.returns-in_err-last
returns-in_err-last c =
    let p = err_from_is_err_and c.from_residual-in_err-last.result c.from_residual-in_err-last.ensures.1 in
    ended_err c.from_residual-in_err-last.result c.in_err-last.field-0.0 p.0 _ (λ e. (style : Integers) → IsFailure itself (tried_of style c.handlers.left.now) e) (IsFailure itself (tried_of c.args.style c.args.words.now)) p.1 p.2 c.in_err-last.ensures
    (λ e h. subst (λ (r : Result Tried Text). IsFailure itself r e) (sym c.handlers.invariant) (ends_refused (handlers_of c.handlers.handlers.items) (tried_of c.args.style c.handlers.left.now) e (h c.args.style)))

pub returns : goal.returns
returns c =
    c.handlers.invariant ∙ ends_read c.args.style (handlers_of c.handlers.handlers.items) c.handlers.left.now (option_copied c.in_ok-last.last) (c.in_ok-last.ensures c.args.style)
