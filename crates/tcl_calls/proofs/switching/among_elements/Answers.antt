use Rattle.std.proofs.Common.{◌≡◌, [], ◌∷◌, sym, ap, ◌∙◌}
use Rattle.std.specs.Prelude.{Ok}
use Rattle.std.proofs.lemmas.Result.{err_from_is_err_and}
use Rattle.tcl_language.specs.Switching.{among, behind_options}
use Rattle.tcl_run.specs.Ends.{IsFailure, itself}
use Rattle.tcl_run.proofs.Endings.{ended_err}
use Rattle.tcl_text.specs.Lists.{list_of}
use Rattle.tcl_text.specs.Writing.{fault_message}
use Rattle.tcl_calls.specs.Switching.{manner_of}
use Rattle.tcl_calls.proofs.Choosing.{gave_as, read_among, unread_as}
use Rattle.tcl_calls.proofs.switching.among_elements.Goals as goal

pub returns-in_err-list : goal.returns-in_err-list
returns-in_err-list c =
    let p = err_from_is_err_and c.from_residual-in_err-list.result c.from_residual-in_err-list.ensures.1 in
    ended_err c.from_residual-in_err-list.result c.in_err-list.field-0.0 p.0 _ (IsFailure fault_message (list_of c.in_ok-own.own)) (IsFailure itself (behind_options (manner_of c.args.manner) (c.args.string.now ∷ c.args.pairs.now ∷ []))) p.1 p.2 c.in_err-list.ensures.read
    (λ e h. unread_as (manner_of c.args.manner) c.args.string.now c.args.pairs.now c.in_ok-own.own e c.in_ok-own.ensures.cases h)

pub returns : goal.returns
returns c =
    let read : list_of c.args.pairs.now ≡ Ok c.in_ok-list.list = ap list_of (sym c.in_ok-own.ensures.cases) ∙ c.in_ok-list.ensures.read in
    gave_as (behind_options (manner_of c.args.manner) (c.args.string.now ∷ c.args.pairs.now ∷ [])) (among (manner_of c.args.manner) c.args.string.now c.in_ok-list.list) c.among_listed.result
    (read_among (manner_of c.args.manner) c.args.string.now c.args.pairs.now c.in_ok-list.list read) c.among_listed.ensures
