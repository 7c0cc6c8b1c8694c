use Rattle.std.proofs.Common.{ap, sym, ◌∙◌}
use Rattle.std.proofs.lemmas.Result.{err_from_is_err_and}
use Rattle.tcl_language.specs.Trying.{pattern_or}
use Rattle.tcl_run.specs.Ends.{IsFailure, itself}
use Rattle.tcl_run.proofs.Endings.{ended_err}
use Rattle.tcl_text.specs.Lists.{list_of}
use Rattle.tcl_text.specs.Writing.{fault_message}
use Rattle.tcl_calls.proofs.Handling.{pattern_refused}
use Rattle.tcl_calls.proofs.trying.read_pattern.Goals as goal

pub returns-in_err-list : goal.returns-in_err-list
returns-in_err-list c =
    let p = err_from_is_err_and c.from_residual-in_err-list.result c.from_residual-in_err-list.ensures.1 in
    ended_err c.from_residual-in_err-list.result c.in_err-list.field-0.0 p.0 _ (IsFailure fault_message (list_of c.in_ok-own.own)) (IsFailure itself (pattern_or (list_of c.args.word.now))) p.1 p.2 c.in_err-list.ensures.read
    (λ e h. pattern_refused c.args.word.now c.in_ok-own.own e c.in_ok-own.ensures.cases h)

pub returns : goal.returns
returns c = ap pattern_or (ap list_of (sym c.in_ok-own.ensures.cases) ∙ c.in_ok-list.ensures.read)
