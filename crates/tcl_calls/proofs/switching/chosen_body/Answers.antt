use Rattle.std.proofs.lemmas.Result.{err_from_is_err_and}
use Rattle.tcl_language.specs.Switching.{behind_options, choice, exactly}
use Rattle.tcl_run.specs.Ends.{IsFailure, itself}
use Rattle.tcl_run.proofs.Endings.{ended_err}
use Rattle.tcl_calls.specs.Switching.{manner_of}
use Rattle.tcl_calls.proofs.Choosing.{gave_as}
use Rattle.tcl_calls.proofs.switching.chosen_body.Goals as goal

pub returns-in_err-manner : goal.returns-in_err-manner
returns-in_err-manner c =
    let p = err_from_is_err_and c.from_residual.result c.from_residual.ensures.1 in
    ended_err c.from_residual.result c.in_err-manner.field-0.0 p.0 _ (IsFailure itself (choice exactly c.args.words.now)) (IsFailure itself (choice exactly c.args.words.now)) p.1 p.2 c.in_err-manner.ensures (λ e h. h)

pub returns : goal.returns
returns c = gave_as (choice exactly c.args.words.now) (behind_options (manner_of c.in_ok-manner.manner) c.in_ok-manner.words.now) c.behind_options.result c.in_ok-manner.ensures c.behind_options.ensures
