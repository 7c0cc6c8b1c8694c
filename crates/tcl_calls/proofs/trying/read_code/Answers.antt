use Rattle.std.proofs.Common.{rules, ap, ◌∙◌}
use Rattle.tcl_language.specs.Trying.{code_or}
use Rattle.tcl_run.proofs.Endings.{Interrupts-more}
use Rattle.tcl_calls.proofs.Handling.{code_read, code_refused}
use Rattle.tcl_calls.proofs.trying.read_code.Goals as goal

pub returns-in-Some : goal.returns-in-Some
returns-in-Some c =
    let read = code_read c.args.style c.args.word.now c.in_ok-own.own c.in_ok-found.found c.in_ok-found.ensures.read c.in_ok-own.ensures.cases ∙ ap (code_or c.args.word.now) c.in-Some.is in
    search rules

pub returns : goal.returns
returns c =
    Interrupts-more c.failure.result _ _ (λ e h. code_refused c.args.style c.args.word.now c.in_ok-own.own c.in_ok-message-in-None.message c.in_ok-found.found e c.in_ok-found.ensures.read c.in_ok-own.ensures.cases c.in-None.is c.in_ok-message-in-None.ensures h) c.failure.ensures
