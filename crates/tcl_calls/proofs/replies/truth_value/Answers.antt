use Rattle.std.proofs.Common.{sym, ap, ◌∙◌, arith}
use Rattle.std.proofs.lemmas.Fmt.{decimal_digit}
use Rattle.tcl_language.specs.Hosting.{truth}
use Rattle.tcl_calls.proofs.replies.truth_value.Goals as goal

pub returns-then-truth : goal.returns-then-truth
returns-then-truth c = c.from_int.ensures ∙ decimal_digit 1 (omega arith) ∙ ap truth (sym c.if-truth.true)

pub returns : goal.returns
returns c = c.from_int-2.ensures ∙ decimal_digit 0 (omega arith) ∙ ap truth (sym c.if-truth.false)
