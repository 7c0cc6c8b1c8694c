use Rattle.std.proofs.Common.{◌%◌, rules, sym, ◌∙◌, ap, FitsSigned, w64}
use Rattle.std.proofs.lemmas.Int.{to_z-of_z}
use Rattle.std.specs.Fmt.{signed_decimal}
use Rattle.tcl_run.proofs.Endings.{Interrupts-more}
use Rattle.tcl_calls.specs.Switching.{manner_of}
use Rattle.tcl_calls.proofs.Choosing.{among_even, among_odd}
use Rattle.tcl_calls.proofs.switching.among_listed.Goals as goal

pub returns-then-len-eq1 : goal.returns-then-len-eq1
returns-then-len-eq1 c = Interrupts-more c.wrong_args.result _ _ (λ e h. among_odd (manner_of c.args.manner) c.args.string.now c.args.pairs.now e (ap (λ n. n % 2) (sym c.len.ensures) ∙ c.if-len-eq1.true) h) c.wrong_args.ensures

pub returns-in-Some : goal.returns-in-Some
returns-in-Some c =
    let fits : FitsSigned w64 c.in-Some.number = search rules in
    let text = c.format.ensures.text ∙ ap signed_decimal (to_z-of_z w64 c.in-Some.number fits) ∙ sym c.in-Some.ensures.text in
    among_even (manner_of c.args.manner) c.args.string.now c.format.result.now c.args.pairs.now c.in_ok-first_taken_in.field-0 (λ h. c.if-len-eq1.false (ap (λ n. n % 2) c.len.ensures ∙ h)) text c.in_ok-first_taken_in.ensures

pub returns : goal.returns
returns c =
    among_even (manner_of c.args.manner) c.args.string.now c.as_str.result.now c.args.pairs.now c.in_ok-first_taken_in-2.field-0 (λ h. c.if-len-eq1.false (ap (λ n. n % 2) c.len.ensures ∙ h)) (c.as_str.ensures ∙ c.in_ok-string.ensures) c.in_ok-first_taken_in-2.ensures
