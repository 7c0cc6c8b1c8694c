use Rattle.std.proofs.Common.{◌≡◌, rules, refl, pos, ap, ◌∙◌}
use Rattle.std.specs.Prelude.{Err}
use Rattle.tcl_language.specs.Expressions.{after_next}
use Rattle.tcl_calls.proofs.Turning.{ends_ok, ends_on, ends_over}
use Rattle.tcl_calls.proofs.turns.turns_on.Goals as goal

pub returns-in-Ok : goal.returns-in-Ok
returns-in-Ok c = ends_ok after_next c.args.ended c.in-Ok.field-0 c.in-Ok.is (λ more. refl)

pub returns-then-deref-eq-OK : goal.returns-then-deref-eq-OK
returns-then-deref-eq-OK c = ends_on after_next c.args.ended c.in-Err-Completed.completion (pos 0) (c.in-Err-Completed.is ∙ ap Err c.in-Err-Completed.field-0-is) (let f = c.if-deref-eq-OK.true in let e : c.in-Err-Completed.completion.value.code ≡ pos 0 = search rules in e) (λ more. refl)

pub returns-then-deref-eq-BREAK : goal.returns-then-deref-eq-BREAK
returns-then-deref-eq-BREAK c = ends_over after_next c.args.ended c.in-Err-Completed.completion (pos 3) (c.in-Err-Completed.is ∙ ap Err c.in-Err-Completed.field-0-is) (let f = c.if-deref-eq-BREAK.true in let e : c.in-Err-Completed.completion.value.code ≡ pos 3 = search rules in e) (λ more. refl)
