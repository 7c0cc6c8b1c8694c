use Rattle.std.proofs.Common.{◌∙◌, ap, sym, subst, rules, IsErrOf}
use Rattle.tcl_value.specs.Limits.{IsPast}
use Rattle.tcl_value.specs.declared.value.ValueError.TheVariants.{TooLong}
use Rattle.tcl_lists.specs.Steps.{above, above_all}
use Rattle.tcl_lists.proofs.Levels.{above_all-push, grown}
use Rattle.tcl_lists.proofs.step.with_innermost.Goals as goal

pub returns-in_err-value-clause-refused : goal.returns-in_err-value-clause-refused
returns-in_err-value-clause-refused c =
    let told : IsErrOf c.from_residual.result TooLong → IsPast (above c.in-Some.step c.steps.value) = search rules in
    let same = sym c.steps.invariant ∙ ap (λ z. above_all z c.steps.value) c.in-Some.ensures.items ∙ above_all-push c.pop.new.self.items c.in-Some.step c.steps.value in
    λ r. subst IsPast (sym same) (grown c.pop.new.self.items (above c.in-Some.step c.steps.value) (told r))

pub steps-preserved : goal.steps-preserved
steps-preserved c =
    ap (above_all c.pop.new.self.items) c.in_ok-value.ensures.made ∙ sym (above_all-push c.pop.new.self.items c.in-Some.step c.steps.value)
    ∙ ap (λ z. above_all z c.steps.value) (sym c.in-Some.ensures.items) ∙ c.steps.invariant
