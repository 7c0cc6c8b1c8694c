use Rattle.std.proofs.Common.{ap, sym, refl, ◌∙◌}
use Rattle.tcl_core.specs.Paths.{Text}
use Rattle.tcl_flow.specs.View.{completion_of}
use Rattle.tcl_language.specs.Variables.{sets}
use Rattle.tcl_run.proofs.Plain.{steps_as, steps_then}
use Rattle.tcl_calls.specs.Catching.{kept_in}
use Rattle.tcl_calls.proofs.Keeping.{two_kept}
use Rattle.tcl_calls.proofs.catching.keep_caught.Goals as goal

pub returns-clause-kept : goal.returns-clause-kept
returns-clause-kept c =
    let text = c.in_ok-clone.ensures.cases in
    steps_as c.args.tree.now c.set_named-2.new.tree c.args.place (λ k. sets c.result-item.result c.in_ok-clone.field-0 (sets c.options-item.result c.in_ok-value.value k)) (kept_in c.args.names.now (completion_of c.args.completion.now)) c.set_named-2.result
    (λ k. two_kept c.args.names.now _ c.result-item.result c.options-item.result c.in_ok-value.value (completion_of c.args.completion.now) k c.in-len1-up.len_at_least c.result-item.is refl c.in-len1-up-rest.len_at_least c.options-item.is c.in_ok-value.ensures.whole.0 c.in_ok-value.ensures.whole.1
    ∙ ap (λ (t : Text). sets c.result-item.result t (sets c.options-item.result c.in_ok-value.value k)) (sym text))
    (steps_then c.args.tree.now c.set_named.new.tree c.set_named-2.new.tree c.args.place (sets c.result-item.result c.in_ok-clone.field-0) (sets c.options-item.result c.in_ok-value.value) c.set_named-2.result
    (λ p at. c.set_named.ensures.level.keys p ∙ at) c.in_ok-set_named.ensures.set c.set_named-2.ensures.set)
