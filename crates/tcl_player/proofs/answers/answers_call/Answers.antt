use Rattle.std.proofs.Common.{◌≡◌, ◌∙◌, Option, None, Some, ℕ, sym, ap, subst}
use Rattle.tcl_core.specs.Runs.{is_told}
use Rattle.tcl_run.specs.Entering.{whole_entry}
use Rattle.tcl_recorder.specs.Crossings.{answer_of}
use Rattle.tcl_player.proofs.answers.answers_call.Goals as goal

pub returns-in-Some : goal.returns-in-Some
returns-in-Some c =
    subst (λ (g : Option ℕ). c.answers_gone.result ≡ is_told g c.args.up (whole_entry c.args.entry.now) (answer_of c.args.answer.now)) (sym c.in-Some.is) (c.answers_gone.ensures (whole_entry c.args.entry.now))

pub returns-in-Some-up : goal.returns-in-Some-up
returns-in-Some-up c =
    let i = whole_entry c.args.entry.now in
    let a = answer_of c.args.answer.now in
    c.answers_alias.ensures i ∙ ap (λ (h : Option ℕ). is_told None h i a) (sym c.in-Some-up.is) ∙ ap (λ (g : Option ℕ). is_told g c.args.up i a) (sym c.in-None.is)
