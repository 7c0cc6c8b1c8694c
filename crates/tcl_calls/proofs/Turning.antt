-- What a script of a turn ended in.
use Rattle.std.proofs.Common.{◌≡◌, ℤ, pos, [], refl, sym, ap, ◌∙◌, subst}
use Rattle.std.specs.Global.{Box}
use Rattle.std.specs.Prelude.{Result, Ok, Err}
use Rattle.tcl_core.specs.Endings.{Completion, ok}
use Rattle.tcl_core.specs.Paths.{Text}
use Rattle.tcl_core.specs.Programs.Prog.{done}
use Rattle.tcl_language.specs.Instructions.{Program}
use Rattle.tcl_run.specs.declared.interruption.Interruption.{Interruption}
use Rattle.tcl_run.specs.declared.interruption.Interruption.TheVariants as interruption
use Rattle.tcl_flow.specs.View.{completion_of}
use Rattle.tcl_flow.specs.declared.completion.Completion.{Completion as TheCompletion}
use Rattle.tcl_calls.specs.Turns.{After, EndsIn}

pub ends_ok : (after : After) (ended : Result Text Interruption) (text : Text) → ended ≡ Ok text → ((more : Program) → after (pos 0) (ok text) more ≡ more) → (c : Completion) × EndsIn ended c × ((more : Program) → after c.code c more ≡ more)
ends_ok after ended text is on = (ok text, subst (λ (x : Result Text Interruption). EndsIn x (ok text)) (sym is) refl, on)

pub ends_on : (after : After) (ended : Result Text Interruption) (d : Box TheCompletion) (n : ℤ) → ended ≡ Err (interruption.Completed d) → d.value.code ≡ n → ((more : Program) → after n (completion_of d.value) more ≡ more) →
    (c : Completion) × EndsIn ended c × ((more : Program) → after c.code c more ≡ more)
ends_on after ended d n is e on = (completion_of d.value, subst (λ (x : Result Text Interruption). EndsIn x (completion_of d.value)) (sym is) refl, λ more. ap (λ m. after m (completion_of d.value) more) e ∙ on more)

pub ends_over : (after : After) (ended : Result Text Interruption) (d : Box TheCompletion) (n : ℤ) → ended ≡ Err (interruption.Completed d) → d.value.code ≡ n → ((more : Program) → after n (completion_of d.value) more ≡ done (ok [])) →
    (c : Completion) × EndsIn ended c × ((more : Program) → after c.code c more ≡ done (ok []))
ends_over after ended d n is e over = (completion_of d.value, subst (λ (x : Result Text Interruption). EndsIn x (completion_of d.value)) (sym is) refl, λ more. ap (λ m. after m (completion_of d.value) more) e ∙ over more)
