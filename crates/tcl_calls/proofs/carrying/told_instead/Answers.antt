use Rattle.std.proofs.Common.{◌≡◌, ℕ, Option, sym, ◌∙◌, ap, subst, refl}
use Rattle.std.specs.Prelude.{Result, List, Err, MatchOption}
use Rattle.tcl_core.specs.Endings.{Reply, ok}
use Rattle.tcl_core.specs.Endings.Reply.{Completed}
use Rattle.tcl_core.specs.Paths.{Path}
use Rattle.tcl_core.specs.Runs.{carried, carried_by, ended, gone}
use Rattle.tcl_flow.specs.Stopping.{reply_of}
use Rattle.tcl_flow.specs.View.{completion_of}
use Rattle.tcl_run.specs.Ends.{Completes, Interrupts, OnCompletion}
use Rattle.tcl_run.specs.declared.interruption.Interruption.{Interruption}
use Rattle.tcl_run.specs.declared.interruption.Interruption.TheVariants as interruption
use Rattle.tcl_run.proofs.Endings.{Completes-more, on_completion}
use Rattle.tcl_run.proofs.Steady.{holds_named}
use Rattle.tcl_tree.specs.Gone.{Holds}
use Rattle.tcl_tree.specs.TreeOf.{tree_of}
use Rattle.tcl_calls.specs.Carrying.{EndedBy, IsStanding}
use Rattle.tcl_calls.proofs.Telling.{seen_told, told_gone}
use Rattle.tcl_calls.proofs.carrying.told_instead.Goals as goal

pub returns-in-Err-Stopped-clause-instead : goal.returns-in-Err-Stopped-clause-instead
returns-in-Err-Stopped-clause-instead c =
    let f : c.in-Err-Stopped.field-0 ≡ interruption.Stopped c.in-Err-Stopped.stop = rw c.in-Err-Stopped.is at c.in-Err-Stopped.field-0-is in
    let e : c.args.ended.now ≡ Err (interruption.Stopped c.in-Err-Stopped.stop) = c.in-Err-Stopped.is ∙ ap Err f in
    let T = tree_of c.args.tree.now in
    let Sees : Reply → Type 0 = λ r. (p : Path) (d : ℕ) → Holds c.args.tree.now c.args.caller p d → r ≡ carried_by (reply_of c.in-Err-Stopped.stop) (Rattle.std.proofs.Common.Some c.args.up) p c.args.down.now in
    let Told : Reply → Type 0 = λ r. (p : Path) (d : ℕ) → Holds c.args.tree.now c.args.caller p d → r ≡ carried (gone d T p) (Rattle.std.proofs.Common.Some c.args.up) p c.args.down.now (reply_of c.in-Err-Stopped.stop) in (
      reply_of c.in-Err-Stopped.stop,
      subst (λ (x : Result (List ℕ) Interruption). EndedBy x (reply_of c.in-Err-Stopped.stop)) (sym e) refl,
      seen_told c.stop_for_caller.result c.unless_gone.result c.is_gone-gone.result Told Sees c.unless_gone.ensures.memory c.unless_gone.ensures.told c.stop_for_caller.ensures
          (λ r x q is p d h. is ∙ ap (λ (g : Option ℕ). ended g r) (c.is_gone-gone.ensures p d h) ∙ ap (ended (gone d T p)) (q p d h)),
    )

pub returns-in-Err-Stopped-clause-stands : goal.returns-in-Err-Stopped-clause-stands
returns-in-Err-Stopped-clause-stands c = Completes-more c.unless_gone.result _ (IsStanding c.args.tree.now c.args.caller)
    (λ none p d h. holds_named c.args.tree.now c.args.caller p d h (sym (c.is_gone-gone.ensures p d h) ∙ none)) c.unless_gone.ensures.stands

pub returns-in_err-gone-in-Ok-clause-stands : goal.returns-in_err-gone-in-Ok-clause-stands
returns-in_err-gone-in-Ok-clause-stands c =
    subst (λ (o : Option Interruption). MatchOption o (OnCompletion c.args.ended.now (IsStanding c.args.tree.now c.args.caller)) (λ told. Completes told (IsStanding c.args.tree.now c.args.caller))) (sym c.from_residual-in_err-gone-in-Ok.ensures)
    (on_completion c.args.ended.now (IsStanding c.args.tree.now c.args.caller) (λ p d h. holds_named c.args.tree.now c.args.caller p d h (sym (c.is_gone-gone.ensures p d h) ∙ c.in_err-gone-in-Ok.was)))

pub returns-in_err-gone-in-Err-Completed-clause-stands : goal.returns-in_err-gone-in-Err-Completed-clause-stands
returns-in_err-gone-in-Err-Completed-clause-stands c =
    subst (λ (o : Option Interruption). MatchOption o (OnCompletion c.args.ended.now (IsStanding c.args.tree.now c.args.caller)) (λ told. Completes told (IsStanding c.args.tree.now c.args.caller))) (sym c.from_residual.ensures)
    (on_completion c.args.ended.now (IsStanding c.args.tree.now c.args.caller) (λ p d h. holds_named c.args.tree.now c.args.caller p d h (sym (c.is_gone-gone.ensures p d h) ∙ c.in_err-gone-in-Err-Completed.was)))

pub returns-in_ok-gone-in-Ok-clause-instead : goal.returns-in_ok-gone-in-Ok-clause-instead
returns-in_ok-gone-in-Ok-clause-instead c =
    let s : Reply = Completed (ok c.in-Ok.field-0) in
    let T = tree_of c.args.tree.now in (
      s,
      subst (λ (x : Result (List ℕ) Interruption). EndedBy x s) (sym c.in-Ok.is) refl,
      subst (λ (x : Interruption). Interrupts x (λ r. (p : Path) (d : ℕ) → Holds c.args.tree.now c.args.caller p d → r ≡ carried (gone d T p) (Rattle.std.proofs.Common.Some c.args.up) p c.args.down.now s)) (sym c.gone_stop-in-Ok.ensures)
          (λ p d h. told_gone (gone d T p) c.args.up p c.args.down.now c.in_ok-gone-in-Ok.field-0 (ok c.in-Ok.field-0) (sym (c.is_gone-gone.ensures p d h) ∙ c.in_ok-gone-in-Ok.was)),
    )

pub returns-in_ok-gone-in-Err-Completed-clause-instead : goal.returns-in_ok-gone-in-Err-Completed-clause-instead
returns-in_ok-gone-in-Err-Completed-clause-instead c =
    let f : c.in-Err-Completed.field-0 ≡ interruption.Completed c.in-Err-Completed.field-0-0 = rw c.in-Err-Completed.is at c.in-Err-Completed.field-0-is in
    let s : Reply = Completed (completion_of c.in-Err-Completed.field-0-0.value) in
    let T = tree_of c.args.tree.now in (
      s,
      subst (λ (x : Result (List ℕ) Interruption). EndedBy x s) (sym (c.in-Err-Completed.is ∙ ap Err f)) refl,
      subst (λ (x : Interruption). Interrupts x (λ r. (p : Path) (d : ℕ) → Holds c.args.tree.now c.args.caller p d → r ≡ carried (gone d T p) (Rattle.std.proofs.Common.Some c.args.up) p c.args.down.now s)) (sym c.gone_stop.ensures)
          (λ p d h. told_gone (gone d T p) c.args.up p c.args.down.now c.in_ok-gone-in-Err-Completed.field-0 (completion_of c.in-Err-Completed.field-0-0.value) (sym (c.is_gone-gone.ensures p d h) ∙ c.in_ok-gone-in-Err-Completed.was)),
    )
