-- What becomes of what a session keeps.
use Rattle.std.proofs.Common.{◌≡◌, ℕ, Option, Some, None, Result, Ok, Err, inl, inr, refl, sym, ap, subst, ◌∙◌}
use Rattle.std.specs.Prelude.{IfNone, IfSome, IsSome, ◌⊎◌}
use Rattle.tcl_eval.specs.declared.running.Refused.{Refused}
use Rattle.tcl_eval.specs.declared.running.Refused.TheVariants as refused
use Rattle.tcl_serve.specs.Messages as ask
use Rattle.tcl_serve.specs.declared.answers.Answer.{Answer}
use Rattle.tcl_serve.specs.declared.refusals.Refusal.{Refusal}
use Rattle.tcl_serve.specs.declared.refusals.Refusal.TheVariants as refusal
use Rattle.tcl_serve.specs.Keeping.{of_unsaved}
use Rattle.tcl_serve.specs.Numbering.{IsKept}
use Rattle.tcl_serve.specs.Sessions.{Asked, Does, IsSame, Undone}
use Rattle.tcl_serve.specs.declared.numbered.Numbered.{Numbered}
use Rattle.tcl_serve.specs.declared.session.Session.{Session}

pub asked_does : (o z : Session) (n : ℕ) (q : ask.Ask) (r : Result Answer Refusal) → Asked o n q r z → Does o (ask.OnTree n q) r z
asked_does o z n q (Ok a) h = h
asked_does o z n q (Err e) h = inr h

pub kept_same : {T : Type 0} (o : Numbered T) → IsKept o o
kept_same o = record { last = refl; same = λ k. refl }

pub same : (o : Session) → IsSame o o
same o = record { trees = kept_same o.trees; saved = kept_same o.saved; records = kept_same o.records }

pub does_err : (o z : Session) (m : ask.Asks) (r : Result Answer Refusal) (e : Refusal) → r ≡ Err e → Undone o m e × IsSame o z → Does o m r z
does_err o z m r e is h = subst (λ x. Does o m x z) (sym is) (inl h)

-- why nothing is saved
pub unsaved_of : (x : Option Refused) (u : Refused) → IfSome x (λ e. u ≡ e) → IfNone x (u ≡ refused.Memory) → (of_unsaved u ≡ refusal.Memory) ⊎ ((v : Refused) × (of_unsaved u ≡ of_unsaved v) × (x ≡ Some v))
unsaved_of (Some e) u is memory = inr (e, ap of_unsaved is, refl)
unsaved_of None u is memory = inl (ap of_unsaved memory)
