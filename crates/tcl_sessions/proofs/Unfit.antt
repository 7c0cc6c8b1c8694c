-- Why there is no evaluation.
use Rattle.std.proofs.Common.{◌≡◌, ◌⊎◌, Option, Some, None, refl, ap, inl, inr}
use Rattle.std.specs.Prelude.{Result, Ok, Err, IfSome, IfNone}
use Rattle.tcl_eval.specs.declared.running.OpenEnd.{OpenEnd}
use Rattle.tcl_eval.specs.declared.running.Refused.{Refused}
use Rattle.tcl_eval.specs.declared.running.Refused.TheVariants as refused
use Rattle.tcl_sessions.specs.Refusals.{of_refused}
use Rattle.tcl_sessions.specs.declared.refusal.Refusal.{Refusal}
use Rattle.tcl_sessions.specs.declared.refusal.Refusal.TheVariants.{Memory}

-- it is the one that is said, or want of memory
pub unfit_is : (o : Option Refused) (x : Refused) → IfSome o (λ u. x ≡ u) → IfNone o (x ≡ refused.Memory) → (of_refused x ≡ Memory) ⊎ ((u : Refused) × (of_refused x ≡ of_refused u) × (o ≡ Some u))
unfit_is None x s n = inl (ap of_refused n)
unfit_is (Some u) x s n = inr (u, ap of_refused s, refl)
