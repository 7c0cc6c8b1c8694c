-- How ends are told to a caller that may be gone.
use Rattle.std.proofs.Common.{◌≡◌, ℕ, Option, Some, refl, sym, ap, subst}
use Rattle.tcl_core.specs.Endings as core
use Rattle.tcl_core.specs.Endings.{Completion, Reply}
use Rattle.tcl_core.specs.Endings.Kind.{Gone}
use Rattle.tcl_core.specs.Endings.Reply.{Completed, Stop}
use Rattle.tcl_core.specs.Paths.{Path}
use Rattle.tcl_core.specs.Runs.{carried, ended}
use Rattle.tcl_run.specs.Ends.{Interrupts}
use Rattle.tcl_run.specs.declared.interruption.Interruption.{Interruption}
use Rattle.tcl_run.specs.declared.interruption.Interruption.TheVariants as interruption
use Rattle.tcl_run.proofs.Endings.{Interrupts-more}

-- what is told of what is told
pub seen_told : (told result : Interruption) (g : Option ℕ) (P Q : Reply → Type 0) → (told ≡ interruption.Memory → result ≡ interruption.Memory) → Interrupts told (λ r. Interrupts result (λ e. e ≡ ended g r)) → Interrupts told Q → ((r e : Reply) → Q r → e ≡ ended g r → P e) → Interrupts result P
seen_told interruption.Memory result g P Q m h q f = subst (λ (x : Interruption). Interrupts x P) (sym (m refl)) tt
seen_told (interruption.Completed c) result g P Q m h q f = Interrupts-more result _ P (λ e is. f _ e q is) h
seen_told (interruption.Stopped s) result g P Q m h q f = Interrupts-more result _ P (λ e is. f _ e q is) h
seen_told (interruption.Exited n) result g P Q m h q f = Interrupts-more result _ P (λ e is. f _ e q is) h
seen_told (interruption.Cut c) result g P Q m h q f = Interrupts-more result _ P (λ e is. f _ e q is) h

-- one that is gone is told that of a completion
module _ (g : Option ℕ) (up : ℕ) (p down : Path) where
  pub told_gone : (n : ℕ) (c : Completion) → g ≡ Some n → Stop n Gone ≡ carried g (Some up) p down (Completed c)
  told_gone n c is = ap (λ (x : Option ℕ). carried x (Some up) p down (Completed c)) (sym is)
