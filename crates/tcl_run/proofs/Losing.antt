-- What may have become of the outside.
use Rattle.std.proofs.Common.{◌≡◌, refl, ◌∙◌}
use Rattle.std.specs.Prelude.{Result, Ok, Err}
use Rattle.tcl_run.specs.Ends.{WhereMemory}
use Rattle.tcl_run.specs.Runs.{IsLoss}
use Rattle.tcl_run.specs.Runs.IsLoss.{unlost, lost}
use Rattle.tcl_run.specs.declared.interruption.Interruption.{Interruption}
use Rattle.tcl_run.specs.declared.interruption.Interruption.TheVariants as interruption

pub not_lost : {S : Type 0} {loses : S → S → Type 0} (o : S) → IsLoss loses o o
not_lost o = unlost

pub lost_once : {S : Type 0} {loses : S → S → Type 0} {o z : S} → loses o z → IsLoss loses o z
lost_once l = lost unlost l

pub lost_twice : {S : Type 0} {loses : S → S → Type 0} {o u z : S} → IsLoss loses o u → IsLoss loses u z → IsLoss loses o z
lost_twice a unlost = a
lost_twice a (lost b l) = lost (lost_twice a b) l

pub lost_again : {S : Type 0} {loses : S → S → Type 0} {o z : S} (u : S) → loses o u → loses u z → IsLoss loses o z
lost_again u a b = lost (lost unlost a) b

pub lost_after : {S : Type 0} {loses : S → S → Type 0} {o u z : S} → IsLoss loses o u → loses u z → IsLoss loses o z
lost_after a b = lost a b

pub ruleset losing = (not_lost, lost_once, lost_twice, lost_again, lost_after)

-- one that stays as it was is what it was
pub not_at_all : {S : Type 0} {o z : S} → IsLoss (λ (a b : S). b ≡ a) o z → z ≡ o
not_at_all unlost = refl
not_at_all (lost b l) = l ∙ not_at_all b

-- what may have become of the outside where it wanted memory
pub lost_where : {A S : Type 0} (loses : S → S → Type 0) (r : Result A Interruption) (o z : S) → WhereMemory r (loses o z) → WhereMemory r (IsLoss loses o z)
lost_where loses (Ok a) o z l = tt
lost_where loses (Err interruption.Memory) o z l = lost_once l
lost_where loses (Err (interruption.Completed c)) o z l = tt
lost_where loses (Err (interruption.Stopped s)) o z l = tt
lost_where loses (Err (interruption.Exited n)) o z l = tt
lost_where loses (Err (interruption.Cut c)) o z l = tt
