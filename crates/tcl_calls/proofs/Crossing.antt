-- How the ends of calls are told to callers elsewhere.
use Rattle.std.proofs.Common.{◌≡◌, ℕ, List, Some, refl}
use Rattle.std.specs.Prelude.{Result, Ok, Err}
use Rattle.tcl_core.specs.Endings.{Reply}
use Rattle.tcl_core.specs.Paths.{Path, rise_to}
use Rattle.tcl_core.specs.Runs.{carried, gone}
use Rattle.tcl_core.specs.Runs as core
use Rattle.tcl_core.specs.Trees.{Tree}
use Rattle.tcl_run.specs.Ends.{IfEnded, Interrupts}
use Rattle.tcl_run.specs.Outsides.{Going, Returns}
use Rattle.tcl_run.specs.declared.interruption.Interruption.{Interruption}
use Rattle.tcl_run.specs.declared.interruption.Interruption.TheVariants as interruption
use Rattle.tcl_run.proofs.Endings.{Interrupts-both}
use Rattle.tcl_tree.specs.Own.{Own}
use Rattle.tcl_calls.specs.Carrying.{ComesBack, EndedBy}

-- what is said of an end is said of what it ended by
pub ended_at : (ended : Result (List ℕ) Interruption) (s : Reply) (P : Reply → Type 0) → EndedBy ended s → IfEnded ended P → P s
ended_at (Ok text) s P e h = Rattle.std.proofs.Common.subst P (Rattle.std.proofs.Common.sym e) h
ended_at (Err interruption.Memory) s P e h = elim e [ ]
ended_at (Err (interruption.Completed c)) s P e h = Rattle.std.proofs.Common.subst P (Rattle.std.proofs.Common.sym e) h
ended_at (Err (interruption.Stopped x)) s P e h = Rattle.std.proofs.Common.subst P (Rattle.std.proofs.Common.sym e) h
ended_at (Err (interruption.Exited n)) s P e h = Rattle.std.proofs.Common.subst P (Rattle.std.proofs.Common.sym e) h
ended_at (Err (interruption.Cut c)) s P e h = Rattle.std.proofs.Common.subst P (Rattle.std.proofs.Common.sym e) h

-- an end that there is ended by something
pub ends_by : (ended : Result (List ℕ) Interruption) (P : Reply → Type 0) → ((s : Reply) → EndedBy ended s → P s) → IfEnded ended P
ends_by (Ok text) P f = f _ refl
ends_by (Err interruption.Memory) P f = tt
ends_by (Err (interruption.Completed c)) P f = f _ refl
ends_by (Err (interruption.Stopped s)) P f = f _ refl
ends_by (Err (interruption.Exited n)) P f = f _ refl
ends_by (Err (interruption.Cut c)) P f = f _ refl

module _ {S : Type 0} (goes : Going S) (T : Tree Own) (At : Path → ℕ → Type 0) (o z : S) (up : ℕ) (down : Path) where
  abbrev pub Told : Reply → Reply → Type 0
  Told s r = (p a : Path) (d : ℕ) → At p d → rise_to (Some up) p ≡ Some a → r ≡ carried (gone d T p) (Some up) p down s → Returns goes T o p up a down s r z

  abbrev pub Comes : Result (List ℕ) Interruption → Reply → Type 0
  Comes ended r = (p a : Path) (d : ℕ) → At p d → rise_to (Some up) p ≡ Some a → ComesBack goes T o p d up a down ended r z

  -- what is told as it is
  pub told_as_it_is : (ended : Result (List ℕ) Interruption) → ((p : Path) (d : ℕ) (s : Reply) → At p d → EndedBy ended s → s ≡ carried (gone d T p) (Some up) p down s) → IfEnded ended (λ s. IfEnded ended (Told s)) → IfEnded ended (Comes ended)
  told_as_it_is ended same h = ends_by ended (Comes ended) (λ s e p a d at rises.
      let is = same p d s at e in
      record { reply = s; ended_so = e; told_so = is; returns = ended_at ended s (Told s) e (ended_at ended s (λ r. IfEnded ended (Told r)) e h) p a d at rises is })

  -- what is told in place of it
  pub told_in_place : (ended : Result (List ℕ) Interruption) (told : Interruption) (s : Reply) → EndedBy ended s → Interrupts told (λ r. (p : Path) (d : ℕ) → At p d → r ≡ carried (gone d T p) (Some up) p down s) →
      IfEnded ended (λ x. Interrupts told (Told x)) → Interrupts told (Comes ended)
  told_in_place ended told s e f h = Interrupts-both told (λ r. (p : Path) (d : ℕ) → At p d → r ≡ carried (gone d T p) (Some up) p down s) (Told s) (Comes ended)
      (λ r is back p a d at rises. record { reply = s; ended_so = e; told_so = is p d at; returns = back p a d at rises (is p d at) }) f (ended_at ended s (λ x. Interrupts told (Told x)) e h)
