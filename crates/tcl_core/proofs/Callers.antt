-- Programs that call, and wait for nothing.
use Rattle.tcl_core.specs.Endings.{Completion}
use Rattle.tcl_core.specs.Entries.Said.{Finished, Told, Missed}
use Rattle.std.proofs.Common.{◌≡◌, None, refl}
use Rattle.tcl_core.specs.Entries.{Said}
use Rattle.tcl_core.specs.Programs.{Calls_only, Prog, or_lost}
pub use Rattle.tcl_core.specs.Execution.{Fits, waits_for}
use Rattle.tcl_core.specs.Programs.Prog.{done, exit, act, go, inside, call, wait}

module _ {O I : Type 0} where
  -- what calls waits for nothing
  pub no_wait : (x : Prog O I) → Calls_only x → waits_for x ≡ None
  no_wait (done c) f = refl
  no_wait (exit n) f = refl
  no_wait (act d k) f = refl
  no_wait (go i k) f = refl
  no_wait (inside b i k) f = refl
  no_wait (call h down i lost k) f = refl
  no_wait (wait s k) f = absurd f

  -- and goes on as what calls
  pub fit : (x : Prog O I) → Calls_only x → Fits x
  fit (done c) f = f
  fit (exit n) f = f
  fit (act d k) f = f
  fit (go i k) f = f
  fit (inside b i k) f = f
  fit (call h down i lost k) f = f
  fit (wait s k) f = absurd f

  -- what goes on after a call that left the tree goes on as after any call
  pub or_lost_all : (P : Prog O I → Type 0) (lost : Completion) (k : Said → Prog O I) → ((s : Said) → P (k s)) → (s : Said) → P (or_lost lost k s)
  or_lost_all P lost k f (Finished c) = f (Finished c)
  or_lost_all P lost k f (Told a) = f (Told a)
  or_lost_all P lost k f Missed = f (Finished lost)
