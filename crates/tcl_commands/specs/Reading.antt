-- What refusals of the variables come to.
use Rattle.std.specs.Prelude.{◌≡◌, Bool, true, false, Result, Ok, Err}
use Rattle.tcl_core.specs.Endings.Reply.{Completed}
use Rattle.tcl_language.specs.Faults.{frame_message}
use Rattle.tcl_run.specs.Ends.{Interrupts, failing}
use Rattle.tcl_run.specs.declared.interruption.Interruption.{Interruption}
use Rattle.tcl_run.specs.declared.interruption.Interruption.TheVariants as interruption
use Rattle.tcl_frames.specs.declared.fault.FrameError.{FrameError}
use Rattle.tcl_frames.specs.declared.fault.FrameError.TheVariants as error
use Rattle.tcl_frames.specs.declared.fault.FrameFault.{FrameFault}
use Rattle.tcl_frames.specs.declared.fault.FrameFault.TheVariants as fault

-- whether a refusal says that there is no value
abbrev pub is_missing_fault : FrameFault → Bool
is_missing_fault (fault.NoVariable v x) = true
is_missing_fault (fault.NoElement v x) = true
is_missing_fault f = false

abbrev pub is_missing : FrameError → Bool
is_missing error.Memory = false
is_missing (error.Fault f) = is_missing_fault f

abbrev pub is_bad_name : FrameFault → Bool
is_bad_name (fault.BadName x) = true
is_bad_name f = false

-- the variable stays, and that is hidden or told
abbrev pub Left : Bool → Bool → FrameFault → Result (Unit {0}) Interruption → Type 0
Left true false f (Ok u) = Unit {0}
Left hides bad f (Ok u) = ⊥
Left true false f (Err i) = ⊥
Left hides bad f (Err i) = Interrupts i (λ e. e ≡ Completed (failing (frame_message f)))

-- where refusals are hidden, only that of the name is told
abbrev pub LeavesSet : Bool → FrameError → Result (Unit {0}) Interruption → Type 0
LeavesSet hides error.Memory result = result ≡ Err interruption.Memory
LeavesSet hides (error.Fault f) result = Left hides (is_bad_name f) f result
