-- Refusals.
use Rattle.std.specs.Prelude.{◌≡◌, Result, Ok, Err}
use Rattle.tcl_frames.specs.Names.{Text}
use Rattle.tcl_frames.specs.declared.fault.NameFault.{NameFault}
use Rattle.tcl_frames.specs.declared.fault.NameFault.TheVariants as refusal
use Rattle.tcl_frames.specs.declared.fault.FrameFault.{FrameFault}
use Rattle.tcl_frames.specs.declared.fault.FrameFault.TheVariants as fault
use Rattle.tcl_frames.specs.declared.fault.FrameError.{FrameError}
use Rattle.tcl_frames.specs.declared.fault.FrameError.TheVariants.{Memory, Fault}

abbrev pub fault_of : NameFault → Text → FrameFault
fault_of (refusal.NoVariable v) x = fault.NoVariable v x
fault_of (refusal.IsArray v) x = fault.IsArray v x
fault_of (refusal.NotArray v) x = fault.NotArray v x
fault_of (refusal.NoElement v) x = fault.NoElement v x
fault_of refusal.Exists x = fault.Exists x
fault_of refusal.BadName x = fault.BadName x

-- an error is the refusal, or want of memory
abbrev pub IsRefusal : FrameError → FrameFault → Type 0
IsRefusal Memory f = Unit {0}
IsRefusal (Fault g) f = g ≡ f

abbrev pub IsWant : FrameError → Type 0
IsWant Memory = Unit {0}
IsWant (Fault g) = ⊥

-- a call that ends with the error is refused as the definition says, or wants memory
abbrev pub Refuses : {A : Type 0} → FrameError → Result A FrameFault → Type 0
Refuses e (Ok x) = IsWant e
Refuses e (Err f) = IsRefusal e f
