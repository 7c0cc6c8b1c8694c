-- What the parts of a call on a stream answer.
use Rattle.std.specs.Prelude.{◌≡◌, ℕ, Bool, true, false, List, Option, Result, Ok, Err}
use Rattle.std.specs.Io.KnownBytes.{Appends, Keeps}
use Rattle.tcl_host.specs.MemoryHost.{counted}
use Rattle.tcl_host.specs.declared.reply.HostError.{HostError}
use Rattle.tcl_host.specs.declared.reply.HostError.TheVariants.{Memory, Refused}
use Rattle.tcl_host.specs.declared.reply.HostRefusal.TheVariants.{NoChannel, DeviceFault, NotOpened}
use Rattle.tcl_console.specs.Steps.{Seen}

-- why a call on a channel may give nothing
abbrev pub IsReadRefusal : HostError → Type 0
IsReadRefusal Memory = Unit {0}
IsReadRefusal (Refused NoChannel) = Unit {0}
IsReadRefusal (Refused DeviceFault) = Unit {0}
IsReadRefusal (Refused NotOpened) = Prim.⊥

-- why an opening may
abbrev pub IsOpenRefusal : HostError → Type 0
IsOpenRefusal Memory = Unit {0}
IsOpenRefusal (Refused NoChannel) = Prim.⊥
IsOpenRefusal (Refused DeviceFault) = Unit {0}
IsOpenRefusal (Refused NotOpened) = Unit {0}

-- a write to a stream that is open takes no memory
abbrev pub PutsSo : Bool → List ℕ → Option (List ℕ) → Result (Unit {0}) HostError →
    Option (List ℕ) → Type 0
PutsSo true text old (Ok _) new = Appends old new text
PutsSo true text old (Err (Refused DeviceFault)) new = Unit {0}
PutsSo true text old (Err (Refused NoChannel)) new = Prim.⊥
PutsSo true text old (Err (Refused NotOpened)) new = Prim.⊥
PutsSo true text old (Err Memory) new = Prim.⊥
PutsSo false text old answer new = (answer ≡ Err (Refused NoChannel)) × (new ≡ old)

abbrev pub HandsSo : Bool → Option (List ℕ) → Result (Unit {0}) HostError → Option (List ℕ) → Type 0
HandsSo true old (Ok _) new = Keeps old new
HandsSo true old (Err (Refused DeviceFault)) new = Keeps old new
HandsSo true old (Err (Refused NoChannel)) new = Prim.⊥
HandsSo true old (Err (Refused NotOpened)) new = Prim.⊥
HandsSo true old (Err Memory) new = Prim.⊥
HandsSo false old answer new = (answer ≡ Err (Refused NoChannel)) × (new ≡ old)

abbrev pub shut_so : Bool → Result (Unit {0}) HostError
shut_so true = Ok tt
shut_so false = Err (Refused NoChannel)

-- a device fault is counted
abbrev pub counted_by : {A : Type 0} → Result A HostError → Seen → Seen
counted_by (Err (Refused DeviceFault)) seen = record seen { failures = counted seen.failures }
counted_by _ seen = seen
