-- The standard streams by their names, and what a read that gives nothing says.
use Rattle.std.specs.Prelude.{ℕ, List, codes, if◌then◌else◌}
use Rattle.std.specs.Str.{bytes_eq}
use Rattle.tcl_console.specs.declared.stream.Stream.{Stream}
use Rattle.tcl_console.specs.declared.stream.Stream.TheVariants.{Input, Output, Errors, File}
use Rattle.tcl_host.specs.declared.reply.HostError.{HostError}
use Rattle.tcl_host.specs.declared.reply.HostError.TheVariants.{Memory, Refused}
use Rattle.tcl_host.specs.declared.reply.HostRefusal.TheVariants.{NoChannel, DeviceFault, NotOpened}

abbrev pub stream_of : List ℕ → Stream
stream_of name =
    if bytes_eq name (codes "stdin") then Input
    else (if bytes_eq name (codes "stdout") then Output
    else (if bytes_eq name (codes "stderr") then Errors
    else File))

-- the device failed, or memory was wanted
abbrev pub IsReadFault : HostError → Type 0
IsReadFault Memory = Unit {0}
IsReadFault (Refused DeviceFault) = Unit {0}
IsReadFault (Refused NoChannel) = Prim.⊥
IsReadFault (Refused NotOpened) = Prim.⊥
