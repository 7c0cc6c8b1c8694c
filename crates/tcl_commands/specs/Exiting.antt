-- What contracts see of the end of a run.
use Rattle.std.specs.Prelude.{◌≡◌, ℤ, nat_le, pos, negsuc}
use Rattle.tcl_core.specs.Endings.{Reply}
use Rattle.tcl_core.specs.Endings.Reply.{Completed, Exit}
use Rattle.tcl_language.specs.Instructions.{either}
use Rattle.tcl_run.specs.Ends.{Interrupts, failing}
use Rattle.tcl_run.specs.declared.interruption.Interruption.{Interruption}
use Rattle.tcl_text.specs.Messages as messages

-- the error of a status that no run ends with
abbrev pub bad_status : Reply
bad_status = Completed (failing messages.bad_status)

-- a status from 0 to 255 ends the run, any other is refused
abbrev pub exit_reply : ℤ → Reply
exit_reply (pos n) = either (nat_le n 255) (Exit (pos n)) bad_status
exit_reply (negsuc n) = bad_status

abbrev pub IsExit : ℤ → Interruption → Type 0
IsExit status i = Interrupts i (λ e. e ≡ exit_reply status)
