-- What refusals to name a command come to.
use Rattle.std.specs.Prelude.{◌≡◌, Bool, true, false, Option, Some, None}
use Rattle.tcl_core.specs.Endings.{Reply}
use Rattle.tcl_core.specs.Endings.Reply.{Completed}
use Rattle.tcl_core.specs.Paths.{Text}
use Rattle.tcl_language.specs.Faults.{bad_name, invalid_command}
use Rattle.tcl_language.specs.Interpreters.{already_exists, refusal_text}
use Rattle.tcl_run.specs.Ends.{Interrupts, failing}
use Rattle.tcl_run.specs.declared.interruption.Interruption.{Interruption}
use Rattle.tcl_run.specs.declared.interruption.Interruption.TheVariants as interruption
use Rattle.tcl_interpreter.specs.declared.command.Command.{Command}
use Rattle.tcl_interpreter.specs.declared.command.Command.TheVariants as command
use Rattle.tcl_interpreter.specs.declared.refusal.TreeError.{TreeError}
use Rattle.tcl_interpreter.specs.declared.refusal.TreeError.TheVariants as refusal

abbrev pub is_memory : TreeError → Bool
is_memory refusal.Memory = true
is_memory e = false

abbrev pub Told : Bool → TreeError → Text → Interruption → Type 0
Told true e word i = i ≡ interruption.Memory
Told false e word i = Interrupts i (λ r. r ≡ Completed (failing (refusal_text e word)))

-- a refusal is told, with the word that is wrong
abbrev pub TellsRefusal : TreeError → Text → Interruption → Type 0
TellsRefusal e word i = Told (is_memory e) e word i

-- the end where no command has the name
abbrev pub IsBadName : Text → Option Text → Reply → Type 0
IsBadName word None r = r ≡ Completed (failing (bad_name word))
IsBadName word (Some plain) r = ⊥

-- a command that isn't a child
abbrev pub IsOwnCommand : Option Command → Type 0
IsOwnCommand None = ⊥
IsOwnCommand (Some command.Child) = ⊥
IsOwnCommand (Some (command.Builtin b)) = Unit {0}
IsOwnCommand (Some (command.Procedure p)) = Unit {0}
IsOwnCommand (Some (command.Alias a)) = Unit {0}

-- the end where there is none
abbrev pub IsNoOwnCommand : Text → Option Command → Reply → Type 0
IsNoOwnCommand word None r = r ≡ Completed (failing (invalid_command word))
IsNoOwnCommand word (Some command.Child) r = r ≡ Completed (failing (already_exists word))
IsNoOwnCommand word (Some (command.Builtin b)) r = ⊥
IsNoOwnCommand word (Some (command.Procedure p)) r = ⊥
IsNoOwnCommand word (Some (command.Alias a)) r = ⊥
