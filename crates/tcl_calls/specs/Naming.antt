-- What refusals of the table come to.
use Rattle.std.specs.Prelude.{◌≡◌}
use Rattle.tcl_core.specs.Endings.Reply.{Completed}
use Rattle.tcl_core.specs.Paths.{Text}
use Rattle.tcl_language.specs.Faults.{invalid_command}
use Rattle.tcl_language.specs.Interpreters.{refusal_text}
use Rattle.tcl_run.specs.Ends.{Interrupts, failing}
use Rattle.tcl_run.specs.declared.interruption.Interruption.{Interruption}
use Rattle.tcl_run.specs.declared.interruption.Interruption.TheVariants as interruption
use Rattle.tcl_text.specs.Messages as messages
use Rattle.tcl_interpreter.specs.declared.refusal.TreeError.{TreeError}
use Rattle.tcl_interpreter.specs.declared.refusal.TreeError.TheVariants as refusal

-- An error of this message is told of a refusal; want of memory isn't told.
abbrev pub Tells : TreeError → Text → Interruption → Type 0
Tells refusal.Memory message i = i ≡ interruption.Memory
Tells e message i = Interrupts i (λ r. r ≡ Completed (failing message))

-- the text of a refusal to hide a command: no such command, or a name that can't be given
abbrev pub hiding_text : TreeError → Text → Text → Text
hiding_text refusal.NoCommand name hidden = invalid_command name
hiding_text e name hidden = refusal_text e hidden

-- and of one to make a child
abbrev pub making_text : TreeError → Text → Text
making_text refusal.TooMany name = messages.too_many
making_text e name = refusal_text e name
