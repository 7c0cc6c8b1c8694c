-- How the commands end that end scripts.
use Rattle.std.specs.Prelude.{◌≡◌, pos}
use Rattle.tcl_core.specs.Paths.{Text}
use Rattle.tcl_core.specs.Endings.{Completion}
use Rattle.tcl_core.specs.Endings.Reply.{Completed}
use Rattle.tcl_flow.specs.Returning.{options_message}
use Rattle.tcl_flow.specs.declared.reading.OptionsError.{OptionsError}
use Rattle.tcl_flow.specs.declared.reading.OptionsError.TheVariants as options
use Rattle.tcl_run.specs.Ends.{Interrupts, failing}
use Rattle.tcl_run.specs.declared.interruption.Interruption.{Interruption}
use Rattle.tcl_run.specs.declared.interruption.Interruption.TheVariants as interruption

-- the error of a message, of this kind
abbrev pub error_of : Text → Text → Completion
error_of message errorcode = record {
  code = pos 1;
  text = message;
  options = record { code = pos 1; level = 0; errorcode = errorcode };
}

-- how a refusal of options ends a return
abbrev pub TellsOptions : OptionsError → Interruption → Type 0
TellsOptions options.Memory i = i ≡ interruption.Memory
TellsOptions (options.Fault f) i = Interrupts i (λ e. e ≡ Completed (failing (options_message f)))
