-- Programs that fail.
use Rattle.std.specs.Prelude.{◌≡◌}
use Rattle.tcl_core.specs.Endings.{Reply}
use Rattle.tcl_core.specs.Endings.Reply.{Completed}
use Rattle.tcl_core.specs.Paths.{Text}
use Rattle.tcl_language.specs.Instructions.{Program, fails}
use Rattle.tcl_run.specs.Ends.{failing}

-- the program fails, and so ends
pub record FailsSo (program : Program) (e : Reply) : Type 0 where
  pub message : Text
  pub way : program ≡ fails message
  pub end : e ≡ Completed (failing message)
