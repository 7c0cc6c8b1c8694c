-- Programs that are over.
use Rattle.std.specs.Prelude.{◌≡◌}
use Rattle.tcl_core.specs.Endings.{Completion, Reply}
use Rattle.tcl_core.specs.Endings.Reply.{Completed}
use Rattle.tcl_core.specs.Programs.Prog.{done}
use Rattle.tcl_language.specs.Instructions.{Program}

-- the program is over, and ends so
pub record EndsSo (x : Program) (r : Reply) : Type 0 where
  pub completion : Completion
  pub is_over : x ≡ done completion
  pub ends : r ≡ Completed completion
