-- What a function does next for an open call, as contracts see it.
use Rattle.std.specs.Prelude.{ℤ}
use Rattle.tcl_core.specs.Endings.{Completion}
use Rattle.tcl_core.specs.Entries.{Entry}
use Rattle.tcl_core.specs.Paths.{Path}
use Rattle.tcl_flow.specs.View.{completion_of}
use Rattle.tcl_functions.specs.declared.action.Action.{Action}
use Rattle.tcl_functions.specs.declared.action.Action.TheVariants as action
use Rattle.tcl_run.specs.Entering.{whole_entry}

-- It ends the call by a completion; asks something of an interpreter first; or ends the whole run.
pub data ActionView : Type 0 where
  Completes : (completion : Completion) → ActionView
  Enters : (target : Path) (entry : Entry) → ActionView
  Exits : (status : ℤ) → ActionView

abbrev pub action_of : Action → ActionView
action_of (action.Complete c) = Completes (completion_of c)
action_of (action.Enter target entry) = Enters target.items (whole_entry entry)
action_of (action.Exit n) = Exits n
