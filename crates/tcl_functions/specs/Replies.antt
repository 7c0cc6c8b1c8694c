-- How an entry ended, as the function that handed it in sees it.
use Rattle.std.specs.Prelude.{◌≡◌, Option, Some, None}
use Rattle.std.specs.Option.{option_map}
use Rattle.tcl_core.specs.Endings.{Completion, Reply, refusal}
use Rattle.tcl_core.specs.Endings.Reply.{Completed, Stop, Exit, Cut}
use Rattle.tcl_flow.specs.View.{completion_of}
use Rattle.tcl_flow.specs.declared.completion.Completion as code

-- By a completion: a stop is the error that it is outside of what it names. Of an exit, and of what
-- is cut off, no function is told.
abbrev pub seen : Reply → Option Completion
seen (Completed c) = Some c
seen (Stop n m) = Some (refusal m)
seen (Exit n) = None
seen (Cut c) = None

abbrev pub Sees : Option code.Completion → Reply → Type 0
Sees reply r = option_map completion_of reply ≡ seen r
