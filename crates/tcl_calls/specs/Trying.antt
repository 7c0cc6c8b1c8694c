-- What contracts see of the handlers of a `try`.
use Rattle.std.specs.Option.{option_copied}
use Rattle.std.specs.Prelude.{◌≡◌, List, map, Option, Some, None, Result, Ok}
use Rattle.std.specs.Prelude.{MatchResult}
use Rattle.tcl_core.specs.Endings.{Completion}
use Rattle.tcl_core.specs.Paths.{Text}
use Rattle.tcl_core.specs.Programs.Prog.{done}
use Rattle.tcl_language.specs.Expressions.{runs_last}
use Rattle.tcl_language.specs.Instructions.{Handler, Handles, or_fails}
use Rattle.tcl_language.specs.Instructions.Handles.{of_code, of_errors}
use Rattle.tcl_language.specs.Trying.{Tried, alone, handled_by, keeps, tried_of}
use Rattle.tcl_run.specs.Ends.{Interrupts, IsFailure, itself}
use Rattle.tcl_run.specs.declared.interruption.Interruption.{Interruption}
use Rattle.tcl_text.specs.Lists.{list_of}
use Rattle.tcl_text.specs.Writing.{fault_message}
use Rattle.tcl_text.specs.declared.integer.Integers.{Integers}
use Rattle.tcl_calls.specs.declared.trying.Handler as read
use Rattle.tcl_calls.specs.declared.trying.Handles as kind
use Rattle.tcl_calls.specs.declared.trying.Handles.TheVariants.{Code, Errors}
use Rattle.tcl_calls.specs.declared.trying.Tried as whole

abbrev pub handles_of : kind.Handles → Handles
handles_of (Code n) = of_code n
handles_of (Errors xs) = of_errors xs

abbrev pub handler_of : read.Handler → Handler
handler_of h = record { handles = handles_of h.handles; names = h.names.now; script = h.script.now }

abbrev pub handlers_of : List read.Handler → List Handler
handlers_of hs = map handler_of hs

abbrev pub seen : whole.Tried → Tried
seen t = record { handlers = handlers_of t.handlers.items; last = option_copied t.last }

-- these are the handled completions, or the words that should say which are refused
abbrev pub ReadsHandles : Result Handles Text → Result kind.Handles Interruption → Type 0
ReadsHandles read result = MatchResult result (λ handles. read ≡ Ok (handles_of handles))
    (λ i. Interrupts i (IsFailure itself read))

-- words that are too few for a handler have this last script
abbrev pub EndsRead : List Text → Option Text → Type 0
EndsRead words last = (style : Integers) → tried_of style words ≡ Ok (alone last)

-- what handlers make of a completion: it stays, or these variables are set and this script runs
abbrev pub Picks : Completion → List Handler → Option (Text × Option Text) → Type 0
Picks c handlers None = handled_by c handlers ≡ done c
Picks c handlers (Some x) = handled_by c handlers ≡ or_fails fault_message (list_of x.0)
    (λ xs. keeps xs c (runs_last x.1))
