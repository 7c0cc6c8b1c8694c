-- What contracts see of loops between the scripts of their turns.
use Rattle.std.specs.Prelude.{◌≡◌, ℤ, Bool, true, false, [], Result, Ok, Err}
use Rattle.tcl_core.specs.Endings.{Completion, Reply, ok}
use Rattle.tcl_core.specs.Endings.Reply.{Completed}
use Rattle.tcl_core.specs.Paths.{Text}
use Rattle.tcl_core.specs.Programs.Prog.{done}
use Rattle.tcl_flow.specs.View.{completion_of}
use Rattle.tcl_language.specs.Instructions.{Program}
use Rattle.tcl_run.specs.Ends.{Interrupts}
use Rattle.tcl_run.specs.declared.interruption.Interruption.{Interruption}
use Rattle.tcl_run.specs.declared.interruption.Interruption.TheVariants as interruption

-- What a loop does after a script of a turn ended so, with what comes behind: `after_body` or
-- `after_next`.
abbrev pub After : Type 0
After = ℤ → Completion → Program → Program

-- the evaluation ended in this completion
abbrev pub EndsIn : Result Text Interruption → Completion → Type 0
EndsIn (Ok text) c = c ≡ ok text
EndsIn (Err (interruption.Completed d)) c = c ≡ completion_of d.value
EndsIn (Err i) c = ⊥

-- whether the loop goes on, or is over
abbrev pub Goes : After → Completion → Bool → Type 0
Goes after c true = (more : Program) → after c.code c more ≡ more
Goes after c false = (more : Program) → after c.code c more ≡ done (ok [])

-- the loop ends as its script did
abbrev pub Leaves : After → Reply → Type 0
Leaves after (Completed c) = (more : Program) → after c.code c more ≡ done c
Leaves after _ = Unit {0}

-- What comes of a script of a turn: the loop goes on, is over, or ends as the script did.
abbrev pub Turns : After → Result Text Interruption → Result Bool Interruption → Type 0
Turns after ended (Ok on) = (c : Completion) × EndsIn ended c × Goes after c on
Turns after ended (Err i) = (ended ≡ Err i) × Interrupts i (Leaves after)
