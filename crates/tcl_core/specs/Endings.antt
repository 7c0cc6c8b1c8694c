-- How an evaluation ends.
use Rattle.std.specs.Prelude.{ℕ, zero, suc, ℤ, pos, ◌++◌, codes}
use Rattle.std.specs.Fmt.{signed_decimal}
use Rattle.tcl_core.specs.Paths.{Text}

-- The options of a completion. The code and the level matter where it is a return: what it comes
-- to, and after how many levels.
pub record Options : Type 0 where
  pub code : ℤ
  pub level : ℕ
  pub errorcode : Text

-- ok 0, error 1, return 2, break 3, continue 4, and every other number
pub record Completion : Type 0 where
  pub code : ℤ
  pub text : Text
  pub options : Options

-- what an interpreter's limit is set for: its steps, or the evaluations in progress
pub data Meter : Type 0 where
  Count : Meter
  Depth : Meter

-- What a stop is raised for: a limit is reached, or the interpreter that it names was dropped while
-- an evaluation was in progress in it or below it.
pub data Kind : Type 0 where
  Full : (meter : Meter) → Kind
  Gone : Kind

-- What cuts an evaluation off from outside the tree: a stop that names an interpreter above it; or
-- that its run is over, since the budget is spent or a move didn't fit.
pub data Cause : Type 0 where
  Above : Cause
  Over : Cause

-- How an evaluation ends: by a completion; by a stop, which names the interpreter so many levels up
-- from the one whose evaluation ends; by the exit of the whole run; or cut off from outside.
pub data Reply : Type 0 where
  Completed : (completion : Completion) → Reply
  Stop : (levels : ℕ) (kind : Kind) → Reply
  Exit : (status : ℤ) → Reply
  Cut : (cause : Cause) → Reply

-- what is no completion: every construct passes it on
abbrev pub IsQuit : Reply → Type 0
IsQuit (Completed c) = Prim.⊥
IsQuit _ = Unit {0}

abbrev pub NONE : Text
NONE = codes "NONE"

-- the completion of that code and text, with nothing pending
abbrev pub completion : ℤ → Text → Completion
completion c t = record {
  code = c;
  text = t;
  options = record { code = c; level = 0; errorcode = NONE };
}

abbrev pub ok : Text → Completion
ok t = completion (pos 0) t

abbrev pub error : Text → Completion
error t = completion (pos 1) t

-- what a caller elsewhere is told of a stop
abbrev pub refusal : Kind → Completion
refusal (Full Count) = error (codes "command count limit exceeded")
refusal (Full Depth) = error (codes "too many nested evaluations (infinite loop?)")
refusal Gone = error (codes "interpreter was deleted")

abbrev pub outside_of_loop : Text → Completion
outside_of_loop word = error (codes "invoked \"" ++ word ++ codes "\" outside of a loop")

-- a return comes one level nearer; at the last it gives its code
abbrev pub returned_at : ℕ → Completion → Completion
returned_at zero c = record c {
  code = c.options.code;
  options = record { code = c.options.code; level = 0; errorcode = c.options.errorcode };
}
returned_at (suc n) c = record c
    { options = record { code = c.options.code; level = suc n; errorcode = c.options.errorcode } }

abbrev pub lowered_to : ℕ → Completion → Completion
lowered_to zero c = returned_at zero c
lowered_to (suc n) c = returned_at n c

abbrev pub lowered : Completion → Completion
lowered c = lowered_to c.options.level c

-- the completion of a procedure whose body ended so
abbrev pub leaving_proc : ℤ → Completion → Completion
leaving_proc (pos (suc (suc zero))) c = lowered c
leaving_proc (pos (suc (suc (suc zero)))) c = outside_of_loop (codes "break")
leaving_proc (pos (suc (suc (suc (suc zero))))) c = outside_of_loop (codes "continue")
leaving_proc _ c = c

abbrev pub leave_proc : Completion → Completion
leave_proc c = leaving_proc c.code c

-- what is left of a completion where only ok and error may pass
abbrev pub settled : ℤ → Completion → Completion
settled (pos zero) c = c
settled (pos (suc zero)) c = c
settled (pos (suc (suc (suc zero)))) c = outside_of_loop (codes "break")
settled (pos (suc (suc (suc (suc zero))))) c = outside_of_loop (codes "continue")
settled n c = error (codes "command returned bad code: " ++ signed_decimal n)

-- a return is lowered first
abbrev pub unreturned : ℤ → Completion → Completion
unreturned (pos (suc (suc zero))) c = lowered c
unreturned _ c = c

abbrev pub settle : Completion → Completion
settle c = settled (unreturned c.code c).code (unreturned c.code c)
