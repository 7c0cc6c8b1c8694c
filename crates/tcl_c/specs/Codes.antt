-- The numbers that C is answered.
use Rattle.std.specs.Prelude.{ℤ, pos, Result, Ok, Err}
use Rattle.tcl_sessions.specs.Outcomes as outcomes
use Rattle.tcl_sessions.specs.Refusals as refusals
use Rattle.tcl_sessions.specs.declared.outcome.Outcome.{Outcome}
use Rattle.tcl_sessions.specs.declared.refusal.Refusal.{Refusal}

abbrev pub code_of : Result (Unit {0}) Refusal → ℤ
code_of (Ok x) = pos 0
code_of (Err e) = refusals.number_of e

abbrev pub outcome_code : Result Outcome Refusal → ℤ
outcome_code (Ok x) = outcomes.number_of x
outcome_code (Err e) = refusals.number_of e
