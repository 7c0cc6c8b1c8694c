-- What a loop comes to that keeps what its body gives.
use Rattle.std.proofs.Common.{◌≡◌, ◌⊎◌, inl, inr, Bool, List, Some, None, subst}
use Rattle.std.specs.Prelude.{Result, Ok, Err}
use Rattle.tcl_core.specs.Endings.{Completion}
use Rattle.tcl_core.specs.Endings.Reply.{Completed, Stop, Exit, Cut}
use Rattle.tcl_core.specs.Paths.{Path, Text}
use Rattle.tcl_core.specs.Programs.Prog.{done, go}
use Rattle.tcl_core.specs.Runs.{Ending}
use Rattle.tcl_core.specs.Trees.{Tree}
use Rattle.tcl_language.specs.Control.{after_result}
use Rattle.tcl_language.specs.Instructions.{Program, Walk}
use Rattle.tcl_language.specs.Instructions.Instr.{Script, Lmap}
use Rattle.tcl_language.specs.Scripts.{script}
use Rattle.tcl_run.specs.Language.{language}
use Rattle.tcl_run.specs.Ends.{Breaks, IfRan}
use Rattle.tcl_run.specs.Runs.{Proceeds, Ways}
use Rattle.tcl_run.specs.declared.interruption.Interruption.{Interruption}
use Rattle.tcl_run.proofs.Endings.{Breaks-both, breaks}
use Rattle.tcl_run.proofs.Proceeding.{at_prog, completed, goes_on, passed, stopped}
use Rattle.tcl_text.specs.declared.integer.Integers.{Integers}
use Rattle.tcl_tree.specs.Own.{Own}
use Rattle.tcl_calls.specs.Collecting.{Collects, EndsBehind, EndsTurn, GoesWith}
use Rattle.tcl_evaluation.proofs.Conditions.{ended_in, ends_by}

-- the loop ends as its body did, or is given up with it
abbrev EndsTurnSo : List Text → Ending → Type 0
EndsTurnSo before (Some r) = EndsTurn before r
EndsTurnSo before None = Unit {0}

-- or ends, or is given up, behind it
abbrev EndsBehindSo : List Text → Completion → Ending → Type 0
EndsBehindSo before c (Some r) = EndsBehind before c r
EndsBehindSo before c None = Unit {0}

-- what is known of a turn that ended the loop, where that is known of how its body ended
abbrev pub EndsSo : (Ending → Type 0) → List Text → Ending → Type 0
EndsSo P before e = (P e × EndsTurnSo before e) ⊎ ((c : Completion) × P (Some (Completed c)) × EndsBehindSo before c e)

ends_more : (P Q : Ending → Type 0) (before : List Text) (e : Ending) → ((f : Ending) → P f → Q f) → EndsSo P before e → EndsSo Q before e
ends_more P Q before e more (inl h) = inl (more e h.0, h.1)
ends_more P Q before e more (inr h) = inr (h.0, more (Some (Completed h.0)) h.1, h.2)

-- a turn that ended the loop
pub collected_err : (ended : Result Text Interruption) (i : Interruption) (before after : List Text) (P : Ending → Type 0) → Collects ended before after (Err i) → IfRan ended P → Breaks i (EndsSo P before)
collected_err ended i before after P (inl h) p =
    Breaks-both i P (EndsTurnSo before) (EndsSo P before) (λ e x y. inl (x, y)) (subst (λ (x : Result Text Interruption). IfRan x P) h.0 p) (breaks i (EndsTurn before) (EndsTurnSo before) (λ e x. x) tt h.1)
collected_err ended i before after P (inr h) p =
    let t = ended_in ended h.0 P h.1 p in breaks i (EndsBehind before h.0) (EndsSo P before) (λ e x. inr (h.0, t, x)) (inr (h.0, t, tt)) h.2

-- and one after which it goes on, or is over
pub collected_ok : (ended : Result Text Interruption) (on b : Bool) (before after : List Text) (P : Ending → Type 0) → Collects ended before after (Ok on) → on ≡ b → IfRan ended P → (c : Completion) × P (Some (Completed c)) × GoesWith c before after b
collected_ok ended on b before after P h same p = (h.0, ended_in ended h.0 P h.1 p, subst (GoesWith h.0 before after) same h.2)

-- what comes behind the variables of a turn
abbrev pub result_then : Text → List Text → List Walk → Program
result_then body made walks = go (Script body) (λ c. after_result c.code c made (λ more. go (Lmap walks body more) done))

module _ {S : Type 0} {ways : Ways S} (style : Integers) where
  turn_left : {T U : Tree Own} {o u : S} {p : Path} (body : Text) (made : List Text) (walks : List Walk) (e : Ending) → EndsSo (λ f. Proceeds ways (language style) T o p (script body) U u f) made e →
      Proceeds ways (language style) T o p (result_then body made walks) U u e
  turn_left body made walks (Some (Completed c)) (inl h) = goes_on {i = Script body} h.0 (at_prog (h.1 (λ more. go (Lmap walks body more) done)) completed)
  turn_left body made walks (Some (Stop n m)) (inl h) = passed tt h.0
  turn_left body made walks (Some (Exit n)) (inl h) = passed tt h.0
  turn_left body made walks (Some (Cut c)) (inl h) = passed tt h.0
  turn_left body made walks None (inl h) = passed tt h.0
  turn_left body made walks (Some r) (inr h) =
      goes_on {i = Script body} h.1 (ends_by style (after_result h.0.code h.0 made (λ more. go (Lmap walks body more) done)) r (h.2 (λ more. go (Lmap walks body more) done)))
  turn_left body made walks None (inr h) = goes_on {i = Script body} h.1 stopped

  pub turn_ends : {T U : Tree Own} {o u : S} {p : Path} (body : Text) (made : List Text) (walks : List Walk) (e : Ending) (P : Ending → Type 0) →
      ((f : Ending) → P f → Proceeds ways (language style) T o p (script body) U u f) → EndsSo P made e → Proceeds ways (language style) T o p (result_then body made walks) U u e
  turn_ends {T} {U} {o} {u} {p} body made walks e P more h = turn_left body made walks e (ends_more P (λ f. Proceeds ways (language style) T o p (script body) U u f) made e more h)
