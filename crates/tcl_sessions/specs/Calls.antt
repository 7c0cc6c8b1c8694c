-- Answers to calls that left the tree.
use Rattle.std.specs.Ordering.{int_eq}
use Rattle.std.specs.Prelude.{◌≡◌, ℤ, ◌⊎◌, [], ◌∷◌, ◌++◌, List, None, Some, pos, if◌then◌else◌}
use Rattle.std.specs.Prelude.{Result, Ok, Err, IsSome, Option}
use Rattle.tcl_core.specs.Endings.{Completion, completion}
use Rattle.tcl_core.specs.Paths.{Text}
use Rattle.tcl_flow.specs.Returning.{plain, raised, returned}
use Rattle.tcl_flow.specs.View.{completion_of}
use Rattle.tcl_flow.specs.declared.completion.Completion as code
use Rattle.tcl_sessions.specs.Evaluations.{Runs}
use Rattle.tcl_sessions.specs.declared.evaluation.Evaluation.{Evaluation}
use Rattle.tcl_sessions.specs.declared.outcome.Outcome.{Outcome}
use Rattle.tcl_sessions.specs.declared.refusal.Refusal.{Refusal}
use Rattle.tcl_sessions.specs.declared.refusal.Refusal.TheVariants.{Memory, NoCallOpen}
use Rattle.tcl_sessions.specs.declared.session.Session.{Session}
use Rattle.tcl_sessions.specs.declared.standing.Answer.TheVariants as answer
use Rattle.tcl_sessions.specs.declared.standing.OpenCall.{OpenCall}
use Rattle.tcl_sessions.specs.declared.standing.Standing.{Standing}

-- the completion of this code and text; of the code 2 that of `return` of the text
abbrev pub ended_by : ℤ → Text → Completion
ended_by code text = if int_eq code (pos 2) then returned (raised plain) text
    else completion code text

-- The answer stands behind those that came before, and the evaluation begins again.
pub record GoesOn (old : Session) (number : ℤ) (text : Text) (result : Result Outcome Refusal)
    (new : Session) : Type 0 where
  pub evaluation : Evaluation
  pub waited : old.waiting ≡ Some evaluation
  pub ending : code.Completion
  pub is : completion_of ending ≡ ended_by number text
  pub begun : Standing
  pub host : begun.host ≡ old.standing.host
  pub answers : begun.answers.items ≡ old.standing.answers.items ++ answer.Completed ending ∷ []
  pub runs : Runs (record old { standing = begun; waiting = None }) evaluation result new

-- The evaluation is given up, and the tree is as before it.
pub record IsLeft (old new : Session) : Type 0 where
  pub waited : IsSome old.waiting
  pub waiting : new.waiting ≡ None
  pub tree : new.tree ≡ old.tree
  pub host : new.standing.host ≡ old.standing.host
  pub report : new.report ≡ old.report
  pub watch : new.watch ≡ old.watch

-- or no call is open
pub record IsUnasked (old new : Session) (f : Refusal) : Type 0 where
  pub refused : f ≡ NoCallOpen
  pub rested : old.waiting ≡ None
  pub same : new ≡ record old { waiting = None }

-- what comes of an answer
abbrev pub Answers : Session → ℤ → Text → Result Outcome Refusal → Session → Type 0
Answers old number text (Ok x) new = GoesOn old number text (Ok x) new
Answers old number text (Err f) new = GoesOn old number text (Err f) new ⊎
    IsUnasked old new f ⊎ ((f ≡ Memory) × IsLeft old new)

-- what comes of giving up
abbrev pub Abandons : Session → Result (Unit {0}) Refusal → Session → Type 0
Abandons old (Ok x) new = IsLeft old new
Abandons old (Err f) new = IsUnasked old new f

-- the words of the call that is kept as open; none where there is none
abbrev pub open_words : Option OpenCall → List Text
open_words None = []
open_words (Some call) = call.words.items

-- the words of the open call; none where no evaluation waits
abbrev pub call_words : Option Evaluation → Option OpenCall → List Text
call_words None call = []
call_words (Some e) call = open_words call
