-- What contracts see of calls that pass the top of the tree, and of what is handed in while they
-- are open.
use Rattle.std.specs.Prelude.{◌≡◌, true, ℕ, ℤ, [], Option, Some, None, Result, Ok, Err}
use Rattle.std.specs.Prelude.{MatchResult}
use Rattle.tcl_core.specs.Endings.{Completion, ok}
use Rattle.tcl_core.specs.Endings.Reply.{Completed}
use Rattle.tcl_core.specs.Entries.{Entry, HostReply}
use Rattle.tcl_core.specs.Entries as core
use Rattle.tcl_core.specs.Entries.Answer.{Replied, Heard, Nobody}
use Rattle.tcl_core.specs.Entries.Said.{Finished, Told, Missed}
use Rattle.tcl_core.specs.Paths.{Height, Path, Place, Text, rise_to}
use Rattle.tcl_core.specs.Programs.Prog.{call, done, wait}
use Rattle.tcl_core.specs.Runs.{Ending, is_own}
use Rattle.tcl_core.specs.Execution.{event}
use Rattle.tcl_core.specs.Trees.{Tree, depth_of}
use Rattle.tcl_core.specs.Trees.What.{In, Unfound}
use Rattle.tcl_flow.specs.declared.stop.StopKind.TheVariants.{Gone}
use Rattle.tcl_language.specs.Instructions.{Program}
use Rattle.tcl_language.specs.Interpreters.{finished, nobody_at}
use Rattle.tcl_language.specs.Table.{serve}
use Rattle.tcl_run.specs.Language.{language}
use Rattle.tcl_run.specs.Ends.{Breaks, Completes, IfEnded, IfRan}
use Rattle.tcl_run.specs.Outsides.{Going, Misses, reply_of}
use Rattle.tcl_run.specs.Runs.{IsAt, IsSteady, Proceeds, Ways}
use Rattle.tcl_run.specs.declared.interruption.Interruption.{Interruption}
use Rattle.tcl_run.specs.declared.interruption.Interruption.TheVariants as interruption
use Rattle.tcl_run.specs.declared.outside.Turn.{Turn}
use Rattle.tcl_run.specs.declared.outside.Turn.TheVariants as turn
use Rattle.tcl_text.specs.declared.integer.Integers.{Integers}
use Rattle.tcl_tree.specs.Own.{Own}
use Rattle.tcl_tree.specs.TreeOf.{tree_of, marks_of, Names}
use Rattle.tcl_tree.specs.declared.tree.Place as table_place
use Rattle.tcl_tree.specs.declared.tree.Tree as table
use Rattle.tcl_evaluation.specs.View.{GoesOn, Leads}
use Rattle.tcl_evaluation.specs.declared.waiting.Said.{Said}
use Rattle.tcl_evaluation.specs.declared.waiting.Said.TheVariants as said

-- What a program waits for: an answer to its call, so high up and for this, that went out when d
-- evaluations were in progress in its interpreter.
abbrev pub waiting : Height → Entry → ℕ → (core.Said → Program) → Program
waiting up i d k = wait (Some (up, i, d)) k

-- The call that a program waits for ended so: the program is told of a completion and goes on, or
-- it ends so too, or is given up with it.
abbrev pub AnswersBy : {S : Type 0} → Ways S → Integers → Tree Own → S → Place → Height → Entry →
    ℕ → Tree Own → S → Ending → Type 0
AnswersBy ways style T o p up i d U u (Some (Completed c)) = (k : core.Said → Program) →
    Leads ways style T o p (waiting up i d k) U u (k (Finished c))
AnswersBy ways style T o p up i d U u e = (k : core.Said → Program) →
    Proceeds ways (language style) T o p (waiting up i d k) U u e

-- The program is told this reply of a host, and goes on.
abbrev pub HearsSo : {S : Type 0} → Ways S → Integers → Tree Own → S → Place → Height → Entry →
    ℕ → Tree Own → S → HostReply → Type 0
HearsSo ways style T o p up i d U u a = (k : core.Said → Program) →
    Leads ways style T o p (waiting up i d k) U u (k (Told a))

-- It is told that nobody is there, and goes on.
abbrev pub MissesSo : {S : Type 0} → Ways S → Integers → Tree Own → S → Place → Height → Entry →
    ℕ → Tree Own → S → Type 0
MissesSo ways style T o p up i d U u = (k : core.Said → Program) →
    Leads ways style T o p (waiting up i d k) U u (k Missed)

-- what is said wherever the interpreter is that the place names, where an evaluation is in progress
abbrev pub Wherever : table.Tree → table_place.Place → (Path → Integers → Type 0) → Type 0
Wherever old place P = (p : Path) (style : Integers) → IsAt old place p style → P p style

-- how many evaluations are in progress in the interpreter at p
abbrev pub depth_there : table.Tree → Path → ℕ
depth_there t p = depth_of (tree_of t p)

-- what was said to the program, which goes on
abbrev pub SaysOn : {S : Type 0} → Ways S → table.Tree → S → table_place.Place → Height → Entry →
    table.Tree → S → Said → Type 0
SaysOn ways old o place up i new z (said.Completed text) = Wherever old place
    (λ p style. AnswersBy ways style (tree_of old) o p up i (depth_there old p) (tree_of new) z
    (Some (Completed (ok text))))
SaysOn ways old o place up i new z (said.Heard reply) = Wherever old place
    (λ p style. HearsSo ways style (tree_of old) o p up i (depth_there old p) (tree_of new) z
    (reply_of reply))
SaysOn ways old o place up i new z said.Missed = Wherever old place
    (λ p style. MissesSo ways style (tree_of old) o p up i (depth_there old p) (tree_of new) z)

-- how the call ended otherwise
abbrev pub EndsWait : {S : Type 0} → Ways S → table.Tree → S → table_place.Place → Height → Entry →
    table.Tree → S → Ending → Type 0
EndsWait ways old o place up i new z e = Wherever old place
    (λ p style. AnswersBy ways style (tree_of old) o p up i (depth_there old p) (tree_of new) z e)

-- What came of waiting for the answer to a call, so high up and for this.
abbrev pub Waits : {S : Type 0} → Ways S → table.Tree → S → table_place.Place → Height → Entry →
    table.Tree → S → Result Said Interruption → Type 0
Waits ways old o place up i new z result = MatchResult result (SaysOn ways old o place up i new z)
    (λ e. Breaks e (EndsWait ways old o place up i new z))

-- what is said is an answer of the call's own kind
abbrev pub IsAnswer : Height → Entry → Said → Type 0
IsAnswer up i (said.Completed text) = is_own up i (Replied (Completed (ok text))) ≡ true
IsAnswer up i (said.Heard reply) = is_own up i (Heard (reply_of reply)) ≡ true
IsAnswer up i said.Missed = is_own up i Nobody ≡ true

-- ## Callers that are gone

abbrev pub gone_stop : ℕ → Interruption
gone_stop n = interruption.Stopped (record { levels_up = n; kind = Gone })

-- what a caller is told where its call ended otherwise than by an ordinary result
abbrev pub told_end : Option ℕ → Interruption → Interruption
told_end (Some n) (interruption.Completed c) = gone_stop n
told_end g i = i

-- What a caller is told for what comes next to its call, where it is gone or isn't: one that is
-- gone is told of no completion, of no word of the host, and not that nobody is there.
abbrev pub told_next : Option ℕ → Result Turn Interruption → Result Turn Interruption
told_next None r = r
told_next (Some n) (Ok (turn.Entry target inner)) = Ok (turn.Entry target inner)
told_next (Some n) (Ok t) = Err (gone_stop n)
told_next (Some n) (Err i) = Err (told_end (Some n) i)

-- ## Calls of interpreters

-- a call so many levels up and these names down, behind which a program goes on
abbrev pub calls : ℕ → Path → Entry → Completion → (Completion → Program) → Program
calls up down i lost k = call (Some up) down i lost (finished k)

-- What came of a call of an interpreter of the tree, whatever program goes on behind it.
abbrev pub CallsThere : {S : Type 0} → Ways S → table.Tree → S → table_place.Place → ℕ → Path →
    Entry → table.Tree → S → Result Text Interruption → Type 0
CallsThere ways old o place up down i new z result =
    IfRan result (λ e. Wherever old place
    (λ p style. (lost : Completion) →
    GoesOn ways style (tree_of old) o p (calls up down i lost) (tree_of new) z e))

-- The outside is told that a call found nobody, and was answered so.
abbrev pub FindsNobody : {S : Type 0} → Going S → table.Tree → S → table_place.Place → ℕ → Path →
    Entry → S → Result Text Interruption → Type 0
FindsNobody goes old o place up down i z result = IfEnded result
    (λ r. (p a : Path) → Names old place p → rise_to (Some up) p ≡ Some a →
    Misses goes (tree_of old) o p up down i r z)

-- What came of a call of an interpreter above the tree, or below one that is, by which the caller
-- ends: by `lost` where nobody is there.
abbrev pub CallsOut : {S : Type 0} → Ways S → table.Tree → S → table_place.Place → Height → Path →
    Entry → Completion → table.Tree → S → Result Text Interruption → Type 0
CallsOut ways old o place up down i lost new z result =
    IfRan result (λ e. Wherever old place
    (λ p style. Proceeds ways (language style) (tree_of old) o p
    (call up down i lost (finished done)) (tree_of new) z e))

-- ## What is handed in

-- What came of an entry into the interpreter at the path.
abbrev pub EndsEntry : {S : Type 0} → Ways S → table.Tree → S → Path → Entry → table.Tree → S →
    Result Text Interruption → Type 0
EndsEntry ways old o target i new z result =
    IfRan result (λ e. (style : Integers) → (marks_of old).integers ≡ style →
    Proceeds ways (language style) (tree_of old) o target (serve style i) (tree_of new) z e)

-- The outside handed in an entry for the path, from a state before, and is told that it found
-- nobody there.
abbrev pub MissesEntry : {S : Type 0} → Going S → table.Tree → S → Path → Entry → S → Type 0
MissesEntry {S} goes old o target inner z = (before : S) →
    goes (tree_of old) before None (event target (In None inner)) o →
    goes (tree_of old) before None (event [] (Unfound target inner (nobody_at target))) z

-- What is said wherever a caller stood when its call went out, d evaluations being in progress
-- there then. It may be gone by now.
abbrev pub Since : table.Tree → table_place.Place → Height → (Path → Integers → ℕ → Type 0) → Type 0
Since now place up P = (was : table.Tree) (p : Path) (style : Integers) → IsAt was place p style →
    IsSteady was now → rise_to up p ≡ None → P p style (depth_there was p)

-- What came of an entry that the outside, in a state before, handed in while a call was open: the
-- program waits on,
abbrev pub WaitsOn : {S : Type 0} → Ways S → table.Tree → S → table_place.Place → Height → Entry →
    Path → Entry → table.Tree → S → Type 0
WaitsOn {S} ways old o place up i target inner new z = (before : S) →
    ways.goes (tree_of old) before None (event target (In None inner)) o →
    Since old place up (λ p style d. (k : core.Said → Program) →
    Leads ways style (tree_of old) before p (waiting up i d k) (tree_of new) z (waiting up i d k))

-- or it ends by the entry's exit, or is given up. (Of an entry that finds nobody, and is given up
-- before that is told, nothing was told.)
abbrev pub EndsBefore : {S : Type 0} → Ways S → table.Tree → S → table_place.Place → Height →
    Entry → Path → Entry → table.Tree → S → Ending → Type 0
EndsBefore {S} ways old o place up i target inner new z e = (before : S) → ways.loses before o →
    ways.goes (tree_of old) before None (event target (In None inner)) o →
    Since old place up
    (λ p style d. AnswersBy ways style (tree_of old) before p up i d (tree_of new) z e)

abbrev pub HandsIn : {S : Type 0} → Ways S → table.Tree → S → table_place.Place → Height → Entry →
    Path → Entry → table.Tree → S → Result (Unit {0}) Interruption → Type 0
HandsIn ways old o place up i target inner new z result =
    MatchResult result (λ x. WaitsOn ways old o place up i target inner new z)
    (λ e. Breaks e (EndsBefore ways old o place up i target inner new z))

-- it ended otherwise than by a completion
abbrev pub IsNoCompletion : Interruption → Type 0
IsNoCompletion i = Completes i Prim.⊥

-- the status of an exit, where it was one
abbrev pub ExitOf : Result Text Interruption → Option ℤ → Type 0
ExitOf (Err (interruption.Exited n)) status = status ≡ Some n
ExitOf (Err interruption.Memory) status = Prim.⊥
ExitOf ended status = status ≡ None
