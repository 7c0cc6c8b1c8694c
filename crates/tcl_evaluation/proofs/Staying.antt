-- Where an evaluation came to a completion its interpreter stands still: how that passes through what is done with the end.
use Rattle.std.proofs.Common.{◌≡◌, inl, inr, Bool, List, sym, subst}
use Rattle.std.specs.Prelude.{Result, Ok, Err}
use Rattle.tcl_core.specs.Endings.{Completion}
use Rattle.tcl_core.specs.Paths.{Text}
use Rattle.tcl_core.specs.Runs.{Ending}
use Rattle.tcl_flow.specs.declared.completion.Completion.{Completion as CodeCompletion}
use Rattle.tcl_run.specs.Ends.{Breaks, Catches, Completes, IsText, OnCompletion}
use Rattle.tcl_run.specs.Runs.{IsHere, IsLevel}
use Rattle.tcl_run.specs.declared.interruption.Interruption.{Interruption}
use Rattle.tcl_run.specs.declared.interruption.Interruption.TheVariants as interruption
use Rattle.tcl_run.proofs.Endings.{Completes-all, IfRan-all, OnCompletion-more, completed_caught, completed_text, completes_err, on_completion, passed_err}
use Rattle.tcl_run.proofs.Proceeding.{IsQuitting}
use Rattle.tcl_run.proofs.Steady.{here-refl, here-trans, level_here}
use Rattle.tcl_tree.specs.declared.tree.Tree.{Tree as Table}
use Rattle.tcl_tree.specs.declared.tree.Place.{Place as TablePlace}
use Rattle.tcl_calls.specs.Carrying.{Settles}
use Rattle.tcl_calls.specs.Collecting.{Collects}
use Rattle.tcl_calls.specs.HostCalls.{LeavesFile}
use Rattle.tcl_calls.specs.Turns.{After, EndsIn, Turns}
use Rattle.tcl_evaluation.specs.View.{LeavesProc}
use Rattle.tcl_evaluation.proofs.Catching.{caught_err}

-- ## One after another

-- nothing was done
pub unmoved : {A : Type 0} (r : Result A Interruption) (t : Table) (place : TablePlace) → OnCompletion r (IsHere t t place)
unmoved r t place = on_completion r (IsHere t t place) (here-refl t place)

pub here_then : {A : Type 0} (r : Result A Interruption) (s t u : Table) (place : TablePlace) → IsHere s t place → OnCompletion r (IsHere t u place) → OnCompletion r (IsHere s u place)
here_then r s t u place g h = OnCompletion-more r (IsHere t u place) (IsHere s u place) (λ x. here-trans s t u place g x) h

-- behind it own parts change alone
pub here_level : {A : Type 0} (r : Result A Interruption) (s t u : Table) (place : TablePlace) → OnCompletion r (IsHere s t place) → IsLevel t u → OnCompletion r (IsHere s u place)
here_level r s t u place h l = OnCompletion-more r (IsHere s t place) (IsHere s u place) (λ x. here-trans s t u place x (level_here t u place l)) h

-- an end that is passed on: of what was said of it, and of the call that ended so
pub here_err : {A : Type 0} (r : Result A Interruption) (i y : Interruption) (s t u : Table) (place : TablePlace) → r ≡ Err y → y ≡ i → IsHere s t place → Completes i (IsHere t u place) → OnCompletion r (IsHere s u place)
here_err r i y s t u place e same g h = completes_err r i y (IsHere t u place) (IsHere s u place) e same h (λ x. here-trans s t u place g x)

pub here_passed : {A B : Type 0} (r : Result A Interruption) (x : Result B Interruption) (i y : Interruption) (s t u : Table) (place : TablePlace) → r ≡ Err y → y ≡ i → x ≡ Err i → IsHere s t place → OnCompletion x (IsHere t u place) → OnCompletion r (IsHere s u place)
here_passed r x i y s t u place e same is g h = passed_err r x i y (IsHere t u place) (IsHere s u place) e same is h (λ z. here-trans s t u place g z)

-- ## What came to an ordinary text, and what was caught

pub here_text : (r : Result Text Interruption) (text : Text) (s t : Table) (place : TablePlace) → IsText r text → OnCompletion r (IsHere s t place) → IsHere s t place
here_text r text s t place is h = completed_text r text (IsHere s t place) is h

pub here_caught : (r : Result Text Interruption) (x : Result CodeCompletion Interruption) (c : CodeCompletion) (s t : Table) (place : TablePlace) → x ≡ Ok c → Catches r x → OnCompletion r (IsHere s t place) → IsHere s t place
here_caught r x c s t place e is h = completed_caught r c (IsHere s t place) (subst (λ (y : Result CodeCompletion Interruption). Catches r y) e is) h

-- what can't be caught is no completion
pub uncaught : (r : Result Text Interruption) (x : Result CodeCompletion Interruption) (i : Interruption) (P : Type 0) → x ≡ Err i → Catches r x → Completes i P
uncaught r x i P e is = by i (caught_err r x i (λ (z : Ending). Unit {0}) e is (IfRan-all r (λ (z : Ending). Unit {0}) (λ z. tt)))
  where
    by : (i : Interruption) → Breaks i (λ z. Unit {0} × IsQuitting z) → Completes i P
    by interruption.Memory b = tt
    by (interruption.Completed c) b = absurd b.1
    by (interruption.Stopped s) b = tt
    by (interruption.Exited n) b = tt
    by (interruption.Cut c) b = tt

-- ## Ends that are changed

pub here_left : (ended left : Result Text Interruption) (P : Type 0) → LeavesProc ended left → OnCompletion ended P → OnCompletion left P
here_left (Ok text) left P l p = subst (λ (x : Result Text Interruption). OnCompletion x P) (sym l) p
here_left (Err interruption.Memory) left P l p = subst (λ (x : Result Text Interruption). OnCompletion x P) (sym l) tt
here_left (Err (interruption.Completed c)) left P l p = on_completion left P p
here_left (Err (interruption.Stopped s)) left P l p = subst (λ (x : Result Text Interruption). OnCompletion x P) (sym l) tt
here_left (Err (interruption.Exited n)) left P l p = subst (λ (x : Result Text Interruption). OnCompletion x P) (sym l) tt
here_left (Err (interruption.Cut c)) left P l p = subst (λ (x : Result Text Interruption). OnCompletion x P) (sym l) tt

pub here_settled : (ended told : Result Text Interruption) (P : Type 0) → Settles ended told → OnCompletion ended P → OnCompletion told P
here_settled (Ok text) told P l p = subst (λ (x : Result Text Interruption). OnCompletion x P) (sym l) p
here_settled (Err interruption.Memory) told P l p = subst (λ (x : Result Text Interruption). OnCompletion x P) (sym l) tt
here_settled (Err (interruption.Completed c)) told P l p = on_completion told P p
here_settled (Err (interruption.Stopped s)) told P l p = subst (λ (x : Result Text Interruption). OnCompletion x P) (sym l) tt
here_settled (Err (interruption.Exited n)) told P l p = subst (λ (x : Result Text Interruption). OnCompletion x P) (sym l) tt
here_settled (Err (interruption.Cut c)) told P l p = subst (λ (x : Result Text Interruption). OnCompletion x P) (sym l) tt

pub here_left_file : (ended left : Result Text Interruption) (P : Type 0) → LeavesFile ended left → OnCompletion ended P → OnCompletion left P
here_left_file (Ok text) left P l p = subst (λ (x : Result Text Interruption). OnCompletion x P) (sym l) p
here_left_file (Err interruption.Memory) left P l p = subst (λ (x : Result Text Interruption). OnCompletion x P) (sym l) tt
here_left_file (Err (interruption.Completed c)) left P l p = on_completion left P p
here_left_file (Err (interruption.Stopped s)) left P l p = subst (λ (x : Result Text Interruption). OnCompletion x P) (sym l) tt
here_left_file (Err (interruption.Exited n)) left P l p = subst (λ (x : Result Text Interruption). OnCompletion x P) (sym l) tt
here_left_file (Err (interruption.Cut c)) left P l p = subst (λ (x : Result Text Interruption). OnCompletion x P) (sym l) tt

-- ## Bodies of loops

pub here_in : (r : Result Text Interruption) (c : Completion) (P : Type 0) → EndsIn r c → OnCompletion r P → P
here_in (Ok text) c P e p = p
here_in (Err interruption.Memory) c P e p = absurd e
here_in (Err (interruption.Completed d)) c P e p = p
here_in (Err (interruption.Stopped s)) c P e p = absurd e
here_in (Err (interruption.Exited n)) c P e p = absurd e
here_in (Err (interruption.Cut d)) c P e p = absurd e

pub here_turned : (after : After) (r : Result Text Interruption) (x : Result Bool Interruption) (P : Type 0) → Turns after r x → OnCompletion r P → OnCompletion x P
here_turned after r (Ok on) P t p = here_in r t.0 P t.1 p
here_turned after r (Err i) P t p = subst (λ (y : Result Text Interruption). OnCompletion y P) t.0 p

pub here_collected : (r : Result Text Interruption) (i : Interruption) (before after : List Text) (P : Type 0) → Collects r before after (Err i) → OnCompletion r P → Completes i P
here_collected r i before after P (inl t) p = subst (λ (y : Result Text Interruption). OnCompletion y P) t.0 p
here_collected r i before after P (inr t) p = Completes-all i P (here_in r t.0 P t.1 p)
