-- What contracts see of the run of a script.
use Rattle.std.specs.Prelude.{◌≡◌, ℕ, ◌+◌, ◌≤◌, ◌++◌, Bool, true, false, List, [], nat_le, Option}
use Rattle.std.specs.Prelude.{Some, None, is_some, Result, Ok, Err, IfOk}
use Rattle.tcl_partial_runs.specs.Beginnings.{Begun}
use Rattle.tcl_run_laws.specs.Budgets.{KeepsBudget}
use Rattle.tcl_core.specs.Endings.{Reply, ok}
use Rattle.tcl_core.specs.Endings.Reply.{Completed}
use Rattle.tcl_core.specs.Entries.{Answer}
use Rattle.tcl_core.specs.Entries.Entry.{Eval}
use Rattle.tcl_core.specs.Lives.{End as Ending, Whole, count_at, end_at, limit_at}
use Rattle.tcl_core.specs.Lives.End.{Completed_as, Stopped, Exits}
use Rattle.tcl_core.specs.Paths.{Path, Text}
use Rattle.tcl_core.specs.Trees.{Tree, Event, effect}
use Rattle.tcl_core.specs.Execution.{Crossings, event}
use Rattle.tcl_core.specs.Trees.What.{Done, Limited}
use Rattle.tcl_flow.specs.Stopping.{kind_of}
use Rattle.tcl_flow.specs.View.{completion_of}
use Rattle.tcl_host.specs.declared.reply.HostReply.{HostReply}
use Rattle.tcl_host.specs.declared.request.Request.{Request}
use Rattle.tcl_run_laws.specs.Replies.{Belongs}
use Rattle.tcl_language.specs.Instructions.{fits}
use Rattle.tcl_run.specs.Language.{language}
use Rattle.tcl_language.specs.Table.{serve}
use Rattle.tcl_run.specs.declared.interruption.Interruption.{Interruption}
use Rattle.tcl_run.specs.declared.interruption.Interruption.TheVariants as interruption
use Rattle.tcl_run.specs.Ends.{Interrupts}
use Rattle.tcl_run.specs.Outsides.{Going}
use Rattle.tcl_run.specs.Runs.{Comes, InUse, IsLoss, Ways, is_root, steps_at}
use Rattle.tcl_tree.specs.Own.{Own}
use Rattle.tcl_run_laws.specs.UnfinishedLaws.{IsBeginning}
use Rattle.tcl_tree.specs.TreeOf.{tree_of, marks_of, key_of}
use Rattle.tcl_tree.specs.declared.tree.Tree.{Tree as Table}
use Rattle.tcl_eval.specs.declared.running.End.{End}
use Rattle.tcl_eval.specs.declared.running.End.TheVariants as end
use Rattle.tcl_eval.specs.declared.running.OpenEnd.{OpenEnd}
use Rattle.tcl_eval.specs.declared.running.OpenEnd.TheVariants as open_end
use Rattle.tcl_eval.specs.declared.running.Refused.{Refused}
use Rattle.tcl_eval.specs.declared.running.Refused.TheVariants as refused

-- ## Before a run

-- the most steps that are counted
abbrev pub most_steps : ℕ
most_steps = 9223372036854775807

abbrev pub root_count : Table → ℕ
root_count t = count_at (tree_of t [])

abbrev pub root_limit : Table → Option ℕ
root_limit t = limit_at (tree_of t [])

-- the first of these that doesn't hold is why there is no run: the tree isn't broken, there is an
-- interpreter, its steps can be counted, and the script is short enough
abbrev pub first_of : Bool → Bool → Bool → Bool → Option Refused
first_of true there counts short = Some refused.Broken
first_of false false counts short = Some refused.NoInterpreter
first_of false true false short = Some refused.CountTooLarge
first_of false true true false = Some refused.TooLong
first_of false true true true = None

abbrev pub unfit : Table → Path → Text → ℕ → Option Refused
unfit t path script limit = first_of (marks_of t).broken (is_some (tree_of t path))
    (nat_le (root_count t + limit) most_steps) (fits script)

-- ## A run

-- how it ended, as whoever began it is told
abbrev pub ending_of : End → Ending
ending_of (end.Done c) = Completed_as (completion_of c)
ending_of (end.Stopped kind) = Stopped (kind_of kind)
ending_of (end.Exit n) = Exits n

-- how an open run did, where its outside didn't end it
abbrev pub open_ending : OpenEnd → Option Ending
open_ending (open_end.Ran e) = Some (ending_of e)
open_ending open_end.CutOff = None

-- no outside ended it
abbrev pub IsUncut : {E : Type 0} → Result OpenEnd E → Type 0
IsUncut (Ok (open_end.Ran e)) = Unit {0}
IsUncut (Ok open_end.CutOff) = Prim.⊥
IsUncut (Err f) = Unit {0}

-- its end then
abbrev pub ran_of : Result OpenEnd Refused → Result End Refused
ran_of (Ok (open_end.Ran e)) = Ok e
ran_of (Ok open_end.CutOff) = Err refused.Memory
ran_of (Err f) = Err f

-- The script is one entry into the interpreter at the path, in the tree whose root may be counted
-- so far; then the root has its own limit again.
pub record IsRun {S : Type 0} (goes : Going S) (old : Table) (o : S) (path : Path) (script : Text)
    (most : ℕ) (new : Table) (z : S) (e : End) : Type 0 where
  pub during : Tree Own
  pub reply : Reply
  pub runs : Comes goes (language (marks_of old).integers)
      (effect [] (Limited (Some most)) (tree_of old)) o path
      (serve (marks_of old).integers (Eval script)) during z reply
  pub after : tree_of new ≡ effect [] (Limited (root_limit old)) during
  pub ends : end_at path reply ≡ Some (ending_of e)

-- The same over any outside: it is told how the entry ends, and may end it itself.
pub record IsOpenRun {S : Type 0} (goes : Going S) (old : Table) (o : S) (path : Path)
    (script : Text) (most : ℕ) (new : Table) (z : S) (e : OpenEnd) : Type 0 where
  pub during : Tree Own
  pub between : S
  pub reply : Reply
  pub runs : Comes goes (language (marks_of old).integers)
      (effect [] (Limited (Some most)) (tree_of old)) o path
      (serve (marks_of old).integers (Eval script)) during between reply
  pub told : goes during between None (event path (Done None reply)) z
  pub after : tree_of new ≡ effect [] (Limited (root_limit old)) during
  pub ends : end_at path reply ≡ open_ending e

-- The run is the whole evaluation of the script at the path, with so many counted steps, for
-- replies that belong to the host.
pub record IsWhole {S : Type 0} (step : S → Request → HostReply → S → Type 0) (old : Table) (o : S)
    (path : Path) (script : Text) (limit : ℕ) (new : Table) (z : S) (e : End) : Type 0 where
  pub replies : List Answer
  pub outs : List (Event Own)
  pub whole : Whole (language (marks_of old).integers) (tree_of old) path script limit replies
      (ending_of e) outs (tree_of new)
  pub belongs : Belongs step o outs replies z

-- It keeps the budget of each interpreter: of all that happens in that whole evaluation, and of the
-- trees before and after it, all is so that `KeepsBudget` says of steps, counts, limits, stops and
-- depths.
pub record IsBudgeted {S : Type 0} (step : S → Request → HostReply → S → Type 0) (old : Table)
    (o : S) (path : Path) (script : Text) (limit : ℕ) (new : Table) (z : S) (e : End) : Type 0 where
  pub whole : IsWhole step old o path script limit new z e
  pub budget : KeepsBudget (tree_of old) limit whole.whole.tape (tree_of new)

-- What becomes of counts in a run of at most so many counted steps at the path, however it ends,
-- for want of memory too. None falls of those who stood at the path or above it, nor of any who was
-- in use, unless it was deleted: of each that stands there still, under its key. The top can't be
-- deleted. And the root's rises by at most so many. (The top of a copied part of a tree is no root,
-- and an outside may set its limit in the run. A top stays what it is.)
pub record KeepsCounts (old : Table) (path : Path) (limit : ℕ) (new : Table) : Type 0 where
  pub above : (a b : Path) (k : ℕ) → a ++ b ≡ path → key_of old a ≡ Some k → key_of new a ≡ Some k →
      steps_at (tree_of old) a ≤ steps_at (tree_of new) a
  pub in_use : (q : Path) (k : ℕ) → InUse (tree_of old) q → key_of old q ≡ Some k →
      key_of new q ≡ Some k → steps_at (tree_of old) q ≤ steps_at (tree_of new) q
  pub rises : root_count old ≤ root_count new
  pub root : is_root (tree_of old []) ≡ true → root_count new ≤ root_count old + limit
  pub top : is_root (tree_of new []) ≡ is_root (tree_of old [])

-- The script was given up on its way, as for want of memory, with the outside in the last state
-- there; since then it is what may have become of that.
pub record IsGivenUp {S : Type 0} (ways : Ways S) (old : Table) (o : S) (path : Path)
    (script : Text) (most : ℕ) (z : S) : Type 0 where
  pub last : S
  pub begun : Begun (Crossings ways.goes) (language (marks_of old).integers)
      (effect [] (Limited (Some most)) (tree_of old)) o path
      (serve (marks_of old).integers (Eval script)) last
  pub lost : IsLoss ways.loses last z

-- What the host was asked until a script was given up, with its replies, is what the whole
-- evaluation of the script at the path asks it first, whatever replies follow.
abbrev pub AsksFirst : {S : Type 0} → (S → Request → HostReply → S → Type 0) → Table → S → Path →
    Text → ℕ → S → Type 0
AsksFirst step old o path script limit z = IsBeginning step (language (marks_of old).integers)
    (tree_of old) path script limit o z

-- what is said of an end that there is
abbrev pub IfSaid : Result Text Interruption → (Reply → Type 0) → Type 0
IfSaid (Ok text) P = P (Completed (ok text))
IfSaid (Err interruption.Memory) P = Prim.⊥
IfSaid (Err i) P = Interrupts i P

-- an end as whoever began the run at the path is told it
abbrev pub Tells : {E : Type 0} → Path → Result Text Interruption → Result OpenEnd E → Type 0
Tells path ended result = IfOk result (λ e. IfSaid ended (λ r. end_at path r ≡ open_ending e))
