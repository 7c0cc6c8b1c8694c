-- What contracts see of an evaluation that is watched.
use Rattle.std.specs.Prelude.{◌≡◌, ℕ, ◌≤◌, ◌+◌, ◌&&◌, Bool, true, false, List, [], ◌∷◌, ◌++◌}
use Rattle.std.specs.Prelude.{nat_le, Option, Some, None, is_some, Result, Ok, Err}
use Rattle.tcl_core.specs.Endings.{Reply}
use Rattle.tcl_core.specs.Entries.Entry.{Eval}
use Rattle.tcl_core.specs.Laws.{AreFree, ArePlain, AsLimited, AsksNothing, IsSafeAt}
use Rattle.tcl_core.specs.Laws.{IsOpenOrDone, IsSpared, IsStanding, IsUnended, Obeys, Unasked}
use Rattle.tcl_core.specs.Laws.{after, rest}
use Rattle.tcl_core.specs.Lives.{Outcome, React, count_at, end_at, limit_at, limited, outcome_of}
use Rattle.tcl_core.specs.Lives.{outs_of}
use Rattle.tcl_core.specs.Lives.Outcome.{Finished}
use Rattle.tcl_core.specs.Paths.{Path, Place, Text, strip}
use Rattle.tcl_core.specs.Runs.{Runs, Visits}
use Rattle.tcl_core.specs.Tables.{exposes}
use Rattle.tcl_core.specs.Execution.{Chain, Crossings, before, event}
use Rattle.tcl_core.specs.Trees.{Event, Node, Tree, at, effect}
use Rattle.tcl_core.specs.Trees.What.{Dropped, Limited}
use Rattle.tcl_core.specs.Views.{moves_of, steps_of, view}
use Rattle.tcl_eval.specs.Running.{IsGivenUp, IsRun, IsWhole, ending_of, first_of, most_steps}
use Rattle.tcl_eval.specs.Running.{root_count, root_limit}
use Rattle.tcl_eval.specs.declared.running.End.{End}
use Rattle.tcl_eval.specs.declared.running.Refused.{Refused}
use Rattle.tcl_eval.specs.declared.running.Refused.TheVariants as refused
use Rattle.tcl_host.specs.declared.reply.HostReply.{HostReply}
use Rattle.tcl_host.specs.declared.request.Request.{Request}
use Rattle.tcl_isolation.specs.Laws.{DoesJust, DoesUntil, IsWithin, Suffices}
use Rattle.tcl_isolation.specs.Limits.{AreLowering}
use Rattle.tcl_isolation.specs.Visits.{CallsNobody, IsBelowTheTop, visit}
use Rattle.tcl_core.specs.Programs.{Table as LanguageTable}
use Rattle.tcl_language.specs.Instructions.{Instr, fits}
use Rattle.tcl_run.specs.Language.{language}
use Rattle.tcl_language.specs.Safety.{plain}
use Rattle.tcl_run.specs.Outsides.{hosted}
use Rattle.tcl_run.specs.Runs.{ways}
use Rattle.tcl_tree.specs.Own.{Own}
use Rattle.tcl_tree.specs.TreeOf.{marks_of, tree_of}
use Rattle.tcl_tree.specs.declared.tree.Tree.{Tree as Table}
use Rattle.tcl_recorder.specs.Boundary.{boundary}
use Rattle.tcl_recorder.specs.Laws.{WatchedEntry}
use Rattle.tcl_recorder.specs.Records.{RecordView}
use Rattle.tcl_recorder.specs.declared.recorder.Recorder.{Recorder}
use Rattle.tcl_replay.specs.declared.watching.Deletion.{Deletion}
use Rattle.tcl_replay.specs.declared.watching.Unwatched.{Unwatched}
use Rattle.tcl_replay.specs.declared.watching.Unwatched.TheVariants as unwatched

-- ## Before it

-- The first of these that doesn't hold is why there is none: the tree isn't broken, interpreters
-- stand at the path and where it is watched, the steps can be counted, and the script is short
-- enough.
abbrev pub unwatchable : Table → Path → Text → ℕ → Path → Option Refused
unwatchable t path script limit watched = first_of (marks_of t).broken
    (is_some (tree_of t path) && is_some (tree_of t watched))
    (nat_le (root_count t + limit) most_steps) (fits script)

-- ## What it answers

-- what is answered where the run ended so, with this record, and the watched interpreter was
-- deleted or not
abbrev pub answer_if : Bool → End → RecordView → Result (End × RecordView) Unwatched
answer_if true e r = Err (unwatched.Deleted (record { end = e; until = r }))
answer_if false e r = Ok (e, r)

abbrev pub answer_of : Result End Refused → RecordView → Bool → Result (End × RecordView) Unwatched
answer_of (Ok e) r deleted = answer_if deleted e r
answer_of (Err f) r deleted = Err (unwatched.Refused f)

-- what is said of the end of a run that came to its end
abbrev pub IfEnds : Result (End × RecordView) Unwatched → (End → Type 0) → Type 0
IfEnds (Ok r) P = P r.0
IfEnds (Err (unwatched.Deleted d)) P = P d.end
IfEnds (Err (unwatched.Refused f)) P = Unit {0}

-- where the watched interpreter was deleted in it, of the end and of the record until then
abbrev pub IfDeleted : Result (End × RecordView) Unwatched → (Deletion → Type 0) → Type 0
IfDeleted (Ok r) P = Unit {0}
IfDeleted (Err (unwatched.Deleted d)) P = P d
IfDeleted (Err (unwatched.Refused f)) P = Unit {0}

-- of the refusal where there was none
abbrev pub IfRefused : Result (End × RecordView) Unwatched → (Refused → Type 0) → Type 0
IfRefused (Ok r) P = Unit {0}
IfRefused (Err (unwatched.Deleted d)) P = Unit {0}
IfRefused (Err (unwatched.Refused f)) P = P f

-- ## The run and its record

-- What is asked: that this script is evaluated in the interpreter at the path, over a tree and an
-- outside as they stood, with so many steps at most, and the interpreter at `watched` is watched.
pub record Watching (S : Type 0) : Type 0 where
  pub tree : Table
  pub outside : S
  pub path : Path
  pub script : Text
  pub limit : ℕ
  pub watched : Path

abbrev pub watching : {S : Type 0} → Table → S → Path → Text → ℕ → Path → Watching S
watching t o path script limit watched = record {
  tree = t;
  outside = o;
  path = path;
  script = script;
  limit = limit;
  watched = watched;
}

module _ {S : Type 0} (w : Watching S) where
  -- the language of its tree
  abbrev pub spoken : LanguageTable Own Instr
  spoken = language (marks_of w.tree).integers

  -- its tree, in which the root may be counted so many steps more
  abbrev pub lent : Tree Own
  lent = limited w.limit (tree_of w.tree)

  -- all that happens in it, from the entry of the script to its end
  abbrev pub visited : List (Event Own) → Reply → List (Event Own)
  visited events reply = visit w.path (Eval w.script) events reply

-- A run of the script is one entry into the interpreter at the path, in the tree whose root may be
-- counted so many steps more; then the root has its own limit again. This happens in it, it takes
-- the host from one state to the other, and the crossings are those of the boundary of the
-- interpreter that is watched, which stood there at first. Just this is what happens in the whole
-- evaluation of the script, with replies that belong to the host.
pub record IsRecorded {S : Type 0} (step : S → Request → HostReply → S → Type 0) (w : Watching S)
    (crossings : List (Event Own)) (new : Table) (z : S) (e : End) : Type 0 where
  pub during : Tree Own
  pub reply : Reply
  pub events : List (Event Own)
  pub visits : Visits (spoken w) (Runs (spoken w)) (before (lent w) (visited w events reply)) None
      w.path (Eval w.script) (before during []) (Some reply)
  pub outside : Chain (Crossings (hosted step)) [] (lent w) w.outside events [] during z
  pub recorded : crossings ≡ boundary w.watched (visited w events reply)
  pub node : Node Own
  pub stood : tree_of w.tree w.watched ≡ Some node
  pub after : tree_of new ≡ effect [] (Limited (root_limit w.tree)) during
  pub ends : end_at w.path reply ≡ Some (ending_of e)
  pub whole : IsWhole step w.tree w.outside w.path w.script w.limit new z e
  pub taped : whole.whole.tape ≡ visited w events reply

module _ {S : Type 0} (step : S → Request → HostReply → S → Type 0) (w : Watching S) where
  -- all that happened in it
  abbrev pub happened : (crossings : List (Event Own)) (new : Table) (z : S) (e : End) →
      IsRecorded step w crossings new z e → List (Event Own)
  happened crossings new z e run = visited w run.events run.reply

  -- There is such a run in which the watched interpreter isn't dropped, and of which this is so.
  abbrev pub IsRecordWith : (crossings : List (Event Own)) (new : Table) (z : S) (e : End) →
      (List (Event Own) → Type 0) → Type 0
  IsRecordWith crossings new z e P = (run : IsRecorded step w crossings new z e) ×
      IsSpared w.watched (happened crossings new z e run) × P (happened crossings new z e run)

  -- The record has the crossings of the watched interpreter's boundary in the run, in which that
  -- one isn't dropped.
  abbrev pub IsRecord : RecordView → Table → S → End → Type 0
  IsRecord r new z e = (r.watched ≡ w.watched) × IsRecordWith r.crossings new z e (λ τ. Unit {0})

  -- There is such a run in which the watched interpreter is dropped: it, or one above it, first at
  -- `dropped`. The record has the crossings of its boundary in the run until then.
  pub record IsDeletion (r : RecordView) (new : Table) (z : S) (e : End) : Type 0 where
    pub crossings : List (Event Own)
    pub run : IsRecorded step w crossings new z e
    pub first : List (Event Own)
    pub dropped : Place
    pub below : Path
    pub last : List (Event Own)
    pub parts : happened crossings new z e run ≡ first ++ event dropped Dropped ∷ last
    pub falls : strip dropped w.watched ≡ Some below
    pub spared : IsSpared w.watched first
    pub watched : r.watched ≡ w.watched
    pub recorded : r.crossings ≡ boundary w.watched first

-- ## What the watched interpreter does by itself

-- Below the top, where no entry was ended from outside, the subtree by itself does with the moves
-- of the record what the record tells of it, and leaves the subtree that stands there afterwards:
-- with every budget that isn't less than the rise of its top's count.
abbrev pub Reacts : Table → Path → List (Event Own) → Table → Type 0
Reacts old c crossings new = IsBelowTheTop c → IsUnended crossings → (m : ℕ) →
    Suffices m (tree_of old c) (tree_of new c) →
    React (language (marks_of old).integers) (at (tree_of old) c) (moves_of crossings) m
    (outcome_of crossings Finished) (outs_of crossings) (at (tree_of new) c)

-- And it does nothing else with them.
abbrev pub ReactsSo : Table → Path → List (Event Own) → Table → Type 0
ReactsSo old c crossings new = IsBelowTheTop c → IsUnended crossings → (m : ℕ) →
    Suffices m (tree_of old c) (tree_of new c) →
    (x : Outcome) (told : List (Event Own)) (W : Tree Own) →
    React (language (marks_of old).integers) (at (tree_of old) c) (moves_of crossings) m x told W →
    (x ≡ outcome_of crossings Finished) × (told ≡ outs_of crossings) × (W ≡ at (tree_of new) c)

-- Up to each place of the record before which no entry was ended from outside, the subtree by
-- itself does with the moves what the record tells. Where control comes in there, with the moves
-- before it waits at its open call, or no call is open, and it tells just what the record tells
-- before; where the answer that comes ends the call from outside, with all moves of the record it
-- is ended so and tells just that too; and it does nothing else with them. Where the record tells
-- something there, it does so with the moves but the last, which is the last crossing before.
-- Wherever the place is, what any reaction to the moves before tells begins with what the record
-- tells before.
abbrev pub ReactsUntil : Table → Path → List (Event Own) → Table → Type 0
ReactsUntil old c crossings new = IsBelowTheTop c → (early late : List (Event Own)) →
    crossings ≡ early ++ late → IsUnended early → (m : ℕ) →
    Suffices m (tree_of old c) (tree_of new c) →
    DoesUntil (language (marks_of old).integers) (at (tree_of old) c) early late m

-- Where it was deleted, it or one above it, and no entry was ended from outside until then: with
-- the moves of the record until then the subtree by itself has done what it was asked for, or it
-- waits at a call that is open; it tells what the record tells, and leaves the subtree that stood
-- there when it was deleted. So it is with every budget that isn't less than that of the whole run;
-- and it does nothing else with these moves.
abbrev pub ReactsToDrop : {S : Type 0} → (S → Request → HostReply → S → Type 0) → Watching S →
    RecordView → Table → S → End → Type 0
ReactsToDrop step w r new z e = IsBelowTheTop w.watched → IsUnended r.crossings → (m : ℕ) →
    w.limit ≤ m → (d : IsDeletion step w r new z e) × (x : Outcome) × IsOpenOrDone x ×
    DoesJust (spoken w) (at (tree_of w.tree) w.watched) (moves_of r.crossings) m x
    (outs_of r.crossings) (at (after d.first (lent w)) w.watched)

-- ## What is outside of it

-- Where the script was evaluated in the watched subtree and nobody there called outside it, all
-- outside it, counts and depths above it aside, is afterwards what it was; and so is the host.
abbrev pub LeavesTheOutside : {S : Type 0} → Table → S → Path → Path → List (Event Own) → Table →
    S → Type 0
LeavesTheOutside old o path c crossings new z = (u : Path) → path ≡ c ++ u → CallsNobody crossings →
    (rest (tree_of new) c ≡ rest (tree_of old) c) × (z ≡ o)

-- Where the watched interpreter is safe, in its subtree nobody has a host command, and no entry of
-- the record exposes one or invokes a hidden one, the record has no request of the host.
abbrev pub AsksTheHostNothing : Table → Path → List (Event Own) → Type 0
AsksTheHostNothing old c crossings = IsBelowTheTop c → IsSafeAt (tree_of old) c → ArePlain plain
    (at (tree_of old) c) → AreFree exposes (moves_of crossings) → AsksNothing crossings

-- ## Counted steps

-- an interpreter that stands has the limits that it had
abbrev pub KeepsLimits : Option (Node Own) → Option (Node Own) → Type 0
KeepsLimits was is = (n : Node Own) → was ≡ Some n → (m : Node Own) × (is ≡ Some m) ×
    (m.limit ≡ n.limit) × (m.depth_limit ≡ n.depth_limit)

module _ {S : Type 0} (step : S → Request → HostReply → S → Type 0) (w : Watching S) where
  -- the interpreter at q below the watched one, before and afterwards
  abbrev pub was_at : Path → Option (Node Own)
  was_at q = tree_of w.tree (w.watched ++ q)

  abbrev pub is_at : Table → Path → Option (Node Own)
  is_at new q = tree_of new (w.watched ++ q)

  -- The watched interpreter's count rises by the steps that were made in its subtree.
  abbrev pub Counts : RecordView → Table → S → End → Type 0
  Counts r new z e = IsBelowTheTop w.watched → IsRecordWith step w r.crossings new z e
      (λ τ. count_at (tree_of new w.watched)
      ≡ count_at (tree_of w.tree w.watched) + steps_of (view w.watched τ))

  -- Once a stop that names the watched interpreter or one above it is raised in its subtree, or
  -- comes into it as an answer, no step is made there before the stop has left it.
  abbrev pub Stops : RecordView → Table → S → End → Type 0
  Stops r new z e = IsRecordWith step w r.crossings new z e (λ τ. Obeys w.watched τ)

  -- No script in a safe watched interpreter changes a limit. The interpreter at q below it, for
  -- which no entry of the record asks a limit, has the limits that it had, or is new and has those
  -- of a new one; and the ones that it had where it is neither made nor dropped, as the watched
  -- interpreter itself is not.
  abbrev pub LimitsStay : RecordView → Table → S → End → Type 0
  LimitsStay r new z e = IsBelowTheTop w.watched → IsSafeAt (tree_of w.tree) w.watched →
      (Unasked [] (moves_of r.crossings) →
      KeepsLimits (tree_of w.tree w.watched) (tree_of new w.watched)) ×
      IsRecordWith step w r.crossings new z e
      (λ τ. (q : Path) → Unasked q (moves_of r.crossings) →
      AsLimited (was_at q) (is_at new q) ×
      (IsStanding (w.watched ++ q) τ → KeepsLimits (was_at q) (is_at new q)))

-- With a count limit that no entry of the record raises or takes away, the watched interpreter,
-- safe or trusted, is counted at most to the greater of the limit and the count before: to each
-- number that both are at most.
abbrev pub CountStaysWithin : Table → Path → List (Event Own) → Table → Type 0
CountStaysWithin old c crossings new = IsBelowTheTop c → (l b : ℕ) →
    limit_at (tree_of old c) ≡ Some l → AreLowering l (moves_of crossings) → l ≤ b →
    count_at (tree_of old c) ≤ b →
    IsWithin (tree_of new c) l b

-- ## One fact of the run, from which the rest follows

-- The run with a recorder, which is told of its entry and of its end; and the whole evaluation in
-- which the same happens.
pub record IsEntryRun {S : Type 0} (step : S → Request → HostReply → S → Type 0) (old : Table)
    (o : Recorder S) (path : Path) (script : Text) (limit : ℕ) (new : Table) (z : Recorder S)
    (e : End) : Type 0 where
  pub during : Tree Own
  pub reply : Reply
  pub entry : WatchedEntry (hosted step) (language (marks_of old).integers)
      (limited limit (tree_of old)) o path (Eval script) during z reply
  pub runs : Runs (language (marks_of old).integers)
      (before (limited limit (tree_of old)) entry.events) path
      ((language (marks_of old).integers).entry (Eval script)) (before during []) (Some reply)
  pub run : IsRun (hosted step) old o.outside path script (root_count old + limit) new z.outside e
  pub after : tree_of new ≡ effect [] (Limited (root_limit old)) during
  pub ends : end_at path reply ≡ Some (ending_of e)
  pub whole : IsWhole step old o.outside path script limit new z.outside e
  pub taped : whole.whole.tape ≡ visit path (Eval script) entry.events reply

-- the run with a recorder of the interpreter at a path, which holds the outside and has no crossing
-- yet
abbrev pub recorder_of : {S : Type 0} → S → Path → Recorder S
recorder_of o watched = record {
  outside = o;
  kept = record { watched = watched; crossings = [] };
  deleted = false;
  incomplete = false;
}

-- What an evaluation answers that was recorded: there was such a run; or memory was wanted, and it
-- was given up on its way, with the host in the last state there.
pub record Watches {S : Type 0} (step : S → Request → HostReply → S → Type 0) (w : Watching S)
    (new : Table) (z : S) (result : Result (End × RecordView) Unwatched) : Type 0 where
  pub memory : IfRefused result (λ f. (f ≡ refused.Memory) × ((marks_of new).broken ≡ true))
  pub given_up : IfRefused result (λ f. IsGivenUp (ways (hosted step) (λ a b. b ≡ a)) w.tree
      w.outside w.path w.script (root_count w.tree + w.limit) z)
  pub made : IfEnds result (λ e. (kept : RecordView) × (deleted : Bool) ×
      (result ≡ answer_if deleted e kept) ×
      IsEntryRun step w.tree (recorder_of w.outside w.watched) w.path w.script w.limit new
      (record { outside = z; kept = kept; deleted = deleted; incomplete = false }) e)
