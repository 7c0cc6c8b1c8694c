-- What contracts see of an evaluation that is watched over any outside.
use Rattle.std.specs.Prelude.{◌≡◌, ℕ, ◌≤◌, ◌+◌, true, false, Bool, List, [], Some, None, Result, Ok}
use Rattle.std.specs.Prelude.{Err}
use Rattle.tcl_core.specs.Endings.{Reply}
use Rattle.tcl_core.specs.Entries.Entry.{Eval}
use Rattle.tcl_core.specs.Execution.{event}
use Rattle.tcl_core.specs.Laws.{IsOpenOrDone, IsUnended, after}
use Rattle.tcl_core.specs.Lives.{Outcome, end_at, limited, outs_of}
use Rattle.tcl_core.specs.Paths.{Path, Text}
use Rattle.tcl_core.specs.Trees.{Event, Node, Tree, at, effect}
use Rattle.tcl_core.specs.Trees.What.{Done, In, Limited}
use Rattle.tcl_core.specs.Views.{moves_of, steps_of, view}
use Rattle.tcl_eval.specs.Running.{IsGivenUp, IsOpenRun, open_ending, root_count, root_limit}
use Rattle.tcl_eval.specs.declared.running.OpenEnd.{OpenEnd}
use Rattle.tcl_eval.specs.declared.running.Refused.{Refused}
use Rattle.tcl_eval.specs.declared.running.Refused.TheVariants as refused
use Rattle.tcl_isolation.specs.Laws.{DoesJust}
use Rattle.tcl_isolation.specs.Visits.{DroppedVisit, IsBelowTheTop, WatchedVisit}
use Rattle.tcl_run.specs.Language.{language}
use Rattle.tcl_recorder.specs.Recording.{noted, recorded}
use Rattle.tcl_recorder.specs.Records.{RecordView}
use Rattle.tcl_replay.specs.declared.open_watching.OpenDeletion.{OpenDeletion}
use Rattle.tcl_replay.specs.declared.open_watching.OpenUnwatched.{OpenUnwatched}
use Rattle.tcl_replay.specs.declared.open_watching.OpenUnwatched.TheVariants as unwatched
use Rattle.tcl_replay.specs.Watched.{recorder_of}
use Rattle.tcl_run.specs.Outsides.{Going}
use Rattle.tcl_run.specs.Runs.{ways}
use Rattle.tcl_tree.specs.Own.{Own}
use Rattle.tcl_tree.specs.TreeOf.{marks_of, tree_of}
use Rattle.tcl_tree.specs.declared.tree.Tree.{Tree as Table}

-- ## What it answers

-- what is answered where the run ended so, with this record, and the watched interpreter was
-- deleted or not
abbrev pub answer_if : Bool → OpenEnd → RecordView →
    Result (OpenEnd × RecordView) OpenUnwatched
answer_if true e r = Err (unwatched.Deleted (record { end = e; until = r }))
answer_if false e r = Ok (e, r)

abbrev pub answer_of : Result OpenEnd Refused → RecordView → Bool →
    Result (OpenEnd × RecordView) OpenUnwatched
answer_of (Ok e) r deleted = answer_if deleted e r
answer_of (Err f) r deleted = Err (unwatched.Refused f)

-- what is said of the end of a run that came to its end
abbrev pub IfEnds : Result (OpenEnd × RecordView) OpenUnwatched → (OpenEnd → Type 0) → Type 0
IfEnds (Ok r) P = P r.0
IfEnds (Err (unwatched.Deleted d)) P = P d.end
IfEnds (Err (unwatched.Refused f)) P = Unit {0}

-- where the watched interpreter was deleted in it, of the end and of the record until then
abbrev pub IfDeleted : Result (OpenEnd × RecordView) OpenUnwatched → (OpenDeletion → Type 0) →
    Type 0
IfDeleted (Ok r) P = Unit {0}
IfDeleted (Err (unwatched.Deleted d)) P = P d
IfDeleted (Err (unwatched.Refused f)) P = Unit {0}

-- of the refusal where there was none
abbrev pub IfRefused : Result (OpenEnd × RecordView) OpenUnwatched → (Refused → Type 0) → Type 0
IfRefused (Ok r) P = Unit {0}
IfRefused (Err (unwatched.Deleted d)) P = Unit {0}
IfRefused (Err (unwatched.Refused f)) P = P f

-- ## The run and its record

-- A run of the script is one entry into the interpreter at the path, in the tree whose root may be
-- counted so many steps more; then the root has its own limit again. What happens in it takes the
-- outside from one state to another, and its end from there to the last. The crossings are those
-- of the boundary of the interpreter at `watched`, which stood there at first and isn't dropped.
pub record IsOpenRecorded {S : Type 0} (goes : Going S) (old : Table) (o : S) (path : Path)
    (script : Text) (limit : ℕ) (watched : Path) (crossings : List (Event Own)) (new : Table)
    (z : S) (e : OpenEnd) : Type 0 where
  pub during : Tree Own
  pub between : S
  pub reply : Reply
  pub visited : WatchedVisit goes (language (marks_of old).integers)
      (limited limit (tree_of old)) o path (Eval script) watched crossings during between reply
  pub told : goes during between None (event path (Done None reply)) z
  pub node : Node Own
  pub stood : tree_of old watched ≡ Some node
  pub after : tree_of new ≡ effect [] (Limited (root_limit old)) during
  pub ends : end_at path reply ≡ open_ending e

-- The record has the crossings of such a run.
abbrev pub IsOpenRecord : {S : Type 0} → Going S → Table → S → Path → Text → ℕ → Path →
    RecordView → Table → S → OpenEnd → Type 0
IsOpenRecord goes old o path script limit watched r new z e = (r.watched ≡ watched) ×
    IsOpenRecorded goes old o path script limit watched r.crossings new z e

-- The record has the crossings of such a run in which the watched interpreter is dropped, it or one
-- above it, up to where first it is.
pub record IsOpenDeletion {S : Type 0} (goes : Going S) (old : Table) (o : S) (path : Path)
    (script : Text) (limit : ℕ) (watched : Path) (r : RecordView) (new : Table) (z : S)
    (e : OpenEnd) : Type 0 where
  pub during : Tree Own
  pub between : S
  pub reply : Reply
  pub visited : DroppedVisit goes (language (marks_of old).integers)
      (limited limit (tree_of old)) o path (Eval script) watched r.crossings during between reply
  pub told : goes during between None (event path (Done None reply)) z
  pub same : r.watched ≡ watched
  pub node : Node Own
  pub stood : tree_of old watched ≡ Some node
  pub after : tree_of new ≡ effect [] (Limited (root_limit old)) during
  pub ends : end_at path reply ≡ open_ending e

-- Where it was deleted, below the top, and no entry was ended from outside until then: with the
-- moves of the record until then the subtree by itself has done what it was asked for, or it waits
-- at a call that is open; it tells what the record tells, and leaves the subtree that stood there
-- when it was deleted. So it is with every budget that isn't less than the steps made there until
-- then; and it does nothing else with these moves.
abbrev pub ReactsToDrop : {S : Type 0} → Going S → Table → S → Path → Text → ℕ → Path →
    RecordView → Table → S → OpenEnd → Type 0
ReactsToDrop goes old o path script limit watched r new z e = IsBelowTheTop watched →
    IsUnended r.crossings → (d : IsOpenDeletion goes old o path script limit watched r new z e) ×
    ((m : ℕ) → steps_of (view watched d.visited.first) ≤ m → (x : Outcome) × IsOpenOrDone x ×
    DoesJust (language (marks_of old).integers) (at (tree_of old) watched) (moves_of r.crossings) m
    x (outs_of r.crossings) (at (after d.visited.first (limited limit (tree_of old))) watched))

-- What an evaluation answers that was recorded: memory was wanted, and it was given up on its way;
-- or there was a run with a recorder, which was told of the entry and of its end.
pub record Watches {S : Type 0} (goes : Going S) (loses : S → S → Type 0) (old : Table) (o : S)
    (path : Path) (script : Text) (limit : ℕ) (watched : Path) (new : Table) (z : S)
    (result : Result (OpenEnd × RecordView) OpenUnwatched) : Type 0 where
  pub memory : IfRefused result (λ f. (f ≡ refused.Memory) × ((marks_of new).broken ≡ true))
  pub given_up : IfRefused result (λ f. IsGivenUp (ways goes loses) old o path script
      (root_count old + limit) z)
  pub made : IfEnds result (λ e. (kept : RecordView) × (deleted : Bool) ×
      (result ≡ answer_if deleted e kept) ×
      IsOpenRun (recorded goes) old
      (noted (recorder_of o watched) (event path (In None (Eval script)))) path script
      (root_count old + limit) new
      (record { outside = z; kept = kept; deleted = deleted; incomplete = false }) e)
