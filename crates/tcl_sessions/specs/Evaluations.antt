-- What contracts see of evaluations that may wait.
use Rattle.std.specs.Prelude.{◌≡◌, ℕ, ◌+◌, ◌⊎◌, [], Option, Some, None, Result, Ok, Err, IsSome}
use Rattle.std.specs.Option.{option_map}
use Rattle.tcl_core.specs.Paths.{Path}
use Rattle.tcl_eval.specs.Running.{IsOpenRun, root_count, unfit}
use Rattle.tcl_eval.specs.declared.running.End.{End}
use Rattle.tcl_eval.specs.declared.running.OpenEnd.{OpenEnd}
use Rattle.tcl_eval.specs.declared.running.OpenEnd.TheVariants.{Ran, CutOff}
use Rattle.tcl_eval.specs.declared.running.Refused.{Refused}
use Rattle.tcl_replay.specs.declared.open_watching.OpenUnwatched.{OpenUnwatched}
use Rattle.tcl_replay.specs.declared.open_watching.OpenUnwatched.TheVariants as unwatched
use Rattle.tcl_recorder.specs.Records.{RecordView}
use Rattle.tcl_replay.specs.Watched.{Reacts, unwatchable}
use Rattle.tcl_sessions.specs.Outcomes.{ShowsCall, ShowsEnd}
use Rattle.tcl_sessions.specs.Refusals.{of_refused}
use Rattle.tcl_sessions.specs.Standing.{begun_again, goes}
use Rattle.tcl_sessions.specs.declared.evaluation.Told.{Told}
use Rattle.tcl_sessions.specs.declared.evaluation.Evaluation.{Evaluation}
use Rattle.tcl_sessions.specs.declared.outcome.Outcome.{Outcome}
use Rattle.tcl_sessions.specs.declared.outcome.Outcome.TheVariants.{Open}
use Rattle.tcl_sessions.specs.declared.outcome.Report.{Report}
use Rattle.tcl_sessions.specs.declared.refusal.Refusal.{Refusal}
use Rattle.tcl_sessions.specs.declared.refusal.Refusal.TheVariants.{CallOpen, Memory}
use Rattle.tcl_sessions.specs.declared.session.Session.{Session}
use Rattle.tcl_sessions.specs.declared.session.Watch.{Watch}
use Rattle.tcl_sessions.specs.declared.session.Watch.TheVariants as watch
use Rattle.tcl_sessions.specs.declared.standing.OpenCall.{OpenCall}
use Rattle.tcl_sessions.specs.declared.standing.Standing.{Standing}
use Rattle.tcl_tree.specs.TreeOf.{marks_of, tree_of}
use Rattle.tcl_tree.specs.declared.tree.Tree.{Tree as Table}

-- the path of the watched interpreter
abbrev pub watched_of : Evaluation → Option Path
watched_of e = option_map (λ w. w.items) e.watched

-- ## Why there is none

-- why an evaluation would be refused, want of memory aside
abbrev pub unfit_for : Table → Evaluation → Option Path → Option Refused
unfit_for t e None = unfit t e.path.items e.script e.limit
unfit_for t e (Some w) = unwatchable t e.path.items e.script e.limit w

-- it is for that, or for want of memory
abbrev pub IsUnfit : Table → Evaluation → Option Path → Refusal → Type 0
IsUnfit t e w f = (f ≡ Memory) ⊎ ((u : Refused) × (f ≡ of_refused u) × (unfit_for t e w ≡ Some u))

-- ## Its run

-- What there is of a record: none where nobody is watched; else that by which the watched
-- interpreter reacted, or none where it was deleted.
abbrev pub IsWatch : Table → Option Path → Watch → Table → Type 0
IsWatch old None watch.Nothing new = Unit {0}
IsWatch old None (watch.Recorded r) new = Prim.⊥
IsWatch old None watch.Deleted new = Prim.⊥
IsWatch old (Some w) watch.Nothing new = Prim.⊥
IsWatch old (Some w) (watch.Recorded r) new = (r.watched ≡ w) × Reacts old w r.crossings new
IsWatch old (Some w) watch.Deleted new = Unit {0}

-- A run of the script, with the host and the answers that came so far as the outside.
pub record IsEvaluated (old : Table) (o : Standing) (e : Evaluation) (w : Option Path)
    (new : Table) (z : Standing) (end : OpenEnd) (kept : Watch) : Type 0 where
  pub runs : IsOpenRun goes old o e.path.items e.script (root_count old + e.limit) new z end
  pub watched : IsWatch old w kept new
  pub marks : marks_of new ≡ marks_of old

-- how it ends
abbrev pub Ends : Table → Standing → Evaluation → Option Path → Table → Standing →
    Result (OpenEnd × Watch) Refusal → Type 0
Ends old o e w new z (Ok r) = IsEvaluated old o e w new z r.0 r.1
Ends old o e w new z (Err f) = IsUnfit old e w f

-- what there is of the record of an evaluation that ended so
abbrev pub kept_of : Result (OpenEnd × RecordView) OpenUnwatched →
    Result (OpenEnd × Watch) Refusal
kept_of (Ok r) = Ok (r.0, watch.Recorded r.1)
kept_of (Err (unwatched.Deleted d)) = Ok (d.end, watch.Deleted)
kept_of (Err (unwatched.Refused u)) = Err (of_refused u)

-- ## What is told of it

-- of its end, or of the call that is open
abbrev pub Shows : Standing → OpenEnd → Report → Type 0
Shows s (Ran e) r = ShowsEnd e r
Shows s CutOff r = (call : OpenCall) × (s.call ≡ Some call) × ShowsCall call r

abbrev pub ShowsOpen : Standing → OpenEnd → Result Report Refusal → Type 0
ShowsOpen s e (Ok r) = Shows s e r
ShowsOpen s e (Err f) = f ≡ Memory

-- an evaluation from the beginning, and what is told of it
abbrev pub Attempts : Table → Standing → Evaluation → Table → Standing → Result Told Refusal →
    Type 0
Attempts old o e new z (Ok a) = (end : OpenEnd) ×
    IsEvaluated old (begun_again o) e (watched_of e) new z end a.watch × Shows z end a.report
Attempts old o e new z (Err f) = IsUnfit old e (watched_of e) f

-- what is kept of it: where it waits, the tree from before it
abbrev pub Tells : Session → Table → Evaluation → Told → Session → Outcome → Type 0
Tells old start e a new Open = (a.report.outcome ≡ Open) ×
    (new ≡ record old { tree = start; waiting = Some e; report = a.report })
Tells old start e a new x = (a.report.outcome ≡ x) ×
    (new ≡ record old { report = a.report; watch = a.watch })

-- ## In a session

-- It came to its end.
pub record IsOver (old : Session) (e : Evaluation) (x : Outcome) (new : Session) : Type 0 where
  pub end : End
  pub evaluated : IsEvaluated old.tree (begun_again old.standing) e (watched_of e) new.tree
      new.standing (Ran end) new.watch
  pub shows : ShowsEnd end new.report
  pub outcome : new.report.outcome ≡ x
  pub waiting : new.waiting ≡ old.waiting

-- It waits for the answer to a call, and the tree is as before it.
pub record IsWaiting (old : Session) (e : Evaluation) (new : Session) : Type 0 where
  pub during : Table
  pub kept : Watch
  pub evaluated : IsEvaluated old.tree (begun_again old.standing) e (watched_of e) during
      new.standing CutOff kept
  pub call : OpenCall
  pub stands : new.standing.call ≡ Some call
  pub shows : ShowsCall call new.report
  pub tree : tree_of new.tree ≡ tree_of old.tree
  pub style : (marks_of new.tree).integers ≡ (marks_of old.tree).integers
  pub waiting : new.waiting ≡ Some e
  pub watch : new.watch ≡ old.watch

-- It is given up, and the tree is as before it.
pub record IsGivenUp (old : Session) (e : Evaluation) (f : Refusal) (new : Session) : Type 0 where
  pub refused : IsUnfit old.tree e (watched_of e) f
  pub tree : tree_of new.tree ≡ tree_of old.tree
  pub style : (marks_of new.tree).integers ≡ (marks_of old.tree).integers
  pub waiting : new.waiting ≡ old.waiting
  pub report : new.report ≡ old.report
  pub watch : new.watch ≡ old.watch

abbrev pub Runs : Session → Evaluation → Result Outcome Refusal → Session → Type 0
Runs old e (Ok Open) new = IsWaiting old e new
Runs old e (Ok x) new = IsOver old e x new
Runs old e (Err f) new = IsGivenUp old e f new

-- with no answer yet
pub record Begins (old : Session) (e : Evaluation) (result : Result Outcome Refusal)
    (new : Session) : Type 0 where
  pub rests : old.waiting ≡ None
  pub begun : Standing
  pub host : begun.host ≡ old.standing.host
  pub answers : begun.answers.items ≡ []
  pub runs : Runs (record old { standing = begun }) e result new

-- or not at all, since a call is open
abbrev pub Evaluates : Session → Evaluation → Result Outcome Refusal → Session → Type 0
Evaluates old e result new = Begins old e result new ⊎
    (IsSome old.waiting × (result ≡ Err CallOpen) × (new ≡ old))
