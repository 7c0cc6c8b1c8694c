-- How an evaluation ends that is watched.
use Rattle.std.proofs.Common.{◌≡◌, ◌⊎◌, ℕ, ◌+◌, Option, Some, None, refl, ap, inl, inr}
use Rattle.std.specs.Prelude.{Result, Ok, Err, IfNone, IfOk, IfSome}
use Rattle.tcl_core.specs.Paths.{Path, Text}
use Rattle.tcl_eval.specs.Running.{IsOpenRun, root_count}
use Rattle.tcl_eval.specs.declared.running.OpenEnd.{OpenEnd}
use Rattle.tcl_eval.specs.declared.running.Refused.{Refused}
use Rattle.tcl_eval.specs.declared.running.Refused.TheVariants as refused
use Rattle.tcl_replay.specs.OpenWatched.{IfEnds, IfRefused, IsOpenRecord}
use Rattle.tcl_replay.specs.declared.open_watching.OpenUnwatched.{OpenUnwatched}
use Rattle.tcl_replay.specs.declared.open_watching.OpenUnwatched.TheVariants as unwatched
use Rattle.tcl_recorder.specs.Records.{RecordView}
use Rattle.tcl_replay.specs.Watched.{Reacts, unwatchable}
use Rattle.tcl_sessions.specs.Evaluations.{Ends, kept_of}
use Rattle.tcl_sessions.specs.Refusals.{of_refused}
use Rattle.tcl_sessions.specs.Standing.{goes}
use Rattle.tcl_sessions.specs.declared.evaluation.Evaluation.{Evaluation}
use Rattle.tcl_sessions.specs.declared.refusal.Refusal.TheVariants.{Memory}
use Rattle.tcl_sessions.specs.declared.standing.Standing.{Standing}
use Rattle.tcl_tree.specs.TreeOf.{marks_of}
use Rattle.tcl_tree.specs.declared.tree.Tree.{Tree as Table}

abbrev pub Watched : Type 0
Watched = Result (OpenEnd × RecordView) OpenUnwatched

-- what is known of the evaluation of a script at a path, over an outside
pub record Facts (old new : Table) (z : Standing) (limit : ℕ) (w : Path) (r : Watched) (p : Path) (s : Text) (o : Standing) : Type 0 where
  pub unfit : IfSome (unwatchable old p s limit w) (λ u. r ≡ Err (unwatched.Refused u))
  pub begun : IfNone (unwatchable old p s limit w) (IfRefused r (λ u. u ≡ refused.Memory))
  pub marks : IfEnds r (λ e. marks_of new ≡ marks_of old)
  pub runs : IfEnds r (λ e. IsOpenRun goes old o p s (root_count old + limit) new z e)
  pub recorded : IfOk r (λ x. IsOpenRecord goes old o p s limit w x.1 new z x.0)
  pub reacts : IfOk r (λ x. Reacts old w x.1.crossings new)

refusal_is : (a : Option Refused) (u : Refused) (r : Watched) → r ≡ Err (unwatched.Refused u) → IfSome a (λ v. r ≡ Err (unwatched.Refused v)) → IfNone a (u ≡ refused.Memory) → (of_refused u ≡ Memory) ⊎ ((v : Refused) × (of_refused u ≡ of_refused v) × (a ≡ Some v))
refusal_is None u r e s n = inl (ap of_refused n)
refusal_is (Some v) u r e s n = let k : u ≡ v = cc in inr (v, ap of_refused k, refl)

pub watched_ends : (old new : Table) (o z : Standing) (e : Evaluation) (w : Path) (r : Watched) → Facts old new z e.limit w r e.path.items e.script o → Ends old o e (Some w) new z (kept_of r)
watched_ends old new o z e w (Ok x) f = record { runs = f.runs; watched = (f.recorded.0, f.reacts); marks = f.marks }
watched_ends old new o z e w (Err (unwatched.Deleted d)) f = record { runs = f.runs; watched = tt; marks = f.marks }
watched_ends old new o z e w (Err (unwatched.Refused u)) f = refusal_is (unwatchable old e.path.items e.script e.limit w) u (Err (unwatched.Refused u)) refl f.unfit f.begun
