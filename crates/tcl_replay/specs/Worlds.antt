-- Two evaluations in two worlds, which were watched.
use Rattle.std.specs.Prelude.{◌≡◌, ℕ, List, ◌++◌}
use Rattle.tcl_core.specs.Laws.{AtMove, IsUnended}
use Rattle.tcl_core.specs.Lives.{outs_of}
use Rattle.tcl_core.specs.Paths.{Path, Text}
use Rattle.tcl_core.specs.Trees.{Event, Move, at}
use Rattle.tcl_core.specs.Views.{moves_of}
use Rattle.tcl_eval.specs.declared.running.End.{End}
use Rattle.tcl_host.specs.declared.reply.HostReply.{HostReply}
use Rattle.tcl_host.specs.declared.request.Request.{Request}
use Rattle.tcl_isolation.specs.Visits.{IsBelowTheTop}
use Rattle.tcl_tree.specs.Own.{Own}
use Rattle.tcl_tree.specs.TreeOf.{marks_of, tree_of}
use Rattle.tcl_tree.specs.declared.tree.Tree.{Tree as Table}
use Rattle.tcl_recorder.specs.Records.{RecordView}
use Rattle.tcl_replay.specs.Watched.{IsRecord, watching}

-- an evaluation that was watched, whose watched interpreter is below the top, and in which no entry
-- into it was ended from outside
pub record World {S : Type 0} (step : S → Request → HostReply → S → Type 0) (old : Table) (c : Path)
    (r : RecordView) (new : Table) : Type 0 where
  pub before : S
  pub after : S
  pub path : Path
  pub script : Text
  pub limit : ℕ
  pub end : End
  pub recorded : IsRecord step (watching old before path script limit c) r new after end
  pub below : IsBelowTheTop c
  pub unended : IsUnended r.crossings

-- The watched subtrees are the same, integers are read in the same style, and all moves of the
-- records agree: then so do the records, by which the same was told and each entry ended the same,
-- and the subtrees left.
abbrev pub RecordsAgree : {S R : Type 0} → (S → Request → HostReply → S → Type 0) →
    (R → Request → HostReply → R → Type 0) → Type 0
RecordsAgree step step2 = (old new old2 new2 : Table) (c d : Path) (r r2 : RecordView) →
    World step old c r new → World step2 old2 d r2 new2 →
    (marks_of old).integers ≡ (marks_of old2).integers → at (tree_of old) c ≡ at (tree_of old2) d →
    moves_of r.crossings ≡ moves_of r2.crossings →
    (r.crossings ≡ r2.crossings) × (outs_of r.crossings ≡ outs_of r2.crossings) ×
    (at (tree_of new) c ≡ at (tree_of new2) d)

-- And where the moves begin with the same, the records are the same up to where the next move
-- stands.
abbrev pub RecordsAgreeUntil : {S R : Type 0} → (S → Request → HostReply → S → Type 0) →
    (R → Request → HostReply → R → Type 0) → Type 0
RecordsAgreeUntil step step2 = (old new old2 new2 : Table) (c d : Path) (r r2 : RecordView)
    (ms a b : List (Move Own)) → World step old c r new → World step2 old2 d r2 new2 →
    (marks_of old).integers ≡ (marks_of old2).integers → at (tree_of old) c ≡ at (tree_of old2) d →
    moves_of r.crossings ≡ ms ++ a → moves_of r2.crossings ≡ ms ++ b →
    (same : List (Event Own)) × (rest1 : List (Event Own)) × (rest2 : List (Event Own)) ×
    (r.crossings ≡ same ++ rest1) × (r2.crossings ≡ same ++ rest2) × (moves_of same ≡ ms) ×
    AtMove rest1 × AtMove rest2
