-- Two worlds, of records.
use Rattle.std.proofs.Common.{◌≡◌, ◌∙◌, List, ◌++◌, sym, ap, subst}
use Rattle.tcl_core.specs.Entries.Entry.{Eval}
use Rattle.tcl_core.specs.Laws.{AtMove}
use Rattle.tcl_core.specs.Lives.{limited, outs_of}
use Rattle.tcl_core.specs.Paths.{Path}
use Rattle.tcl_core.specs.Trees.{Event, Move, at}
use Rattle.tcl_core.specs.Views.{moves_of}
use Rattle.tcl_host.specs.declared.reply.HostReply.{HostReply}
use Rattle.tcl_host.specs.declared.request.Request.{Request}
use Rattle.tcl_isolation.specs.Visits.{WatchedVisit}
use Rattle.tcl_isolation.proofs.Comparing.{all_agree, two_worlds}
use Rattle.tcl_run.specs.Language.{language}
use Rattle.tcl_run.specs.Outsides.{hosted}
use Rattle.tcl_text.specs.declared.integer.Integers.{Integers}
use Rattle.tcl_tree.specs.Own.{Own}
use Rattle.tcl_tree.specs.TreeOf.{marks_of, tree_of}
use Rattle.tcl_tree.specs.declared.tree.Tree.{Tree as Table}
use Rattle.tcl_recorder.specs.Records.{RecordView}
use Rattle.tcl_replay.specs.Worlds.{World}
use Rattle.tcl_replay.proofs.Recorded.{at_first, at_last, run_of, stood, visited}

module _ {S R : Type 0} (step : S → Request → HostReply → S → Type 0) (step2 : R → Request → HostReply → R → Type 0) (old new old2 new2 : Table) (c d : Path) (r r2 : RecordView) (w : World step old c r new) (y : World step2 old2 d r2 new2)
    (style : (marks_of old).integers ≡ (marks_of old2).integers) (same : at (tree_of old) c ≡ at (tree_of old2) d) where
  abbrev first_run : Type 0
  first_run = WatchedVisit (hosted step) (language (marks_of old).integers) (limited w.limit (tree_of old)) w.before w.path (Eval w.script) c r.crossings
      (run_of step old w.before w.path w.script w.limit c r new w.after w.end w.recorded).during w.after (run_of step old w.before w.path w.script w.limit c r new w.after w.end w.recorded).reply

  one : first_run
  one = visited step old w.before w.path w.script w.limit c r new w.after w.end w.recorded

  -- the other one, with the same commands
  abbrev other_run : Integers → Type 0
  other_run s = WatchedVisit (hosted step2) (language s) (limited y.limit (tree_of old2)) y.before y.path (Eval y.script) d r2.crossings
      (run_of step2 old2 y.before y.path y.script y.limit d r2 new2 y.after y.end y.recorded).during y.after (run_of step2 old2 y.before y.path y.script y.limit d r2 new2 y.after y.end y.recorded).reply

  other : other_run (marks_of old).integers
  other = subst other_run (sym style) (visited step2 old2 y.before y.path y.script y.limit d r2 new2 y.after y.end y.recorded)

  same_at : at (limited w.limit (tree_of old)) c ≡ at (limited y.limit (tree_of old2)) d
  same_at = at_first step old w.before w.path w.script w.limit c r new w.after w.end w.below ∙ same ∙ sym (at_first step2 old2 y.before y.path y.script y.limit d r2 new2 y.after y.end y.below)

  pub agree : moves_of r.crossings ≡ moves_of r2.crossings → (r.crossings ≡ r2.crossings) × (outs_of r.crossings ≡ outs_of r2.crossings) × (at (tree_of new) c ≡ at (tree_of new2) d)
  agree m =
      let run = run_of step old w.before w.path w.script w.limit c r new w.after w.end w.recorded in
      let run2 = run_of step2 old2 y.before y.path y.script y.limit d r2 new2 y.after y.end y.recorded in
      let h = all_agree (hosted step) (hosted step2) (language (marks_of old).integers) (limited w.limit (tree_of old)) run.during (limited y.limit (tree_of old2)) run2.during w.before w.after y.before y.after
      w.path y.path (Eval w.script) (Eval y.script) c d r.crossings r2.crossings run.reply run2.reply run.node one other w.below
      (stood step old w.before w.path w.script w.limit c r new w.after w.end w.recorded w.below) w.unended y.below y.unended same_at m in (
        h.0,
        ap outs_of h.0,
        at_last step old w.before w.path w.script w.limit c r new w.after w.end w.recorded w.below ∙ h.1 ∙ sym (at_last step2 old2 y.before y.path y.script y.limit d r2 new2 y.after y.end y.recorded y.below),
      )

  pub agree_until : (ms a b : List (Move Own)) → moves_of r.crossings ≡ ms ++ a → moves_of r2.crossings ≡ ms ++ b →
      (same : List (Event Own)) × (rest1 : List (Event Own)) × (rest2 : List (Event Own)) × (r.crossings ≡ same ++ rest1) × (r2.crossings ≡ same ++ rest2) × (moves_of same ≡ ms) × AtMove rest1 × AtMove rest2
  agree_until ms a b m m2 =
      let run = run_of step old w.before w.path w.script w.limit c r new w.after w.end w.recorded in
      let run2 = run_of step2 old2 y.before y.path y.script y.limit d r2 new2 y.after y.end y.recorded in
      two_worlds (hosted step) (hosted step2) (language (marks_of old).integers) (limited w.limit (tree_of old)) run.during (limited y.limit (tree_of old2)) run2.during w.before w.after y.before y.after
      w.path y.path (Eval w.script) (Eval y.script) c d r.crossings r2.crossings run.reply run2.reply run.node one other ms a b w.below
      (stood step old w.before w.path w.script w.limit c r new w.after w.end w.recorded w.below) w.unended y.below y.unended same_at m m2
