use Rattle.std.proofs.Common.{rules, ◌≡◌, ◌∙◌, ◌+◌, None, refl, sym, ap, subst}
use Rattle.std.specs.Prelude.{IfErr, IfOk}
use Rattle.tcl_core.specs.Entries.Entry.{Eval}
use Rattle.tcl_core.specs.Execution.{event}
use Rattle.tcl_core.specs.Paths.{Path}
use Rattle.tcl_core.specs.Trees.What.{In}
use Rattle.tcl_eval.specs.Running.{IsOpenRun, root_count}
use Rattle.tcl_replay.proofs.OpenAnswers.{as_whole, ends_so, run_so, wants, watches}
use Rattle.tcl_replay.proofs.OpenGivenUp.{Lost}
use Rattle.tcl_replay.specs.OpenWatched.{IfEnds, Watches}
use Rattle.tcl_recorder.specs.Recording.{noted, recorded}
use Rattle.tcl_recorder.specs.declared.recorder.Recorder.{Recorder}
use Rattle.tcl_replay.specs.Watched.{recorder_of}
use Rattle.tcl_tree.specs.TreeOf.{Marks, marks_of}
use Rattle.tcl_eval.proofs.Starting.{counts_stay}
use Rattle.tcl_replay.proofs.open_watching.watch.Goals as goal

pub returns-in-Err-clause-watches : goal.returns-in-Err-clause-watches
returns-in-Err-clause-watches g c =
    wants g.O.Outside.goes g.O.Outside.loses c.args.tree.now c.args.outside c.args.path.now c.args.script.now c.args.limit c.args.watched.now c.mark_broken.new.self c.args.outside (ap (λ (m : Marks). m.broken) c.mark_broken.ensures.marks) refl

pub returns-clause-watches : goal.returns-clause-watches
returns-clause-watches g c =
    let names : c.in-Ok.names.items ≡ c.args.watched.now = search rules in
    let first : c.new-recorder.result ≡ recorder_of c.args.outside c.args.watched.now = c.new-recorder.ensures ∙ ap (λ (w : Path). recorder_of c.args.outside w) names in
    let parts = sym c.into_parts-outside.ensures in
    let made : Recorder g.row.O.Denot = c.run-ended.new.recorder in
    let last : as_whole made.outside made.kept made.deleted ≡ as_whole c.into_parts-outside.result.0 c.into_parts-outside.result.1 c.into_parts-outside.result.2 = (λ i. as_whole (parts i).0 (parts i).1 (parts i).2) in
    let Ran : Recorder g.row.O.Denot → Recorder g.row.O.Denot → Type 0 = λ r z. IfOk c.run-ended.result (λ end. IsOpenRun (recorded g.O.Outside.goes) c.args.tree.now (noted r (event c.args.path.now (In None (Eval c.args.script.now)))) c.args.path.now c.args.script.now (root_count c.args.tree.now + c.args.limit) c.run-ended.new.tree z end) in
    let Was : g.row.O.Denot → g.row.O.Denot → Type 0 = Lost g.O.Outside.goes g.O.Outside.loses c.args.tree.now c.args.path.now c.args.script.now (root_count c.args.tree.now + c.args.limit) in
    let given_up = subst (λ (u : g.row.O.Denot). IfErr c.run-ended.result (λ _. Was c.args.outside u)) (λ i. (parts i).0)
    (subst (λ (r : Recorder g.row.O.Denot). IfErr c.run-ended.result (λ _. Was r.outside made.outside)) first c.run-ended.ensures.given_up) in
    subst (λ x. Watches g.O.Outside.goes g.O.Outside.loses c.args.tree.now c.args.outside c.args.path.now c.args.script.now c.args.limit c.args.watched.now c.run-ended.new.tree c.into_parts-outside.result.0 x) (sym c.outcome_of.ensures)
    (watches g.O.Outside.goes g.O.Outside.loses c.args.tree.now c.args.outside c.args.path.now c.args.script.now c.args.limit c.args.watched.now c.run-ended.new.tree c.into_parts-outside.result.0 c.run-ended.result c.into_parts-outside.result.1 c.into_parts-outside.result.2
    c.run-ended.ensures.memory c.run-ended.ensures.broken given_up
    (subst (λ (z : Recorder g.row.O.Denot). Ran (recorder_of c.args.outside c.args.watched.now) z) last
    (run_so g.O.Outside.goes c.args.tree.now (noted (recorder_of c.args.outside c.args.watched.now) (event c.args.path.now (In None (Eval c.args.script.now)))) c.args.path.now c.args.script.now (root_count c.args.tree.now + c.args.limit) c.run-ended.new.tree c.run-ended.result made
    (subst (λ (r : Recorder g.row.O.Denot). Ran r made) first c.run-ended.ensures.runs))))

pub returns-clause-marks : goal.returns-clause-marks
returns-clause-marks g c =
    let Same : Type 0 = marks_of c.run-ended.new.tree ≡ marks_of c.args.tree.now in
    subst (λ x. IfEnds x (λ _. Same)) (sym c.outcome_of.ensures)
    (ends_so c.run-ended.result c.into_parts-outside.result.1 c.into_parts-outside.result.2 Same c.run-ended.ensures.marks)

pub returns-in-Err-clause-counted : goal.returns-in-Err-clause-counted
returns-in-Err-clause-counted g c = counts_stay c.args.tree.now c.mark_broken.new.self c.args.path.now c.args.limit c.mark_broken.ensures.tree
