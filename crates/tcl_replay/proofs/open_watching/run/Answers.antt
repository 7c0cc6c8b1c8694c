use Rattle.std.proofs.Common.{◌+◌, subst, sym}
use Rattle.std.specs.Prelude.{IfOk}
use Rattle.tcl_eval.specs.Running.{IsOpenRun, root_count, unfit}
use Rattle.tcl_replay.proofs.OpenGivenUp.{Lost, if_unwatched, not_begun}
use Rattle.tcl_recorder.specs.Recording.{recorded}
use Rattle.tcl_recorder.specs.declared.recorder.Recorder.{Recorder}
use Rattle.tcl_eval.proofs.Starting.{counts_stay}
use Rattle.tcl_replay.proofs.open_watching.run.Goals as goal

pub returns-in-Ok-clause-runs : goal.returns-in-Ok-clause-runs
returns-in-Ok-clause-runs g c =
    subst (λ (r : Recorder g.row.O.Denot). IfOk c.open_run.result (λ end. IsOpenRun (recorded g.O.Outside.goes) c.args.tree.now r c.args.path.now c.args.script.now (root_count c.args.tree.now + c.args.limit) c.open_run.new.tree c.open_run.new.outside end))
    c.in-Ok.ensures.noted c.open_run.ensures.runs

pub returns-in-Ok-clause-given_up : goal.returns-in-Ok-clause-given_up
returns-in-Ok-clause-given_up g c =
    if_unwatched g.O.Outside.goes g.O.Outside.loses c.args.tree.now c.args.path.now c.args.script.now (root_count c.args.tree.now + c.args.limit) c.open_run.result (unfit c.args.tree.now c.args.path.now c.args.script.now c.args.limit) c.begin_record.new.recorder c.open_run.new.outside c.args.recorder.now.outside c.requires.fit c.begin_record.ensures.outside c.open_run.ensures.given_up

pub returns-in-Err-clause-given_up : goal.returns-in-Err-clause-given_up
returns-in-Err-clause-given_up g c =
    subst (λ (u : g.row.O.Denot). Lost g.O.Outside.goes g.O.Outside.loses c.args.tree.now c.args.path.now c.args.script.now (root_count c.args.tree.now + c.args.limit) c.args.recorder.now.outside u) (sym c.begin_record.ensures.outside)
    (not_begun g.O.Outside.goes g.O.Outside.loses c.args.tree.now c.args.path.now c.args.script.now (root_count c.args.tree.now + c.args.limit) c.args.recorder.now.outside)

pub returns-in-Err-clause-counted : goal.returns-in-Err-clause-counted
returns-in-Err-clause-counted g c = counts_stay c.args.tree.now c.mark_broken.new.self c.args.path.now c.args.limit c.mark_broken.ensures.tree
