use Rattle.std.proofs.Common.{◌≡◌, ◌+◌, true, subst, sym}
use Rattle.std.specs.Prelude.{Result, IfErr, IfOk, IsErrOf}
use Rattle.tcl_eval.specs.Running.{IsOpenRun, root_count, unfit}
use Rattle.tcl_eval.specs.declared.running.End.{End}
use Rattle.tcl_eval.specs.declared.running.Refused.{Refused}
use Rattle.tcl_eval.specs.declared.running.Refused.TheVariants as refused
use Rattle.tcl_run.specs.Outsides.{hosted}
use Rattle.tcl_recorder.specs.Recording.{recorded}
use Rattle.tcl_recorder.specs.declared.recorder.Recorder.{Recorder}
use Rattle.tcl_replay.specs.Watched.{IsEntryRun}
use Rattle.tcl_replay.proofs.Entered.{if_entry, is_uncut}
use Rattle.tcl_eval.proofs.Hosted.{if_broken}
use Rattle.tcl_replay.proofs.Unfinished.{Lost, if_ended, if_memory, if_refusal, if_unwatched, not_begun}
use Rattle.tcl_tree.specs.TreeOf.{marks_of}
use Rattle.tcl_eval.proofs.Starting.{counts_stay}
use Rattle.tcl_replay.proofs.watching.run.Goals as goal

pub ran-requires : goal.ran-requires
ran-requires g c =
    let noted = subst (λ (r : Recorder g.row.H.Denot). IfOk c.open_run-opened.result (λ end. IsOpenRun (recorded (hosted g.H.Host.step)) c.args.tree.now r c.args.path.now c.args.script.now (root_count c.args.tree.now + c.args.limit) c.open_run-opened.new.tree c.open_run-opened.new.outside end))
    c.in-Ok.ensures.noted c.open_run-opened.ensures.runs in
    is_uncut g.H.Host.step c.args.tree.now c.args.recorder.now c.args.path.now c.args.script.now c.args.limit c.open_run-opened.new.tree c.open_run-opened.new.outside c.open_run-opened.result c.requires.fit noted

pub returns-in-Ok-clause-memory : goal.returns-in-Ok-clause-memory
returns-in-Ok-clause-memory g c =
    let noted = subst (λ (r : Recorder g.row.H.Denot). IfOk c.open_run-opened.result (λ end. IsOpenRun (recorded (hosted g.H.Host.step)) c.args.tree.now r c.args.path.now c.args.script.now (root_count c.args.tree.now + c.args.limit) c.open_run-opened.new.tree c.open_run-opened.new.outside end))
    c.in-Ok.ensures.noted c.open_run-opened.ensures.runs in
    let uncut = is_uncut g.H.Host.step c.args.tree.now c.args.recorder.now c.args.path.now c.args.script.now c.args.limit c.open_run-opened.new.tree c.open_run-opened.new.outside c.open_run-opened.result c.requires.fit noted in
    subst (λ (r : Result End Refused). IfErr r (λ e. e ≡ refused.Memory)) (sym c.ran.ensures) (if_memory c.open_run-opened.result uncut (unfit c.args.tree.now c.args.path.now c.args.script.now c.args.limit) c.requires.fit c.open_run-opened.ensures.begun)

pub returns-in-Ok-clause-broken : goal.returns-in-Ok-clause-broken
returns-in-Ok-clause-broken g c =
    let noted = subst (λ (r : Recorder g.row.H.Denot). IfOk c.open_run-opened.result (λ end. IsOpenRun (recorded (hosted g.H.Host.step)) c.args.tree.now r c.args.path.now c.args.script.now (root_count c.args.tree.now + c.args.limit) c.open_run-opened.new.tree c.open_run-opened.new.outside end))
    c.in-Ok.ensures.noted c.open_run-opened.ensures.runs in
    let uncut = is_uncut g.H.Host.step c.args.tree.now c.args.recorder.now c.args.path.now c.args.script.now c.args.limit c.open_run-opened.new.tree c.open_run-opened.new.outside c.open_run-opened.result c.requires.fit noted in
    subst (λ (r : Result End Refused). IsErrOf r refused.Memory → (marks_of c.open_run-opened.new.tree).broken ≡ true) (sym c.ran.ensures) (if_broken c.open_run-opened.result ((marks_of c.open_run-opened.new.tree).broken ≡ true) uncut c.open_run-opened.ensures.broken)

pub returns-in-Ok-clause-marks : goal.returns-in-Ok-clause-marks
returns-in-Ok-clause-marks g c =
    subst (λ (r : Result End Refused). IfOk r (λ _. marks_of c.open_run-opened.new.tree ≡ marks_of c.args.tree.now)) (sym c.ran.ensures) (if_ended c.open_run-opened.result (marks_of c.open_run-opened.new.tree ≡ marks_of c.args.tree.now) c.open_run-opened.ensures.marks)

pub returns-in-Ok-clause-runs : goal.returns-in-Ok-clause-runs
returns-in-Ok-clause-runs g c =
    let noted = subst (λ (r : Recorder g.row.H.Denot). IfOk c.open_run-opened.result (λ end. IsOpenRun (recorded (hosted g.H.Host.step)) c.args.tree.now r c.args.path.now c.args.script.now (root_count c.args.tree.now + c.args.limit) c.open_run-opened.new.tree c.open_run-opened.new.outside end))
    c.in-Ok.ensures.noted c.open_run-opened.ensures.runs in
    subst (λ (r : Result End Refused). IfOk r (IsEntryRun g.H.Host.step c.args.tree.now c.args.recorder.now c.args.path.now c.args.script.now c.args.limit c.open_run-opened.new.tree c.open_run-opened.new.outside)) (sym c.ran.ensures)
    (if_entry g.H.Host.step c.args.tree.now c.args.recorder.now c.args.path.now c.args.script.now c.args.limit c.open_run-opened.new.tree c.open_run-opened.new.outside c.open_run-opened.result c.requires.fit noted)

pub returns-in-Ok-clause-given_up : goal.returns-in-Ok-clause-given_up
returns-in-Ok-clause-given_up g c =
    let noted = subst (λ (r : Recorder g.row.H.Denot). IfOk c.open_run-opened.result (λ end. IsOpenRun (recorded (hosted g.H.Host.step)) c.args.tree.now r c.args.path.now c.args.script.now (root_count c.args.tree.now + c.args.limit) c.open_run-opened.new.tree c.open_run-opened.new.outside end))
    c.in-Ok.ensures.noted c.open_run-opened.ensures.runs in
    let uncut = is_uncut g.H.Host.step c.args.tree.now c.args.recorder.now c.args.path.now c.args.script.now c.args.limit c.open_run-opened.new.tree c.open_run-opened.new.outside c.open_run-opened.result c.requires.fit noted in
    let Was : Type 0 = Lost g.H.Host.step c.args.tree.now c.args.path.now c.args.script.now (root_count c.args.tree.now + c.args.limit) c.args.recorder.now.outside c.open_run-opened.new.outside.outside in
    subst (λ (r : Result End Refused). IfErr r (λ _. Was)) (sym c.ran.ensures)
    (if_refusal c.open_run-opened.result Was uncut
    (if_unwatched g.H.Host.step c.args.tree.now c.args.path.now c.args.script.now (root_count c.args.tree.now + c.args.limit) c.open_run-opened.result (unfit c.args.tree.now c.args.path.now c.args.script.now c.args.limit) c.begin_record.new.recorder c.open_run-opened.new.outside c.args.recorder.now.outside c.requires.fit c.begin_record.ensures.outside c.open_run-opened.ensures.given_up))

pub returns-in-Err-clause-given_up : goal.returns-in-Err-clause-given_up
returns-in-Err-clause-given_up g c =
    subst (λ (u : g.row.H.Denot). Lost g.H.Host.step c.args.tree.now c.args.path.now c.args.script.now (root_count c.args.tree.now + c.args.limit) c.args.recorder.now.outside u) (sym c.begin_record.ensures.outside)
    (not_begun g.H.Host.step c.args.tree.now c.args.path.now c.args.script.now (root_count c.args.tree.now + c.args.limit) c.args.recorder.now.outside)

pub returns-in-Err-clause-counted : goal.returns-in-Err-clause-counted
returns-in-Err-clause-counted g c = counts_stay c.args.tree.now c.mark_broken.new.self c.args.path.now c.args.limit c.mark_broken.ensures.tree
