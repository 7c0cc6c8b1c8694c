use Rattle.std.proofs.Common.{◌≡◌, ◌+◌, true, sym, subst}
use Rattle.std.specs.Prelude.{Result, Err, IfErr, IfNone, IfOk, IfSome, IsErrOf}
use Rattle.tcl_run.specs.Outsides.{hosted}
use Rattle.tcl_run.specs.Runs.{ways}
use Rattle.tcl_tree.specs.TreeOf.{marks_of}
use Rattle.tcl_eval.specs.Running.{AsksFirst, IsGivenUp, IsRun, IsWhole, root_count, unfit}
use Rattle.tcl_eval.specs.declared.running.End.{End}
use Rattle.tcl_eval.specs.declared.running.Refused.{Refused}
use Rattle.tcl_eval.specs.declared.running.Refused.TheVariants as refused
use Rattle.tcl_eval.proofs.Hosted.{if_asked, if_broken, if_budgeted, if_hosted, if_ran, if_unfit, if_unrefused, if_whole, is_uncut}
use Rattle.tcl_eval.proofs.running.eval.Goals as goal

pub ran-requires : goal.ran-requires
ran-requires g c = is_uncut g.H.Host.step c.args.tree.now c.args.host.now c.args.path.now c.args.script.now c.args.limit c.open_run-opened.new.tree c.open_run-opened.new.outside c.open_run-opened.result c.open_run-opened.ensures.refused c.open_run-opened.ensures.runs

pub returns-clause-refused : goal.returns-clause-refused
returns-clause-refused g c = subst (λ (r : Result End Refused). IfSome (unfit c.args.tree.now c.args.path.now c.args.script.now c.args.limit) (λ e. r ≡ Err e)) (sym c.ran.ensures) (if_unfit (unfit c.args.tree.now c.args.path.now c.args.script.now c.args.limit) c.open_run-opened.result c.open_run-opened.ensures.refused)

pub returns-clause-begun : goal.returns-clause-begun
returns-clause-begun g c =
    subst (λ (r : Result End Refused). IfNone (unfit c.args.tree.now c.args.path.now c.args.script.now c.args.limit) (IfErr r (λ e. e ≡ refused.Memory))) (sym c.ran.ensures)
    (if_unrefused (unfit c.args.tree.now c.args.path.now c.args.script.now c.args.limit) c.open_run-opened.result (λ e. e ≡ refused.Memory) (is_uncut g.H.Host.step c.args.tree.now c.args.host.now c.args.path.now c.args.script.now c.args.limit c.open_run-opened.new.tree c.open_run-opened.new.outside c.open_run-opened.result c.open_run-opened.ensures.refused c.open_run-opened.ensures.runs) c.open_run-opened.ensures.begun)

pub returns-clause-broken : goal.returns-clause-broken
returns-clause-broken g c =
    subst (λ (r : Result End Refused). IsErrOf r refused.Memory → (marks_of c.open_run-opened.new.tree).broken ≡ true) (sym c.ran.ensures)
    (if_broken c.open_run-opened.result ((marks_of c.open_run-opened.new.tree).broken ≡ true) (is_uncut g.H.Host.step c.args.tree.now c.args.host.now c.args.path.now c.args.script.now c.args.limit c.open_run-opened.new.tree c.open_run-opened.new.outside c.open_run-opened.result c.open_run-opened.ensures.refused c.open_run-opened.ensures.runs) c.open_run-opened.ensures.broken)

pub returns-clause-marks : goal.returns-clause-marks
returns-clause-marks g c =
    subst (λ (r : Result End Refused). IfOk r (λ _. marks_of c.open_run-opened.new.tree ≡ marks_of c.args.tree.now)) (sym c.ran.ensures) (if_ran c.open_run-opened.result (marks_of c.open_run-opened.new.tree ≡ marks_of c.args.tree.now) c.open_run-opened.ensures.marks)

pub returns-clause-given_up : goal.returns-clause-given_up
returns-clause-given_up g c =
    subst (λ (r : Result End Refused). IfNone (unfit c.args.tree.now c.args.path.now c.args.script.now c.args.limit) (IfErr r (λ _. IsGivenUp (ways (hosted g.H.Host.step) (λ (o z : g.row.H.Denot). z ≡ o)) c.args.tree.now c.args.host.now c.args.path.now c.args.script.now (root_count c.args.tree.now + c.args.limit) c.open_run-opened.new.outside))) (sym c.ran.ensures)
    (if_unrefused (unfit c.args.tree.now c.args.path.now c.args.script.now c.args.limit) c.open_run-opened.result (λ _. IsGivenUp (ways (hosted g.H.Host.step) (λ (o z : g.row.H.Denot). z ≡ o)) c.args.tree.now c.args.host.now c.args.path.now c.args.script.now (root_count c.args.tree.now + c.args.limit) c.open_run-opened.new.outside) (is_uncut g.H.Host.step c.args.tree.now c.args.host.now c.args.path.now c.args.script.now c.args.limit c.open_run-opened.new.tree c.open_run-opened.new.outside c.open_run-opened.result c.open_run-opened.ensures.refused c.open_run-opened.ensures.runs) c.open_run-opened.ensures.given_up)

pub returns-clause-asked : goal.returns-clause-asked
returns-clause-asked g c =
    subst (λ (r : Result End Refused). IfNone (unfit c.args.tree.now c.args.path.now c.args.script.now c.args.limit) (IfErr r (λ _. AsksFirst g.H.Host.step c.args.tree.now c.args.host.now c.args.path.now c.args.script.now c.args.limit c.open_run-opened.new.outside))) (sym c.ran.ensures)
    (if_unrefused (unfit c.args.tree.now c.args.path.now c.args.script.now c.args.limit) c.open_run-opened.result (λ _. AsksFirst g.H.Host.step c.args.tree.now c.args.host.now c.args.path.now c.args.script.now c.args.limit c.open_run-opened.new.outside) (is_uncut g.H.Host.step c.args.tree.now c.args.host.now c.args.path.now c.args.script.now c.args.limit c.open_run-opened.new.tree c.open_run-opened.new.outside c.open_run-opened.result c.open_run-opened.ensures.refused c.open_run-opened.ensures.runs) (if_asked g.H.Host.step c.args.tree.now c.args.host.now c.args.path.now c.args.script.now c.args.limit c.open_run-opened.new.outside c.open_run-opened.result c.open_run-opened.ensures.given_up))

pub returns-clause-runs : goal.returns-clause-runs
returns-clause-runs g c =
    subst (λ (r : Result End Refused). IfOk r (IsRun (hosted g.H.Host.step) c.args.tree.now c.args.host.now c.args.path.now c.args.script.now (root_count c.args.tree.now + c.args.limit) c.open_run-opened.new.tree c.open_run-opened.new.outside)) (sym c.ran.ensures)
    (if_hosted g.H.Host.step c.args.tree.now c.args.host.now c.args.path.now c.args.script.now (root_count c.args.tree.now + c.args.limit) c.open_run-opened.new.tree c.open_run-opened.new.outside c.open_run-opened.result c.open_run-opened.ensures.runs)

pub returns-clause-whole : goal.returns-clause-whole
returns-clause-whole g c =
    subst (λ (r : Result End Refused). IfOk r (IsWhole g.H.Host.step c.args.tree.now c.args.host.now c.args.path.now c.args.script.now c.args.limit c.open_run-opened.new.tree c.open_run-opened.new.outside)) (sym c.ran.ensures)
    (if_whole g.H.Host.step c.args.tree.now c.args.host.now c.args.path.now c.args.script.now c.args.limit c.open_run-opened.new.tree c.open_run-opened.new.outside c.open_run-opened.result c.open_run-opened.ensures.refused c.open_run-opened.ensures.runs)

pub returns-clause-budget : goal.returns-clause-budget
returns-clause-budget g c =
    if_budgeted g.H.Host.step c.args.tree.now c.args.host.now c.args.path.now c.args.script.now c.args.limit c.open_run-opened.new.tree c.open_run-opened.new.outside c.scripts_keep_budgets.ensures c.ran.result
    (subst (λ (r : Result End Refused). IfOk r (IsWhole g.H.Host.step c.args.tree.now c.args.host.now c.args.path.now c.args.script.now c.args.limit c.open_run-opened.new.tree c.open_run-opened.new.outside)) (sym c.ran.ensures)
    (if_whole g.H.Host.step c.args.tree.now c.args.host.now c.args.path.now c.args.script.now c.args.limit c.open_run-opened.new.tree c.open_run-opened.new.outside c.open_run-opened.result c.open_run-opened.ensures.refused c.open_run-opened.ensures.runs))
