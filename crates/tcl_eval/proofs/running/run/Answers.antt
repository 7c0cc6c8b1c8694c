use Rattle.std.proofs.Common.{rules, ◌≡◌, ◌∙◌, ap, refl, sym, [], None, Some}
use Rattle.tcl_core.specs.Endings.{Reply}
use Rattle.tcl_core.specs.Entries.Entry.{Eval}
use Rattle.tcl_core.specs.Paths.{Text}
use Rattle.tcl_core.specs.Runs.{Ending}
use Rattle.tcl_core.specs.Execution.{event}
use Rattle.tcl_core.specs.Trees.{effect}
use Rattle.tcl_core.specs.Trees.What.{Done, Limited}
use Rattle.tcl_language.specs.Table.{serve}
use Rattle.tcl_run.specs.Runs.{ways}
use Rattle.tcl_run.proofs.Endings.{ended_so}
use Rattle.tcl_run.proofs.Proceeding.{at_prog, at_start, comes, given_up_after, stopped}
use Rattle.tcl_tree.specs.TreeOf.{tree_of, marks_of}
use Rattle.tcl_eval.proofs.Starting.{at_any_err, counts_stay, is_given_up, keeps_counts, own_limit, some_way, told_all}
use Rattle.tcl_evaluation.proofs.Ends.{EndsAt}
use Rattle.tcl_eval.proofs.running.run.Goals as goal

pub returns-in_err-new-clause-given_up : goal.returns-in_err-new-clause-given_up
returns-in_err-new-clause-given_up g c =
    at_any_err c.from_residual.result _ (is_given_up c.args.tree.now c.args.outside.now c.args.outside.now c.args.path.now c.args.script.now c.args.start.most (stopped {V = tree_of c.args.tree.now}))

pub returns-clause-root_limit : goal.returns-clause-root_limit
returns-clause-root_limit g c = own_limit c.serve_eval-ended.new.tree c.set_run_limit-2.new.self c.args.start.own c.set_run_limit-2.ensures.limited ∙ c.requires.own

pub returns-in_err-new-clause-counted : goal.returns-in_err-new-clause-counted
returns-in_err-new-clause-counted g c = λ limit is. counts_stay c.args.tree.now c.args.tree.now c.args.path.now limit refl

pub returns-clause-counted : goal.returns-clause-counted
returns-clause-counted g c = λ limit is.
    keeps_counts c.args.tree.now c.set_run_limit.new.self c.serve_eval-ended.new.tree c.set_run_limit-2.new.self c.args.path.now c.args.start.most limit c.args.start.own c.set_run_limit.ensures.limited c.set_run_limit.ensures.keys
    c.serve_eval-ended.ensures.keeps.steady (c.serve_eval-ended.ensures.held c.args.path.now (c.set_run_limit.ensures.keys c.args.path.now ∙ c.requires.place)) c.set_run_limit-2.ensures.limited c.set_run_limit-2.ensures.keys is

pub returns-clause-given_up : goal.returns-clause-given_up
returns-clause-given_up g c =
    let text : c.from_short_text-script.result ≡ c.args.script.now = search rules in
    let Ran : Ending → Type 0 = EndsAt (ways g.O.Outside.goes g.O.Outside.loses) c.set_run_limit.new.self c.args.outside.now c.args.start.place (λ style. serve style (Eval c.from_short_text-script.result)) c.serve_eval-ended.new.tree c.serve_eval-ended.new.outside in
    at_any_err c.leave-told.result _ (some_way c.serve_eval-ended.result Ran _ c.serve_eval-ended.ensures.runs
    (λ e ran. is_given_up c.args.tree.now c.args.outside.now c.leave-told.new.outside c.args.path.now c.args.script.now c.args.start.most
    (at_start c.set_run_limit.ensures.limited (at_prog (ap (λ (x : Text). serve (marks_of c.args.tree.now).integers (Eval x)) (sym text))
    (given_up_after {W = tree_of c.serve_eval-ended.new.tree}
    (ran c.args.path.now (marks_of c.args.tree.now).integers (record { names = c.set_run_limit.ensures.keys c.args.path.now ∙ c.requires.place; style_is = ap (λ m. m.integers) c.set_run_limit.ensures.marks }))
    c.leave-told.ensures.lost)))))

pub returns-clause-runs : goal.returns-clause-runs
returns-clause-runs g c =
    let text : c.from_short_text-script.result ≡ c.args.script.now = search rules in
    let Ran : Ending → Type 0 = EndsAt (ways g.O.Outside.goes g.O.Outside.loses) c.set_run_limit.new.self c.args.outside.now c.args.start.place (λ style. serve style (Eval c.from_short_text-script.result)) c.serve_eval-ended.new.tree c.serve_eval-ended.new.outside in
    let Told : Reply → Type 0 = λ r. g.O.Outside.goes (tree_of c.serve_eval-ended.new.tree) c.serve_eval-ended.new.outside None (event c.args.path.now (Done None r)) c.leave-told.new.outside in
    told_all c.args.path.now c.serve_eval-ended.result c.leave-told.result (λ r. Ran (Some r)) Told _ c.leave-told.ensures.tells (ended_so c.serve_eval-ended.result Ran c.serve_eval-ended.ensures.runs) c.leave-told.ensures.told
    (λ e r ran told s. record {
      during = tree_of c.serve_eval-ended.new.tree;
      between = c.serve_eval-ended.new.outside;
      reply = r;
      runs = comes (at_start c.set_run_limit.ensures.limited (at_prog (ap (λ (x : Text). serve (marks_of c.args.tree.now).integers (Eval x)) (sym text))
          (ran c.args.path.now (marks_of c.args.tree.now).integers (record { names = c.set_run_limit.ensures.keys c.args.path.now ∙ c.requires.place; style_is = ap (λ m. m.integers) c.set_run_limit.ensures.marks }))));
      told = told;
      after = c.set_run_limit-2.ensures.limited ∙ ap (λ l. effect [] (Limited l) (tree_of c.serve_eval-ended.new.tree)) c.requires.own;
      ends = s;
    })
