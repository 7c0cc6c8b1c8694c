use Rattle.std.proofs.Common.{◌≡◌, None, ap, subst, sym, ◌∙◌}
use Rattle.tcl_core.specs.Execution.{event}
use Rattle.tcl_core.specs.Lives.Outcome.{Finished}
use Rattle.tcl_core.specs.Trees as core
use Rattle.tcl_core.specs.Trees.What.{In}
use Rattle.tcl_run.specs.Language.{language}
use Rattle.tcl_reactions.specs.Moving.{Lived}
use Rattle.tcl_reactions.specs.Moving.Lived.{begun}
use Rattle.tcl_run.proofs.Steady.{steady-refl, steady-trans}
use Rattle.tcl_run.specs.Entering.{whole_entry}
use Rattle.tcl_tree.specs.Own.{Own}
use Rattle.tcl_tree.specs.TreeOf.{Marks, marks_of, tree_of}
use Rattle.tcl_embed.proofs.Moving.{given_up_between, given_up_within, goes_on, not_exited}
use Rattle.tcl_run.proofs.Endings.{none_holds, some_holds}
use Rattle.tcl_eval.proofs.Starting.{at_any_err}
use Rattle.tcl_embed.proofs.moves.live.Goals as goal

pub entries-init : goal.entries-init
entries-init g c = (begun, steady-refl c.args.tree.now)

pub returns-in_err-target-clause-given_up : goal.returns-in_err-target-clause-given_up
returns-in_err-target-clause-given_up g c = at_any_err c.from_residual.result _
    (given_up_between g.M.Outside.goes g.M.Outside.loses (marks_of c.args.tree.now).integers (tree_of c.args.tree.now) (tree_of c.entries.tree) c.args.outside.now c.entries.outside c.next_entry.new.self c.entries.invariant.0 c.in_err-target.ensures.lost)

pub returns-in_err-exited-in-Some-clause-given_up : goal.returns-in_err-exited-in-Some-clause-given_up
returns-in_err-exited-in-Some-clause-given_up g c =
    let comes = some_holds (λ x. (R : core.Tree Own) → g.M.Outside.goes R c.entries.outside None (event x.0.items (In None (whole_entry x.1))) c.next_entry.new.self) c.in_ok-target.field-0 _ c.in-Some.is c.in_ok-target.ensures.comes in
    let handed = some_holds (λ x. g.M.Outside.loses c.entries.outside c.next_entry.new.self) c.in_ok-target.field-0 _ c.in-Some.is c.in_ok-target.ensures.handed in
    at_any_err c.from_residual-in_err-exited-in-Some.result _
    (given_up_within g.M.Outside.goes g.M.Outside.loses (marks_of c.args.tree.now).integers (tree_of c.args.tree.now) c.entries.tree c.args.outside.now c.entries.outside c.next_entry.new.self c.live_through.new.outside c.in-Some.target.items (whole_entry c.in-Some.entry)
    (ap (λ (m : Marks). m.integers) c.entries.invariant.1.marks) c.entries.invariant.0 comes handed c.in_err-exited-in-Some.ensures.given_up)

pub returns-in_err-exited-in-Some-clause-steady : goal.returns-in_err-exited-in-Some-clause-steady
returns-in_err-exited-in-Some-clause-steady g c = steady-trans c.args.tree.now c.entries.tree c.live_through.new.tree c.entries.invariant.1 c.live_through.ensures.steady

pub returns-then-is_some-clause-lived : goal.returns-then-is_some-clause-lived
returns-then-is_some-clause-lived g c =
    let comes = some_holds (λ x. (R : core.Tree Own) → g.M.Outside.goes R c.entries.outside None (event x.0.items (In None (whole_entry x.1))) c.next_entry.new.self) c.in_ok-target.field-0 _ c.in-Some.is c.in_ok-target.ensures.comes in
    goes_on g.M.Outside.goes (marks_of c.args.tree.now).integers (tree_of c.args.tree.now) (tree_of c.live_through.new.tree) c.entries.tree c.args.outside.now c.entries.outside c.next_entry.new.self c.live_through.new.outside c.in-Some.target.items (whole_entry c.in-Some.entry) _
    (ap (λ (m : Marks). m.integers) c.entries.invariant.1.marks) c.entries.invariant.0 comes c.in_ok-exited-in-Some.ensures.comes

pub returns-then-is_some-clause-steady : goal.returns-then-is_some-clause-steady
returns-then-is_some-clause-steady g c = steady-trans c.args.tree.now c.entries.tree c.live_through.new.tree c.entries.invariant.1 c.live_through.ensures.steady

pub entries-preserved : goal.entries-preserved
entries-preserved g c =
    let comes = some_holds (λ x. (R : core.Tree Own) → g.M.Outside.goes R c.entries.outside None (event x.0.items (In None (whole_entry x.1))) c.next_entry.new.self) c.in_ok-target.field-0 _ c.in-Some.is c.in_ok-target.ensures.comes in
    let lived = goes_on g.M.Outside.goes (marks_of c.args.tree.now).integers (tree_of c.args.tree.now) (tree_of c.live_through.new.tree) c.entries.tree c.args.outside.now c.entries.outside c.next_entry.new.self c.live_through.new.outside c.in-Some.target.items (whole_entry c.in-Some.entry) _
    (ap (λ (m : Marks). m.integers) c.entries.invariant.1.marks) c.entries.invariant.0 comes c.in_ok-exited-in-Some.ensures.comes in (
      subst (λ x. Lived g.M.Outside.goes (language (marks_of c.args.tree.now).integers) (tree_of c.args.tree.now) c.args.outside.now (tree_of c.live_through.new.tree) c.live_through.new.outside x) (not_exited _ (sym c.is_some.ensures ∙ c.if-is_some.false)) lived,
      steady-trans c.args.tree.now c.entries.tree c.live_through.new.tree c.entries.invariant.1 c.live_through.ensures.steady,
    )

pub returns-in-None-clause-lived : goal.returns-in-None-clause-lived
returns-in-None-clause-lived g c =
    let same = none_holds (c.next_entry.new.self ≡ c.entries.outside) c.in_ok-target.field-0 c.in-None.is c.in_ok-target.ensures.none in
    subst (λ z. Lived g.M.Outside.goes (language (marks_of c.args.tree.now).integers) (tree_of c.args.tree.now) c.args.outside.now (tree_of c.entries.tree) z Finished) (sym same) c.entries.invariant.0
