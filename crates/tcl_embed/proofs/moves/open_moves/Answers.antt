use Rattle.std.proofs.Common.{[]}
use Rattle.tcl_tree.specs.TreeOf.{marks_of, tree_of}
use Rattle.tcl_run.proofs.Steady.{steady-refl}
use Rattle.tcl_embed.proofs.Moving.{bounded_so, counts_kept, counts_marked, denied_so, finished_so, given_up_so, moved_so}
use Rattle.tcl_eval.proofs.Starting.{at_none}
use Rattle.tcl_eval.specs.Running.{unfit}
use Rattle.tcl_embed.proofs.moves.open_moves.Goals as goal

pub returns-in-Ok-clause-moved : goal.returns-in-Ok-clause-moved
returns-in-Ok-clause-moved g c =
    moved_so g.O.Outside.goes (marks_of c.args.tree.now).integers (tree_of c.args.tree.now) (tree_of c.live_within-lived.new.tree) c.args.outside c.into_parts-outside.result.0 c.args.limit c.new-budgeted.result c.live_within-lived.new.budgeted c.into_parts-outside.result.1 c.in-Ok.exited c.outcome_of.result
    c.in-Ok.ensures.lived c.new-budgeted.ensures c.into_parts-outside.ensures.outside c.into_parts-outside.ensures.halt c.outcome_of.ensures

pub returns-in-Ok-clause-denied : goal.returns-in-Ok-clause-denied
returns-in-Ok-clause-denied g c =
    denied_so g.O.Outside.goes (marks_of c.args.tree.now).integers (tree_of c.args.tree.now) (tree_of c.live_within-lived.new.tree) c.args.outside c.into_parts-outside.result.0 c.args.limit c.new-budgeted.result c.live_within-lived.new.budgeted c.into_parts-outside.result.1 c.in-Ok.exited c.outcome_of.result
    c.in-Ok.ensures.lived c.new-budgeted.ensures c.into_parts-outside.ensures.outside c.into_parts-outside.ensures.halt c.outcome_of.ensures

pub returns-in-Ok-clause-bounded : goal.returns-in-Ok-clause-bounded
returns-in-Ok-clause-bounded g c = bounded_so g.O.Outside.goes c.args.tree.now c.live_within-lived.new.tree c.args.outside c.args.limit c.new-budgeted.result c.live_within-lived.new.budgeted c.in-Ok.exited c.in-Ok.ensures.lived c.new-budgeted.ensures

pub returns-in-Ok-clause-ends : goal.returns-in-Ok-clause-ends
returns-in-Ok-clause-ends g c = finished_so g.O.Mover.hands_next c.into_parts-outside.result.0 c.live_within-lived.new.budgeted c.into_parts-outside.result.1 c.in-Ok.exited c.outcome_of.result c.into_parts-outside.ensures.outside c.into_parts-outside.ensures.halt c.outcome_of.ensures c.in-Ok.ensures.ends

pub returns-in-Ok-clause-counted : goal.returns-in-Ok-clause-counted
returns-in-Ok-clause-counted g c = counts_kept c.args.tree.now c.live_within-lived.new.tree c.live_within-lived.ensures.steady

pub returns-in-Err-clause-counted : goal.returns-in-Err-clause-counted
returns-in-Err-clause-counted g c = counts_marked c.args.tree.now c.live_within-lived.new.tree c.mark_broken.new.self (counts_kept c.args.tree.now c.live_within-lived.new.tree c.live_within-lived.ensures.steady) c.mark_broken.ensures.tree c.mark_broken.ensures.keys

pub returns-in-Some-clause-counted : goal.returns-in-Some-clause-counted
returns-in-Some-clause-counted g c = counts_kept c.args.tree.now c.args.tree.now (steady-refl c.args.tree.now)

pub returns-in-Err-clause-given_up : goal.returns-in-Err-clause-given_up
returns-in-Err-clause-given_up g c =
    at_none (unfit c.args.tree.now [] [] c.args.limit) _ (given_up_so g.O.Outside.goes g.O.Outside.loses (marks_of c.args.tree.now).integers (tree_of c.args.tree.now) c.args.outside c.into_parts-outside.result.0 c.args.limit c.new-budgeted.result c.live_within-lived.new.budgeted c.new-budgeted.ensures c.into_parts-outside.ensures.outside c.in-Err.ensures.given_up)
