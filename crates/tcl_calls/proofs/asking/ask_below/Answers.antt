use Rattle.std.proofs.Common.{refl, arith}
use Rattle.std.specs.Prelude.{Err}
use Rattle.tcl_core.specs.Trees.{depth_of}
use Rattle.tcl_run.specs.Entering.{whole_entry}
use Rattle.tcl_run.specs.Runs.{IsLoss}
use Rattle.tcl_run.proofs.Losing.{lost_once, lost_twice}
use Rattle.tcl_run.proofs.Steady.{steady_holds}
use Rattle.tcl_tree.specs.TreeOf.{tree_of}
use Rattle.tcl_calls.proofs.Carried.{asks_there, asks_nobody}
use Rattle.tcl_calls.proofs.Reached.{never_outside, there_below}
use Rattle.tcl_calls.proofs.Standing.{here_above}
use Rattle.tcl_calls.proofs.asking.ask_below.Goals as goal

pub unreachable-requires : goal.unreachable-requires
unreachable-requires g c = never_outside c.args.tree.now c.args.place c.args.path.now (λ p at. c.in-Outside.ensures p at) c.requires.running.0 c.requires.running.1

pub return_to_caller-requires : goal.return_to_caller-requires
return_to_caller-requires g c =
    let p = c.requires.running.0 in
    (p, depth_of (tree_of c.args.tree.now p), steady_holds c.args.tree.now c.serve_own-ended.new.tree c.args.place p c.serve_own-ended.ensures.keeps.steady c.requires.running.1 c.requires.running.2)

pub returns-in-There-clause-calls : goal.returns-in-There-clause-calls
returns-in-There-clause-calls g c = asks_there g.O.Outside.goes c.args.tree.now c.serve_own-ended.new.tree c.args.outside.now c.args.place c.args.path.now (whole_entry c.args.entry) c.return_to_caller.result
    c.notify.new.self c.serve_own-ended.new.outside c.return_to_caller.new.outside c.in-There.there c.serve_own-ended.result (λ p at. c.in-There.ensures p at) c.in_ok-notify-in-There.ensures.told
    c.serve_own-ended.ensures.runs
    c.return_to_caller.ensures.comes c.serve_own-ended.ensures.keeps.steady

pub returns-in-There-clause-keeps : goal.returns-in-There-clause-keeps
returns-in-There-clause-keeps g c =
    let told : IsLoss g.O.Outside.loses c.args.outside.now c.notify.new.self = lost_once c.notify.ensures.lost in
    record {
      steady = c.serve_own-ended.ensures.keeps.steady;
      left = let a = c.notify.ensures.left in let b = c.serve_own-ended.ensures.keeps.left in let d = c.return_to_caller.ensures.left in omega arith;
      lost = lost_twice (lost_twice told c.serve_own-ended.ensures.keeps.lost) c.return_to_caller.ensures.lost;
    }

pub returns-in-There-clause-here : goal.returns-in-There-clause-here
returns-in-There-clause-here g c = here_above c.args.tree.now c.serve_own-ended.new.tree c.args.place c.in-There.there c.args.path.now
    (there_below c.args.tree.now c.args.place c.in-There.there c.args.path.now (λ p at. c.in-There.ensures p at)) c.serve_own-ended.ensures.here

pub returns-in-Missing-clause-calls : goal.returns-in-Missing-clause-calls
returns-in-Missing-clause-calls g c = asks_nobody g.O.Outside.goes c.args.tree.now c.args.tree.now c.args.outside.now c.args.place c.args.path.now (whole_entry c.args.entry) (Err c.no_interpreter.result)
    c.notify-in-Missing.new.self (λ p at. c.in-Missing.ensures p at) refl c.no_interpreter.ensures c.in_ok-notify-in-Missing.ensures.told
