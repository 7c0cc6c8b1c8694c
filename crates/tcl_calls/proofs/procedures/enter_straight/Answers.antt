use Rattle.std.proofs.Common.{◌≡◌, ◌∷◌, rules, ap, ◌∙◌}
use Rattle.std.proofs.lemmas.Option.{same_Some}
use Rattle.std.proofs.lemmas.Result.{on_ok_weaker}
use Rattle.std.specs.Option.{option_map}
use Rattle.tcl_core.specs.Trees.{Node, effect}
use Rattle.tcl_core.specs.Trees.What.{Changed}
use Rattle.tcl_frames.specs.Chain.{Chain, pushed}
use Rattle.tcl_language.specs.Control.{bound}
use Rattle.tcl_language.specs.Instructions.{with_chain}
use Rattle.tcl_run.proofs.Steady.{lent_level}
use Rattle.tcl_tree.specs.Own.{Own}
use Rattle.tcl_tree.specs.TreeOf.{tree_of}
use Rattle.tcl_calls.specs.Procedures.{straight}
use Rattle.tcl_calls.proofs.procedures.enter_straight.Goals as goal

pub returns-clause-entered : goal.returns-clause-entered
returns-clause-entered c =
    on_ok_weaker c.bind_straight.result
    (λ set p n at is.
    let held = c.frames_of.follows.holds c.bind_straight.new.frames (search rules) p at in
    let chain : c.in-Some.frames.now ≡ n.own.chain = same_Some _ _ (c.in-Some.ensures.value p at ∙ ap (option_map (λ (m : Node Own). m.own.chain)) is) in
    held.tree n is ∙ ap (λ (x : Chain). effect p (Changed (with_chain n.own x)) (tree_of c.args.tree.now))
    (set ∙ ap (bound (straight c.args.parameters.now c.args.args.now)) (c.in_ok-push_call.ensures.ok ∙ ap (λ (x : Chain). pushed x (c.args.word.now ∷ c.args.args.now)) chain)))
    c.bind_straight.ensures.bound

pub returns-in_err-push_call-clause-level : goal.returns-in_err-push_call-clause-level
returns-in_err-push_call-clause-level c =
    let named = c.requires.named in
    lent_level c.args.tree.now _ c.args.place named.0 _ named.1 (c.frames_of.follows.holds c.push_call.new.self (search rules) named.0 named.1)

pub returns-clause-level : goal.returns-clause-level
returns-clause-level c =
    let named = c.requires.named in
    lent_level c.args.tree.now _ c.args.place named.0 _ named.1 (c.frames_of.follows.holds c.bind_straight.new.frames (search rules) named.0 named.1)
