use Rattle.std.proofs.Common.{◌≡◌, Some, None, rules, sym, ap, ◌∙◌}
use Rattle.std.proofs.lemmas.Option.{same_Some}
use Rattle.std.specs.Option.{option_map}
use Rattle.tcl_core.specs.Trees.{Node, effect}
use Rattle.tcl_core.specs.Trees.What.{Changed}
use Rattle.tcl_frames.specs.Chain as frames
use Rattle.tcl_frames.specs.Chain.{Chain}
use Rattle.tcl_language.specs.Control.{level_over}
use Rattle.tcl_run.proofs.Leads.{closes_gone, closes_here}
use Rattle.tcl_language.specs.Instructions.{with_chain}
use Rattle.tcl_run.proofs.Steady.{holds_named, lent_level, stands}
use Rattle.tcl_tree.specs.Own.{Own}
use Rattle.tcl_tree.specs.TreeOf.{tree_of}
use Rattle.tcl_tree.proofs.CoreLemmas.{tree_there}
use Rattle.tcl_calls.proofs.levels.bring_back.Goals as goal

pub frames_of-requires : goal.frames_of-requires
frames_of-requires c = (c.requires.0, holds_named c.args.tree.now c.args.place c.requires.0 c.requires.1 c.requires.2 (sym (c.is_gone.ensures c.requires.0 c.requires.1 c.requires.2) ∙ c.in_default.is))

pub unreachable-requires : goal.unreachable-requires
unreachable-requires c =
    let p = c.requires.0 in
    let at = holds_named c.args.tree.now c.args.place p c.requires.1 c.requires.2 (sym (c.is_gone.ensures p c.requires.1 c.requires.2) ∙ c.in_default.is) in
    let n = stands (tree_of c.args.tree.now p) (tree_there c.args.tree.now p _ at) in
    let clash : None ≡ Some n.0.own.chain = c.in-None.ensures.value p at ∙ ap (option_map (λ (m : Node Own). m.own.chain)) n.1 in
    cc

pub returns-in-Some-clause-back : goal.returns-in-Some-clause-back
returns-in-Some-clause-back c = λ p d h. closes_gone (tree_of c.args.tree.now) p d _ level_over (sym (c.is_gone.ensures p d h) ∙ c.in-Some.is)

pub returns-clause-back : goal.returns-clause-back
returns-clause-back c = λ p d h.
    let none = sym (c.is_gone.ensures p d h) ∙ c.in_default.is in
    let at = holds_named c.args.tree.now c.args.place p d h none in
    let n = stands (tree_of c.args.tree.now p) (tree_there c.args.tree.now p _ at) in
    let held = c.frames_of.follows.holds c.bring_back.new.self (search rules) p at in
    let chain : c.in-Some-frames_of.frames.now ≡ n.0.own.chain = same_Some _ _ (c.in-Some-frames_of.ensures.value p at ∙ ap (option_map (λ (m : Node Own). m.own.chain)) n.1) in
    held.tree n.0 n.1 ∙ ap (λ (x : Chain). effect p (Changed (with_chain n.0.own x)) (tree_of c.args.tree.now)) (c.bring_back.ensures ∙ ap frames.brought_back chain)
    ∙ closes_here (tree_of c.args.tree.now) p d n.0 level_over none n.1

pub returns-clause-level : goal.returns-clause-level
returns-clause-level c =
    let at = holds_named c.args.tree.now c.args.place c.requires.0 c.requires.1 c.requires.2 (sym (c.is_gone.ensures c.requires.0 c.requires.1 c.requires.2) ∙ c.in_default.is) in
    lent_level c.args.tree.now _ c.args.place c.requires.0 _ at (c.frames_of.follows.holds c.bring_back.new.self (search rules) c.requires.0 at)
