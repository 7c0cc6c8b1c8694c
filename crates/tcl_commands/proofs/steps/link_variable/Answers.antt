use Rattle.std.proofs.Common.{rules, ◌≡◌, Some, None, ap, ◌∙◌}
use Rattle.std.specs.Option.{option_map}
use Rattle.std.proofs.lemmas.Option.{same_Some}
use Rattle.tcl_core.specs.Trees.{Node}
use Rattle.tcl_frames.specs.Chain.{after_link}
use Rattle.tcl_run.proofs.Endings.{tells}
use Rattle.tcl_run.proofs.Steady.{stands}
use Rattle.tcl_tree.specs.Own.{Own}
use Rattle.tcl_tree.specs.TreeOf.{tree_of}
use Rattle.tcl_tree.proofs.CoreLemmas.{tree_there}
use Rattle.tcl_run.proofs.Steady.{lent_level}
use Rattle.tcl_commands.proofs.Chains.{held_of, chain_goes, chain_fails}
use Rattle.tcl_commands.proofs.steps.link_variable.Goals as goal

pub unreachable-requires : goal.unreachable-requires
unreachable-requires c =
    let p = c.requires.0 in
    let n = stands (tree_of c.args.tree.now p) (tree_there c.args.tree.now p _ c.requires.1) in
    let clash : None ≡ Some n.0.own.chain = c.in-None.ensures.value p c.requires.1 ∙ ap (option_map (λ (m : Node Own). m.own.chain)) n.1 in
    cc

pub returns-in-Ok-clause-linked : goal.returns-in-Ok-clause-linked
returns-in-Ok-clause-linked c =
    let held = held_of c.args.tree.now (c.frames_of.follows.lender c.link.new.self) c.args.place c.in-Some.frames.now c.link.new.self c.requires
    (λ p at. c.frames_of.follows.holds c.link.new.self (search rules) p at)
    (λ p n at there. same_Some _ _ (c.in-Some.ensures.value p at ∙ ap (option_map (λ (m : Node Own). m.own.chain)) there)) in
    chain_goes c.args.tree.now (c.frames_of.follows.lender c.link.new.self) c.args.place c.in-Some.frames.now c.link.new.self held
    (λ chain. after_link chain c.args.level c.args.other.now c.args.local.now) c.in-Ok.ensures.ok

pub returns-in-Err-clause-linked : goal.returns-in-Err-clause-linked
returns-in-Err-clause-linked c =
    let held = held_of c.args.tree.now (c.frames_of.follows.lender c.link.new.self) c.args.place c.in-Some.frames.now c.link.new.self c.requires
    (λ p at. c.frames_of.follows.holds c.link.new.self (search rules) p at)
    (λ p n at there. same_Some _ _ (c.in-Some.ensures.value p at ∙ ap (option_map (λ (m : Node Own). m.own.chain)) there)) in
    chain_fails c.args.tree.now (c.frames_of.follows.lender c.link.new.self) c.args.place c.in-Some.frames.now c.link.new.self held
    (λ chain. after_link chain c.args.level c.args.other.now c.args.local.now) c.frame_failure.result c.in-Err.ensures.unchanged
    (tells c.in-Err.error (after_link c.in-Some.frames.now c.args.level c.args.other.now c.args.local.now) c.frame_failure.result c.in-Err.ensures.err c.frame_failure.ensures)

pub returns-in-Ok-clause-level : goal.returns-in-Ok-clause-level
returns-in-Ok-clause-level c =
    lent_level c.args.tree.now (c.frames_of.follows.lender c.link.new.self) c.args.place c.requires.0 c.link.new.self c.requires.1 (c.frames_of.follows.holds c.link.new.self (search rules) c.requires.0 c.requires.1)

pub returns-in-Err-clause-level : goal.returns-in-Err-clause-level
returns-in-Err-clause-level c =
    lent_level c.args.tree.now (c.frames_of.follows.lender c.link.new.self) c.args.place c.requires.0 c.link.new.self c.requires.1 (c.frames_of.follows.holds c.link.new.self (search rules) c.requires.0 c.requires.1)
