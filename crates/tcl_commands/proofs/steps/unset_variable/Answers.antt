use Rattle.std.proofs.Common.{rules, ◌≡◌, Some, None, ap, ◌∙◌}
use Rattle.std.specs.Option.{option_map}
use Rattle.std.proofs.lemmas.Option.{same_Some}
use Rattle.tcl_core.specs.Trees.{Node}
use Rattle.tcl_run.proofs.Steady.{stands}
use Rattle.tcl_tree.specs.Own.{Own}
use Rattle.tcl_tree.specs.TreeOf.{tree_of}
use Rattle.tcl_tree.proofs.CoreLemmas.{tree_there}
use Rattle.tcl_run.proofs.Steady.{lent_level}
use Rattle.tcl_commands.proofs.Chains.{held_of, unset_goes, unset_ends}
use Rattle.tcl_commands.proofs.steps.unset_variable.Goals as goal

pub unreachable-requires : goal.unreachable-requires
unreachable-requires c =
    let p = c.requires.0 in
    let n = stands (tree_of c.args.tree.now p) (tree_there c.args.tree.now p _ c.requires.1) in
    let clash : None ≡ Some n.0.own.chain = c.in-None.ensures.value p c.requires.1 ∙ ap (option_map (λ (m : Node Own). m.own.chain)) n.1 in
    cc

pub returns-in-Ok-clause-unset : goal.returns-in-Ok-clause-unset
returns-in-Ok-clause-unset c =
    let held = held_of c.args.tree.now (c.frames_of.follows.lender c.unset.new.self) c.args.place c.in-Some.frames.now c.unset.new.self c.requires
    (λ p at. c.frames_of.follows.holds c.unset.new.self (search rules) p at)
    (λ p n at there. same_Some _ _ (c.in-Some.ensures.value p at ∙ ap (option_map (λ (m : Node Own). m.own.chain)) there)) in
    unset_goes c.args.tree.now (c.frames_of.follows.lender c.unset.new.self) c.args.place c.in-Some.frames.now c.unset.new.self held c.args.hides c.args.name.now c.in-Ok.ensures.ok

pub returns-in-Err-clause-unset : goal.returns-in-Err-clause-unset
returns-in-Err-clause-unset c =
    let held = held_of c.args.tree.now (c.frames_of.follows.lender c.unset.new.self) c.args.place c.in-Some.frames.now c.unset.new.self c.requires
    (λ p at. c.frames_of.follows.holds c.unset.new.self (search rules) p at)
    (λ p n at there. same_Some _ _ (c.in-Some.ensures.value p at ∙ ap (option_map (λ (m : Node Own). m.own.chain)) there)) in
    unset_ends c.args.tree.now (c.frames_of.follows.lender c.unset.new.self) c.args.place c.in-Some.frames.now c.unset.new.self held
    c.args.hides c.args.name.now c.in-Err.error c.left_set.result c.in-Err.ensures.unchanged c.in-Err.ensures.err c.left_set.ensures

pub returns-in-Err-clause-level : goal.returns-in-Err-clause-level
returns-in-Err-clause-level c =
    let held = held_of c.args.tree.now (c.frames_of.follows.lender c.unset.new.self) c.args.place c.in-Some.frames.now c.unset.new.self c.requires
    (λ p at. c.frames_of.follows.holds c.unset.new.self (search rules) p at)
    (λ p n at there. same_Some _ _ (c.in-Some.ensures.value p at ∙ ap (option_map (λ (m : Node Own). m.own.chain)) there)) in
    held.level

pub returns-in-Ok-clause-level : goal.returns-in-Ok-clause-level
returns-in-Ok-clause-level c =
    lent_level c.args.tree.now (c.frames_of.follows.lender c.unset.new.self) c.args.place c.requires.0 c.unset.new.self c.requires.1 (c.frames_of.follows.holds c.unset.new.self (search rules) c.requires.0 c.requires.1)
