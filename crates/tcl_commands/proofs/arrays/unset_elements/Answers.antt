use Rattle.std.proofs.Common.{rules, ◌≡◌, [], Some, None, ap, ◌∙◌}
use Rattle.std.specs.Option.{option_map, option_copied}
use Rattle.std.proofs.lemmas.Option.{same_Some}
use Rattle.tcl_core.specs.Endings.{ok}
use Rattle.tcl_core.specs.Programs.Prog.{done}
use Rattle.tcl_core.specs.Trees.{Node}
use Rattle.tcl_frames.specs.Arrays.{after_unset_elements}
use Rattle.tcl_run.proofs.Endings.{tells}
use Rattle.tcl_run.proofs.Steady.{stands}
use Rattle.tcl_tree.specs.Own.{Own}
use Rattle.tcl_tree.specs.TreeOf.{tree_of}
use Rattle.tcl_tree.proofs.CoreLemmas.{tree_there}
use Rattle.tcl_run.proofs.Steady.{lent_level}
use Rattle.tcl_commands.proofs.ArrayEnds.{changed_ends}
use Rattle.tcl_commands.proofs.Chains.{held_of, chain_goes, chain_fails}
use Rattle.tcl_commands.proofs.arrays.unset_elements.Goals as goal

pub unreachable-requires : goal.unreachable-requires
unreachable-requires c =
    let p = c.requires.0 in
    let n = stands (tree_of c.args.tree.now p) (tree_there c.args.tree.now p _ c.requires.1) in
    let clash : None ≡ Some n.0.own.chain = c.in-None.ensures.value p c.requires.1 ∙ ap (option_map (λ (m : Node Own). m.own.chain)) n.1 in
    cc

pub returns-in-Ok-clause-acts : goal.returns-in-Ok-clause-acts
returns-in-Ok-clause-acts c =
    let held = held_of c.args.tree.now (c.frames_of.follows.lender c.unset_elements.new.self) c.args.place c.in-Some.frames.now c.unset_elements.new.self c.requires
    (λ p at. c.frames_of.follows.holds c.unset_elements.new.self (search rules) p at)
    (λ p n at there. same_Some _ _ (c.in-Some.ensures.value p at ∙ ap (option_map (λ (m : Node Own). m.own.chain)) there)) in
    changed_ends c.args.tree.now (c.frames_of.follows.lender c.unset_elements.new.self) c.args.place (λ chain. after_unset_elements chain c.args.name.now (option_copied c.args.pattern)) c.empty.result c.empty.ensures
    (chain_goes c.args.tree.now (c.frames_of.follows.lender c.unset_elements.new.self) c.args.place c.in-Some.frames.now c.unset_elements.new.self held (λ chain. after_unset_elements chain c.args.name.now (option_copied c.args.pattern)) c.in-Ok.ensures.ok)

pub returns-in-Err-clause-acts : goal.returns-in-Err-clause-acts
returns-in-Err-clause-acts c =
    let held = held_of c.args.tree.now (c.frames_of.follows.lender c.unset_elements.new.self) c.args.place c.in-Some.frames.now c.unset_elements.new.self c.requires
    (λ p at. c.frames_of.follows.holds c.unset_elements.new.self (search rules) p at)
    (λ p n at there. same_Some _ _ (c.in-Some.ensures.value p at ∙ ap (option_map (λ (m : Node Own). m.own.chain)) there)) in
    chain_fails c.args.tree.now (c.frames_of.follows.lender c.unset_elements.new.self) c.args.place c.in-Some.frames.now c.unset_elements.new.self held (λ chain. after_unset_elements chain c.args.name.now (option_copied c.args.pattern))
    c.frame_failure.result c.in-Err.ensures.unchanged
    (tells c.in-Err.error (after_unset_elements c.in-Some.frames.now c.args.name.now (option_copied c.args.pattern)) c.frame_failure.result c.in-Err.ensures.err c.frame_failure.ensures) (λ style. done (ok []))

pub returns-in-Ok-clause-level : goal.returns-in-Ok-clause-level
returns-in-Ok-clause-level c =
    lent_level c.args.tree.now (c.frames_of.follows.lender c.unset_elements.new.self) c.args.place c.requires.0 c.unset_elements.new.self c.requires.1 (c.frames_of.follows.holds c.unset_elements.new.self (search rules) c.requires.0 c.requires.1)

pub returns-in-Err-clause-level : goal.returns-in-Err-clause-level
returns-in-Err-clause-level c =
    lent_level c.args.tree.now (c.frames_of.follows.lender c.unset_elements.new.self) c.args.place c.requires.0 c.unset_elements.new.self c.requires.1 (c.frames_of.follows.holds c.unset_elements.new.self (search rules) c.requires.0 c.requires.1)
