use Rattle.std.proofs.Common.{rules, ◌≡◌, Some, None, ap, ◌∙◌}
use Rattle.std.specs.Option.{option_map}
use Rattle.std.proofs.lemmas.Option.{same_Some}
use Rattle.tcl_core.specs.Trees.{Node}
use Rattle.tcl_language.specs.Instructions.{with_chain}
use Rattle.tcl_run.proofs.Steady.{changed_level, stands}
use Rattle.tcl_tree.specs.LendingTree.{HasFrames}
use Rattle.tcl_tree.specs.Own.{Own}
use Rattle.tcl_tree.specs.TreeOf.{tree_of}
use Rattle.tcl_tree.proofs.CoreLemmas.{tree_there}
use Rattle.tcl_commands.specs.Changed.{altered}
use Rattle.tcl_commands.proofs.Alterations.{alter_acts}
use Rattle.tcl_commands.proofs.changing.change_variable.Goals as goal

pub unreachable-requires : goal.unreachable-requires
unreachable-requires c =
    let p = c.requires.0 in
    let n = stands (tree_of c.args.tree.now p) (tree_there c.args.tree.now p _ c.requires.1) in
    let clash : None ≡ Some n.0.own.chain = c.in-None.ensures.value p c.requires.1 ∙ ap (option_map (λ (m : Node Own). m.own.chain)) n.1 in
    cc

pub returns-clause-acts : goal.returns-clause-acts
returns-clause-acts c =
    alter_acts c.args.tree.now (c.frames_of.follows.lender c.change_in.new.frames) c.args.place c.in-Some.frames.now c.change_in.new.frames c.args.makes c.args.name.now (altered c.args.change) c.change_in.result
    (λ p at. c.frames_of.follows.holds c.change_in.new.frames (search rules) p at)
    (λ p n at there. same_Some _ _ (c.in-Some.ensures.value p at ∙ ap (option_map (λ (m : Node Own). m.own.chain)) there)) c.change_in.ensures

pub returns-clause-level : goal.returns-clause-level
returns-clause-level c =
    let p = c.requires.0 in
    let next = c.frames_of.follows.lender c.change_in.new.frames in
    let held : HasFrames c.args.tree.now next p c.change_in.new.frames = c.frames_of.follows.holds c.change_in.new.frames (search rules) p c.requires.1 in
    let n = stands (tree_of c.args.tree.now p) (tree_there c.args.tree.now p _ c.requires.1) in
    changed_level c.args.tree.now next p (with_chain n.0.own c.change_in.new.frames) held.marks held.keys held.held (held.tree n.0 n.1)
