use Rattle.std.proofs.Common.{rules, ◌≡◌, Some, None, ap, ◌∙◌}
use Rattle.std.specs.Option.{option_map}
use Rattle.std.proofs.lemmas.Option.{same_Some}
use Rattle.tcl_core.specs.Trees.{Node}
use Rattle.tcl_run.proofs.Steady.{lent_level, stands}
use Rattle.tcl_tree.specs.Own.{Own}
use Rattle.tcl_tree.specs.TreeOf.{tree_of}
use Rattle.tcl_tree.proofs.CoreLemmas.{tree_there}
use Rattle.tcl_commands.specs.Derived.{text_of}
use Rattle.tcl_commands.proofs.SetParts.{set_acts}
use Rattle.tcl_commands.proofs.derivation.set_derived.Goals as goal

pub unreachable-requires : goal.unreachable-requires
unreachable-requires c =
    let p = c.requires.0 in
    let n = stands (tree_of c.args.tree.now p) (tree_there c.args.tree.now p _ c.requires.1) in
    let clash : None ≡ Some n.0.own.chain = c.in-None.ensures.value p c.requires.1 ∙ ap (option_map (λ (m : Node Own). m.own.chain)) n.1 in
    cc

pub returns-clause-acts : goal.returns-clause-acts
returns-clause-acts c =
    set_acts c.args.tree.now (c.frames_of.follows.lender c.set_to_derived.new.frames) c.args.place c.in-Some.frames.now c.set_to_derived.new.frames c.args.name.now (text_of c.args.derived) c.set_to_derived.result
    (λ p at. c.frames_of.follows.holds c.set_to_derived.new.frames (search rules) p at)
    (λ p n at there. same_Some _ _ (c.in-Some.ensures.value p at ∙ ap (option_map (λ (m : Node Own). m.own.chain)) there)) c.set_to_derived.ensures

pub returns-clause-level : goal.returns-clause-level
returns-clause-level c =
    let p = c.requires.0 in
    lent_level c.args.tree.now (c.frames_of.follows.lender c.set_to_derived.new.frames) c.args.place p c.set_to_derived.new.frames c.requires.1 (c.frames_of.follows.holds c.set_to_derived.new.frames (search rules) p c.requires.1)
