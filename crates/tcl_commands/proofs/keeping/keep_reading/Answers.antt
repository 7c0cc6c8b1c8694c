use Rattle.std.proofs.Common.{rules, ◌≡◌, Some, None, ap, ◌∙◌}
use Rattle.std.specs.Option.{option_map}
use Rattle.std.proofs.lemmas.Option.{same_Some}
use Rattle.tcl_core.specs.Trees.{Node}
use Rattle.tcl_run.proofs.Steady.{lent_level, stands}
use Rattle.tcl_tree.specs.Own.{Own}
use Rattle.tcl_tree.specs.TreeOf.{tree_of}
use Rattle.tcl_tree.proofs.CoreLemmas.{tree_there}
use Rattle.tcl_commands.proofs.Chains.{held_of, kept}
use Rattle.tcl_commands.proofs.keeping.keep_reading.Goals as goal

pub unreachable-requires : goal.unreachable-requires
unreachable-requires c =
    let p = c.requires.0 in
    let n = stands (tree_of c.args.tree.now p) (tree_there c.args.tree.now p _ c.requires.1) in
    let clash : None ≡ Some n.0.own.chain = c.in-None.ensures.value p c.requires.1 ∙ ap (option_map (λ (m : Node Own). m.own.chain)) n.1 in
    cc

pub returns-clause-same : goal.returns-clause-same
returns-clause-same c =
    let p = c.requires.0 in
    let next = c.keep_in_frames.new.frames in
    let t = c.args.tree.now in
    let u = c.frames_of.follows.lender next in
    let n = stands (tree_of t p) (tree_there t p _ c.requires.1) in
    kept t u c.args.place c.in-Some.frames.now next p n.0
    (held_of t u c.args.place c.in-Some.frames.now next (p, c.requires.1) (λ q at. c.frames_of.follows.holds next (search rules) q at)
    (λ q m at there. same_Some _ _ (c.in-Some.ensures.value q at ∙ ap (option_map (λ (m : Node Own). m.own.chain)) there)))
    c.keep_in_frames.ensures c.requires.1 n.1

pub returns-clause-level : goal.returns-clause-level
returns-clause-level c =
    let p = c.requires.0 in
    lent_level c.args.tree.now (c.frames_of.follows.lender c.keep_in_frames.new.frames) c.args.place p c.keep_in_frames.new.frames c.requires.1 (c.frames_of.follows.holds c.keep_in_frames.new.frames (search rules) p c.requires.1)
