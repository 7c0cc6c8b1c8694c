use Rattle.std.proofs.Common.{rules, ◌≡◌, ap, ◌∙◌}
use Rattle.std.proofs.lemmas.Option.{same_Some}
use Rattle.std.specs.Option.{option_map}
use Rattle.tcl_core.specs.Trees.{Node, effect}
use Rattle.tcl_core.specs.Trees.What.{Changed}
use Rattle.tcl_frames.specs.Chain.{Chain}
use Rattle.tcl_language.specs.Instructions.{with_chain}
use Rattle.tcl_tree.specs.Own.{Own}
use Rattle.tcl_tree.specs.TreeOf.{tree_of}
use Rattle.tcl_tree.proofs.CoreLemmas.{tree_there}
use Rattle.tcl_run.proofs.Steady.{changed_same, lent_level, stands}
use Rattle.tcl_run.proofs.steps.write_by_word.Goals as goal

pub returns-in-Err-clause-unchanged : goal.returns-in-Err-clause-unchanged
returns-in-Err-clause-unchanged c =
    let p = c.requires.0 in
    let n = stands (tree_of c.args.tree.now p) (tree_there c.args.tree.now p _ c.requires.1) in
    let chain : c.set_by_word.new.frames ≡ n.0.own.chain = c.in-Err.ensures.unchanged ∙ same_Some _ _ (c.in-Some.ensures.value p c.requires.1 ∙ ap (option_map (λ (m : Node Own). m.own.chain)) n.1) in
    let held = c.frames_of.follows.holds c.set_by_word.new.frames (search rules) p c.requires.1 in
    held.tree n.0 n.1 ∙ ap (λ (x : Chain). effect p (Changed (with_chain n.0.own x)) (tree_of c.args.tree.now)) chain ∙ changed_same (tree_of c.args.tree.now) p n.0 n.1

pub returns-in-Ok-clause-level : goal.returns-in-Ok-clause-level
returns-in-Ok-clause-level c = lent_level c.args.tree.now _ c.args.place c.requires.0 _ c.requires.1 (c.frames_of.follows.holds c.set_by_word.new.frames (search rules) c.requires.0 c.requires.1)

pub returns-in-Err-clause-level : goal.returns-in-Err-clause-level
returns-in-Err-clause-level c = lent_level c.args.tree.now _ c.args.place c.requires.0 _ c.requires.1 (c.frames_of.follows.holds c.set_by_word.new.frames (search rules) c.requires.0 c.requires.1)
