use Rattle.std.proofs.Common.{◌≡◌, rules, ◌∙◌, ap, subst}
use Rattle.std.proofs.lemmas.Option.{same_Some}
use Rattle.std.specs.Option.{option_map}
use Rattle.tcl_core.specs.Trees.{Node, effect}
use Rattle.tcl_core.specs.Trees.What.{Changed}
use Rattle.tcl_frames.specs.Chain.{Chain, set_aside}
use Rattle.tcl_language.specs.Instructions.{with_chain}
use Rattle.tcl_frames.specs.Faults.{Refuses}
use Rattle.tcl_frames.specs.declared.fault.FrameError.{FrameError}
use Rattle.tcl_frames.specs.declared.fault.FrameError.TheVariants.{Fault}
use Rattle.tcl_run.proofs.Steady.{lent_level}
use Rattle.tcl_tree.specs.Own.{Own}
use Rattle.tcl_tree.specs.TreeOf.{tree_of}
use Rattle.tcl_calls.proofs.Levelling.{refused_chain}
use Rattle.tcl_calls.proofs.levels.set_aside.Goals as goal

pub returns-in-Err-Fault-clause-aside : goal.returns-in-Err-Fault-clause-aside
returns-in-Err-Fault-clause-aside c = λ p n at there.
    let held = c.frames_of.follows.holds c.set_aside.new.self (search rules) p at in
    let chain : c.in-Some.frames.now ≡ n.own.chain = same_Some _ _ (c.in-Some.ensures.value p at ∙ ap (option_map (λ (m : Node Own). m.own.chain)) there) in
    let refused = subst (λ (e : FrameError). Refuses e (set_aside c.in-Some.frames.now c.args.level)) c.in-Err-Fault.field-0-is c.in-Err-Fault.ensures.err in
    held.tree n there ∙ ap (λ (x : Chain). effect p (Changed (with_chain n.own x)) (tree_of c.args.tree.now))
    (c.in-Err-Fault.ensures.unchanged ∙ chain ∙ refused_chain c.in-Err-Fault.field-0-0 n.own.chain (set_aside n.own.chain c.args.level) (subst (λ (x : Chain). Refuses (Fault c.in-Err-Fault.field-0-0) (set_aside x c.args.level)) chain refused))

pub returns-in-Ok-clause-level : goal.returns-in-Ok-clause-level
returns-in-Ok-clause-level c = lent_level c.args.tree.now _ c.args.place c.requires.0 _ c.requires.1 (c.frames_of.follows.holds c.set_aside.new.self (search rules) c.requires.0 c.requires.1)

pub returns-in-Err-Fault-clause-level : goal.returns-in-Err-Fault-clause-level
returns-in-Err-Fault-clause-level c = lent_level c.args.tree.now _ c.args.place c.requires.0 _ c.requires.1 (c.frames_of.follows.holds c.set_aside.new.self (search rules) c.requires.0 c.requires.1)

pub returns-clause-level : goal.returns-clause-level
returns-clause-level c = lent_level c.args.tree.now _ c.args.place c.requires.0 _ c.requires.1 (c.frames_of.follows.holds c.set_aside.new.self (search rules) c.requires.0 c.requires.1)
