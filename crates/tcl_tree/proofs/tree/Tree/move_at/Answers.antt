use Rattle.std.proofs.Common.{◌∙◌, ap, arith}
use Rattle.std.specs.Option.{option_map}
use Rattle.std.proofs.lemmas.Bool.{OnFalse_at}
use Rattle.tcl_interpreter.specs.declared.node.Meter.{Meter}
use Rattle.tcl_tree.specs.Held.{held_in, depth_at}
use Rattle.tcl_tree.proofs.HeapLemmas.{sound_placed, guarded_placed}
use Rattle.tcl_tree.proofs.DepthLemmas.{raised_follow, raised_ordered, raised_steps, raised_over, raised_others, steps_grow, steps_ordered, stepped, with_depth}
use Rattle.tcl_tree.proofs.tree.Tree.move_at.Goals as goal

pub raise-requires : goal.raise-requires
raise-requires c = (c.args.self.now.root, c.requires.there.0, c.args.self.now.sound, c.requires.there.1, c.in_default-full_level.ensures.none c.requires.there.0 c.requires.there.1)

pub raise_alone-requires-clause-room : goal.raise_alone-requires-clause-room
raise_alone-requires-clause-room c = (c.args.self.now.root, c.requires.there.0, c.args.self.now.sound, c.requires.there.1, OnFalse_at c.if-full.false c.in-Some.ensures.room c.requires.there.0 c.requires.there.1)

pub invariant_of-self : goal.invariant_of-self
invariant_of-self c =
    let r = c.raise_alone.ensures c.args.self.now.root c.requires.there.0 c.args.self.now.sound c.requires.there.1 in
    record {
      sound = sound_placed _ _ r.places _ c.args.self.now.sound;
      guarded = guarded_placed _ _ r.places c.args.self.now.guarded;
      ordered = raised_ordered c.args.meter _ _ _ _ _ c.args.self.now.sound c.args.self.now.ordered c.requires.there.1 r
          (λ x k n e v a. let y = c.args.self.now.ordered.depths x k n e in let z = steps_grow c.args.meter c.requires.onward (depth_at (held_in (Rattle.slab.specs.Slab.get c.args.self.now.nodes) k)) in omega (arith, y, z))
          (steps_ordered c.args.meter);
    }

pub invariant_of-self-2 : goal.invariant_of-self-2
invariant_of-self-2 c =
    let r = c.raise.ensures c.args.self.now.root c.requires.there.0 c.args.self.now.sound c.requires.there.1 in
    record {
      sound = sound_placed _ _ r.places _ c.args.self.now.sound;
      guarded = guarded_placed _ _ r.places c.args.self.now.guarded;
      ordered = raised_ordered c.args.meter _ _ _ _ _ c.args.self.now.sound c.args.self.now.ordered c.requires.there.1 r
          (λ x k n e v a. let y = c.args.self.now.ordered.depths x k n e in let z = steps_grow c.args.meter c.requires.onward (depth_at (held_in (Rattle.slab.specs.Slab.get c.args.self.now.nodes) k)) in omega (arith, y, z))
          (steps_ordered c.args.meter);
    }

pub returns-in-Some-clause-keys : goal.returns-in-Some-clause-keys
returns-in-Some-clause-keys c = raised_follow c.args.meter _ _ _ _ _ c.args.self.now.sound c.args.self.now.ordered c.requires.there.1 (c.raise_alone.ensures c.args.self.now.root c.requires.there.0 c.args.self.now.sound c.requires.there.1)

pub returns-in-Some-clause-counted : goal.returns-in-Some-clause-counted
returns-in-Some-clause-counted c = raised_steps c.args.meter _ _ _ _ _ c.args.self.now.sound c.args.self.now.ordered c.requires.there.1 (c.raise_alone.ensures c.args.self.now.root c.requires.there.0 c.args.self.now.sound c.requires.there.1)

pub returns-in-Some-clause-deeper : goal.returns-in-Some-clause-deeper
returns-in-Some-clause-deeper c = λ is.
    let r = c.raise_alone.ensures c.args.self.now.root c.requires.there.0 c.args.self.now.sound c.requires.there.1 in
    record {
      over = λ a w. raised_over c.args.meter _ _ _ _ _ c.args.self.now.sound c.args.self.now.ordered c.requires.there.1 r a w
          ∙ ap (λ (m : Meter). option_map (with_depth (stepped m)) (held_in (Rattle.slab.specs.Slab.get c.args.self.now.nodes) a)) is;
      others = raised_others c.args.meter _ _ _ _ _ c.args.self.now.sound c.args.self.now.ordered c.requires.there.1 r;
    }

pub returns-clause-keys : goal.returns-clause-keys
returns-clause-keys c = raised_follow c.args.meter _ _ _ _ _ c.args.self.now.sound c.args.self.now.ordered c.requires.there.1 (c.raise.ensures c.args.self.now.root c.requires.there.0 c.args.self.now.sound c.requires.there.1)

pub returns-clause-charged : goal.returns-clause-charged
returns-clause-charged c = λ p at. (c.raise.ensures c.args.self.now.root p c.args.self.now.sound at).tree

pub returns-clause-counted : goal.returns-clause-counted
returns-clause-counted c = raised_steps c.args.meter _ _ _ _ _ c.args.self.now.sound c.args.self.now.ordered c.requires.there.1 (c.raise.ensures c.args.self.now.root c.requires.there.0 c.args.self.now.sound c.requires.there.1)

pub returns-clause-deeper : goal.returns-clause-deeper
returns-clause-deeper c = λ is.
    let r = c.raise.ensures c.args.self.now.root c.requires.there.0 c.args.self.now.sound c.requires.there.1 in
    record {
      over = λ a w. raised_over c.args.meter _ _ _ _ _ c.args.self.now.sound c.args.self.now.ordered c.requires.there.1 r a w
          ∙ ap (λ (m : Meter). option_map (with_depth (stepped m)) (held_in (Rattle.slab.specs.Slab.get c.args.self.now.nodes) a)) is;
      others = raised_others c.args.meter _ _ _ _ _ c.args.self.now.sound c.args.self.now.ordered c.requires.there.1 r;
    }
