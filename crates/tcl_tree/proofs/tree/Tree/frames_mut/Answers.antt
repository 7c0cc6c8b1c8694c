use Rattle.std.proofs.Common.{◌≡◌, true, false, refl, sym, ◌∙◌, ap}
use Rattle.std.specs.Option.{option_map}
use Rattle.tcl_tree.specs.Nodes.{NodeView}
use Rattle.tcl_tree.proofs.HeapLemmas.{tree-none}
use Rattle.tcl_tree.proofs.OwnLemmas.{frames_sound, frames_guarded, frames_ordered, frames_held, frames_tree, frames_keys, chain_value}
use Rattle.tcl_tree.proofs.tree.Tree.frames_mut.Goals as goal

pub invariant_of-self-lent : goal.invariant_of-self-lent
invariant_of-self-lent c = λ _. (
  (λ w. (frames_sound c.args.self.now.nodes _ c.args.self.now.sound _ _ (sym c.in-Some.ensures) w, (frames_guarded c.args.self.now.nodes _ c.args.self.now.sound _ _ (sym c.in-Some.ensures) w c.args.self.now.guarded, (frames_ordered c.args.self.now.nodes _ c.args.self.now.sound _ _ (sym c.in-Some.ensures) w c.args.self.now.ordered, tt)))),
  (c.args.self.now.sound, (c.args.self.now.guarded, (c.args.self.now.ordered, tt))),
)

pub returns : goal.returns
returns c = (
  (
    refl,
    (λ w _. record {
      tree = frames_tree c.args.self.now.nodes _ c.args.self.now.sound c.args.path.now _ (sym c.in-Some.ensures) w;
      keys = frames_keys c.args.self.now.nodes _ c.args.self.now.sound c.args.path.now _ (sym c.in-Some.ensures) w;
      held = frames_held c.args.self.now.nodes _ c.args.self.now.sound c.args.path.now _ (sym c.in-Some.ensures) w;
      marks = refl;
    }),
    record { tree = refl; keys = λ q. refl; held = λ k. refl; marks = refl },
  ),
  record { writes_back = tt; value = c.frames_at.ensures.value ∙ chain_value _ _ c.args.path.now _ (sym c.in-Some.ensures) },
)

pub returns-in_default : goal.returns-in_default
returns-in_default c = (
  (refl, (λ w h. let x : false ≡ true = h in cc), record { tree = refl; keys = λ q. refl; held = λ k. refl; marks = refl }),
  record { writes_back = tt; value = sym (ap (option_map (λ (n : NodeView). n.own.chain)) (tree-none _ _ _ (sym c.in_default.ensures))) },
)
