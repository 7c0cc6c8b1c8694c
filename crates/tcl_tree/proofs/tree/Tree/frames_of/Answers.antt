use Rattle.std.proofs.Common.{refl, ◌∙◌}
use Rattle.tcl_tree.proofs.OwnLemmas.{frames_sound, frames_guarded, frames_ordered, frames_held, frames_tree, frames_keys, chain_value}
use Rattle.tcl_tree.proofs.tree.Tree.frames_of.Goals as goal

pub invariant_of-self-lent : goal.invariant_of-self-lent
invariant_of-self-lent c = λ _. (
  (λ w. (frames_sound c.args.self.now.nodes _ c.args.self.now.sound _ _ c.requires.1 w, (frames_guarded c.args.self.now.nodes _ c.args.self.now.sound _ _ c.requires.1 w c.args.self.now.guarded, (frames_ordered c.args.self.now.nodes _ c.args.self.now.sound _ _ c.requires.1 w c.args.self.now.ordered, tt)))),
  (c.args.self.now.sound, (c.args.self.now.guarded, (c.args.self.now.ordered, tt))),
)

pub returns : goal.returns
returns c = (
  (
    refl,
    (λ w _ p lead. record {
      tree = frames_tree c.args.self.now.nodes _ c.args.self.now.sound p _ lead w;
      keys = frames_keys c.args.self.now.nodes _ c.args.self.now.sound p _ lead w;
      held = frames_held c.args.self.now.nodes _ c.args.self.now.sound p _ lead w;
      marks = refl;
    }),
    record { tree = refl; keys = λ q. refl; held = λ k. refl; marks = refl },
  ),
  record { writes_back = tt; value = λ p lead. c.frames_at.ensures.value ∙ chain_value _ _ p _ lead },
)
