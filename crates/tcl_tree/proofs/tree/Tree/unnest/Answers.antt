use Rattle.std.proofs.Common.{◌≡◌, ◌<◌, Option, true, length, refl, sym, ◌∙◌, ap, subst, inl, inr, arith}
use Rattle.std.specs.Prelude.{is_some}
use Rattle.slab.specs.Slab.{get}
use Rattle.tcl_interpreter.specs.Paths.{Path}
use Rattle.tcl_interpreter.specs.declared.node.Meter.TheVariants.{Back}
use Rattle.tcl_core.specs.Trees.{depth_of}
use Rattle.tcl_interpreter.specs.Paths.{is_above}
use Rattle.tcl_tree.specs.Held.{Over}
use Rattle.tcl_tree.specs.Held.Over.{here}
use Rattle.tcl_tree.proofs.StepLemmas.{level-eq}
use Rattle.tcl_tree.specs.Nodes.{NodeView, charged, moved, tree_in}
use Rattle.tcl_tree.specs.Held.{gone_at, held_in}
use Rattle.tcl_tree.specs.Gone.{held_of}
use Rattle.tcl_tree.specs.TreeOf.{tree_of}
use Rattle.tcl_tree.proofs.HeapLemmas.{sound_placed, guarded_placed}
use Rattle.tcl_tree.proofs.HeldLemmas.{follow_stands, held-some, not_gone, not_over_above, over_path}
use Rattle.tcl_tree.proofs.CoreLemmas.{line_done, never_full}
use Rattle.tcl_tree.proofs.DepthLemmas.{raised_follow, raised_ordered, raised_over, raised_others, steps_ordered}
use Rattle.tcl_tree.proofs.GoneLemmas.{beside_follow, beside_guarded, beside_sound, beside_tree, ease_away, ease_beside, ease_innermost, ease_ordered, ease_others, ease_then, highest_gone, less_pred, node_gone, node_there, shallow_stands}
use Rattle.tcl_tree.proofs.WayLemmas.{climbed_more, holds_climbed, holds_there, lowered_between, stood_follow}
use Rattle.tcl_tree.proofs.tree.Tree.unnest.Goals as goal

pub gone-init : goal.gone-init
gone-init c = record {
  marks = refl;
  root = refl;
  keys = λ q. refl;
  tree = λ q. refl;
  there = holds_there c.args.self.now c.args.place _ _ c.requires.holds.2;
  innermost = c.requires.innermost;
  lowered = λ H w. w;
  climbed = λ p d w. holds_climbed c.args.self.now c.args.place p d w;
}

pub above_gone-requires : goal.above_gone-requires
above_gone-requires c = c.gone.invariant.there

pub ease-requires : goal.ease-requires
ease-requires c = record { there = sym (held-some _ _) ∙ c.gone.invariant.there }

pub invariant_of-self : goal.invariant_of-self
invariant_of-self c =
    let i = c.gone.invariant in
    let g = c.in-Some.ensures.gone in
    let node = node_there (get c.gone.self.nodes) c.gone.at i.there in
    let gone_node = sym (node_gone (get c.gone.self.nodes) c.gone.at node.0 node.1) ∙ g.0 in
    let u = c.ease.ensures.eased node.0 node.1 in
    record {
      sound = beside_sound (get c.gone.self.nodes) (get c.ease.new.nodes) c.gone.self.root c.gone.at (ease_beside (get c.gone.self.nodes) (get c.ease.new.nodes) c.gone.self.root c.gone.at c.gone.self.sound c.gone.self.guarded c.gone.self.ordered node.0 node.1 gone_node c.in-Some.above g.1 g.2 u.last u.less u.others) c.gone.self.sound;
      guarded = beside_guarded (get c.gone.self.nodes) (get c.ease.new.nodes) c.gone.self.root c.gone.at (ease_beside (get c.gone.self.nodes) (get c.ease.new.nodes) c.gone.self.root c.gone.at c.gone.self.sound c.gone.self.guarded c.gone.self.ordered node.0 node.1 gone_node c.in-Some.above g.1 g.2 u.last u.less u.others) c.gone.self.guarded;
      ordered = ease_ordered (get c.gone.self.nodes) (get c.ease.new.nodes) c.gone.self.root c.gone.at c.gone.self.sound c.gone.self.guarded c.gone.self.ordered node.0 node.1 gone_node c.in-Some.above g.1 g.2 u.last u.less u.others i.innermost;
    }

pub gone-smaller : goal.gone-smaller
gone-smaller c =
    let i = c.gone.invariant in
    let g = c.in-Some.ensures.gone in
    let node = node_there (get c.gone.self.nodes) c.gone.at i.there in
    let gone_node = sym (node_gone (get c.gone.self.nodes) c.gone.at node.0 node.1) ∙ g.0 in
    let u = c.ease.ensures.eased node.0 node.1 in
    let away = not_over_above (get c.gone.self.nodes) c.gone.self.root c.gone.self.ordered c.gone.at c.in-Some.above g.1 g.2 in
    let H = held_of c.gone.self in
    let x = level-eq (get c.ease.new.nodes) (get c.gone.self.nodes) c.in-Some.above (u.others c.in-Some.above (λ e. away (subst (λ x. Over H c.gone.at x) (sym e) here))) in
    let y = c.gone.self.ordered.levels _ _ _ g.2 in
    omega arith

pub gone-preserved : goal.gone-preserved
gone-preserved c =
    let i = c.gone.invariant in
    let g = c.in-Some.ensures.gone in
    let node = node_there (get c.gone.self.nodes) c.gone.at i.there in
    let gone_node = sym (node_gone (get c.gone.self.nodes) c.gone.at node.0 node.1) ∙ g.0 in
    let u = c.ease.ensures.eased node.0 node.1 in
    let away = not_over_above (get c.gone.self.nodes) c.gone.self.root c.gone.self.ordered c.gone.at c.in-Some.above g.1 g.2 in
    let H = held_of c.gone.self in
    record {
      marks = i.marks;
      root = i.root;
      keys = λ q. beside_follow (get c.gone.self.nodes) (get c.ease.new.nodes) c.gone.self.root c.gone.at (ease_beside (get c.gone.self.nodes) (get c.ease.new.nodes) c.gone.self.root c.gone.at c.gone.self.sound c.gone.self.guarded c.gone.self.ordered node.0 node.1 gone_node c.in-Some.above g.1 g.2 u.last u.less u.others) q c.gone.self.root ∙ i.keys q;
      tree = λ q. beside_tree (get c.gone.self.nodes) (get c.ease.new.nodes) c.gone.self.root c.gone.at (ease_beside (get c.gone.self.nodes) (get c.ease.new.nodes) c.gone.self.root c.gone.at c.gone.self.sound c.gone.self.guarded c.gone.self.ordered node.0 node.1 gone_node c.in-Some.above g.1 g.2 u.last u.less u.others) (ease_away (get c.gone.self.nodes) (get c.ease.new.nodes) c.gone.self.root c.gone.at c.gone.self.sound c.gone.self.guarded c.gone.self.ordered node.0 node.1 gone_node c.in-Some.above g.1 g.2 u.last u.less u.others) q ∙ i.tree q;
      there = ap (λ x. is_some x) (ease_others (get c.gone.self.nodes) (get c.ease.new.nodes) c.gone.self.root c.gone.at c.gone.self.sound c.gone.self.guarded c.gone.self.ordered node.0 node.1 gone_node c.in-Some.above g.1 g.2 u.last u.less u.others c.in-Some.above (λ e. away (subst (λ x. Over H c.gone.at x) (sym e) here))) ∙ c.gone.self.ordered.there _ _ _ g.2;
      innermost = ease_innermost (get c.gone.self.nodes) (get c.ease.new.nodes) c.gone.self.root c.gone.at c.gone.self.sound c.gone.self.guarded c.gone.self.ordered node.0 node.1 gone_node c.in-Some.above g.1 g.2 u.last u.less u.others i.innermost;
      lowered = λ X w. i.lowered X (ease_then (get c.gone.self.nodes) (get c.ease.new.nodes) c.gone.self.root c.gone.at c.gone.self.sound c.gone.self.guarded c.gone.self.ordered node.0 node.1 gone_node c.in-Some.above g.1 g.2 u.last u.less u.others i.innermost X w);
      climbed = λ p d w. climbed_more H (held_in (get c.ease.new.nodes)) (tree_of c.args.self.now) p c.gone.at c.in-Some.above g.1 g.0 g.2 (λ a v. ease_others (get c.gone.self.nodes) (get c.ease.new.nodes) c.gone.self.root c.gone.at c.gone.self.sound c.gone.self.guarded c.gone.self.ordered node.0 node.1 gone_node c.in-Some.above g.1 g.2 u.last u.less u.others a (λ e. away (subst (λ x. Over H x c.in-Some.above) e v))) (i.climbed p d w);
    }

pub raise-requires : goal.raise-requires
raise-requires c =
    let w = c.requires.holds in
    let i = c.gone.invariant in
    let k = i.climbed w.0 w.1 w.2 in
    (c.gone.self.root, k.front, c.gone.self.sound, stood_follow (get c.gone.self.nodes) c.gone.self.root c.gone.self.sound c.gone.self.ordered k.front c.gone.at k.stood c.in_default.ensures.stands, never_full k.front _)

pub invariant_of-self-2 : goal.invariant_of-self-2
invariant_of-self-2 c =
    let w = c.requires.holds in
    let i = c.gone.invariant in
    let k = i.climbed w.0 w.1 w.2 in
    let lead = stood_follow (get c.gone.self.nodes) c.gone.self.root c.gone.self.sound c.gone.self.ordered k.front c.gone.at k.stood c.in_default.ensures.stands in
    let r = c.raise.ensures c.gone.self.root k.front c.gone.self.sound lead in
    record {
      sound = sound_placed _ _ r.places _ c.gone.self.sound;
      guarded = guarded_placed _ _ r.places c.gone.self.guarded;
      ordered = raised_ordered Back (get c.gone.self.nodes) (get c.raise.new.nodes) c.gone.self.root k.front c.gone.at c.gone.self.sound c.gone.self.ordered lead r (λ x y n e v a. less_pred _ _ (i.innermost x y n e v a)) (steps_ordered Back);
    }

pub returns-clause-keys : goal.returns-clause-keys
returns-clause-keys c = λ q.
    let w = c.requires.holds in
    let i = c.gone.invariant in
    let k = i.climbed w.0 w.1 w.2 in
    let lead = stood_follow (get c.gone.self.nodes) c.gone.self.root c.gone.self.sound c.gone.self.ordered k.front c.gone.at k.stood c.in_default.ensures.stands in
    let r = c.raise.ensures c.gone.self.root k.front c.gone.self.sound lead in
    raised_follow Back (get c.gone.self.nodes) (get c.raise.new.nodes) c.gone.self.root k.front c.gone.at c.gone.self.sound c.gone.self.ordered lead r q ∙ i.keys q

pub returns-clause-marks : goal.returns-clause-marks
returns-clause-marks c = c.gone.invariant.marks

pub returns-clause-shallower : goal.returns-clause-shallower
returns-clause-shallower c =
    let w = c.requires.holds in
    let i = c.gone.invariant in
    let k = i.climbed w.0 w.1 w.2 in
    let lead = stood_follow (get c.gone.self.nodes) c.gone.self.root c.gone.self.sound c.gone.self.ordered k.front c.gone.at k.stood c.in_default.ensures.stands in
    let r = c.raise.ensures c.gone.self.root k.front c.gone.self.sound lead in
    i.lowered (held_in (get c.raise.new.nodes)) (record {
      over = λ a v.
          let q = over_path (get c.gone.self.nodes) c.gone.self.root c.gone.self.ordered c.gone.self.sound a k.front c.gone.at lead v in
          raised_over Back (get c.gone.self.nodes) (get c.raise.new.nodes) c.gone.self.root k.front c.gone.at c.gone.self.sound c.gone.self.ordered lead r a v ∙ shallow_stands (held_of c.gone.self a) (follow_stands (get c.gone.self.nodes) c.gone.self.root c.gone.self.sound c.gone.self.ordered q.0 a q.2);
      others = raised_others Back (get c.gone.self.nodes) (get c.raise.new.nodes) c.gone.self.root k.front c.gone.at c.gone.self.sound c.gone.self.ordered lead r;
    })

pub returns-clause-unnested : goal.returns-clause-unnested
returns-clause-unnested c = λ p d hold.
    let i = c.gone.invariant in
    let k = i.climbed p d hold in
    let lead = stood_follow (get c.gone.self.nodes) c.gone.self.root c.gone.self.sound c.gone.self.ordered k.front c.gone.at k.stood c.in_default.ensures.stands in
    let r = c.raise.ensures c.gone.self.root k.front c.gone.self.sound lead in
    let same : tree_of c.gone.self ≡ tree_of c.args.self.now = λ j q. i.tree q j in
    let low : (q : Path) → is_above q p ≡ true → length k.front < length q → depth_of (tree_of c.args.self.now q) ≡ 0 = elim k.left [
      | inl w ↦ w.1
      | inr w ↦ not_gone (gone_at (held_of c.gone.self c.gone.at)) (highest_gone (held_of c.gone.self) c.gone.at w.0 w.1) c.in_default.ensures.stands
    ] in
    line_done (moved Back) (tree_of c.args.self.now) (tree_in (get c.raise.new.nodes) c.gone.self.root) p
    (λ q. r.tree q ∙ ap (λ (f : Path → Option NodeView). charged (moved Back) f k.front q) same ∙ lowered_between (tree_of c.args.self.now) p k.front k.rest k.is low q)
