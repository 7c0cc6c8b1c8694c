use Rattle.std.proofs.Common.{◌≡◌, ℕ, suc, ◌+◌, ◌∙◌, subst, arith}
use Rattle.tcl_tree.specs.Held.{HighestGone}
use Rattle.tcl_tree.specs.Held.HighestGone.{itself, further}
use Rattle.tcl_tree.specs.Gone.{held_of}
use Rattle.tcl_tree.proofs.WayLemmas.{gone_none, gone_some, holds_there}
use Rattle.tcl_tree.proofs.tree.Tree.is_gone.Goals as goal

pub above_gone-requires : goal.above_gone-requires
above_gone-requires c = holds_there c.args.self.now c.args.place _ _ c.requires.2

pub returns-in_err-at : goal.returns-in_err-at
returns-in_err-at c = λ p d w. c.from_residual.ensures ∙ gone_none c.args.self.now c.args.place p d c.in_err-at.ensures.stands w

pub climb-init : goal.climb-init
climb-init c =
    let g = c.in_ok-at.ensures.gone in
    record {
      there = c.args.self.now.ordered.there _ _ _ g.2;
      fits = let l = c.args.self.now.ordered.levels _ _ _ g.2 in let f = c.args.self.now.sound.fits c.args.place.key in omega arith;
      last = λ stands. itself g.1 g.0 g.2 stands;
      more = λ m h. subst (λ n. HighestGone (held_of c.args.self.now) c.args.place.key (suc n)) (same m) (further g.1 g.0 g.2 h);
    }
  where
    same : (n : ℕ) → n ≡ 0 + n
    same n = omega arith

pub above_gone-requires-in-climb : goal.above_gone-requires-in-climb
above_gone-requires-in-climb c = c.climb.invariant.there

pub overflow_add-levels : goal.overflow_add-levels
overflow_add-levels c =
    let g = c.in-Some.ensures.gone in
    let i = c.climb.invariant.fits in
    let l = c.args.self.now.ordered.levels _ _ _ g.2 in
    omega arith

pub climb-smaller : goal.climb-smaller
climb-smaller c =
    let g = c.in-Some.ensures.gone in
    let l = c.args.self.now.ordered.levels _ _ _ g.2 in
    omega arith

pub climb-preserved : goal.climb-preserved
climb-preserved c =
    let g = c.in-Some.ensures.gone in
    let i = c.climb.invariant in
    let f = i.fits in
    let H = held_of c.args.self.now in
    record {
      there = c.args.self.now.ordered.there _ _ _ g.2;
      fits = let l = c.args.self.now.ordered.levels _ _ _ g.2 in omega arith;
      last = λ stands. subst (λ n. HighestGone H c.args.place.key n) (one c.climb.levels) (i.more 0 (itself g.1 g.0 g.2 stands));
      more = λ m h. subst (λ n. HighestGone H c.args.place.key n) (next c.climb.levels m) (i.more (suc m) (further g.1 g.0 g.2 h));
    }
  where
    one : (n : ℕ) → suc (n + 0) ≡ n + 1
    one n = omega arith

    next : (n m : ℕ) → suc (n + suc m) ≡ suc (n + 1 + m)
    next n m = omega arith

pub returns : goal.returns
returns c = λ p d w. gone_some c.args.self.now c.args.place p d _ (c.climb.invariant.last c.in_default.ensures.stands) w
