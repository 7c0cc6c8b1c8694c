use Rattle.std.proofs.Common.{◌∙◌, ◌∷◌}
use Rattle.tcl_core.specs.Trees.{effect}
use Rattle.tcl_core.specs.Trees.What.{Changed}
use Rattle.tcl_language.specs.Control.{in_frame}
use Rattle.tcl_tree.specs.TreeOf.{tree_of}
use Rattle.tcl_calls.specs.Procedures.{pairs_of, straight}
use Rattle.tcl_calls.proofs.procedures.enter.Goals as goal

pub returns-then-is_straight-clause-entered : goal.returns-then-is_straight-clause-entered
returns-then-is_straight-clause-entered c = (
  straight c.args.parameters.now c.args.args.now,
  c.is_straight.ensures.bound c.if-is_straight.true,
  c.in_ok-enter_straight.ensures.short,
  c.in_ok-enter_straight.ensures.entered,
)

pub returns-clause-entered : goal.returns-clause-entered
returns-clause-entered c =
    let found = rw c.in-Some.is at c.in_ok-bindings.ensures.bound in (
      pairs_of c.in-Some.bindings.items,
      found.0,
      found.1,
      λ p n at is. c.in_ok-enter_frame.ensures.entered p n at is ∙ (λ i. effect p (Changed (in_frame (c.args.word.now ∷ c.args.args.now) (pairs_of (c.as_slice.ensures.value i)) n.own)) (tree_of c.args.tree.now)),
    )
