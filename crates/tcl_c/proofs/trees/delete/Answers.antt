use Rattle.std.proofs.Common.{ℕ, List, sym, subst}
use Rattle.std.proofs.lemmas.Result.{on_ok_weaker}
use Rattle.tcl_text.specs.Lists.{Spells}
use Rattle.tcl_tree.specs.Changes.{Drops}
use Rattle.tcl_tree.specs.TreeOf.{tree_of}
use Rattle.tcl_c.proofs.trees.delete.Goals as goal

pub returns-clause-done : goal.returns-clause-done
returns-clause-done c = on_ok_weaker c.delete.result (λ d. record {
  at = c.as_slice.result.now;
  spelled = subst (λ (p : List (List ℕ)). Spells p c.args.path.now) (sym c.as_slice.ensures.value) c.in_ok-path.ensures.path;
  dropped = subst (λ (n : List ℕ). Drops (tree_of c.args.session.now.tree) (tree_of c.delete.new.self.tree) c.as_slice.result.now n) c.in_ok-name.ensures.text d;
  rest = c.delete.ensures.rest;
}) c.delete.ensures.dropped
