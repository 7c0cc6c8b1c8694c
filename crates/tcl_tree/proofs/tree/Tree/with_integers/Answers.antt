use Rattle.std.proofs.Common.{arith, ◌∙◌, refl, ap, false, true}
use Rattle.std.specs.Map.{keys_of}
use Rattle.indexmap.specs.IndexMap.{keys}
use Rattle.tcl_tree.specs.Nodes.{new_view}
use Rattle.tcl_interpreter.specs.Paths.{Path}
use Rattle.tcl_tree.specs.TreeOf.{alone}
use Rattle.tcl_tree.proofs.StepLemmas.{sound-single, guarded-single, tree-single, vacant_slots}
use Rattle.tcl_tree.proofs.PartingLemmas.{ordered_single}
use Rattle.tcl_tree.proofs.tree.Tree.with_integers.Goals as goal

pub invariant_of-result : goal.invariant_of-result
invariant_of-result c =
    let u = c.insert_reserved-root.ensures.updates in
    record {
      sound = sound-single _ _ _ u.changed refl (omega arith) c.new-3.ensures.empty (λ k other. u.others k other ∙ vacant_slots c.reserve.new.self (ap (λ s. s.slots) c.in_ok-reserve.ensures.rest_kept ∙ c.new-nodes.ensures.empty) k);
      guarded = guarded-single _ _ _ u.changed refl (omega arith) c.new-3.ensures.empty (λ k other. u.others k other ∙ vacant_slots c.reserve.new.self (ap (λ s. s.slots) c.in_ok-reserve.ensures.rest_kept ∙ c.new-nodes.ensures.empty) k);
      ordered = ordered_single _ _ _ u.changed refl (omega arith) c.new-3.ensures.empty (λ k other. u.others k other ∙ vacant_slots c.reserve.new.self (ap (λ s. s.slots) c.in_ok-reserve.ensures.rest_kept ∙ c.new-nodes.ensures.empty) k) refl;
    }

pub returns-clause-tree : goal.returns-clause-tree
returns-clause-tree c = λ i (q : Path).
    (tree-single _ _ _ c.insert_reserved-root.ensures.updates.changed refl (omega arith) c.new-3.ensures.empty (λ k other. c.insert_reserved-root.ensures.updates.others k other ∙ vacant_slots c.reserve.new.self (ap (λ s. s.slots) c.in_ok-reserve.ensures.rest_kept ∙ c.new-nodes.ensures.empty) k) q
    ∙ ap (λ v. alone v q) (c.in_ok-state.ensures.view (keys c.new-3.result) ∙ ap (new_view false true 1000) (ap keys_of c.new-3.ensures.empty))) i
