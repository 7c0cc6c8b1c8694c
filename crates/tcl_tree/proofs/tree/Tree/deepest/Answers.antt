use Rattle.std.proofs.Common.{sym, ◌∙◌, ap, [], ◌∷◌, ◌++◌, append_assoc}
use Rattle.slab.specs.Slab.{get}
use Rattle.tcl_tree.specs.Nodes.{follow}
use Rattle.tcl_tree.proofs.MakeLemmas.{descend_less, descend_leads}
use Rattle.tcl_tree.proofs.tree.Tree.deepest.Goals as goal

pub descend-smaller : goal.descend-smaller
descend-smaller c = descend_less _ _ c.args.self.now.sound _ _ _ _ (sym c.in-Some.ensures) c.in-Some-get_index.ensures.value

pub descend-preserved : goal.descend-preserved
descend-preserved c = λ p lead.
    let i = c.descend.invariant p lead in
    let n = c.in-Some-get_index.field-0-0.now in
    (i.0 ++ n ∷ [], ap (follow (get c.args.self.now.nodes) c.args.self.now.root) (sym (append_assoc p i.0 (n ∷ []))) ∙ descend_leads _ _ c.args.self.now.sound _ _ n _ (sym c.in-Some.ensures) c.in-Some-get_index.ensures.value (p ++ i.0) i.1)
