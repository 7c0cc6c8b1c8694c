use Rattle.std.proofs.Common.{◌≡◌, ℕ, ◌<◌, ◌∙◌, false, None, sym, ap, rules, arith, below_more, ◌+◌}
use Rattle.std.proofs.lemmas.Bool.{OnTrue_from, OnFalse_from}
use Rattle.slab.specs.Slab.{get}
use Rattle.indexmap.specs.IndexMap.{keys}
use Rattle.tcl_interpreter.proofs.PathLemmas.{ancestor_itself}
use Rattle.tcl_tree.specs.Nodes.{follow, full_of, full_up}
use Rattle.tcl_tree.specs.TreeOf.{tree_of}
use Rattle.tcl_tree.proofs.StepLemmas.{climb_end, full_at_is}
use Rattle.tcl_tree.proofs.tree.Tree.full_alone.Goals as goal

pub returns-clause-full : goal.returns-clause-full
returns-clause-full c = OnTrue_from c.is_full.result _ (λ full p lead.
    let at = ap (follow (get c.args.self.now.nodes) c.args.self.now.root) (ancestor_itself p) ∙ lead in
    record {
      within = omega arith;
      here = full_at_is (full_of c.args.meter) _ _ p 0 c.args.key c.in_ok-node.node.now at (sym c.in_ok-node.ensures) ∙ sym (c.is_full.ensures (keys c.in_ok-node.node.now.children)) ∙ full;
      below = λ m h. absurd (omega arith);
    })

pub returns-clause-room : goal.returns-clause-room
returns-clause-room c = OnFalse_from c.is_full.result _ (λ room p lead.
    let at = ap (follow (get c.args.self.now.nodes) c.args.self.now.root) (ancestor_itself p) ∙ lead in
    let none : c.in_ok-node.node.now.parent ≡ None = search rules in
    let end = climb_end _ _ c.args.self.now.sound p 0 c.args.key c.in_ok-node.node.now (omega arith) at (sym c.in_ok-node.ensures) none in
    let here = full_at_is (full_of c.args.meter) _ _ p 0 c.args.key c.in_ok-node.node.now at (sym c.in_ok-node.ensures) ∙ sym (c.is_full.ensures (keys c.in_ok-node.node.now.children)) ∙ room in
    let all : (m : ℕ) → m < 0 + 1 → full_up (full_of c.args.meter) (tree_of c.args.self.now) p m ≡ false = below_more _ _ (λ m h. absurd (omega arith)) here in
    λ m h. all m (omega arith))
