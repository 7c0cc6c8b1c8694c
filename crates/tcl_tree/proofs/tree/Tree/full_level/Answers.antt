use Rattle.std.proofs.Common.{arith, sym, ◌∙◌, ap, ◌≡◌, ℕ, false, ◌+◌, ◌<◌, below_more}
use Rattle.slab.specs.Slab.{get}
use Rattle.indexmap.specs.IndexMap.{keys}
use Rattle.tcl_tree.specs.Nodes.{full_up, full_of, follow}
use Rattle.tcl_tree.specs.TreeOf.{tree_of}
use Rattle.tcl_interpreter.proofs.PathLemmas.{ancestor_itself}
use Rattle.tcl_tree.proofs.StepLemmas.{full_at_is, climb_up, climb_end, leads_somewhere}
use Rattle.tcl_tree.proofs.tree.Tree.full_level.Goals as goal

pub climb-init : goal.climb-init
climb-init c = λ p lead. record {
  within = omega arith;
  leads = ap (follow (get c.args.self.now.nodes) c.args.self.now.root) (ancestor_itself p) ∙ lead;
  below = λ m h. absurd (omega arith);
  fits = let f = c.args.self.now.sound.fits c.args.key in omega arith;
}

pub returns-in_default-clause-none : goal.returns-in_default-clause-none
returns-in_default-clause-none c = absurd (leads_somewhere _ _ c.args.self.now.sound _ _ (c.climb.invariant c.requires.0 c.requires.1).leads (sym c.in_default.ensures))

pub returns-then-is_full-clause-some : goal.returns-then-is_full-clause-some
returns-then-is_full-clause-some c = λ p lead.
    let i = c.climb.invariant p lead in
    record {
      within = i.within;
      here = full_at_is (full_of c.args.meter) _ _ _ _ _ _ i.leads (sym c.in-Some.ensures) ∙ sym (c.is_full.ensures (keys c.in-Some.node.now.children)) ∙ c.if-is_full.true;
      below = i.below;
    }

pub returns-in_default-parent-clause-none : goal.returns-in_default-parent-clause-none
returns-in_default-parent-clause-none c = λ p lead.
    let i = c.climb.invariant p lead in
    let end = climb_end _ _ c.args.self.now.sound p _ _ _ i.within i.leads (sym c.in-Some.ensures) c.in_default-parent.is in
    let here = full_at_is (full_of c.args.meter) _ _ _ _ _ _ i.leads (sym c.in-Some.ensures) ∙ sym (c.is_full.ensures (keys c.in-Some.node.now.children)) ∙ c.if-is_full.false in
    let all : (m : ℕ) → m < c.climb.level + 1 → full_up (full_of c.args.meter) (tree_of c.args.self.now) p m ≡ false = below_more _ _ i.below here in
    λ m h. all m (omega arith)

pub overflow_add-level : goal.overflow_add-level
overflow_add-level c =
    let p = c.requires.0 in
    let i = c.climb.invariant p c.requires.1 in
    let up = climb_up _ _ c.args.self.now.sound p _ _ _ _ i.within i.leads (sym c.in-Some.ensures) c.in-Some-parent.is in
    let l = up.lower in
    omega arith

pub climb-smaller : goal.climb-smaller
climb-smaller c =
    let p = c.requires.0 in
    let i = c.climb.invariant p c.requires.1 in
    let up = climb_up _ _ c.args.self.now.sound p _ _ _ _ i.within i.leads (sym c.in-Some.ensures) c.in-Some-parent.is in
    let l = up.lower in
    omega arith

pub climb-preserved : goal.climb-preserved
climb-preserved c = λ p lead.
    let i = c.climb.invariant p lead in
    let up = climb_up _ _ c.args.self.now.sound p _ _ _ _ i.within i.leads (sym c.in-Some.ensures) c.in-Some-parent.is in
    let l = up.lower in
    let w = up.within in
    let here = full_at_is (full_of c.args.meter) _ _ _ _ _ _ i.leads (sym c.in-Some.ensures) ∙ sym (c.is_full.ensures (keys c.in-Some.node.now.children)) ∙ c.if-is_full.false in
    record {
      within = omega arith;
      leads = up.leads;
      below = below_more _ _ i.below here;
      fits = omega arith;
    }
