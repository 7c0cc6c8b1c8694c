use Rattle.std.proofs.Common.{arith, sym, ◌∙◌, refl, ap, Some, ◌≤◌, length}
use Rattle.slab.specs.Slab.{get}
use Rattle.indexmap.specs.IndexMap.{keys}
use Rattle.tcl_tree.specs.Nodes.{follow, charged_below, moved, full_of, tree_in}
use Rattle.tcl_interpreter.specs.Paths.{ancestor}
use Rattle.tcl_interpreter.proofs.PathLemmas.{ancestor_itself, ancestor_above}
use Rattle.tcl_tree.proofs.HeapLemmas.{SamePlace}
use Rattle.tcl_tree.proofs.StepLemmas.{charge_none, charge_all, charge_tree, charge_leads, place_write, others_write, leads_somewhere, at_end, full_any, full_at_is}
use Rattle.tcl_tree.proofs.tree.meters.raise_alone.Goals as goal

pub advance-requires : goal.advance-requires
advance-requires c = λ names.
    let w = c.requires.room in
    let at = ap (follow (get c.args.nodes.now) w.0) (ancestor_itself w.1) ∙ w.3 in
    full_any c.args.meter c.in-Some.top.now.state names (keys c.in-Some.top.now.children)
    ∙ sym (full_at_is (full_of c.args.meter) (get c.args.nodes.now) w.0 w.1 0 c.args.key c.in-Some.top.now at (sym c.in-Some.ensures.value))
    ∙ w.4 0 (omega arith)

pub returns-in-Some : goal.returns-in-Some
returns-in-Some c = λ root p sound lead.
    let nodes = c.args.nodes.now in
    let is = sym c.in-Some.ensures.value in
    let at = ap (follow (get nodes) root) (ancestor_itself p) ∙ lead in
    let front : 0 ≤ length p = omega arith in
    let before = charge_none (moved c.args.meter) (tree_in (get nodes) root) p in
    let same : SamePlace c.in-Some.top.now (record c.in-Some.top.now { state = c.advance.new.self }) = record { parent = refl; name = refl; level = refl; children = refl; safe = c.advance.ensures.safe; gone = refl } in
    let one = charge_tree nodes root sound p 0 _ front at _ _ is same (moved c.args.meter) _ before (sym (c.advance.ensures.moved (keys c.in-Some.top.now.children))) in
    let up = charge_leads nodes root sound p 0 _ front at _ _ is same (moved c.args.meter) _ before in
    let end = at_end _ _ _ (c.requires.alone c.in-Some.top.now is) up in
    record {
      tree = λ q. one q ∙ ap (λ n. charged_below (moved c.args.meter) (tree_in (get nodes) root) p n q) end ∙ charge_all (moved c.args.meter) (tree_in (get nodes) root) p q;
      places = λ k. place_write nodes _ _ _ is same k;
      others = λ k n. others_write nodes _ _ _ is same k (λ e. n (ancestor p 0) (ancestor_above p 0) (at ∙ ap (λ x. Some x) (sym e)));
    }

pub returns-in_default : goal.returns-in_default
returns-in_default c = λ root p sound lead. absurd (leads_somewhere _ _ sound _ _ lead (sym c.in_default.ensures.value))
