use Rattle.std.proofs.Common.{arith, sym, ◌∙◌, refl, ap, ◌+◌}
use Rattle.std.specs.Option.{option_map_or}
use Rattle.slab.specs.Slab.{get}
use Rattle.indexmap.specs.IndexMap.{keys}
use Rattle.tcl_tree.specs.Nodes.{follow, level_in, charged_below, moved, full_of, tree_in}
use Rattle.tcl_interpreter.specs.Paths.{ancestor}
use Rattle.tcl_interpreter.proofs.PathLemmas.{ancestor_itself, ancestor_above}
use Rattle.tcl_tree.proofs.HeapLemmas.{SamePlace, follow_along, child_placed}
use Rattle.tcl_tree.proofs.StepLemmas.{charge_none, charge_all, charge_tree, charge_leads, charge_smaller, charge_fits, sound_write, place_write, others_write, leads_somewhere, at_next, at_end, full_any}
use Rattle.tcl_tree.proofs.tree.meters.raise.Goals as goal

pub climb-init : goal.climb-init
climb-init c = λ root p sound lead. record {
  sound = sound;
  places = λ k. refl;
  rest = λ k n. refl;
  count = 0;
  tree = charge_none (moved c.args.meter) (tree_in (get c.args.nodes.now) root) p;
  leads = (omega arith, ap (follow (get c.args.nodes.now) root) (ancestor_itself p) ∙ lead);
}

pub climb-smaller-in-Some-get_mut : goal.climb-smaller-in-Some-get_mut
climb-smaller-in-Some-get_mut c =
    let p = c.requires.1 in
    let i = c.climb.invariant c.requires.0 p c.requires.2 c.requires.3 in
    let at = at_next _ _ _ _ c.in-Some.is i.leads in
    let less = charge_smaller c.climb.nodes _ i.sound p i.count _ at.0 at.1 c.in-Some-get_mut.node.now (record c.in-Some-get_mut.node.now { state = c.advance.new.self }) (sym c.in-Some-get_mut.ensures.value) (record { parent = refl; name = refl; level = refl; children = refl; safe = c.advance.ensures.safe; gone = refl }) (moved c.args.meter) _ i.tree in
    let was = ap (λ o. option_map_or (λ at. level_in (get c.climb.nodes) at + 1) o 0) c.in-Some.is in
    omega arith

pub climb-preserved-in-Some-get_mut : goal.climb-preserved-in-Some-get_mut
climb-preserved-in-Some-get_mut c = λ root p sound lead.
    let i = c.climb.invariant root p sound lead in
    let at = at_next _ _ _ _ c.in-Some.is i.leads in
    let is = sym c.in-Some-get_mut.ensures.value in
    let same : SamePlace c.in-Some-get_mut.node.now (record c.in-Some-get_mut.node.now { state = c.advance.new.self }) = record { parent = refl; name = refl; level = refl; children = refl; safe = c.advance.ensures.safe; gone = refl } in
    record {
      sound = sound_write c.climb.nodes root i.sound (ancestor p i.count) _ at.1 _ _ is same;
      places = λ k. place_write c.climb.nodes _ _ _ is same k ∙ i.places k;
      rest = λ k n. others_write c.climb.nodes _ _ _ is same k (λ e. n (ancestor p i.count) (ancestor_above p i.count) (sym (follow_along _ _ (child_placed (get c.args.nodes.now) (get c.climb.nodes) i.places) (ancestor p i.count) root) ∙ at.1 ∙ ap (λ x. Rattle.std.proofs.Common.Some x) (sym e))) ∙ i.rest k n;
      count = i.count + 1;
      tree = charge_tree c.climb.nodes root i.sound p i.count _ at.0 at.1 _ _ is same (moved c.args.meter) _ i.tree (sym (c.advance.ensures.moved (keys c.in-Some-get_mut.node.now.children)));
      leads = charge_leads c.climb.nodes root i.sound p i.count _ at.0 at.1 _ _ is same (moved c.args.meter) _ i.tree;
    }

pub climb-preserved : goal.climb-preserved
climb-preserved c =
    let p = c.requires.1 in
    let i = c.climb.invariant c.requires.0 p c.requires.2 c.requires.3 in
    let at = at_next _ _ _ _ c.in-Some.is i.leads in
    absurd (leads_somewhere _ _ i.sound _ _ at.1 (sym c.in-None.ensures.value))

pub returns : goal.returns
returns c = λ root p sound lead.
    let i = c.climb.invariant root p sound lead in
    let end = at_end _ _ _ c.in_default.is i.leads in
    record {
      tree = λ q. i.tree q ∙ ap (λ n. charged_below (moved c.args.meter) (tree_in (get c.args.nodes.now) root) p n q) end ∙ charge_all (moved c.args.meter) (tree_in (get c.args.nodes.now) root) p q;
      places = i.places;
      others = i.rest;
    }

pub advance-requires : goal.advance-requires
advance-requires c = λ names.
    let p = c.requires.1 in
    let i = c.climb.invariant c.requires.0 p c.requires.2 c.requires.3 in
    let at = at_next _ _ _ _ c.in-Some.is i.leads in
    full_any c.args.meter c.in-Some-get_mut.node.now.state names (keys c.in-Some-get_mut.node.now.children)
    ∙ charge_fits c.climb.nodes c.requires.0 i.sound p i.count _ at.0 at.1 _ c.in-Some-get_mut.node.now (sym c.in-Some-get_mut.ensures.value) (record { parent = refl; name = refl; level = refl; children = refl; safe = refl; gone = refl }) (moved c.args.meter) _ i.tree (full_of c.args.meter) c.requires.4
