use Rattle.std.proofs.Common.{◌≡◌, ◌∙◌, ap, sym, subst, List, ℕ, Some, None, Option}
use Rattle.std.specs.Prelude.{IfSome, slice_get}
use Rattle.std.specs.Map.{lookup}
use Rattle.std.specs.Str.{bytes_eq}
use Rattle.slab.specs.Slab.{get}
use Rattle.tcl_interpreter.specs.Copying.{IsBare}
use Rattle.tcl_tree.specs.Nodes.{Joined}
use Rattle.tcl_interpreter.specs.declared.node.Node.{Node}
use Rattle.tcl_tree.proofs.CopyLemmas.{whole_at_end, next_child, next_first, next_absent, next_missing, next_there}
use Rattle.tcl_tree.proofs.tree.Tree.copy_child.Goals as goal

pub returns-in_default-get_index-clause-none : goal.returns-in_default-get_index-clause-none
returns-in_default-get_index-clause-none c = whole_at_end (get c.args.self.now.nodes) (get c.args.nodes.now) c.args.key c.args.twin c.requires c.in-Some.node.now c.in-Some-get.copy.now c.in-Some.ensures c.in-Some-get.ensures
    (sym (λ i. slice_get (c.as_slice-children.ensures.entries i) (c.len.ensures.len i)) ∙ sym c.in_default-get_index.ensures.entry)

pub unreachable-requires-in_default-get-2 : goal.unreachable-requires-in_default-get-2
unreachable-requires-in_default-get-2 c = next_there (get c.args.self.now.nodes) (get c.args.nodes.now) c.args.key c.args.twin c.requires c.in-Some.node.now c.in-Some-get.copy.now c.in-Some.ensures c.in-Some-get.ensures
    c.args.self.now.root c.args.self.now.sound c.as_slice-children.ensures.unique c.in-Some-get_index.name.now c.in-Some-get_index.child.now
    (sym (λ i. slice_get (c.as_slice-children.ensures.entries i) (c.len.ensures.len i)) ∙ sym c.in-Some-get_index.ensures.entry)
    (sym c.in_default-get-2.ensures)

pub join-requires-clause-absent : goal.join-requires-clause-absent
join-requires-clause-absent c =
    let absent = next_absent (get c.args.self.now.nodes) (get c.args.nodes.now) c.args.key c.args.twin c.requires c.in-Some.node.now c.in-Some-get.copy.now c.in-Some.ensures c.in-Some-get.ensures
    c.args.self.now.root c.args.self.now.sound c.as_slice-children.ensures.unique c.in-Some-get_index.name.now c.in-Some-get_index.child.now
    (sym (λ i. slice_get (c.as_slice-children.ensures.entries i) (c.len.ensures.len i)) ∙ sym c.in-Some-get_index.ensures.entry) in
    subst (λ (o : Option Node). IfSome o (λ up. lookup (bytes_eq c.in_ok-clone-2.field-0) up.children.entries ≡ None)) c.in-Some-get.ensures
    (ap (λ (n : List ℕ). lookup (bytes_eq n) c.in-Some-get.copy.now.children.entries) c.in_ok-clone-2.ensures.cases ∙ absent)

pub returns-clause-some : goal.returns-clause-some
returns-clause-some c =
    let entry = sym (λ i. slice_get (c.as_slice-children.ensures.entries i) (c.len.ensures.len i)) ∙ sym c.in-Some-get_index.ensures.entry in
    let joined = subst (λ (n : List ℕ). (j : Joined c.args.nodes.now c.join.new.nodes c.args.twin n c.in_ok-made.made c.in_ok-copied.copied) × (j.new.state ≡ j.old.state)) c.in_ok-clone-2.ensures.cases c.in_ok-copied.ensures.joined in
    record {
      name = c.in-Some-get_index.name.now;
      child = next_child (get c.args.self.now.nodes) (get c.args.nodes.now) c.args.key c.args.twin c.requires c.in-Some.node.now c.in-Some-get.copy.now c.in-Some.ensures c.in-Some-get.ensures
          c.args.self.now.root c.args.self.now.sound c.as_slice-children.ensures.unique c.in-Some-get_index.name.now c.in-Some-get_index.child.now entry;
      first = next_first (get c.args.self.now.nodes) (get c.args.nodes.now) c.args.key c.args.twin c.requires c.in-Some.node.now c.in-Some-get.copy.now c.in-Some.ensures c.in-Some-get.ensures
          c.args.self.now.root c.args.self.now.sound c.as_slice-children.ensures.unique c.in-Some-get_index.name.now c.in-Some-get_index.child.now entry;
      absent = next_missing (get c.args.self.now.nodes) (get c.args.nodes.now) c.args.key c.args.twin c.requires c.in-Some.node.now c.in-Some-get.copy.now c.in-Some.ensures c.in-Some-get.ensures
          c.args.self.now.root c.args.self.now.sound c.as_slice-children.ensures.unique c.in-Some-get_index.name.now c.in-Some-get_index.child.now entry;
      source = c.in-Some-get-2.source.now;
      source_is = sym c.in-Some-get-2.ensures;
      made = c.in_ok-made.made;
      bare = subst (λ (n : List ℕ). IsBare c.in-Some-get-2.source.now c.in_ok-made.made (Some c.args.twin) n) c.in_ok-clone.ensures.cases c.in_ok-made.ensures;
      joined = joined.0;
      state = joined.1;
    }
