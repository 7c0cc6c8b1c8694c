use Rattle.std.proofs.Common.{rules, arith, sym, ◌∙◌, refl, ap, ◌≡◌, ◌+◌, ◌<◌, ◌≤◌, ◌^◌, length, Bool, inl, inr, List, [], ℕ, None, false}
use Rattle.std.specs.Prelude.{is_some}
use Rattle.std.specs.Str.{bytes_eq}
use Rattle.std.specs.Map.{keys_of, lookup}
use Rattle.std.proofs.lemmas.Option.{same_Some}
use Rattle.std.proofs.lemmas.Result.{err_from_is_err_and}
use Rattle.slab.specs.Slab.{get}
use Rattle.tcl_core.specs.Programs.{either}
use Rattle.tcl_interpreter.specs.Own.{new_own}
use Rattle.tcl_core.specs.Trees as core
use Rattle.tcl_tree.specs.Nodes.{NodeView, Shape, view_of, new_view, tree_in}
use Rattle.tcl_tree.proofs.HeapLemmas.{sound_kept, guarded_kept, tree_kept, follow_kept}
use Rattle.tcl_tree.proofs.StepLemmas.{tree_some, leads_somewhere, none_of, some_of, tree_child, tree_no_child, on_err}
use Rattle.tcl_tree.proofs.MakeLemmas.{length_keys, room_there, room_keeps, sound_created, guarded_created, keys_created, tree_created}
use Rattle.tcl_tree.proofs.ChildLemmas.{made_is, either_parent}
use Rattle.tcl_tree.specs.Held.{held_in}
use Rattle.tcl_tree.proofs.DepthLemmas.{held_kept, ordered_kept}
use Rattle.tcl_tree.proofs.PartingLemmas.{ordered_created, gains_created}
use Rattle.tcl_tree.proofs.tree.Tree.create_at.Goals as goal

many : (es : List (List ℕ × ℕ)) (n : ℕ) → n ≡ length es → 256 ≤ n → 256 ≤ length (keys_of es)
many es n is h = let e = length_keys es in omega arith

few : (es : List (List ℕ × ℕ)) (n : ℕ) → n ≡ length es → n < 256 → length (keys_of es) < 256
few es n is h = let e = length_keys es in omega arith

pub unreachable-requires : goal.unreachable-requires
unreachable-requires c = leads_somewhere _ _ c.args.self.now.sound _ _ c.requires.1 (sym c.in_default.ensures)

pub returns-then-not-is_name-clause-refused : goal.returns-then-not-is_name-clause-refused
returns-then-not-is_name-clause-refused c = λ p at. (ap is_some (tree_some _ _ _ _ _ at (sym c.in-Some.ensures)), sym c.is_name.ensures ∙ c.if-not-is_name.true)

pub returns-then-contains_key-clause-refused : goal.returns-then-contains_key-clause-refused
returns-then-contains_key-clause-refused c = λ p at. (
  view_of c.in-Some.up.now,
  tree_some _ _ _ _ _ at (sym c.in-Some.ensures),
  sym c.is_name.ensures ∙ c.if-not-is_name.false,
  inl (some_of _ _ c.contains_key.ensures c.if-contains_key.true),
)

pub returns-then-contains_key-2-clause-refused : goal.returns-then-contains_key-2-clause-refused
returns-then-contains_key-2-clause-refused c = λ p at. (
  view_of c.in-Some.up.now,
  tree_some _ _ _ _ _ at (sym c.in-Some.ensures),
  sym c.is_name.ensures ∙ c.if-not-is_name.false,
  inr (tree_child _ _ _ _ c.args.name.now _ c.args.self.now.sound at (sym c.in-Some.ensures) (some_of _ _ c.contains_key-2.ensures c.if-contains_key-2.true)),
)

pub returns-then-len-ge-MOST_CHILDREN-clause-refused : goal.returns-then-len-ge-MOST_CHILDREN-clause-refused
returns-then-len-ge-MOST_CHILDREN-clause-refused c = λ p at. (
  view_of c.in-Some.up.now,
  tree_some _ _ _ _ _ at (sym c.in-Some.ensures),
  sym c.is_name.ensures ∙ c.if-not-is_name.false,
  none_of _ (sym c.contains_key.ensures ∙ c.if-contains_key.false),
  many c.in-Some.up.now.children.entries c.len.result c.len.ensures.len c.if-len-ge-MOST_CHILDREN.true,
)

pub invariant_of-self : goal.invariant_of-self
invariant_of-self c = record { sound = sound_kept _ _ c.make_room.ensures.same _ c.args.self.now.sound; guarded = guarded_kept _ _ c.make_room.ensures.same c.args.self.now.guarded; ordered = ordered_kept _ _ c.make_room.ensures.same _ c.args.self.now.ordered }

pub returns-in_err-make_room-clause-unchanged : goal.returns-in_err-make_room-clause-unchanged
returns-in_err-make_room-clause-unchanged c =
    let same : tree_in (get c.make_room.new.nodes) c.args.self.now.root ≡ tree_in (get c.args.self.now.nodes) c.args.self.now.root = λ i q. tree_kept (get c.args.self.now.nodes) (get c.make_room.new.nodes) c.make_room.ensures.same c.args.self.now.root q i in
    on_err _ same

pub returns-in_err-make_room-clause-keys : goal.returns-in_err-make_room-clause-keys
returns-in_err-make_room-clause-keys c = λ q k e. follow_kept (get c.args.self.now.nodes) (get c.make_room.new.nodes) c.make_room.ensures.same q c.args.self.now.root ∙ e

pub attach-requires-clause-there : goal.attach-requires-clause-there
attach-requires-clause-there c = room_there c.args.self.now.nodes c.make_room.new.nodes _ c.in-Some.up.now c.in_ok-make_room.ensures.same c.in-Some.ensures

pub attach-requires-clause-absent : goal.attach-requires-clause-absent
attach-requires-clause-absent c = room_keeps c.args.self.now.nodes c.make_room.new.nodes _ c.in-Some.up.now c.in_ok-make_room.ensures.same c.in-Some.ensures
    (λ (sh : Shape). lookup (bytes_eq c.in_ok-label.label) sh.3 ≡ None)
    (ap (λ (t : List ℕ). lookup (bytes_eq t) c.in-Some.up.now.children.entries) c.in_ok-label.ensures.cases ∙ none_of _ (sym c.contains_key-2.ensures ∙ c.if-contains_key-2.false))

pub attach-requires-clause-free : goal.attach-requires-clause-free
attach-requires-clause-free c = room_keeps c.args.self.now.nodes c.make_room.new.nodes _ c.in-Some.up.now c.in_ok-make_room.ensures.same c.in-Some.ensures
    (λ (sh : Shape). lookup (bytes_eq c.in_ok-label.label) sh.4.own.commands ≡ None)
    (ap (λ (t : List ℕ). lookup (bytes_eq t) c.in-Some.up.now.state.commands.entries) c.in_ok-label.ensures.cases ∙ none_of _ (sym c.contains_key.ensures ∙ c.if-contains_key.false))

pub invariant_of-self-2 : goal.invariant_of-self-2
invariant_of-self-2 c =
    let level : c.in-Some-checked_add.level ≡ c.in-Some.up.now.level + 1 = search rules in
    let fits : c.in-Some-checked_add.level < 2 ^ 64 = search rules in
    record {
      sound = sound_created c.args.self.now.nodes c.make_room.new.nodes c.attach.new.nodes _ _ c.args.name.now _ _ c.in-Some.up.now c.in_ok-make_room.ensures.same c.attach.ensures c.in-Some.ensures c.in_ok-label.ensures.cases refl c.in_ok-own_name.ensures.cases c.new-2.ensures.empty level (none_of _ (sym c.contains_key-2.ensures ∙ c.if-contains_key-2.false)) fits c.args.self.now.sound;
      guarded = guarded_created c.args.self.now.nodes c.make_room.new.nodes c.attach.new.nodes _ _ c.args.name.now _ _ c.in-Some.up.now c.in_ok-make_room.ensures.same c.attach.ensures c.in-Some.ensures c.in_ok-label.ensures.cases refl c.in_ok-own_name.ensures.cases c.new-2.ensures.empty level (none_of _ (sym c.contains_key-2.ensures ∙ c.if-contains_key-2.false)) fits c.args.self.now.sound c.args.self.now.guarded
          (λ up_safe. c.in_ok-state.ensures.safe ∙ c.is_child_safe-safe.ensures ∙ ap (either c.args.safe) up_safe ∙ either_parent c.args.safe)
          (few c.in-Some.up.now.children.entries c.len.result c.len.ensures.len c.if-len-ge-MOST_CHILDREN.false);
      ordered = ordered_created c.args.self.now.nodes c.make_room.new.nodes c.attach.new.nodes _ _ c.args.name.now _ _ c.in-Some.up.now c.in_ok-make_room.ensures.same c.attach.ensures c.in-Some.ensures c.in_ok-label.ensures.cases refl c.in_ok-own_name.ensures.cases c.new-2.ensures.empty level (none_of _ (sym c.contains_key-2.ensures ∙ c.if-contains_key-2.false)) fits c.args.self.now.sound c.requires.0 c.requires.1 c.args.self.now.ordered refl (ap (λ (v : NodeView). v.depth) (c.in_ok-state.ensures.view []));
    }

pub returns-clause-may : goal.returns-clause-may
returns-clause-may c = λ p at. record {
  parent = view_of c.in-Some.up.now;
  here = tree_some _ _ _ _ _ at (sym c.in-Some.ensures);
  named = sym c.is_name.ensures ∙ c.if-not-is_name.false;
  free = none_of _ (sym c.contains_key.ensures ∙ c.if-contains_key.false);
  absent = tree_no_child _ _ _ _ c.args.name.now _ at (sym c.in-Some.ensures) (none_of _ (sym c.contains_key-2.ensures ∙ c.if-contains_key-2.false));
  few = few c.in-Some.up.now.children.entries c.len.result c.len.ensures.len c.if-len-ge-MOST_CHILDREN.false;
}

pub returns-clause-made : goal.returns-clause-made
returns-clause-made c = λ p at v here.
    let level : c.in-Some-checked_add.level ≡ c.in-Some.up.now.level + 1 = search rules in
    let fits : c.in-Some-checked_add.level < 2 ^ 64 = search rules in
    let up_is = same_Some _ _ (sym here ∙ tree_some _ _ _ _ _ at (sym c.in-Some.ensures)) in
    made_is _ _ p c.args.name.now _ (new_own (either c.args.safe v.safe)) (either c.args.safe v.safe)
    (c.in_ok-state.ensures.view (keys_of c.new-2.result.entries)
    ∙ ap (new_view c.is_child_safe-safe.result false 200) (ap keys_of c.new-2.ensures.empty)
    ∙ ap (λ (b : Bool). core.fresh (new_own b) b) (c.is_child_safe-safe.ensures ∙ ap (λ (u : NodeView). either c.args.safe u.safe) (sym up_is)))
    (tree_created c.args.self.now.nodes c.make_room.new.nodes c.attach.new.nodes _ _ c.args.name.now _ _ c.in-Some.up.now c.in_ok-make_room.ensures.same c.attach.ensures c.in-Some.ensures c.in_ok-label.ensures.cases refl c.in_ok-own_name.ensures.cases c.new-2.ensures.empty level (none_of _ (sym c.contains_key-2.ensures ∙ c.if-contains_key-2.false)) fits c.args.self.now.sound p at _ refl) v here

pub returns-clause-keys : goal.returns-clause-keys
returns-clause-keys c =
    let level : c.in-Some-checked_add.level ≡ c.in-Some.up.now.level + 1 = search rules in
    let fits : c.in-Some-checked_add.level < 2 ^ 64 = search rules in
    keys_created c.args.self.now.nodes c.make_room.new.nodes c.attach.new.nodes _ _ c.args.name.now _ _ c.in-Some.up.now c.in_ok-make_room.ensures.same c.attach.ensures c.in-Some.ensures c.in_ok-label.ensures.cases refl c.in_ok-own_name.ensures.cases c.new-2.ensures.empty level (none_of _ (sym c.contains_key-2.ensures ∙ c.if-contains_key-2.false)) fits c.args.self.now.sound

pub returns-clause-gains : goal.returns-clause-gains
returns-clause-gains c =
    let level : c.in-Some-checked_add.level ≡ c.in-Some.up.now.level + 1 = search rules in
    let fits : c.in-Some-checked_add.level < 2 ^ 64 = search rules in
    gains_created c.args.self.now.nodes c.make_room.new.nodes c.attach.new.nodes _ _ c.args.name.now _ _ c.in-Some.up.now c.in_ok-make_room.ensures.same c.attach.ensures c.in-Some.ensures c.in_ok-label.ensures.cases refl c.in_ok-own_name.ensures.cases c.new-2.ensures.empty level (none_of _ (sym c.contains_key-2.ensures ∙ c.if-contains_key-2.false)) fits c.args.self.now.sound c.requires.0 c.requires.1 c.args.self.now.ordered refl (ap (λ (v : NodeView). v.depth) (c.in_ok-state.ensures.view []))

pub returns-in_err-make_room-clause-held : goal.returns-in_err-make_room-clause-held
returns-in_err-make_room-clause-held c =
    let same : (k : ℕ) → held_in (get c.make_room.new.nodes) k ≡ held_in (get c.args.self.now.nodes) k = held_kept _ _ c.make_room.ensures.same in
    on_err _ same

pub returns-in_err-make_room-clause-refused : goal.returns-in_err-make_room-clause-refused
returns-in_err-make_room-clause-refused c =
    let p = err_from_is_err_and c.from_residual-in_err-make_room.result c.from_residual-in_err-make_room.ensures.1 in
    rw (p.1, p.2) (λ q at. tt)
