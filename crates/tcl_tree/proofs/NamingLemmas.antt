-- What is done to the commands of one interpreter, in the words of the core.
use Rattle.std.proofs.Common.{[], ◌≡◌, ℕ, ◌∙◌, refl, sym, ap, inl, inr, true, false, List, Option, Some, None}
use Rattle.std.specs.Prelude.{is_some, Result, Ok, Err, OnOk, OnErr, IfErr, IfNone}
use Rattle.std.proofs.lemmas.Option.{same_Some}
use Rattle.slab.specs.Slab as slab
use Rattle.slab.specs.Slab.{Slab}
use Rattle.indexmap.specs.IndexMap.{keys}
use Rattle.tcl_interpreter.specs.Paths.{Text, Path}
use Rattle.tcl_interpreter.specs.Own.{Own}
use Rattle.tcl_tree.specs.Nodes.{Heap, NodeView, own_view, state_view, view_of, tree_in, follow, IsSound}
use Rattle.tcl_tree.specs.Naming.{Named, Follows, StaysSo, Becomes, Refuses, RefusesNaming, RefusesThere, RefusesAt, RefusesSo, named_so}
use Rattle.tcl_tree.specs.TreeOf.{tree_of, key_of}
use Rattle.tcl_tree.specs.declared.tree.Tree.{Tree}
use Rattle.tcl_interpreter.specs.declared.naming.Naming.{Naming}
use Rattle.tcl_interpreter.specs.declared.node.Node.{Node}
use Rattle.tcl_interpreter.specs.declared.node.State.{State}
use Rattle.tcl_interpreter.specs.declared.refusal.TreeError.{TreeError}
pub use Rattle.tcl_interpreter.proofs.Outcomes.{if_ok_map}
use Rattle.tcl_tree.proofs.HeapLemmas.{SamePlace}
use Rattle.tcl_tree.proofs.StepLemmas.{tree_some, tree_write}
use Rattle.tcl_tree.proofs.CoreLemmas.{node_done, tree_there}
use Rattle.tcl_tree.proofs.OwnLemmas.{view_write}

-- the node with another state, which is as safe
abbrev pub with_state : Node → State → Node
with_state node new = record node { state = new }

pub state_place : (node : Node) (new : State) → new.safe ≡ node.state.safe → SamePlace node (with_state node new)
state_place node new e = record { parent = refl; name = refl; level = refl; children = refl; safe = e; gone = refl }

-- what is done to a name changes no depth
pub named_depth : (r : Result (Unit {0}) TreeError) (naming : Naming) (old new : State) → OnOk r (Follows (named_so naming) old new) → IfErr r (λ e. StaysSo naming e old new) → new.depth ≡ old.depth
named_depth (Ok x) naming old new h g = ap (λ (v : NodeView). v.depth) (h.rest [])
named_depth (Err e) naming old new h g = ap (λ (v : NodeView). v.depth) (g.same [])

module _ (s : Slab Node) (root : ℕ) (sound : IsSound (slab.get s) root) (p : Path) (k : ℕ) (at : follow (slab.get s) root p ≡ Some k)
    (node : Node) (new : State) (is : slab.get s k ≡ Some node) (safe : new.safe ≡ node.state.safe) where
  pub named_write : (f : Own → Named) → Follows f node.state new → Becomes (tree_in (slab.get s) root) (tree_in (slab.get (slab.with_value s k (with_state node new))) root) p f
  named_write f h = λ v here.
      let v_is : v ≡ view_of node = same_Some _ _ (sym here ∙ tree_some (slab.get s) root p k node at is) in
      let own : Own = own_view new (keys node.children) in (
        own,
        ap (λ (u : NodeView). f u.own) v_is ∙ h.own (keys node.children),
        node_done (λ (u : NodeView). record u { own = own }) _ _ p
            (tree_write s root sound p k at node (with_state node new) is (state_place node new safe) _ (sym (h.rest (keys node.children)))),
      )

  pub unnamed_write : ((names : List Text) → state_view new names ≡ state_view node.state names)
      → tree_in (slab.get (slab.with_value s k (with_state node new))) root ≡ tree_in (slab.get s) root
  unnamed_write same = view_write s root sound p k at node (with_state node new) is (state_place node new safe) (sym (same (keys node.children)))

pub refused_naming : (h : Heap) (root : ℕ) (p : Path) (k : ℕ) → follow h root p ≡ Some k → (node : Node) (new : State) → h k ≡ Some node → (naming : Naming) (e : TreeError)
    → StaysSo naming e node.state new → RefusesSo naming e (tree_in h root) p
refused_naming h root p k at node new is naming e stays = λ v here.
    let v_is : v ≡ view_of node = same_Some _ _ (sym here ∙ tree_some h root p k node at is) in
    elim stays.why [
      | inl memory ↦ inl memory
      | inr why ↦ inr (ap (λ (u : NodeView). named_so naming u.own) v_is ∙ why (keys node.children))
    ]

pub ok_map : {T E P Q : Type 0} (r : Result T E) → OnOk r P → (P → Q) → OnOk r Q
ok_map (Ok x) h f = f h
ok_map (Err e) h f = tt

pub err_map : {T E : Type 0} {P Q : E → Type 0} (r : Result T E) → IfErr r P → ((e : E) → P e → Q e) → IfErr r Q
err_map (Ok x) h f = tt
err_map (Err e) h f = f e h

pub err_then : {T E Q : Type 0} {P : E → Type 0} (r : Result T E) → IfErr r P → ((e : E) → P e → Q) → OnErr r Q
err_then (Ok x) h f = tt
err_then (Err e) h f = f e h

-- an answer by place is one by path
pub standing : (t : Tree) (p : Path) (k : ℕ) → key_of t p ≡ Some k → (v : NodeView) × (tree_of t p ≡ Some v)
standing t p k at = by (tree_of t p) refl (tree_there t p k at)
  where
    by : (o : Option NodeView) → tree_of t p ≡ o → is_some o ≡ true → (v : NodeView) × (tree_of t p ≡ Some v)
    by None e h = let x : false ≡ true = h in cc
    by (Some v) e h = (v, e)

pub refuses_at : (t : Tree) (p : Path) (k : ℕ) → key_of t p ≡ Some k → (f : Own → Named) (e : TreeError) → RefusesNaming e (tree_of t) p f → RefusesAt e (tree_of t) p f
refuses_at t p k at f e h = let w = standing t p k at in inr (w.0, w.1, h w.0 w.1)

pub refuses_there : (t : Tree) (p : Path) (k : ℕ) → key_of t p ≡ Some k → (f : Own → Named) (e : TreeError) → Refuses e (tree_of t) p f → RefusesThere e (tree_of t) p f
refuses_there t p k at f e h = let w = standing t p k at in inr (w.0, w.1, h w.0 w.1)

pub always_ok : {T E P : Type 0} (r : Result T E) → P → OnOk r P
always_ok (Ok x) h = h
always_ok (Err e) h = tt

pub if_none : {T P : Type 0} (o : Option T) → P → IfNone o P
if_none None h = h
if_none (Some x) h = tt
