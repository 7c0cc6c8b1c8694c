-- What holds of the interpreters of every tree.
use Rattle.std.specs.Prelude.{◌⊎◌}
use Rattle.std.proofs.Common.{◌≡◌, ◌≤◌, ℕ, subst, refl, sym, ◌∙◌, inl, inr, ◌++◌, Option, Some, None}
use Rattle.std.specs.Option.{option_map}
use Rattle.std.proofs.lemmas.Option.{same_Some}
use Rattle.slab.specs.Slab.{get}
use Rattle.tcl_interpreter.specs.Paths.{Path}
use Rattle.tcl_tree.specs.Nodes.{Heap, NodeView, view_of, tree_in, follow}
use Rattle.tcl_tree.specs.Changes.{most_depth, RefusesToDeepen, RefusesLimit, RefusesDepthLimit}
use Rattle.tcl_tree.specs.Naming.{Named, IsTrusted, Nowhere, Untrusted}
use Rattle.tcl_tree.specs.Order.{FirstOfLimit, FirstOfDepth, FirstOfDepthLimit, FirstOfAsked}
use Rattle.tcl_interpreter.specs.Own.{Own}
use Rattle.tcl_tree.specs.TreeOf.{tree_of}
use Rattle.tcl_interpreter.specs.declared.node.Node.{Node}
use Rattle.tcl_interpreter.specs.declared.refusal.TreeError.{TreeError}
use Rattle.tcl_interpreter.specs.declared.refusal.TreeError.TheVariants.{Memory, BadName, BadCount, NoInterpreter, Exists, Denied, NoCommand, NoHidden, TooMany, CountLimit, DepthLimit, BadDepthLimit}
use Rattle.tcl_tree.specs.declared.tree.Tree.{Tree}
use Rattle.tcl_tree.proofs.HeapLemmas.{tree-at, tree-none}

-- the node of which an interpreter is seen
pub record Seen (h : Heap) (root : ℕ) (p : Path) (v : NodeView) : Type 0 where
  pub key : ℕ
  pub node : Node
  pub leads : follow h root p ≡ Some key
  pub is : h key ≡ Some node
  pub view : view_of node ≡ v

pub seen : (h : Heap) (root : ℕ) (p : Path) (v : NodeView) → tree_in h root p ≡ Some v → Seen h root p v
seen h root p v e = by (follow h root p) refl
  where
    at : (k : ℕ) → follow h root p ≡ Some k → (o : Option Node) → h k ≡ o → option_map view_of o ≡ Some v → Seen h root p v
    at k leads None is f = let x : ◌≡◌ {A = Option NodeView} None (Some v) = f in cc
    at k leads (Some node) is f = record { key = k; node = node; leads = leads; is = is; view = same_Some _ _ f }

    by : (o : Option ℕ) → follow h root p ≡ o → Seen h root p v
    by None leads = let x : ◌≡◌ {A = Option NodeView} None (Some v) = sym (tree-none h root p leads) ∙ e in cc
    by (Some k) leads = at k leads (h k) refl (sym (tree-at h root p k leads) ∙ e)

pub least_depth : (t : Tree) (p : Path) (v : NodeView) → tree_of t p ≡ Some v → 1 ≤ v.depth_limit
least_depth t p v e =
    let s = seen (get t.nodes) t.root p v e in
    subst (λ (u : NodeView). 1 ≤ u.depth_limit) s.view s.node.state.least

pub most_of_depth : (t : Tree) (p : Path) (v : NodeView) → tree_of t p ≡ Some v → v.depth_limit ≤ most_depth
most_of_depth t p v e =
    let s = seen (get t.nodes) t.root p v e in
    subst (λ (u : NodeView). u.depth_limit ≤ most_depth) s.view s.node.state.most

-- what is refused where the interpreter that is to be limited was found
pub deepen_refused : (e : TreeError) (f : Path → Option NodeView) (p down : Path) (limit : ℕ) → RefusesToDeepen e f (p ++ down) limit → RefusesDepthLimit e f p down limit
deepen_refused Denied f p down limit h = inr h
deepen_refused BadDepthLimit f p down limit h = h
deepen_refused Memory f p down limit h = absurd h
deepen_refused BadName f p down limit h = absurd h
deepen_refused BadCount f p down limit h = absurd h
deepen_refused NoInterpreter f p down limit h = absurd h
deepen_refused Exists f p down limit h = absurd h
deepen_refused NoCommand f p down limit h = absurd h
deepen_refused NoHidden f p down limit h = absurd h
deepen_refused TooMany f p down limit h = absurd h
deepen_refused (CountLimit n) f p down limit h = absurd h
deepen_refused (DepthLimit n) f p down limit h = absurd h

-- what is refused to an interpreter that isn't trusted
pub untrusted_limit : (e : TreeError) (f : Path → Option NodeView) (p down : Path) (limit : Option ℕ) → Untrusted e f p → RefusesLimit e f p down limit
untrusted_limit e f p down limit (inl w) = subst (λ (x : TreeError). RefusesLimit x f p down limit) (sym w.0) (inl w.1)
untrusted_limit e f p down limit (inr w) = subst (λ (x : TreeError). RefusesLimit x f p down limit) (sym w.0) (w.1, w.2, inl w.3)

pub untrusted_depth : (e : TreeError) (f : Path → Option NodeView) (p down : Path) (limit : ℕ) → Untrusted e f p → RefusesDepthLimit e f p down limit
untrusted_depth e f p down limit (inl w) = subst (λ (x : TreeError). RefusesDepthLimit x f p down limit) (sym w.0) (inl w.1)
untrusted_depth e f p down limit (inr w) = subst (λ (x : TreeError). RefusesDepthLimit x f p down limit) (sym w.0) (inl (w.1, w.2, w.3))

-- ## What comes first

pub first_limit : (e : TreeError) (f : Path → Option NodeView) (p down : Path) (limit : Option ℕ) → Untrusted e f p → FirstOfLimit e f p down limit
first_limit e f p down limit (inl w) = subst (λ (x : TreeError). FirstOfLimit x f p down limit) (sym w.0) (inl w.1)
first_limit e f p down limit (inr w) = subst (λ (x : TreeError). FirstOfLimit x f p down limit) (sym w.0) (inl (w.1, w.2, w.3))

pub first_depth : (e : TreeError) (f : Path → Option NodeView) (p down : Path) (limit : ℕ) → Untrusted e f p → FirstOfDepthLimit e f p down limit
first_depth e f p down limit (inl w) = subst (λ (x : TreeError). FirstOfDepthLimit x f p down limit) (sym w.0) (inl w.1)
first_depth e f p down limit (inr w) = subst (λ (x : TreeError). FirstOfDepthLimit x f p down limit) (sym w.0) (inl (w.1, w.2, w.3))

pub first_asked : (e : TreeError) (f : Path → Option NodeView) (p down : Path) (change : Own → Named) → Untrusted e f p ⊎ (IsTrusted f p × Nowhere e f (p ++ down)) → FirstOfAsked e f p down change
first_asked e f p down change (inl w) = inl w
first_asked e f p down change (inr w) = inr (w.0, inl w.1)

pub first_deepen : (e : TreeError) (f : Path → Option NodeView) (p down : Path) (limit : ℕ) → IsTrusted f p → FirstOfDepth e f (p ++ down) limit → FirstOfDepthLimit e f p down limit
first_deepen Denied f p down limit t h = inr (t, h)
first_deepen BadDepthLimit f p down limit t h = (t, h)
first_deepen Memory f p down limit t h = absurd h
first_deepen BadName f p down limit t h = absurd h
first_deepen BadCount f p down limit t h = absurd h
first_deepen NoInterpreter f p down limit t h = absurd h
first_deepen Exists f p down limit t h = absurd h
first_deepen NoCommand f p down limit t h = absurd h
first_deepen NoHidden f p down limit t h = absurd h
first_deepen TooMany f p down limit t h = absurd h
first_deepen (CountLimit n) f p down limit t h = absurd h
first_deepen (DepthLimit n) f p down limit t h = absurd h
