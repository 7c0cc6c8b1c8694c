-- The tree of a table of interpreters is orderly.
use Rattle.std.proofs.Common.{◌≡◌, ◌∙◌, ℕ, true, false, [], ◌∷◌, ◌++◌, Option, None, Some, refl, sym, ap, subst}
use Rattle.std.specs.Prelude.{is_some}
use Rattle.std.specs.Option.{option_and_then, option_map, option_map_or}
use Rattle.slab.specs.Slab.{get}
use Rattle.tcl_core.specs.Laws.{IsSafeBelow}
use Rattle.tcl_core.specs.Paths.{Place, strip}
use Rattle.tcl_core.proofs.PathLaws.{Some-inj, strip-sound}
use Rattle.tcl_tree.specs.Nodes.{Heap, IsGuarded, NodeView, child_in, follow, safe_in, tree_in, view_of}
use Rattle.tcl_tree.specs.Paths.{Path}
use Rattle.tcl_tree.specs.TreeOf.{tree_of}
use Rattle.tcl_interpreter.specs.declared.node.Node.{Node as Entry}
use Rattle.tcl_tree.specs.declared.tree.Tree.{Tree as Table}
use Rattle.tcl_tree.proofs.CoreLemmas.{top_there, tree_there}
use Rattle.tcl_tree.proofs.HeapLemmas.{tree-at}
use Rattle.tcl_run_laws.specs.Budgets.{IsOrderly}

-- a path in two parts leads by the first one
pub record Parts (h : Heap) (k : ℕ) (p z : Path) (c : ℕ) : Type 0 where
  pub between : ℕ
  pub first : follow h k p ≡ Some between
  pub then : follow h between z ≡ Some c

no_key : {A : Type 0} (c : ℕ) → ◌≡◌ {A = Option ℕ} None (Some c) → A
no_key c e = absurd cc

in_parts : (h : Heap) (k : ℕ) (p z : Path) (c : ℕ) → follow h k (p ++ z) ≡ Some c → Parts h k p z c
unfolding follow
in_parts h k [] z c e = record { between = k; first = refl; then = e }
in_parts h k (n ∷ p) z c e =
    let q = by (child_in h k n) (λ d f. in_parts h d p z c f) e in
    record { between = q.0; first = q.1; then = q.2 }
  where
    by : (o : Option ℕ) → ((d : ℕ) → follow h d (p ++ z) ≡ Some c → Parts h d p z c) → option_and_then (λ d. follow h d (p ++ z)) o ≡ Some c →
        (b : ℕ) × (option_and_then (λ d. follow h d p) o ≡ Some b) × (follow h b z ≡ Some c)
    by None ih f = no_key c f
    by (Some d) ih f = let g = ih d f in (g.between, g.first, g.then)

-- safety goes down
down : (h : Heap) → IsGuarded h → (k : ℕ) (z : Path) (c : ℕ) → safe_in h k ≡ true → follow h k z ≡ Some c → safe_in h c ≡ true
unfolding follow
down h g k [] c s e = subst (λ d. safe_in h d ≡ true) (Some-inj k e) s
down h g k (n ∷ z) c s e = by (child_in h k n) refl e (λ d t f. down h g d z c t f)
  where
    by : (o : Option ℕ) → child_in h k n ≡ o → option_and_then (λ d. follow h d z) o ≡ Some c → ((d : ℕ) → safe_in h d ≡ true → follow h d z ≡ Some c → safe_in h c ≡ true) → safe_in h c ≡ true
    by None at f ih = no_key c f
    by (Some d) at f ih = ih d (g.safe k n d at s) f

-- an interpreter has a key
keyed : (h : Heap) (o : Option ℕ) (n : NodeView) → option_and_then (λ k. option_map view_of (h k)) o ≡ Some n → (k : ℕ) × (o ≡ Some k)
keyed h None n e = absurd cc
keyed h (Some k) n e = (k, refl)

key_there : (h : Heap) (root : ℕ) (q : Path) (n : NodeView) → tree_in h root q ≡ Some n → (k : ℕ) × (follow h root q ≡ Some k)
unfolding tree_in
key_there h root q n e = keyed h (follow h root q) n e

-- and is as safe as the node there
as_safe : (o : Option Entry) (n : NodeView) → option_map view_of o ≡ Some n → option_map_or (λ node. node.state.safe) o false ≡ n.safe
as_safe None n e = absurd cc
as_safe (Some node) n e = ap (λ (v : NodeView). v.safe) (Some-inj (view_of node) e)

safe_there : (h : Heap) (root : ℕ) (q : Path) (k : ℕ) (n : NodeView) → follow h root q ≡ Some k → tree_in h root q ≡ Some n → safe_in h k ≡ n.safe
unfolding safe_in
safe_there h root q k n at e = as_safe (h k) n (sym (tree-at h root q k at) ∙ e)

some_of : (o : Option NodeView) → is_some o ≡ true → (n : NodeView) × (o ≡ Some n)
some_of None e = absurd cc
some_of (Some n) e = (n, refl)

-- the keys on the way to an interpreter
on_the_way : (t : Table) (p q z : Place) (n : NodeView) → strip p q ≡ Some z → tree_of t q ≡ Some n → (k : ℕ) × (follow (get t.nodes) t.root q ≡ Some k) × Parts (get t.nodes) t.root p z k
on_the_way t p q z n s e =
    let h : Heap = get t.nodes in
    let k : (k : ℕ) × (follow h t.root q ≡ Some k) = key_there h t.root q n e in
    (k.0, k.1, in_parts h t.root p z k.0 (ap (follow h t.root) (sym (strip-sound p q z s)) ∙ k.1))

pub safe_below : (t : Table) → IsSafeBelow (tree_of t)
safe_below t p q z m n s e f g =
    let h : Heap = get t.nodes in
    let way = on_the_way t p q z n s g in
    let top : safe_in h way.2.between ≡ true = safe_there h t.root p way.2.between m way.2.first e ∙ f in
    sym (safe_there h t.root q way.0 n way.1 g) ∙ down h t.guarded way.2.between z way.0 top way.2.then

pub orderly : (t : Table) → IsOrderly (tree_of t)
orderly t = record {
  top = some_of (tree_of t []) (top_there t);
  closed = λ p q z n s e. (let way = on_the_way t p q z n s e in some_of (tree_of t p) (tree_there t p way.2.between way.2.first));
  safe = safe_below t;
}
