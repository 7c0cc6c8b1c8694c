-- What a write to one interpreter does, in the words of the core.
use Rattle.std.proofs.Common.{◌≡◌, ℕ, ◌∙◌, refl, sym, ap, cond, inl, inr, arith, suc, Bool, true, false, length, [], ◌∷◌, Option, Some, None}
use Rattle.std.specs.Prelude.{◌≢◌, ◌==◌}
use Rattle.std.proofs.lemmas.Bool.Decides.{nat_tests}
use Rattle.std.specs.Option.{option_map, option_map_or}
use Rattle.std.proofs.lemmas.Option.{same_Some}
use Rattle.slab.specs.Slab as slab
use Rattle.slab.specs.Slab.{Slab}
use Rattle.tcl_core.specs.Trees.{effect}
use Rattle.tcl_core.specs.Trees.What.{Limited, DepthLimited}
use Rattle.tcl_frames.specs.Chain.{Chain}
use Rattle.tcl_interpreter.specs.Paths.{Path, with_node}
use Rattle.tcl_interpreter.proofs.PathLemmas.{path_cases}
use Rattle.tcl_interpreter.specs.Own.{Own}
use Rattle.tcl_tree.specs.Nodes.{NodeView, view_of, tree_in, follow, IsSound, IsGuarded}
use Rattle.tcl_tree.specs.Changes.{Rewrites}
use Rattle.tcl_tree.specs.Lending.{with_frames, with_frames_at}
use Rattle.tcl_interpreter.specs.declared.node.Node.{Node}
use Rattle.tcl_tree.proofs.HeapLemmas.{SamePlace, tree-at}
use Rattle.tcl_tree.specs.Held.{held_in, IsOrdered}
use Rattle.tcl_tree.proofs.DepthLemmas.{ordered_write}
use Rattle.tcl_tree.proofs.StepLemmas.{held_write, tree_some, tree_write, sound_write, guarded_write, follow_write, leads_somewhere}
use Rattle.tcl_tree.proofs.CoreLemmas.{node_done}

-- a node that is put where it stands
with_same : (f : Path → Option NodeView) (p q : Path) → with_node f p (option_map (λ v. v) (f p)) q ≡ f q
unfolding with_node
with_same f p q = elim (path_cases q p) [
  | inl w ↦ ap (λ b. cond b (option_map (λ v. v) (f p)) (f q)) w.1 ∙ by (f p) ∙ ap f (sym w.0)
  | inr w ↦ ap (λ b. cond b (option_map (λ v. v) (f p)) (f q)) w.1
]
  where
    by : (o : Option NodeView) → option_map (λ v. v) o ≡ o
    by None = refl
    by (Some v) = refl

module _ (s : Slab Node) (root : ℕ) (sound : IsSound (slab.get s) root) (p : Path) (k : ℕ) (at : follow (slab.get s) root p ≡ Some k)
    (old new : Node) (is : slab.get s k ≡ Some old) (same : SamePlace old new) where
  -- the own part is written
  pub own_write : (change : Own → Own) → record (view_of old) { own = change (view_of old).own } ≡ view_of new
      → Rewrites (tree_in (slab.get s) root) (tree_in (slab.get (slab.with_value s k new)) root) p change
  own_write change e = λ n here.
      let n_is : n ≡ view_of old = same_Some _ _ (sym here ∙ tree_some (slab.get s) root p k old at is) in
      node_done (λ (v : NodeView). record v { own = change n.own }) _ _ p
      (tree_write s root sound p k at old new is same _ (ap (λ (v : NodeView). record (view_of old) { own = change v.own }) n_is ∙ e))

  -- nothing is seen of what is written
  pub view_write : view_of old ≡ view_of new → tree_in (slab.get (slab.with_value s k new)) root ≡ tree_in (slab.get s) root
  view_write e = λ i q. (tree_write s root sound p k at old new is same (λ v. v) e q ∙ with_same (tree_in (slab.get s) root) p q) i

  pub limit_write : (l : Option ℕ) → record (view_of old) { limit = l } ≡ view_of new → tree_in (slab.get (slab.with_value s k new)) root ≡ effect p (Limited l) (tree_in (slab.get s) root)
  limit_write l e = node_done (λ (v : NodeView). record v { limit = l }) _ _ p (tree_write s root sound p k at old new is same _ e)

  pub depth_write : (l : ℕ) → record (view_of old) { depth_limit = l } ≡ view_of new → tree_in (slab.get (slab.with_value s k new)) root ≡ effect p (DepthLimited l) (tree_in (slab.get s) root)
  depth_write l e = node_done (λ (v : NodeView). record v { depth_limit = l }) _ _ p (tree_write s root sound p k at old new is same _ e)

-- frames that are written through a loan
module _ (s : Slab Node) (root : ℕ) (sound : IsSound (slab.get s) root) (p : Path) (key : ℕ) (leads : follow (slab.get s) root p ≡ Some key) (w : Chain) where
  pub frames_sound : IsSound (slab.get (with_frames_at s key w)) root
  frames_sound = by (slab.get s key) refl
    where
      by : (o : Option Node) → slab.get s key ≡ o → IsSound (slab.get (option_map_or (λ node. slab.with_value s key (with_frames node w)) o s)) root
      by None e = sound
      by (Some node) e = sound_write s root sound p key leads node (with_frames node w) e (record { parent = refl; name = refl; level = refl; children = refl; safe = refl; gone = refl })

  pub frames_guarded : IsGuarded (slab.get s) → IsGuarded (slab.get (with_frames_at s key w))
  frames_guarded g = by (slab.get s key) refl
    where
      by : (o : Option Node) → slab.get s key ≡ o → IsGuarded (slab.get (option_map_or (λ node. slab.with_value s key (with_frames node w)) o s))
      by None e = g
      by (Some node) e = guarded_write s root sound p key leads node (with_frames node w) e (record { parent = refl; name = refl; level = refl; children = refl; safe = refl; gone = refl }) g

  pub frames_held : (j : ℕ) → held_in (slab.get (with_frames_at s key w)) j ≡ held_in (slab.get s) j
  frames_held j = by (slab.get s key) refl
    where
      by : (o : Option Node) → slab.get s key ≡ o → held_in (slab.get (option_map_or (λ node. slab.with_value s key (with_frames node w)) o s)) j ≡ held_in (slab.get s) j
      by None e = refl
      by (Some node) e = held_write s key node (with_frames node w) e (record { parent = refl; name = refl; level = refl; children = refl; safe = refl; gone = refl }) refl j

  pub frames_ordered : IsOrdered (slab.get s) root → IsOrdered (slab.get (with_frames_at s key w)) root
  frames_ordered g = by (slab.get s key) refl
    where
      by : (o : Option Node) → slab.get s key ≡ o → IsOrdered (slab.get (option_map_or (λ node. slab.with_value s key (with_frames node w)) o s)) root
      by None e = g
      by (Some node) e = ordered_write s key node (with_frames node w) e (record { parent = refl; name = refl; level = refl; children = refl; safe = refl; gone = refl }) refl root g

  pub frames_tree : Rewrites (tree_in (slab.get s) root) (tree_in (slab.get (with_frames_at s key w)) root) p (λ own. record own { chain = w })
  frames_tree = by (slab.get s key) refl
    where
      by : (o : Option Node) → slab.get s key ≡ o → Rewrites (tree_in (slab.get s) root) (tree_in (slab.get (option_map_or (λ node. slab.with_value s key (with_frames node w)) o s)) root) p (λ own. record own { chain = w })
      by None e = absurd (leads_somewhere (slab.get s) root sound p key leads e)
      by (Some node) e = own_write s root sound p key leads node (with_frames node w) e (record { parent = refl; name = refl; level = refl; children = refl; safe = refl; gone = refl }) (λ own. record own { chain = w }) refl

  pub frames_keys : (q : Path) → follow (slab.get (with_frames_at s key w)) root q ≡ follow (slab.get s) root q
  frames_keys = by (slab.get s key) refl
    where
      by : (o : Option Node) → slab.get s key ≡ o → (q : Path) → follow (slab.get (option_map_or (λ node. slab.with_value s key (with_frames node w)) o s)) root q ≡ follow (slab.get s) root q
      by None e = λ q. refl
      by (Some node) e = follow_write s root sound p key leads node (with_frames node w) e (record { parent = refl; name = refl; level = refl; children = refl; safe = refl; gone = refl })

-- where the key leads somewhere or nowhere
pub chain_value : (h : ℕ → Option Node) (root : ℕ) (p : Path) (k : ℕ) → follow h root p ≡ Some k → option_map (λ (node : Node). node.state.frames) (h k) ≡ option_map (λ (n : NodeView). n.own.chain) (tree_in h root p)
chain_value h root p k leads = by (h k) ∙ sym (ap (option_map (λ (n : NodeView). n.own.chain)) (tree-at h root p k leads))
  where
    by : (o : Option Node) → option_map (λ (node : Node). node.state.frames) o ≡ option_map (λ (n : NodeView). n.own.chain) (option_map view_of o)
    by None = refl
    by (Some node) = refl

-- a test for no names
pub empty_path : (xs : Path) (b : Bool) → b ≡ (length xs == 0) → b ≡ true → xs ≡ []
empty_path [] b e t = refl
empty_path (x ∷ xs) b e t = absurd (never (length xs) (sym e ∙ t))
  where
    never : (n : ℕ) → (suc n == 0) ≡ true → Prim.⊥
    never n h = grind (arith, nat_tests)

pub no_empty_path : (xs : Path) (b : Bool) → b ≡ (length xs == 0) → b ≡ false → xs ≢ []
no_empty_path xs b e f none = let x : true ≡ false = sym (e ∙ ap (λ (ys : Path). length ys == 0) none) ∙ f in cc
