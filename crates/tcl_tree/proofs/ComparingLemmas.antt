-- Interpreters that are equal with all below them.
use Rattle.std.proofs.Common.{◌≡◌, ℕ, zero, suc, ◌<◌, List, [], ◌∷◌, true, false, IsTrue, length, refl, sym, ◌∙◌, ap, arith, Option, Some, None}
use Rattle.std.specs.Prelude.{slice_get, is_some}
use Rattle.std.specs.Option.{option_and_then, option_map}
use Rattle.std.specs.Str.{bytes_eq}
use Rattle.std.specs.List.{list_any}
use Rattle.std.proofs.lemmas.Map.Entries.{place_from_lookup}
use Rattle.std.proofs.lemmas.Map.Made.{is_some-lookup}
use Rattle.std.proofs.lemmas.Slice.Eq.{bytes_eq-Decides}
use Rattle.indexmap.specs.IndexMap.{get, keys}
use Rattle.tcl_interpreter.specs.Paths.{Text, Path}
use Rattle.tcl_tree.specs.Walking.{SameBelow, SameChildren}
use Rattle.tcl_tree.specs.Nodes.{Heap, view_of, child_in, follow, tree_in}
use Rattle.tcl_interpreter.specs.declared.node.Node.{Node}
use Rattle.tcl_tree.proofs.HeapLemmas.{follow-nil, tree-at}
use Rattle.tcl_tree.proofs.StepLemmas.{child-at, child-none}

-- the interpreter itself
pub top_at : (h : Heap) (k : ℕ) → tree_in h k [] ≡ option_map view_of (h k)
top_at h k = tree-at h k [] k (follow-nil h k)

-- what is below where a child is, and where none is
pub below_child : (h : Heap) (k : ℕ) (n : Text) (c : ℕ) (q : Path) → child_in h k n ≡ Some c → tree_in h k (n ∷ q) ≡ tree_in h c q
unfolding tree_in follow
below_child h k n c q e = ap (λ o. option_and_then (λ j. option_map view_of (h j)) (option_and_then (λ d. follow h d q) o)) e

pub below_none : (h : Heap) (k : ℕ) (n : Text) (q : Path) → child_in h k n ≡ None → tree_in h k (n ∷ q) ≡ None
unfolding tree_in follow
below_none h k n q e = ap (λ o. option_and_then (λ j. option_map view_of (h j)) (option_and_then (λ d. follow h d q) o)) e

-- nothing is where no node is
pub nowhere : (h : Heap) (k : ℕ) → h k ≡ None → (q : Path) → tree_in h k q ≡ None
nowhere h k e [] = top_at h k ∙ ap (option_map view_of) e
nowhere h k e (n ∷ q) = below_none h k n q (child-none h k n e)

pub same_text : (a b : Text) → bytes_eq a b ≡ true → a ≡ b
same_text a b = (bytes_eq-Decides a b).0

within : {A : Type 0} (xs : List A) (i : ℕ) (x : A) → slice_get xs i ≡ Some x → i < length xs
within [] i x e = absurd (cc)
within (y ∷ xs) zero x e = omega arith
within (y ∷ xs) (suc i) x e = let w = within xs i x e in omega arith

module _ (h g : Heap) (k t : ℕ) (this that : Node) (is : h k ≡ Some this) (twin : g t ≡ Some that) where
  pub missing : (keys this.children ≡ keys that.children) → (n : Text) → get bytes_eq this.children n ≡ None → get bytes_eq that.children n ≡ None
  missing names n e = by (get bytes_eq that.children n) (is_some-lookup (bytes_eq n) that.children.entries ∙ ap (list_any (bytes_eq n)) (sym names) ∙ sym (is_some-lookup (bytes_eq n) this.children.entries) ∙ ap is_some e)
    where
      by : (o : Option ℕ) → is_some o ≡ false → o ≡ None
      by None x = refl
      by (Some d) x = absurd (cc)

  pub found : (keys this.children ≡ keys that.children) → (n : Text) (c : ℕ) → get bytes_eq this.children n ≡ Some c → (d : ℕ) × (get bytes_eq that.children n ≡ Some d)
  found names n c e = by (get bytes_eq that.children n) refl (is_some-lookup (bytes_eq n) that.children.entries ∙ ap (list_any (bytes_eq n)) (sym names) ∙ sym (is_some-lookup (bytes_eq n) this.children.entries) ∙ ap is_some e)
    where
      by : (o : Option ℕ) → get bytes_eq that.children n ≡ o → is_some o ≡ true → (d : ℕ) × (get bytes_eq that.children n ≡ Some d)
      by None f x = absurd (cc)
      by (Some d) f x = (d, f)

  -- they are equal where they are by themselves, and their children are
  pub all_same : (view_of this ≡ view_of that) → (keys this.children ≡ keys that.children) → SameChildren h g this that (length this.children.entries) → SameBelow h g k t
  all_same views names children [] = top_at h k ∙ ap (option_map view_of) is ∙ ap Some views ∙ sym (top_at g t ∙ ap (option_map view_of) twin)
  all_same views names children (n ∷ q) = by (get bytes_eq this.children n) refl
    where
      by : (o : Option ℕ) → get bytes_eq this.children n ≡ o → tree_in h k (n ∷ q) ≡ tree_in g t (n ∷ q)
      by None e =
          below_none h k n q (child-at h k n this is ∙ e) ∙ sym (below_none g t n q (child-at g t n that twin ∙ missing names n e))
      by (Some c) e =
          let w = found names n c e in
          let place = place_from_lookup (bytes_eq n) this.children.entries c e in
          below_child h k n c q (child-at h k n this is ∙ e)
          ∙ children place.0 n c w.0 (within this.children.entries place.0 (place.1, c) place.2) (place.2 ∙ ap (λ m. Some (m, c)) (sym (same_text n place.1 place.3))) w.1 q
          ∙ sym (below_child g t n w.0 q (child-at g t n that twin ∙ w.1))

-- what is told not to be so
pub never : {P : Type 0} → (P → ⊥) → (IsTrue false → P) × (P → IsTrue false)
never f = (λ t. let x : false ≡ true = t in cc, λ p. absurd (f p))
