-- Copies of what stands at a key of a table and below it, in a table of their own.
use Rattle.std.specs.Prelude.{◌≡◌, ◌⊎◌, ℕ, suc, ◌+◌, ◌-◌, ◌^◌, List, [], ◌∷◌, drop, length, take}
use Rattle.std.specs.Prelude.{Some, None, slice_get}
use Rattle.indexmap.specs.IndexMap.{keys}
use Rattle.slab.specs.Slab as slab
use Rattle.slab.specs.Slab.{Slab}
use Rattle.tcl_interpreter.specs.Paths.{Text, Path}
use Rattle.tcl_tree.specs.Nodes.{Heap, Joined, IsSound, IsGuarded, state_view, child_in}
use Rattle.tcl_tree.specs.Nodes.{children_in, follow, level_in, tree_in}
use Rattle.tcl_interpreter.specs.Copying.{IsBare}
use Rattle.tcl_tree.specs.Held.{IsOrdered}
use Rattle.tcl_tree.specs.Walking.{entries_in, sum_of, weight}
use Rattle.tcl_interpreter.specs.declared.node.Node.{Node}

-- The node at t of one table has what that at k of another has, and the first of its children.
pub record IsLike (h g : Heap) (k t : ℕ) : Type 0 where
  pub this : Node
  pub is : h k ≡ Some this
  pub that : Node
  pub twin : g t ≡ Some that
  pub level : that.level ≡ this.level
  pub state : (names : List Text) → state_view that.state names ≡ state_view this.state names
  pub names : keys that.children ≡ take (length (keys that.children)) (keys this.children)

-- it has all of its children
pub record IsWhole (h g : Heap) (k t : ℕ) : Type 0 where
  pub this : Node
  pub is : h k ≡ Some this
  pub that : Node
  pub twin : g t ≡ Some that
  pub names : keys that.children ≡ keys this.children

-- The first child of k that t lacks was copied without its own children, to d below t.
pub record Adds (h : Heap) (s t : Slab Node) (k twin c d : ℕ) : Type 0 where
  pub name : Text
  pub child : child_in h k name ≡ Some c
  pub first : slice_get (entries_in h k) (children_in (slab.get s) twin) ≡ Some (name, c)
  pub absent : child_in (slab.get s) twin name ≡ None
  pub source : Node
  pub source_is : h c ≡ Some source
  pub made : Node
  pub bare : IsBare source made (Some twin) name
  pub joined : Joined s t twin name made d
  pub state : joined.new.state ≡ joined.old.state

-- a part of what stands at a key and below it, in a table of its own
pub record IsPart (h g : Heap) (top root : ℕ) : Type 0 where
  pub sound : IsSound g root
  pub guarded : IsGuarded g
  pub ordered : IsOrdered g root
  pub like : (p : Path) (k t : ℕ) → follow h top p ≡ Some k → follow g root p ≡ Some t →
      IsLike h g k t

-- all of it
pub record IsCopy (h g : Heap) (top root : ℕ) : Type 0 where
  pub sound : IsSound g root
  pub guarded : IsGuarded g
  pub ordered : IsOrdered g root
  pub same : (q : Path) → tree_in g root q ≡ tree_in h top q

-- names lead to both keys
abbrev pub IsPair : Heap → Heap → ℕ → ℕ → ℕ → ℕ → Type 0
IsPair h g top root k t = (p : Path) × (follow h top p ≡ Some k) × (follow g root p ≡ Some t)

-- the two keys are listed
abbrev pub IsListed : List (ℕ × ℕ) → ℕ → ℕ → Type 0
IsListed [] k t = Prim.⊥
IsListed (x ∷ xs) k t = (x ≡ (k, t)) ⊎ IsListed xs k t

-- A walk has come so far: what was copied is a part, names lead to what is listed, and what isn't
-- whole is listed.
pub record IsWalk (h g : Heap) (top root : ℕ) (open_keys : List (ℕ × ℕ)) : Type 0 where
  pub part : IsPart h g top root
  pub pairs : (k t : ℕ) → IsListed open_keys k t → IsPair h g top root k t
  pub each : (p : Path) (k t : ℕ) → follow h top p ≡ Some k → follow g root p ≡ Some t →
      IsWhole h g k t ⊎ IsListed open_keys k t

-- ## How much is left to be copied

-- below one: one, and what is at the children that the copy lacks and below these
abbrev pub left_at : Heap → Heap → ℕ → ℕ → ℕ
left_at h g k t = 1 + sum_of (weight (2 ^ 64 - suc (level_in h k)) h)
    (drop (children_in g t) (entries_in h k))

abbrev pub left_of : Heap → Heap → List (ℕ × ℕ) → ℕ
left_of h g [] = 0
left_of h g (x ∷ xs) = left_at h g x.0 x.1 + left_of h g xs
