-- How long the paths of a table are.
use Rattle.std.proofs.Common.{◌≡◌, ℕ, ◌+◌, ◌≤◌, [], ◌∷◌, length, length-append, Option, Some, None, refl, ap, arith}
use Rattle.std.specs.Option.{option_and_then}
use Rattle.slab.specs.Slab.{get}
use Rattle.tcl_core.specs.Paths.{Path, falls}
use Rattle.tcl_tree.specs.Nodes.{Heap, IsSound, child_in, follow, level_in}
use Rattle.tcl_tree.specs.Held.{IsOrdered, StoodAt, held_in}
use Rattle.tcl_tree.specs.Held.StoodAt.{top, below}
use Rattle.tcl_tree.specs.TreeOf.{key_of}
use Rattle.tcl_tree.specs.declared.tree.Tree.{Tree as Table}
use Rattle.tcl_interpreter.proofs.LastNames.{falls_all}

-- an interpreter's level is the length of its path
level_is : (h : Heap) (root : ℕ) → IsSound h root → (p : Path) (k j : ℕ)
    → follow h k p ≡ Some j → level_in h j ≡ level_in h k + length p
unfolding follow
level_is h root s [] k j e = let same : k ≡ j = cc in let l = ap (level_in h) same in omega arith
level_is h root s (n ∷ p) k j e = by (child_in h k n) refl e (λ c. level_is h root s p c j)
  where
    by : (o : Option ℕ) → child_in h k n ≡ o → option_and_then (λ c. follow h c p) o ≡ Some j
        → ((c : ℕ) → follow h c p ≡ Some j → level_in h j ≡ level_in h c + length p)
        → level_in h j ≡ level_in h k + length (n ∷ p)
    by None f g onward = let x : None ≡ Some j = g in cc
    by (Some c) f g onward = let a = s.levels k n c f in let b = onward c g in omega arith

-- so no path is longer than a number of the machine
short_path : (t : Table) (p : Path) (k : ℕ) → key_of t p ≡ Some k
    → length p ≤ 18446744073709551615
short_path t p k e =
    let a = level_is (get t.nodes) t.root t.sound p t.root k e in
    let b = t.sound.fits k in
    omega arith

-- and its last names, at most as many as such a number, are all of it
pub whole_path : (t : Table) (p : Path) (k : ℕ) → key_of t p ≡ Some k
    → falls 18446744073709551615 p ≡ p
whole_path t p k e = falls_all 18446744073709551615 p (short_path t p k e)

-- nor is the path at which one stood that is gone
stood_short : (h : Heap) (root : ℕ) → IsOrdered h root → (p : Path) (k : ℕ) → StoodAt (held_in h) k p → length p ≤ level_in h k
stood_short h root o p k (top there none) = omega arith
stood_short h root o p k (below {j = j} {p = q} n e w) =
    let l = o.levels k j n e in
    let m = length-append q (n ∷ []) in
    let i = stood_short h root o q j w in
    omega arith

pub whole_stood : (t : Table) (p : Path) (k : ℕ) → StoodAt (held_in (get t.nodes)) k p
    → falls 18446744073709551615 p ≡ p
whole_stood t p k w =
    let a = stood_short (get t.nodes) t.root t.ordered p k w in
    let b = t.sound.fits k in
    falls_all 18446744073709551615 p (omega arith)
