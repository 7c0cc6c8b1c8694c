-- The way up from an interpreter, name by name.
use Rattle.std.proofs.Common.{◌≡◌, ℕ, zero, suc, ◌+◌, ◌-◌, ◌<◌, ◌≤◌, Bool, true, false, List, [], ◌∷◌, ◌++◌, length, reverse, drop, refl, sym, ◌∙◌, ap, subst, length-append, Option, Some, None, arith}
use Rattle.std.specs.Prelude.{is_some, nat_le}
use Rattle.std.specs.Option.{option_map}
use Rattle.std.proofs.lemmas.Bool.Decides.{nat_tests}
use Rattle.std.proofs.lemmas.List.{reverse-append}
use Rattle.tcl_interpreter.specs.Paths.{Text, Path, ancestor}
use Rattle.tcl_interpreter.specs.declared.node.Node.{Node}
use Rattle.tcl_interpreter.proofs.PathLemmas.{ancestor_front, ancestor_length}
use Rattle.tcl_tree.specs.Nodes.{Heap}
use Rattle.tcl_tree.specs.Held.{above_at, held_in, StoodAt}
use Rattle.tcl_tree.specs.Held.StoodAt.{top, below}
use Rattle.tcl_tree.proofs.GoneLemmas.{node_above}
use Rattle.tcl_tree.proofs.HeldLemmas.{held-at, held-none, no_above}
use Rattle.tcl_tree.proofs.WayLemmas.{stood_last}

append_one : (a : Path) (x : Text) (b : Path) → (a ++ x ∷ []) ++ b ≡ a ++ x ∷ b
append_one [] x b = refl
append_one (y ∷ a) x b = ap (λ zs. y ∷ zs) (append_one a x b)

-- one name more is read on the way up
pub one_more : (p above here : Path) (name : Text) (names : Path) → here ++ reverse names ≡ p → here ≡ above ++ name ∷ [] → above ++ reverse (names ++ name ∷ []) ≡ p
one_more p above here name names e h =
    ap (λ zs. above ++ zs) (reverse-append names (name ∷ [])) ∙ sym (append_one above name (reverse names)) ∙ ap (λ zs. zs ++ reverse names) (sym h) ∙ e

-- nothing is above the top
pub nothing_above : (p : Path) (n : ℕ) → n ≡ length p → ancestor p n ≡ []
unfolding ancestor
nothing_above p n e = ap (λ m. Rattle.std.proofs.Common.take m p) (by (length p) n e)
  where
    by : (m n : ℕ) → n ≡ m → m - n ≡ 0
    by m n e = omega arith

-- ## The way up from one that may be gone

pub stood_somewhere : (h : Heap) (k : ℕ) (p : Path) → StoodAt (held_in h) k p → h k ≡ None → Prim.⊥
stood_somewhere h k p (top there none) e = let x : false ≡ true = sym (ap (λ o. is_some o) (held-none h k e)) ∙ there in cc
stood_somewhere h k p (below {j = j} n e w) f = no_above (j, n) (above_at (held_in h k)) e (ap above_at (held-none h k f))

pub stood_climbs : (h : Heap) (p : Path) (level at : ℕ) (node : Node) (k : ℕ) → level ≤ length p → StoodAt (held_in h) at (ancestor p level) → h at ≡ Some node → node.parent ≡ Some k →
    (level < length p) × StoodAt (held_in h) k (ancestor p (level + 1)) × (ancestor p level ≡ ancestor p (level + 1) ++ node.name ∷ [])
stood_climbs h p level at node k within stood is parent =
    let l = stood_last (held_in h) at k node.name (ancestor p level) (node_above h at k node is parent) stood in
    let length_is = ancestor_length p level within in
    let length_w = ap length l.1 ∙ length-append l.0 (node.name ∷ []) in
    let short : level < length p = omega arith in
    let front = ancestor_front p level l.0 node.name short l.1 in
    (short, subst (λ x. StoodAt (held_in h) k x) (sym front) l.2, l.1 ∙ ap (λ f. f ++ node.name ∷ []) (sym front))

pub stood_ends : (h : Heap) (p : Path) (level at : ℕ) (node : Node) → level ≤ length p → StoodAt (held_in h) at (ancestor p level) → h at ≡ Some node → node.parent ≡ None → level ≡ length p
stood_ends h p level at node within stood is parent = by (ancestor p level) refl stood
  where
    none : above_at (held_in h at) ≡ None
    none = ap above_at (held-at h at node is) ∙ ap (option_map (λ k. (k, node.name))) parent

    by : (q : Path) → ancestor p level ≡ q → StoodAt (held_in h) at q → level ≡ length p
    by q e (top there above) = let l = ap length e in let m = ancestor_length p level within in omega arith
    by q e (below {j = j} n above w) = no_above (j, n) (above_at (held_in h at)) above none
