-- Who is in use when a child is deleted, with all below it, stays so.
use Rattle.std.proofs.Common.{◌≡◌, ◌⊎◌, inl, inr, ℕ, ◌≤◌, Bool, true, false, Option, Some, None, refl, sym, ◌∙◌, ap, arith}
use Rattle.std.specs.Prelude.{is_some, ◌==◌}
use Rattle.std.proofs.lemmas.Bool.Decides.{nat_tests}
use Rattle.slab.specs.Slab.{get}
use Rattle.tcl_interpreter.specs.Paths.{Path, is_above}
use Rattle.tcl_tree.specs.Gone.{held_of}
use Rattle.tcl_tree.specs.Held.{Held, Parts, Stays, above_at, depth_at, gone_at, parted, parted_by}
use Rattle.tcl_tree.specs.TreeOf.{key_of}
use Rattle.tcl_tree.specs.declared.tree.Tree.{Tree}
use Rattle.tcl_tree.proofs.HeapLemmas.{one_path}
use Rattle.tcl_tree.proofs.HeldLemmas.{follow_stands, follow_there, not_gone, stands_path}

parted_stays : (x : Option Held) → (1 ≤ depth_at x → above_at (parted x) ≡ above_at x) × (depth_at (parted x) ≡ depth_at x)
parted_stays None = (λ l. refl, refl)
parted_stays (Some x) = by (x.depth == 0) refl
  where
    by : (b : Bool) → (x.depth == 0) ≡ b → (1 ≤ x.depth → above_at (parted_by b x) ≡ x.above) × (depth_at (parted_by b x) ≡ x.depth)
    by true e = let z : x.depth ≡ 0 = grind (arith, nat_tests) in (λ l. absurd (omega arith), sym z)
    by false e = (λ l. refl, refl)

module _ (t u : Tree) (c : Path) (parts : Parts (held_of t) (key_of t) c (held_of u)) where
  -- what there is at a key is as it was, or it stood and is gone
  parts_cases : (k : ℕ) → (held_of u k ≡ held_of t k) ⊎ ((held_of u k ≡ parted (held_of t k)) × (gone_at (held_of t k) ≡ false))
  parts_cases k = by (is_some (held_of t k)) refl (gone_at (held_of t k)) refl
    where
      along : (q : Path) → key_of t q ≡ Some k → gone_at (held_of t k) ≡ false → (b : Bool) → is_above c q ≡ b → (held_of u k ≡ held_of t k) ⊎ ((held_of u k ≡ parted (held_of t k)) × (gone_at (held_of t k) ≡ false))
      along q at f true g = inr (parts.below q k g at, f)
      along q at f false g = inl (parts.others k (λ x above e. not_gone (is_above c x) above (ap (is_above c) (one_path (get t.nodes) t.root t.sound x q k e at) ∙ g)))

      by : (b : Bool) → is_some (held_of t k) ≡ b → (g : Bool) → gone_at (held_of t k) ≡ g → (held_of u k ≡ held_of t k) ⊎ ((held_of u k ≡ parted (held_of t k)) × (gone_at (held_of t k) ≡ false))
      by false e g f = inl (parts.others k (λ q above at. not_gone (is_some (held_of t k)) (follow_there (get t.nodes) t.root t.sound t.ordered q k at) e))
      by true e true f = inl (parts.others k (λ q above at. not_gone (gone_at (held_of t k)) f (follow_stands (get t.nodes) t.root t.sound t.ordered q k at)))
      by true e false f = let q = stands_path (get t.nodes) t.root t.sound t.ordered k e f in along q.0 q.1 f (is_above c q.0) refl

  -- who is in use is so still, there or gone
  pub parts_stay : Stays (held_of t) (held_of u)
  parts_stay = record {
    above = λ k l. elim (parts_cases k) [
      | inl e ↦ ap above_at e
      | inr w ↦ ap above_at w.0 ∙ (parted_stays (held_of t k)).0 l
    ];
    depth = λ k. elim (parts_cases k) [
      | inl e ↦ ap depth_at e
      | inr w ↦ ap depth_at w.0 ∙ (parted_stays (held_of t k)).1
    ];
    gone = λ k g. elim (parts_cases k) [
      | inl e ↦ ap gone_at e ∙ g
      | inr w ↦ not_gone (gone_at (held_of t k)) g w.1
    ];
  }
