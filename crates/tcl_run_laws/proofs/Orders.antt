-- Orderly trees, and trees whose root has another limit of steps.
use Rattle.std.proofs.Common.{◌≡◌, ◌∙◌, ℕ, ◌≤◌, [], ◌∷◌, Option, Some, None, refl, sym, ap, arith}
use Rattle.tcl_core.specs.Laws.{Beneath, IsSafeBelow, IsUpright}
use Rattle.tcl_core.specs.Lives.{count_at, limit_at}
use Rattle.tcl_core.specs.Paths.{Place}
use Rattle.tcl_core.specs.Trees.{Node, Tree, depth_of, on_node, with_limit}
use Rattle.tcl_core.proofs.PathLaws.{not_both, Some-inj}
use Rattle.tcl_run_laws.specs.Budgets.{IsAtRest, IsNested, IsOrderly}

module _ {O : Type 0} where
  beneath : (a b : Option (Node O)) → ((n : Node O) → b ≡ Some n → (m : Node O) × (a ≡ Some m)) → depth_of b ≤ depth_of a → Beneath a b
  beneath a None f g = tt
  beneath None (Some n) f g = not_both refl (f n refl).1
  beneath (Some m) (Some n) f g = g

  -- the core's word for both
  pub upright_of : (T : Tree O) → IsOrderly T → IsNested T → IsUpright T
  upright_of T f g p q z e = beneath (T p) (T q) (λ n there. f.closed p q z n e there) (g p q z e)

  pub nested_at_rest : (T : Tree O) → IsAtRest T → IsNested T
  nested_at_rest T f p q z e = let a : depth_of (T q) ≡ 0 = f q in omega arith

  -- ## The root with another limit

  abbrev pub relimited : Option ℕ → Tree O → Tree O
  relimited l T = on_node [] (with_limit l) T

  count_on : (l : Option ℕ) (o : Option (Node O)) → count_at (with_limit l o) ≡ count_at o
  count_on l None = refl
  count_on l (Some n) = refl

  depth_on : (l : Option ℕ) (o : Option (Node O)) → depth_of (with_limit l o) ≡ depth_of o
  depth_on l None = refl
  depth_on l (Some n) = refl

  limit_on : (l : Option ℕ) (o : Option (Node O)) (n : Node O) → o ≡ Some n → limit_at (with_limit l o) ≡ l
  limit_on l o n e = ap (λ u. limit_at (with_limit l u)) e

  pub same_count : (l : Option ℕ) (T : Tree O) (q : Place) → count_at (relimited l T q) ≡ count_at (T q)
  same_count l T [] = count_on l (T [])
  same_count l T (x ∷ q) = refl

  pub same_depth : (l : Option ℕ) (T : Tree O) (q : Place) → depth_of (relimited l T q) ≡ depth_of (T q)
  same_depth l T [] = depth_on l (T [])
  same_depth l T (x ∷ q) = refl

  pub root_limit : (l : Option ℕ) (T : Tree O) (n : Node O) → T [] ≡ Some n → limit_at (relimited l T []) ≡ l
  root_limit l T n e = limit_on l (T []) n e

  -- who stands, does with that too
  pub still_there : (l : Option ℕ) (T : Tree O) (c : Place) (n : Node O) → T c ≡ Some n → (m : Node O) × (relimited l T c ≡ Some m) × (m.count ≡ n.count)
  still_there l T [] n e = (record n { limit = l }, ap (with_limit l) e, refl)
  still_there l T (x ∷ c) n e = (n, e, refl)

  -- and no one else
  origin_on : (l : Option ℕ) (o : Option (Node O)) (n : Node O) → with_limit l o ≡ Some n → (m : Node O) × (o ≡ Some m) × (m.safe ≡ n.safe)
  origin_on l None n e = absurd (not_both refl e)
  origin_on l (Some m) n e = (m, refl, ap (λ (v : Node O). v.safe) (Some-inj (record m { limit = l }) e))

  origin : (l : Option ℕ) (T : Tree O) (c : Place) (n : Node O) → relimited l T c ≡ Some n → (m : Node O) × (T c ≡ Some m) × (m.safe ≡ n.safe)
  origin l T [] n e = origin_on l (T []) n e
  origin l T (x ∷ c) n e = (n, e, refl)

  safe_relimited : (l : Option ℕ) (T : Tree O) → IsSafeBelow T → IsSafeBelow (relimited l T)
  safe_relimited l T below p q z m n s e f g =
      let a = origin l T p m e in
      let b = origin l T q n g in
      sym b.2 ∙ below p q z a.0 b.0 s a.1 (a.2 ∙ f) b.1

  pub orderly_relimited : (l : Option ℕ) (T : Tree O) → IsOrderly T → IsOrderly (relimited l T)
  orderly_relimited l T f = record {
    top = (let m = still_there l T [] f.top.0 f.top.1 in (m.0, m.1));
    closed = λ p q z n s e. (
        let b = origin l T q n e in
        let a = f.closed p q z b.0 s b.1 in
        let m = still_there l T p a.0 a.1 in
        (m.0, m.1)
        );
    safe = safe_relimited l T f.safe;
  }

  pub nested_relimited : (l : Option ℕ) (T : Tree O) → IsNested T → IsNested (relimited l T)
  nested_relimited l T f p q z s =
      let a : depth_of (relimited l T q) ≡ depth_of (T q) = same_depth l T q in
      let b : depth_of (relimited l T p) ≡ depth_of (T p) = same_depth l T p in
      let g : depth_of (T q) ≤ depth_of (T p) = f p q z s in
      omega arith
