-- Lemmas on depths that change on a way up.
use Rattle.std.proofs.Common.{◌≡◌, ℕ, zero, suc, pred, ◌≤◌, Bool, true, false, cond, List, refl, sym, ◌∙◌, ap, inl, inr, arith, Option, Some, None}
use Rattle.std.specs.Prelude.{◌≢◌, is_some}
use Rattle.std.specs.Option.{option_map}
use Rattle.tcl_core.specs.Trees.{depth_of}
use Rattle.tcl_interpreter.specs.Paths.{Text, Path, is_above}
use Rattle.tcl_interpreter.specs.declared.node.Node.{Node}
use Rattle.tcl_interpreter.specs.declared.node.Meter.{Meter}
use Rattle.tcl_interpreter.specs.declared.node.Meter.TheVariants.{Steps, Levels, Back}
use Rattle.tcl_tree.specs.Nodes.{Heap, NodeView, Shape, shape_of, view_of, place_of, child_in, follow, tree_in, level_in, charged, moved, Raised, IsSound}
use Rattle.tcl_tree.specs.Held.{Held, held_by, held_in, above_at, depth_at, gone_at, Over, IsOrdered}
use Rattle.tcl_tree.proofs.HeapLemmas.{SamePlace, tree-at, child_placed, places_kept, level_placed, follow_along}
use Rattle.slab.specs.Slab as slab
use Rattle.slab.specs.Slab.{Slab}
use Rattle.tcl_tree.proofs.StepLemmas.{child_write, levels_write, held_write}
use Rattle.tcl_tree.proofs.HeldLemmas.{held-eq, not_gone, follow_stands, follow_there, stands_path, over_cases, over_path, path_over, over_more}

-- how a meter moves a depth
abbrev pub stepped : Meter → ℕ → ℕ
stepped Steps d = d
stepped Levels d = suc d
stepped Back d = pred d

-- the same but for the depth
abbrev pub with_depth : (ℕ → ℕ) → Held → Held
with_depth f x = record x { depth = f x.depth }

pub held_moved : (f : ℕ → ℕ) (o p : Option Held) → is_some p ≡ is_some o → above_at p ≡ above_at o → gone_at p ≡ gone_at o → (is_some o ≡ true → depth_at p ≡ f (depth_at o)) → p ≡ option_map (with_depth f) o
held_moved f None None t a g d = refl
held_moved f None (Some y) t a g d = let x : true ≡ false = t in cc
held_moved f (Some x) None t a g d = let x : false ≡ true = t in cc
held_moved f (Some x) (Some y) t a g d = let e = d refl in λ i. Some (record { above = a i; depth = e i; gone = g i })

pub held_alike : (o p : Option Held) → is_some p ≡ is_some o → above_at p ≡ above_at o → gone_at p ≡ gone_at o → depth_at p ≡ depth_at o → p ≡ o
held_alike None None t a g d = refl
held_alike None (Some y) t a g d = let x : true ≡ false = t in cc
held_alike (Some x) None t a g d = let x : false ≡ true = t in cc
held_alike (Some x) (Some y) t a g d = λ i. Some (record { above = a i; depth = d i; gone = g i })

pub above_with : (f : ℕ → ℕ) (o : Option Held) → above_at (option_map (with_depth f) o) ≡ above_at o
above_with f None = refl
above_with f (Some x) = refl

pub gone_with : (f : ℕ → ℕ) (o : Option Held) → gone_at (option_map (with_depth f) o) ≡ gone_at o
gone_with f None = refl
gone_with f (Some x) = refl

pub some_with : (f : ℕ → ℕ) (o : Option Held) → is_some (option_map (with_depth f) o) ≡ is_some o
some_with f None = refl
some_with f (Some x) = refl

pub depth_with : (f : ℕ → ℕ) (o : Option Held) → is_some o ≡ true → depth_at (option_map (with_depth f) o) ≡ f (depth_at o)
depth_with f None t = let x : false ≡ true = t in cc
depth_with f (Some x) t = refl

-- what places say of what there is at a key
abbrev above_place : Option (Option ℕ × Text × ℕ × List (Text × ℕ) × Bool × Bool) → Option (ℕ × Text)
above_place None = None
above_place (Some x) = option_map (λ k. (k, x.1)) x.0

abbrev gone_place : Option (Option ℕ × Text × ℕ × List (Text × ℕ) × Bool × Bool) → Bool
gone_place None = false
gone_place (Some x) = x.5

above_is : (h : Heap) (k : ℕ) → above_at (held_in h k) ≡ above_place (option_map place_of (h k))
unfolding held_in
above_is h k = by (h k)
  where
    by : (o : Option Node) → above_at (option_map held_by o) ≡ above_place (option_map place_of o)
    by None = refl
    by (Some node) = refl

gone_is : (h : Heap) (k : ℕ) → gone_at (held_in h k) ≡ gone_place (option_map place_of (h k))
unfolding held_in
gone_is h k = by (h k)
  where
    by : (o : Option Node) → gone_at (option_map held_by o) ≡ gone_place (option_map place_of o)
    by None = refl
    by (Some node) = refl

some_is : (h : Heap) (k : ℕ) → is_some (held_in h k) ≡ is_some (option_map place_of (h k))
unfolding held_in
some_is h k = by (h k)
  where
    by : (o : Option Node) → is_some (option_map held_by o) ≡ is_some (option_map place_of o)
    by None = refl
    by (Some node) = refl

module _ (h h₁ : Heap) (places : (k : ℕ) → option_map place_of (h₁ k) ≡ option_map place_of (h k)) where
  pub above_placed : (k : ℕ) → above_at (held_in h₁ k) ≡ above_at (held_in h k)
  above_placed k = above_is h₁ k ∙ ap above_place (places k) ∙ sym (above_is h k)

  pub gone_placed : (k : ℕ) → gone_at (held_in h₁ k) ≡ gone_at (held_in h k)
  gone_placed k = gone_is h₁ k ∙ ap gone_place (places k) ∙ sym (gone_is h k)

  pub some_placed : (k : ℕ) → is_some (held_in h₁ k) ≡ is_some (held_in h k)
  some_placed k = some_is h₁ k ∙ ap (λ o. is_some o) (places k) ∙ sym (some_is h k)

-- in a table of the same places order is a matter of depths
module _ (h h₁ : Heap) (root : ℕ) (o : IsOrdered h root) (child : (k : ℕ) (n : Text) → child_in h₁ k n ≡ child_in h k n) (level : (k : ℕ) → level_in h₁ k ≡ level_in h k)
    (some : (k : ℕ) → is_some (held_in h₁ k) ≡ is_some (held_in h k)) (above : (k : ℕ) → above_at (held_in h₁ k) ≡ above_at (held_in h k)) (gone : (k : ℕ) → gone_at (held_in h₁ k) ≡ gone_at (held_in h k)) where
  pub ordered_by : ((c k : ℕ) (n : Text) → above_at (held_in h c) ≡ Some (k, n) → depth_at (held_in h₁ c) ≤ depth_at (held_in h₁ k))
      → ((k : ℕ) → gone_at (held_in h k) ≡ true → 1 ≤ depth_at (held_in h₁ k)) → IsOrdered h₁ root
  ordered_by depths used = record {
    root_stands = gone root ∙ o.root_stands;
    stands = λ k n c e. gone c ∙ o.stands k n c (sym (child k n) ∙ e);
    child = λ c k n g e. child k n ∙ o.child c k n (sym (gone c) ∙ g) (sym (above c) ∙ e);
    bare = λ k n g. child k n ∙ o.bare k n (sym (gone k) ∙ g);
    there = λ c k n e. some k ∙ o.there c k n (sym (above c) ∙ e);
    levels = λ c k n e. let x = o.levels c k n (sym (above c) ∙ e) in let y = level c in let z = level k in omega arith;
    depths = λ c k n e. depths c k n (sym (above c) ∙ e);
    used = λ k g. used k (sym (gone k) ∙ g);
  }

-- the keys are as they were
pub ordered_same : (h h₁ : Heap) (root : ℕ) → ((k : ℕ) (n : Text) → child_in h₁ k n ≡ child_in h k n) → ((k : ℕ) → level_in h₁ k ≡ level_in h k) → ((k : ℕ) → held_in h₁ k ≡ held_in h k) → IsOrdered h root → IsOrdered h₁ root
ordered_same h h₁ root child level held o =
    ordered_by h h₁ root o child level (λ k. ap (λ x. is_some x) (held k)) (λ k. ap above_at (held k)) (λ k. ap gone_at (held k))
    (λ c k n e. let x = o.depths c k n e in let y = ap depth_at (held c) in let z = ap depth_at (held k) in omega arith)
    (λ k g. let x = o.used k g in let y = ap depth_at (held k) in omega arith)

-- what looks at shapes alone is the same in two tables of the same shapes
abbrev held_shape : Shape → Held
held_shape shape = record { above = option_map (λ j. (j, shape.1)) shape.0; depth = shape.4.depth; gone = shape.5 }

shape_held : (h : Heap) (k : ℕ) → held_in h k ≡ option_map held_shape (option_map shape_of (h k))
unfolding held_in
shape_held h k = by (h k)
  where
    by : (o : Option Node) → option_map held_by o ≡ option_map held_shape (option_map shape_of o)
    by None = refl
    by (Some node) = refl

module _ (h h₁ : Heap) (same : (k : ℕ) → option_map shape_of (h₁ k) ≡ option_map shape_of (h k)) where
  pub held_kept : (k : ℕ) → held_in h₁ k ≡ held_in h k
  held_kept k = shape_held h₁ k ∙ ap (option_map held_shape) (same k) ∙ sym (shape_held h k)

  pub ordered_kept : (root : ℕ) → IsOrdered h root → IsOrdered h₁ root
  ordered_kept root = ordered_same h h₁ root (child_placed h h₁ (places_kept h h₁ same)) (level_placed h h₁ (places_kept h h₁ same)) held_kept

-- a write of a node that leaves its place and its depth
pub ordered_write : (s : Slab Node) (k : ℕ) (old new : Node) → slab.get s k ≡ Some old → SamePlace old new → new.state.depth ≡ old.state.depth → (root : ℕ) → IsOrdered (slab.get s) root → IsOrdered (slab.get (slab.with_value s k new)) root
ordered_write s k old new is same depth root =
    ordered_same (slab.get s) (slab.get (slab.with_value s k new)) root (child_write s k old new is same) (levels_write s k old new is same) (held_write s k old new is same depth)

-- ## A meter is moved on the way up from one that stands

charged_depth : (m : Meter) (b : Bool) (x : Option NodeView) → is_some x ≡ true → depth_of (cond b (option_map (moved m) x) x) ≡ cond b (stepped m (depth_of x)) (depth_of x)
charged_depth m b None t = let x : false ≡ true = t in cc
charged_depth Steps true (Some v) t = refl
charged_depth Levels true (Some v) t = refl
charged_depth Back true (Some v) t = refl
charged_depth m false (Some v) t = refl

some_view : (h : Heap) (k : ℕ) → is_some (option_map view_of (h k)) ≡ is_some (held_in h k)
unfolding held_in
some_view h k = by (h k)
  where
    by : (o : Option Node) → is_some (option_map view_of o) ≡ is_some (option_map held_by o)
    by None = refl
    by (Some node) = refl

depth_view : (h : Heap) (k : ℕ) → depth_of (option_map view_of (h k)) ≡ depth_at (held_in h k)
unfolding held_in
depth_view h k = by (h k)
  where
    by : (o : Option Node) → depth_of (option_map view_of o) ≡ depth_at (option_map held_by o)
    by None = refl
    by (Some node) = refl

module _ (m : Meter) (h h₁ : Heap) (root : ℕ) (p : Path) (key : ℕ) (s : IsSound h root) (o : IsOrdered h root) (at : follow h root p ≡ Some key) (r : Raised m h h₁ root p) where
  pub raised_child : (k : ℕ) (n : Text) → child_in h₁ k n ≡ child_in h k n
  raised_child = child_placed h h₁ r.places

  pub raised_follow : (q : Path) → follow h₁ root q ≡ follow h root q
  raised_follow q = follow_along h h₁ raised_child q root

  raised_depth : (q : Path) (k : ℕ) → follow h root q ≡ Some k → depth_at (held_in h₁ k) ≡ cond (is_above q p) (stepped m (depth_at (held_in h k))) (depth_at (held_in h k))
  unfolding charged
  raised_depth q k e =
      let was : tree_in h root q ≡ option_map view_of (h k) = tree-at h root q k e in
      let there : is_some (tree_in h root q) ≡ true = ap (λ x. is_some x) was ∙ some_view h k ∙ follow_there h root s o q k e in
      sym (depth_view h₁ k) ∙ sym (ap depth_of (tree-at h₁ root q k (raised_follow q ∙ e)))
      ∙ ap depth_of (r.tree q) ∙ charged_depth m (is_above q p) (tree_in h root q) there
      ∙ ap (λ d. cond (is_above q p) (stepped m d) d) (ap depth_of was ∙ depth_view h k)

  raised_gone : (k : ℕ) → gone_at (held_in h k) ≡ true → held_in h₁ k ≡ held_in h k
  raised_gone k g = held-eq h h₁ k (r.others k (λ q a f. not_gone (gone_at (held_in h k)) g (follow_stands h root s o q k f)))

  pub raised_over : (a : ℕ) → Over (held_in h) a key → held_in h₁ a ≡ option_map (with_depth (stepped m)) (held_in h a)
  raised_over a w =
      let q = over_path h root o s a p key at w in
      held_moved (stepped m) (held_in h a) (held_in h₁ a) (some_placed h h₁ r.places a) (above_placed h h₁ r.places a) (gone_placed h h₁ r.places a)
      (λ t. raised_depth q.0 a q.2 ∙ ap (λ b. cond b (stepped m (depth_at (held_in h a))) (depth_at (held_in h a))) q.1)

  pub raised_others : (a : ℕ) → (Over (held_in h) a key → Prim.⊥) → held_in h₁ a ≡ held_in h a
  raised_others a n = held_alike (held_in h a) (held_in h₁ a) (some_placed h h₁ r.places a) (above_placed h h₁ r.places a) (gone_placed h h₁ r.places a) (by (is_some (held_in h a)) refl (gone_at (held_in h a)) refl)
    where
      by : (b : Bool) → is_some (held_in h a) ≡ b → (g : Bool) → gone_at (held_in h a) ≡ g → depth_at (held_in h₁ a) ≡ depth_at (held_in h a)
      by false e g f = absent (held_in h a) (held_in h₁ a) e (some_placed h h₁ r.places a)
        where
          absent : (x y : Option Held) → is_some x ≡ false → is_some y ≡ is_some x → depth_at y ≡ depth_at x
          absent None None e f = refl
          absent None (Some y) e f = let z : true ≡ false = f in cc
          absent (Some x) y e f = let z : true ≡ false = e in cc
      by true e true f = ap depth_at (raised_gone a f)
      by true e false f =
          let q = stands_path h root s o a e f in
          raised_depth q.0 a q.1 ∙ apart (is_above q.0 p) refl
        where
          apart : (b : Bool) → is_above (stands_path h root s o a e f).0 p ≡ b → cond b (stepped m (depth_at (held_in h a))) (depth_at (held_in h a)) ≡ depth_at (held_in h a)
          apart false x = refl
          apart true x = absurd (n (path_over h root o s p (stands_path h root s o a e f).0 a key at x (stands_path h root s o a e f).1))

  -- steps are no depth
  pub raised_steps : m ≡ Steps → (k : ℕ) → held_in h₁ k ≡ held_in h k
  raised_steps is k = elim (over_cases h root o k key) [
    | inl w ↦ raised_over k w ∙ ap (λ x. option_map (with_depth (stepped x)) (held_in h k)) is ∙ none (held_in h k)
    | inr n ↦ raised_others k n
  ]
    where
      none : (x : Option Held) → option_map (with_depth (stepped Steps)) x ≡ x
      none None = refl
      none (Some x) = refl

  depth_over : (a : ℕ) → Over (held_in h) a key → is_some (held_in h a) ≡ true → depth_at (held_in h₁ a) ≡ stepped m (depth_at (held_in h a))
  depth_over a w t = ap depth_at (raised_over a w) ∙ depth_with (stepped m) (held_in h a) t

  over_there : (a : ℕ) → Over (held_in h) a key → is_some (held_in h a) ≡ true
  over_there a w = let q = over_path h root o s a p key at w in follow_there h root s o q.0 a q.2

  -- order stays where each that isn't on the way is less deep than the one above it on the way
  pub raised_ordered : ((c k : ℕ) (n : Text) → above_at (held_in h c) ≡ Some (k, n) → Over (held_in h) k key → (Over (held_in h) c key → Prim.⊥) → depth_at (held_in h c) ≤ stepped m (depth_at (held_in h k)))
      → ((d e : ℕ) → d ≤ e → stepped m d ≤ stepped m e) → IsOrdered h₁ root
  raised_ordered apart grows =
      ordered_by h h₁ root o raised_child (level_placed h h₁ r.places) (some_placed h h₁ r.places) (above_placed h h₁ r.places) (gone_placed h h₁ r.places)
      (λ c k n e. elim (over_cases h root o c key) [
        | inl w ↦
            let v = over_more (held_in h) c k key n e w in
            let x = depth_over c w (over_there c w) in
            let y = depth_over k v (over_there k v) in
            let z = grows _ _ (o.depths c k n e) in
            omega arith
        | inr a ↦ elim (over_cases h root o k key) [
          | inl v ↦
              let x = ap depth_at (raised_others c a) in
              let y = depth_over k v (over_there k v) in
              let z = apart c k n e v a in
              omega arith
          | inr b ↦
              let x = ap depth_at (raised_others c a) in
              let y = ap depth_at (raised_others k b) in
              let z = o.depths c k n e in
              omega arith
        ]
      ])
      (λ k g. let x = o.used k g in let y = ap depth_at (raised_gone k g) in omega arith)

pub steps_grow : (m : Meter) → m ≢ Back → (d : ℕ) → d ≤ stepped m d
steps_grow Steps n d = omega arith
steps_grow Levels n d = omega arith
steps_grow Back n d = absurd (n refl)

pub steps_ordered : (m : Meter) (d e : ℕ) → d ≤ e → stepped m d ≤ stepped m e
steps_ordered Steps d e l = l
steps_ordered Levels d e l = omega arith
steps_ordered Back d e l = pred_less d e l
  where
    pred_less : (d e : ℕ) → d ≤ e → pred d ≤ pred e
    pred_less zero e l = omega arith
    pred_less (suc d) zero l = absurd (omega arith)
    pred_less (suc d) (suc e) l = omega arith
