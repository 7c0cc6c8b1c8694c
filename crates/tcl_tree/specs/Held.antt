-- Interpreters by their keys, whether they stand in the tree or are gone.
use Rattle.std.specs.Prelude.{◌≡◌, ℕ, suc, pred, ◌+◌, ◌<◌, ◌≤◌, nat_le, Bool, true, false, ◌&&◌}
use Rattle.std.specs.Prelude.{[], ◌∷◌, ◌++◌, Option, Some, None, IsSome, ◌==◌}
use Rattle.std.specs.Prelude.{zero, cond, not, ◌^◌}
use Rattle.std.specs.Option.{option_map}
use Rattle.slab.specs.Slab as slab
use Rattle.slab.specs.Slab.{Slab}
use Rattle.tcl_interpreter.specs.Paths.{Text, Path, is_above}
use Rattle.tcl_tree.specs.Nodes.{Heap, link_of, child_in, level_in}
use Rattle.tcl_interpreter.specs.declared.node.Node.{Node}

-- The key of the one above it with its own name there; how many evaluations are in progress in it
-- and below it; and whether it is gone.
pub record Held : Type 0 where
  pub above : Option (ℕ × Text)
  pub depth : ℕ
  pub gone : Bool

-- what there is at each key
abbrev pub Keys : Type 0
Keys = ℕ → Option Held

abbrev pub held_by : Node → Held
held_by node = record { above = link_of node; depth = node.state.depth; gone = node.gone }

unfoldable pub held_in : Heap → Keys
held_in h k = option_map held_by (h k)

abbrev pub above_at : Option Held → Option (ℕ × Text)
above_at None = None
above_at (Some x) = x.above

abbrev pub depth_at : Option Held → ℕ
depth_at None = 0
depth_at (Some x) = x.depth

abbrev pub gone_at : Option Held → Bool
gone_at None = false
gone_at (Some x) = x.gone

-- how many stand in a table, whose keys are numbers of 64 bits
abbrev pub stands : Option Node → Bool
stands None = false
stands (Some node) = not node.gone

unfoldable pub tally : (ℕ → Bool) → ℕ → ℕ
tally f zero = 0
tally f (suc m) = cond (f m) 1 0 + tally f m

abbrev pub standing : Slab Node → ℕ
standing s = tally (λ k. stands (slab.get s k)) (2 ^ 64)

-- the first key is the second one, or one above it
pub data Over (H : Keys) (a : ℕ) : ℕ → Type 0 where
  here : Over H a a
  up : {k j : ℕ} (n : Text) → above_at (H k) ≡ Some (j, n) → Over H a j → Over H a k

-- The names on the way up from the key are those of the path: there it stands, or stood when it was
-- deleted.
pub data StoodAt (H : Keys) : ℕ → Path → Type 0 where
  top : {k : ℕ} → IsSome (H k) → above_at (H k) ≡ None → StoodAt H k []
  below : {k j : ℕ} {p : Path} (n : Text) → above_at (H k) ≡ Some (j, n) → StoodAt H j p →
      StoodAt H k (p ++ n ∷ [])

-- it is gone, and so are those above it so many levels up, but not the next one
pub data HighestGone (H : Keys) : ℕ → ℕ → Type 0 where
  itself : {k j : ℕ} (n : Text) → gone_at (H k) ≡ true → above_at (H k) ≡ Some (j, n) →
      gone_at (H j) ≡ false → HighestGone H k 0
  further : {k j m : ℕ} (n : Text) → gone_at (H k) ≡ true → above_at (H k) ≡ Some (j, n) →
      HighestGone H j m → HighestGone H k (suc m)

-- Each interpreter on the way up from the key is in use more deeply than any other directly below
-- it. So the last evaluation that began there isn't one of those others'.
abbrev pub IsInnermost : Keys → ℕ → Type 0
IsInnermost H key = (c k : ℕ) (n : Text) → above_at (H c) ≡ Some (k, n) → Over H k key →
    (Over H c key → ⊥) → depth_at (H c) < depth_at (H k)

-- ## What becomes of them

-- an evaluation begins at the key
abbrev pub deeper : Held → Held
deeper x = record x { depth = suc x.depth }

pub record Deepens (H : Keys) (key : ℕ) (H₁ : Keys) : Type 0 where
  pub over : (a : ℕ) → Over H a key → H₁ a ≡ option_map deeper (H a)
  pub others : (a : ℕ) → (Over H a key → ⊥) → H₁ a ≡ H a

-- an evaluation ends there: one that is gone is left no longer than an evaluation is in progress
abbrev pub left_by : Bool → Held → Option Held
left_by true x = None
left_by false x = Some (record x { depth = pred x.depth })

abbrev pub shallower : Option Held → Option Held
shallower None = None
shallower (Some x) = left_by (x.gone && nat_le x.depth 1) x

pub record Shallows (H : Keys) (key : ℕ) (H₁ : Keys) : Type 0 where
  pub over : (a : ℕ) → Over H a key → H₁ a ≡ shallower (H a)
  pub others : (a : ℕ) → (Over H a key → ⊥) → H₁ a ≡ H a

-- What stood at the path or below it, where the keys are those, is gone: as long as an evaluation
-- is in progress in it, it is left, and nothing is changed of it but that.
abbrev pub parted_by : Bool → Held → Option Held
parted_by true x = None
parted_by false x = Some (record x { gone = true })

abbrev pub parted : Option Held → Option Held
parted None = None
parted (Some x) = parted_by (x.depth == 0) x

pub record Parts (H : Keys) (keys : Path → Option ℕ) (c : Path) (H₁ : Keys) : Type 0 where
  pub below : (q : Path) (k : ℕ) → is_above c q ≡ true → keys q ≡ Some k → H₁ k ≡ parted (H k)
  pub others : (k : ℕ) → ((q : Path) → is_above c q ≡ true → keys q ≡ Some k → ⊥) → H₁ k ≡ H k

-- there may be more, in which nothing is in progress
pub record Gains (H H₁ : Keys) : Type 0 where
  pub kept : (k : ℕ) (x : Held) → H k ≡ Some x → H₁ k ≡ Some x
  pub idle : (k : ℕ) → H k ≡ None → (depth_at (H₁ k) ≡ 0) × (gone_at (H₁ k) ≡ false)

-- Who is in use stays so, under its key, as deeply, and below the same one; who is gone stays gone;
-- and in whom nothing is in progress, in that one nothing is.
pub record Stays (H H₁ : Keys) : Type 0 where
  pub above : (k : ℕ) → 1 ≤ depth_at (H k) → above_at (H₁ k) ≡ above_at (H k)
  pub depth : (k : ℕ) → depth_at (H₁ k) ≡ depth_at (H k)
  pub gone : (k : ℕ) → gone_at (H k) ≡ true → gone_at (H₁ k) ≡ true

-- ## What holds of them in every table

-- Who stands is the child of the one above; who is gone is nobody's, has no children, and is in
-- use. Above each but the root there is one, at least as deeply in use.
pub record IsOrdered (h : Heap) (root : ℕ) : Type 0 where
  pub root_stands : gone_at (held_in h root) ≡ false
  pub stands : (k : ℕ) (n : Text) (c : ℕ) → child_in h k n ≡ Some c →
      gone_at (held_in h c) ≡ false
  pub child : (c k : ℕ) (n : Text) → gone_at (held_in h c) ≡ false →
      above_at (held_in h c) ≡ Some (k, n) → child_in h k n ≡ Some c
  pub bare : (k : ℕ) (n : Text) → gone_at (held_in h k) ≡ true → child_in h k n ≡ None
  pub there : (c k : ℕ) (n : Text) → above_at (held_in h c) ≡ Some (k, n) → IsSome (held_in h k)
  pub levels : (c k : ℕ) (n : Text) → above_at (held_in h c) ≡ Some (k, n) →
      level_in h c ≡ level_in h k + 1
  pub depths : (c k : ℕ) (n : Text) → above_at (held_in h c) ≡ Some (k, n) →
      depth_at (held_in h c) ≤ depth_at (held_in h k)
  pub used : (k : ℕ) → gone_at (held_in h k) ≡ true → 1 ≤ depth_at (held_in h k)
