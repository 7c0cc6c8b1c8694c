-- What a replay leaves of depths.
use Rattle.std.proofs.Common.{◌≡◌, ◌∙◌, ◌⊎◌, inl, inr, ℕ, true, false, List, Option, Some, None, refl, sym, subst}
use Rattle.tcl_core.specs.Lives.{Outcome}
use Rattle.tcl_core.specs.Paths.{Place}
use Rattle.tcl_core.specs.Trees.{Move, Tree, depth_of}
use Rattle.tcl_run.specs.Language.{language}
use Rattle.tcl_reactions.specs.Playing.{Fate, Lived, Player, last_end, left_by, outcome, outcome_by, tree_left}
use Rattle.tcl_reactions.specs.Playing.Fate.{Waits, Unfits, EndsAbove, Spends}
use Rattle.tcl_reactions.proofs.Depths.{depths_stay}
use Rattle.tcl_replay.specs.Replaying.{is_waiting}
use Rattle.tcl_run_laws.specs.Budgets.{DepthsComeBack, IsNested}
use Rattle.tcl_run_laws.proofs.Orders.{nested_at_rest, upright_of}
use Rattle.tcl_run_laws.proofs.Tables.{orderly}
use Rattle.tcl_text.specs.declared.integer.Integers.{Integers}
use Rattle.tcl_tree.specs.Own.{Own}
use Rattle.tcl_tree.specs.TreeOf.{tree_of}
use Rattle.tcl_tree.specs.declared.tree.Tree.{Tree as Table}

-- where it doesn't wait, what is left is the tree after all
after_all : (f : Option (Fate Own)) (x : Outcome) (ms : List (Move Own)) (V : Tree Own) → is_waiting (outcome_by f x ms) ≡ false → left_by f V ≡ V
after_all None x ms V e = refl
after_all (Some Unfits) x ms V e = refl
after_all (Some EndsAbove) x ms V e = refl
after_all (Some Spends) x ms V e = refl
after_all (Some (Waits S)) x ms V e = let clash : true ≡ false = e in absurd cc

-- where nothing was in progress nothing is
none_left : (d was : ℕ) → (d ≡ was) ⊎ (d ≡ 0) → was ≡ 0 → d ≡ 0
none_left d was (inl e) f = e ∙ f
none_left d was (inr e) f = e

pub depths : (kept : Integers) (t : Table) (T V W : Tree Own) (o z : Player Own) (x : Outcome) → T ≡ tree_of t → Lived (language kept) T o V z → x ≡ outcome z → W ≡ tree_left z V → is_waiting x ≡ false → DepthsComeBack (tree_of t) W
depths kept t T V W o z x same l e g w =
    let played : Lived (language kept) (tree_of t) o V z = subst (λ R. Lived (language kept) R o V z) same l in
    let left : tree_left z V ≡ V = after_all z.fate (last_end z) z.left V (subst (λ y. is_waiting y ≡ false) e w) in
    let back : IsNested (tree_of t) → (q : Place) → (depth_of (W q) ≡ depth_of (tree_of t q)) ⊎ (depth_of (W q) ≡ 0) =
    λ n q. subst (λ (U : Tree Own). (depth_of (U q) ≡ depth_of (tree_of t q)) ⊎ (depth_of (U q) ≡ 0)) (sym (g ∙ left)) (depths_stay (language kept) (tree_of t) V o z played (upright_of (tree_of t) (orderly t) n) q) in
    record { same = back; rest = λ f q. none_left (depth_of (W q)) (depth_of (tree_of t q)) (back (nested_at_rest (tree_of t) f) q) (f q) }
