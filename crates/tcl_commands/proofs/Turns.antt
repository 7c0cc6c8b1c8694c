-- What variables that are set to the elements of a list come to.
use Rattle.std.proofs.Common.{◌≡◌, ℕ, zero, suc, ◌+◌, List, [], ◌∷◌, drop, refl, sym, ap, subst, ◌∙◌, add-one, Some}
use Rattle.std.specs.Prelude.{slice_index_or}
use Rattle.tcl_core.specs.Endings.{Reply}
use Rattle.tcl_core.specs.Paths.{Path, Text}
use Rattle.tcl_core.specs.Trees.{Node}
use Rattle.tcl_frames.specs.Chain.{after_set}
use Rattle.tcl_language.specs.Faults.{frame_message}
use Rattle.tcl_language.specs.Control.{sets_names}
use Rattle.tcl_language.specs.Instructions.{Program}
use Rattle.tcl_language.specs.Variables.{sets}
use Rattle.tcl_run.specs.Ends.{IsFailure}
use Rattle.tcl_commands.specs.Ending.{EndsSo}
use Rattle.tcl_run.specs.Runs.{Rechained}
use Rattle.tcl_run.proofs.Steady.{stands}
use Rattle.tcl_tree.specs.Own.{Own}
use Rattle.tcl_tree.specs.TreeOf.{tree_of, Names}
use Rattle.tcl_tree.specs.declared.tree.Tree.{Tree as Table}
use Rattle.tcl_tree.specs.declared.tree.Place.{Place as TablePlace}
use Rattle.tcl_tree.proofs.CoreLemmas.{tree_there}
use Rattle.tcl_commands.specs.Reaching.{Reaches, ReachesEnd}
use Rattle.tcl_commands.proofs.Reached.{end_same, set_end, set_reaches}

pub drop_more : {A : Type 0} (n : ℕ) (xs : List A) → drop (n + 1) xs ≡ drop 1 (drop n xs)
drop_more {A} n xs = ap (λ m. drop m xs) (add-one n) ∙ by n xs
  where
    by : (n : ℕ) (xs : List A) → drop (suc n) xs ≡ drop 1 (drop n xs)
    by zero xs = refl
    by (suc n) [] = refl
    by (suc n) (x ∷ xs) = by n xs

-- the element that comes next, and what is then left
pub first_at : (n : ℕ) (xs : List Text) → slice_index_or (drop n xs) 0 [] ≡ slice_index_or xs n []
first_at zero xs = refl
first_at (suc n) [] = refl
first_at (suc n) (x ∷ xs) = first_at n xs

pub next_name : (name : Text) (names left : List Text) (k : List Text → Program) → sets_names (name ∷ names) left k ≡ sets name (slice_index_or left 0 []) (sets_names names (drop 1 left) k)
next_name name names [] k = refl
next_name name names (x ∷ left) k = refl

-- ## Names

module _ (names left : List Text) (name : Text) (more : List Text) (value : Text) (rest : List Text) (is : names ≡ name ∷ more) (value_is : value ≡ slice_index_or left 0 []) (rest_is : rest ≡ drop 1 left) where
  names_step : (k : List Text → Program) → sets_names names left k ≡ sets name value (sets_names more rest k)
  names_step k = ap (λ (xs : List Text). sets_names xs left k) is ∙ next_name name more left k ∙ ap (λ (v : Text). sets name v (sets_names more (drop 1 left) k)) (sym value_is)
      ∙ ap (λ (r : List Text). sets name value (sets_names more r k)) (sym rest_is)

  pub name_set : (t u : Table) (place : TablePlace) (p : Path) (k : List Text → Program) → Names t place p →
      ((p : Path) (n : Node Own) → Names t place p → tree_of t p ≡ Some n → Rechained (tree_of t) p n.own (after_set n.own.chain name value) (tree_of u)) →
      Reaches p (sets_names names left k) (tree_of t) (sets_names more rest k) (tree_of u)
  name_set t u place p k at written =
      let n = stands (tree_of t p) (tree_there t p _ at) in
      subst (λ (x : Program). Reaches p x (tree_of t) (sets_names more rest k) (tree_of u)) (sym (names_step k)) (set_reaches p (tree_of t) (tree_of u) n.0 name value (sets_names more rest k) n.1 (written p n.0 at n.1))

  pub name_refused : (t u : Table) (place : TablePlace) (p : Path) (k : List Text → Program) (r : Reply) → Names t place p → tree_of u ≡ tree_of t →
      ((p : Path) (n : Node Own) → Names t place p → tree_of t p ≡ Some n → IsFailure frame_message (after_set n.own.chain name value) r) → ReachesEnd p (sets_names names left k) (tree_of t) (tree_of u) r
  name_refused t u place p k r at same refused =
      let n = stands (tree_of t p) (tree_there t p _ at) in
      subst (λ (x : Program). ReachesEnd p x (tree_of t) (tree_of u) r) (sym (names_step k)) (end_same same (set_end p (tree_of t) n.0 name value (sets_names more rest k) r n.1 (refused p n.0 at n.1)))

-- ## Ends

-- an end of what is the same program
pub ends_as : (x y : Program) (r : Reply) → x ≡ y → EndsSo y r → EndsSo x r
ends_as x y r e h = record { completion = h.completion; is_over = e ∙ h.is_over; ends = h.ends }
