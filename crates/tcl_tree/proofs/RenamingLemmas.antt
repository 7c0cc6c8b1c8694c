-- What renaming by path refuses, where the new name is empty and where it isn't.
use Rattle.std.proofs.Common.{◌≡◌, ℕ, suc, ◌∙◌, sym, ap, inr, Bool, true, false, [], ◌∷◌, length, Option, Some, arith}
use Rattle.std.specs.Prelude.{◌==◌}
use Rattle.std.proofs.lemmas.Bool.Decides.{nat_tests}
use Rattle.std.specs.Option.{option_and_then}
use Rattle.tcl_interpreter.specs.Paths.{Text, Path}
use Rattle.tcl_interpreter.specs.Own.{command_in}
use Rattle.tcl_tree.specs.Changes.{is_child}
use Rattle.tcl_tree.specs.Nodes.{NodeView}
use Rattle.tcl_tree.specs.Naming.{Refuses, RefusesAt, RefusesTaking, RefusesRename, renamed, removed}
use Rattle.tcl_tree.specs.TreeOf.{tree_of, key_of}
use Rattle.tcl_tree.specs.declared.tree.Tree.{Tree}
use Rattle.tcl_interpreter.specs.declared.command.Command.{Command}
use Rattle.tcl_interpreter.specs.declared.refusal.TreeError.{TreeError}
use Rattle.tcl_tree.proofs.NamingLemmas.{standing}

never : (n : ℕ) → (suc n == 0) ≡ true → Prim.⊥
never n h = grind (arith, nat_tests)

pub refuses_other : (m : Text) (b : Bool) → b ≡ (length m == 0) → b ≡ false → (e : TreeError) (old : Path → Option NodeView) (p : Path) (n : Text)
    → RefusesAt e old p (λ own. renamed own n m) → RefusesRename e old p n m
refuses_other [] b is other e old p n h = let x : true ≡ false = sym is ∙ other in cc
refuses_other (x ∷ m) b is other e old p n h = h

pub refuses_none : (m : Text) (b : Bool) → b ≡ (length m == 0) → b ≡ true → (e : TreeError) (t : Tree) (p : Path) (k : ℕ) → key_of t p ≡ Some k → (n : Text) (c : Option Command)
    → c ≡ option_and_then (λ (v : NodeView). command_in v.own n) (tree_of t p) → is_child c ≡ false → Refuses e (tree_of t) p (λ own. removed own n) → RefusesRename e (tree_of t) p n m
refuses_none (x ∷ m) b is empty e t p k at n c found other h = absurd (never (length m) (sym is ∙ empty))
refuses_none [] b is empty e t p k at n c found other h =
    let w = standing t p k at in
    let here : c ≡ command_in w.0.own n = found ∙ ap (option_and_then (λ (v : NodeView). command_in v.own n)) w.1 in
    inr (w.0, w.1, by (is_child (command_in w.0.own n)) (ap is_child (sym here) ∙ other))
  where
    by : (d : Bool) → d ≡ false → RefusesTaking d e (tree_of t) p n
    by true f = let x : true ≡ false = f in cc
    by false f = h
