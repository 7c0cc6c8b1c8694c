use Rattle.std.proofs.Common.{◌≡◌, true, false, List, ℕ, [], rules, subst}
use Rattle.std.specs.Prelude.{Result, Ok, Err, OnOk, codes}
use Rattle.std.specs.Result.{is_err}
use Rattle.tcl_tree.specs.Changes.{Makes}
use Rattle.tcl_tree.specs.TreeOf.{tree_of}
use Rattle.tcl_shell.proofs.begun.Begun.in_a_safe_child.Goals as goal

made_of : {E P : Type 0} (r : Result (Unit {0}) E) → OnOk r P → is_err r ≡ false → P
made_of (Ok u) h e = h
made_of (Err x) h e = let clash : true ≡ false = e in cc

pub returns-clause-tree : goal.returns-clause-tree
returns-clause-tree c =
    let done : is_err c.create.result ≡ false = search rules in
    subst (λ T. Makes T (tree_of c.create.new.self) [] (codes "main") true) c.in_ok-tree.ensures.tree
    (subst (λ (name : List ℕ). Makes (tree_of c.in_ok-tree.tree) (tree_of c.create.new.self) [] name true) c.in_ok-main.ensures (made_of c.create.result c.create.ensures.made done))
