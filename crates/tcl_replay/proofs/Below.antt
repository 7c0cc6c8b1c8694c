-- What the root's limit is to the interpreters below it.
use Rattle.std.proofs.Common.{◌≡◌, ℕ, List, [], ◌∷◌, Option, None, Some, refl, ap}
use Rattle.tcl_core.specs.Laws.{bare, rest}
use Rattle.tcl_core.specs.Lives.{limit_at}
use Rattle.tcl_core.specs.Paths.{Path, Place}
use Rattle.tcl_core.specs.Trees.{Tree, Node, at, effect, on_some, with_limit}
use Rattle.tcl_core.specs.Trees.What.{Limited}
use Rattle.tcl_isolation.specs.Visits.{IsBelowTheTop}
use Rattle.tcl_tree.specs.Own.{Own}

pub below_at : (c : Path) (T : Tree Own) (l : Option ℕ) → IsBelowTheTop c → at (effect [] (Limited l) T) c ≡ at T c
below_at [] T l f = absurd f
below_at (x ∷ c) T l f = refl

pub below_same : (c : Path) (T : Tree Own) (l : Option ℕ) → IsBelowTheTop c → effect [] (Limited l) T c ≡ T c
below_same [] T l f = absurd f
below_same (x ∷ c) T l f = refl

-- the limit comes back
limit_back : (d t : Option (Node Own)) (l : Option ℕ) → on_some bare d ≡ on_some bare (with_limit l t) → on_some bare (with_limit (limit_at t) d) ≡ on_some bare t
limit_back None None l e = refl
limit_back None (Some n) l e = absurd cc
limit_back (Some m) None l e = absurd cc
limit_back (Some m) (Some n) l e = ap (with_limit n.limit) e

back_at : (x : List ℕ) (c : Path) (T D : Tree Own) (l : Option ℕ) → rest D (x ∷ c) ≡ rest (effect [] (Limited l) T) (x ∷ c) → (p : Place) →
    rest (effect [] (Limited (limit_at (T []))) D) (x ∷ c) p ≡ rest T (x ∷ c) p
back_at x c T D l e [] = limit_back (D []) (T []) l (ap (λ (U : Tree Own). U []) e)
back_at x c T D l e (y ∷ p) = ap (λ (U : Tree Own). U (y ∷ p)) e

pub rest_back : (c : Path) (T D : Tree Own) (l : Option ℕ) → rest D c ≡ rest (effect [] (Limited l) T) c → rest (effect [] (Limited (limit_at (T []))) D) c ≡ rest T c
rest_back [] T D l e = refl
rest_back (x ∷ c) T D l e = λ i p. back_at x c T D l e p i
