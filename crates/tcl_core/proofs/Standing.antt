-- What stands and isn't dropped isn't made either.
use Rattle.std.proofs.Common.{sym, ◌≡◌, List, [], ◌∷◌, Some, ◌∙◌, ap, subst, append-nil}
use Rattle.tcl_core.specs.Paths.{Place}
use Rattle.tcl_core.specs.Trees.{Tree, Node, What, Move, asked}
use Rattle.tcl_core.specs.Trees.What.{Made, Dropped}
use Rattle.tcl_core.specs.Trees.Move.{Born}
use Rattle.tcl_core.specs.Views.{IsDue}
use Rattle.tcl_core.specs.Laws.{KeepsTop, Stands, Spares, IsHeld}
use Rattle.tcl_core.proofs.PathLaws.{not_both, strip-sound}
use Rattle.tcl_core.proofs.Depths.{asked_top}

module _ {O : Type 0} where
  -- at c nothing is made
  pub stands_of : (c p : Place) (x : What O) (T : Tree O) (n : Node O) (ms : List (Move O)) → IsDue T p x → T c ≡ Some n → Spares c p x → IsHeld c (asked p x ms) → Stands c p x
  stands_of c p Dropped T n ms d e f h = f
  stands_of c [] (Made o s) T n ms d e f h = λ g. (let z : KeepsTop (Born o s ∷ ms) = subst (λ r. IsHeld r (asked [] (Made o s) ms)) (strip-sound [] c [] g ∙ append-nil []) h in z)
  stands_of c (y ∷ p) (Made o s) T n ms d e f h = λ g. not_both d (ap T (sym (strip-sound (y ∷ p) c [] g ∙ append-nil (y ∷ p))) ∙ e)
  stands_of c p x T n ms d e f h = tt

  pub held_left : (c p : Place) (x : What O) (ms : List (Move O)) → IsHeld c (asked p x ms) → IsHeld c ms
  held_left [] p x ms f = asked_top p x ms f
  held_left (y ∷ c) p x ms f = tt
