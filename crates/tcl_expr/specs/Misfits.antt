-- The first token that doesn't fit.
use Rattle.std.specs.Prelude.{◌≡◌, ℕ, Bool, true, false, List, [], ◌∷◌, ◌++◌}
use Rattle.tcl_expr.specs.declared.grammar.Misfit.{Misfit}
use Rattle.tcl_expr.specs.declared.grammar.Misfit.TheVariants.{Syntax, TooDeep, TooLarge}
use Rattle.tcl_expr.specs.declared.token.Token.{Token}
use Rattle.tcl_expr.specs.declared.token.Token.TheVariants as token
use Rattle.tcl_expr.specs.Trees.{Tree}
use Rattle.tcl_expr.specs.Grammar.{IsExpression, Begins}

abbrev pub is_lowest : Token → Bool
is_lowest (token.Lowest x) = true
is_lowest _ = false

-- Which misfit it is: the token's own; or that only an expression of more room begins so; or that
-- none does.
abbrev pub Kind : Misfit → List Token → Token → Type 0
Kind TooLarge s t = is_lowest t ≡ true
Kind TooDeep s t = (is_lowest t ≡ false) × (room : ℕ) × Begins room (s ++ t ∷ [])
Kind Syntax s t = (is_lowest t ≡ false) × ((room : ℕ) → Begins room (s ++ t ∷ []) → Prim.⊥)

-- behind s the token t is the first that doesn't fit
pub record IsMisfit (room : ℕ) (s : List Token) (t : Token) (e : Misfit) : Type 0 where
  pub begins : Begins room s
  pub ends : Begins room (s ++ t ∷ []) → Prim.⊥
  pub kind : Kind e s t

-- The tokens fail: one doesn't fit; or they all fit and more had to come, which is a fault of
-- syntax.
pub data Fails (room : ℕ) : List Token → Misfit → Type 0 where
  fitting : (s u : List Token) (t : Token) (e : Misfit) → IsMisfit room s t e →
      Fails room (s ++ t ∷ u) e
  early : (s : List Token) → Begins room s → ((a : Tree) → IsExpression room a s → Prim.⊥) →
      Fails room s Syntax
