-- The trees of texts are formed as calls are.
use Rattle.std.proofs.Common.{◌≡◌, ap, refl, ℕ, true, false, not, List}
use Rattle.tcl_expr.specs.declared.token.Token.{Token}
use Rattle.tcl_expr.specs.Trees.{Tree}
use Rattle.tcl_expr.specs.Grammar.{Kind, upto, arguments, Spells, is_complete, operand, lowest, before, parenthesized, called, first_argument, next_argument, left, right, chosen, tighter}
use Rattle.tcl_expression_evaluation.specs.Laws.{takes_more, IsFormed, TreesAreFormed}

abbrev pub Formed : Kind → Tree → Type 0
Formed (upto n) t = IsFormed t
Formed arguments t = IsFormed t × (is_complete t ≡ false → takes_more t ≡ true)

formed : {k : Kind} {room : ℕ} {t : Tree} {s rest : List Token} → Spells k room t s rest → Formed k t
unfolding IsFormed
formed (operand room x rest) = tt
formed (lowest room t x rest e) = tt
formed (before room t o a s rest e h) = formed h
formed (parenthesized room a s rest h) = formed h
formed (called room a s rest h) = (formed h).0
formed (first_argument room f a s rest h) = (formed h, λ e. ap not e)
formed (next_argument room call a s u rest e h k) = (((formed h).1 e, (formed h).0, formed k), λ _. refl)
formed (left room n t o a b s u rest e l m h k) = (formed h, formed k)
formed (right room a b s u rest h k) = (formed h, formed k)
formed (chosen room c a b s u v rest h k l) = (formed h, formed k, formed l)
formed (tighter room n a s rest h) = formed h

pub trees_are_formed : TreesAreFormed
trees_are_formed style s t is = formed is.spells
