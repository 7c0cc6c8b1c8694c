use Rattle.std.proofs.Common.{sym, ◌∙◌}
use Rattle.tcl_expr.proofs.Words.{word_on, word_stops, word_ends}
use Rattle.tcl_expr.proofs.operand.strip_word.Goals as goal

pub returns-in_err-first-clause-none : goal.returns-in_err-first-clause-none
returns-in_err-first-clause-none c = rw c.from_residual.ensures (word_ends _ c.in_err-first.ensures.split)

pub returns-then-is_name_character-clause-on : goal.returns-then-is_name_character-clause-on
returns-then-is_name_character-clause-on c = word_on _ _ _ c.in_ok-first.ensures.split (sym c.is_name_character.ensures ∙ c.if-is_name_character.true)

pub returns-else-is_name_character-clause-none : goal.returns-else-is_name_character-clause-none
returns-else-is_name_character-clause-none c = word_stops _ _ _ c.in_ok-first.ensures.split (sym c.is_name_character.ensures ∙ c.if-is_name_character.false)
