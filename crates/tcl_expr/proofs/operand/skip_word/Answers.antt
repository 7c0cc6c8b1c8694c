use Rattle.std.proofs.Common.{◌∙◌, sym, subst}
use Rattle.tcl_parser.specs.Texts.{EndsWith}
use Rattle.tcl_expr.proofs.Words.{EndsWith-after_word}
use Rattle.tcl_expr.proofs.operand.skip_word.Goals as goal

pub returns-clause-ends : goal.returns-clause-ends
returns-clause-ends c = subst (EndsWith c.args.text.now) (sym c.word.invariant.1 ∙ c.in_default.ensures.none) (EndsWith-after_word c.args.text.now)
