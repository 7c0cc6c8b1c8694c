use Rattle.tcl_expr.proofs.Spellings.{is_read}
use Rattle.tcl_expr.proofs.parser.parse_expr.Goals as goal

pub returns-clause-spelled : goal.returns-clause-spelled
returns-clause-spelled c = λ within. is_read c.args.style c.args.text.now _ c.read_expression.ensures
