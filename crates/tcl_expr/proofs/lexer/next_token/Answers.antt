use Rattle.std.proofs.Common.{arith, ap, length}
use Rattle.tcl_expr.proofs.Words.{trim_start-length}
use Rattle.tcl_expr.proofs.lexer.next_token.Goals as goal

pub token_at-requires-clause-within : goal.token_at-requires-clause-within
token_at-requires-clause-within c = omega (arith, ap length c.skip_white-start.ensures, trim_start-length c.args.text.now, c.requires)
