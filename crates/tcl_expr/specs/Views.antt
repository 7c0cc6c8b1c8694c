-- What the code returns, as what the definitions give.
use Rattle.tcl_expr.specs.declared.lexer.Lexed.{Lexed as Given}
use Rattle.tcl_expr.specs.declared.lexer.Lexed.TheVariants as given
use Rattle.tcl_expr.specs.Tokens.{Lexed, ended, read}

abbrev pub lexed_of : Given → Lexed
lexed_of given.Ended = ended
lexed_of (given.Read t rest) = read t rest.now
