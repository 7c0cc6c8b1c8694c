-- What a fault says, and whether more text could mend it.
use Rattle.std.specs.Prelude.{ℕ, Bool, true, false, not, List, Option, Some, None, codes}
use Rattle.tcl_parser.specs.declared.fault.Fault.{Fault}
use Rattle.tcl_parser.specs.declared.fault.Fault.TheVariants.{CloseBrace, VariableBrace, CloseQuote}
use Rattle.tcl_parser.specs.declared.fault.Fault.TheVariants.{CloseBracket, AfterBrace, AfterQuote}
use Rattle.tcl_parser.specs.declared.fault.Fault.TheVariants.{CloseParenthesis, TooDeep}

-- the text of the error
abbrev pub message_of : Fault → List ℕ
message_of CloseBrace = codes "missing close-brace"
message_of VariableBrace = codes "missing close-brace for variable name"
message_of CloseQuote = codes "missing \""
message_of CloseBracket = codes "missing close-bracket"
message_of AfterBrace = codes "extra characters after close-brace"
message_of AfterQuote = codes "extra characters after close-quote"
message_of CloseParenthesis = codes "missing )"
message_of TooDeep = codes "too many nested brackets"

-- whether something stands open at the end of the text
abbrev pub is_open : Fault → Bool
is_open CloseBrace = true
is_open VariableBrace = true
is_open CloseQuote = true
is_open CloseBracket = true
is_open CloseParenthesis = true
is_open AfterBrace = false
is_open AfterQuote = false
is_open TooDeep = false

-- whether a script with this fault, or none, lacks nothing at its end
abbrev pub is_complete_with : Option Fault → Bool
is_complete_with None = true
is_complete_with (Some fault) = not (is_open fault)
