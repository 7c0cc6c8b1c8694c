-- What is told of a text that is no expression, and what the functions that read one return.
use Rattle.std.specs.Prelude.{◌≡◌, ℕ, List, ◌++◌, codes, Result, Ok, Err}
use Rattle.tcl_parser.specs.declared.fault.Fault.{Fault}
use Rattle.tcl_parser.specs.declared.reader.ReadError.{ReadError}
use Rattle.tcl_parser.specs.declared.reader.ReadError.TheVariants as stop
use Rattle.tcl_parser.specs.Faults as parser
use Rattle.tcl_text.specs.Messages as messages
use Rattle.tcl_expr.specs.declared.fault.ExprFault.{ExprFault}
use Rattle.tcl_expr.specs.declared.fault.ExprFault.TheVariants.{Syntax, TooDeep, TooLarge, Operand}
use Rattle.tcl_expr.specs.declared.fault.ExprFault.TheVariants.{TooLong}
use Rattle.tcl_expr.specs.declared.fault.ExprError.{ExprError}
use Rattle.tcl_expr.specs.declared.fault.ExprError.TheVariants as error

abbrev pub message_of : List ℕ → ExprFault → List ℕ
message_of text Syntax = codes "syntax error in expression \"" ++ text ++ codes "\""
message_of text TooDeep = codes "expression nested too deeply"
message_of text TooLarge = codes "integer value too large to represent"
message_of text (Operand f) = parser.message_of f
message_of text TooLong = messages.too_long

abbrev pub error_of_fault : Fault → ExprError
error_of_fault f = error.Fault (Operand f)

abbrev pub error_of_stop : ReadError → ExprError
error_of_stop stop.Memory = error.Memory
error_of_stop (stop.Fault f) = error_of_fault f

abbrev pub Refuses : {Y : Type 0} → ExprError → Result Y ExprFault → Type 0
Refuses error.Memory read = Unit {0}
Refuses (error.Fault f) read = read ≡ Err f

-- a function returns, seen by a view, what reading gives, unless memory ran out
abbrev pub Yields : {X Y : Type 0} → (X → Y) → Result X ExprError → Result Y ExprFault → Type 0
Yields view (Ok x) read = read ≡ Ok (view x)
Yields view (Err e) read = Refuses e read
