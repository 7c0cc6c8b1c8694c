-- The tokens of an expression: which one a text begins with, and what follows it.
use Rattle.std.specs.Prelude.{ℕ, zero, suc, ◌==◌, Bool, true, false, ◌&&◌, ◌||◌, cond, List, []}
use Rattle.std.specs.Prelude.{◌∷◌, length, codes, Option, Some, None, Result, Ok, Err, ℤ}
use Rattle.std.specs.Int.{is_in_range}
use Rattle.std.specs.Str.{bytes_eq}
use Rattle.tcl_text.specs.declared.integer.Integers.{Integers}
use Rattle.tcl_text.specs.declared.integer.IntegerFault.{IntegerFault}
use Rattle.tcl_text.specs.declared.integer.IntegerFault.TheVariants as integer_fault
use Rattle.tcl_text.specs.Numbers.{trim_start}
use Rattle.tcl_text.specs.Booleans.{boolean_of}
use Rattle.tcl_text.specs.Lists.{close_brace, none_open}
use Rattle.tcl_parser.specs.declared.fault.Fault.{Fault}
use Rattle.tcl_parser.specs.declared.fault.Fault.TheVariants.{CloseBrace}
use Rattle.tcl_parser.specs.declared.script.Part.{Part}
use Rattle.tcl_parser.specs.Several.{over, next as more}
use Rattle.tcl_parser.specs.Reading.{Place, PartTurn, level_at, read_part, read_parts, joined_parts}
use Rattle.tcl_parser.specs.Reading.{before}
use Rattle.tcl_parser.specs.Characters.{dollar, quote, open_bracket, open_brace, is_name_character}
use Rattle.tcl_value.specs.Reading.{int_of}
use Rattle.tcl_expr.specs.declared.operator.BinaryOperator.TheVariants as operator
use Rattle.tcl_expr.specs.declared.operator.UnaryOperator.TheVariants as unary
use Rattle.tcl_expr.specs.declared.operator.Function.TheVariants as function
use Rattle.tcl_expr.specs.declared.token.Leaf.TheVariants.{Literal, Substituted}
use Rattle.tcl_expr.specs.declared.token.Token.{Token}
use Rattle.tcl_expr.specs.declared.token.Token.TheVariants as token
use Rattle.tcl_expr.specs.declared.fault.ExprFault.{ExprFault}
use Rattle.tcl_expr.specs.declared.fault.ExprFault.TheVariants.{Syntax, TooLarge, Operand}

-- a token and what follows it, or why none stands there
abbrev pub TokenRead : Type 0
TokenRead = Result (Token × List ℕ) ExprFault

-- ## Words and numbers

-- what follows letters, digits and underscores
unfoldable pub after_word : List ℕ → List ℕ
after_word [] = []
after_word (b ∷ s) = cond (is_name_character b) (after_word s) (b ∷ s)

-- A number is an integer text. One that is out of range fits behind a minus that nothing separates
-- from it, if both together are in range.
abbrev pub number_read : Bool → List ℕ → Result ℤ IntegerFault → Result ℤ IntegerFault →
    Result Token ExprFault
number_read close w (Ok n) m = Ok (token.Operand (Literal w))
number_read close w (Err integer_fault.NotInteger) m = Err Syntax
number_read true w (Err integer_fault.TooLarge) (Ok m) = Ok (token.Lowest w)
number_read true w (Err integer_fault.TooLarge) (Err e) = Err TooLarge
number_read false w (Err integer_fault.TooLarge) m = Err TooLarge

abbrev pub number : Integers → Bool → List ℕ → Result Token ExprFault
number style close w = number_read close w (int_of style w) (int_of style (45 ∷ w))

abbrev pub boolean_word : List ℕ → Option Bool → Result Token ExprFault
boolean_word w (Some b) = Ok (token.Operand (Literal w))
boolean_word w None = Err Syntax

-- a word is an operator, a function, or one of the boolean words
abbrev pub word : Integers → List ℕ → Result Token ExprFault
word style w =
    cond (bytes_eq w (codes "eq")) (Ok (token.Infix operator.SameText))
    (cond (bytes_eq w (codes "ne")) (Ok (token.Infix operator.OtherText))
    (cond (bytes_eq w (codes "in")) (Ok (token.Infix operator.Within))
    (cond (bytes_eq w (codes "ni")) (Ok (token.Infix operator.Without))
    (cond (bytes_eq w (codes "abs")) (Ok (token.Function function.Absolute))
    (cond (bytes_eq w (codes "min")) (Ok (token.Function function.Least))
    (cond (bytes_eq w (codes "max")) (Ok (token.Function function.Greatest))
    (boolean_word w (boolean_of style w))))))))

abbrev pub followed : Result Token ExprFault → List ℕ → TokenRead
followed (Ok t) rest = Ok (t, rest)
followed (Err e) rest = Err e

-- a number where a digit stands first
abbrev pub word_or_number : Integers → Bool → Bool → List ℕ → List ℕ → TokenRead
word_or_number style close true w rest = followed (number style close w) rest
word_or_number style close false w rest = followed (word style w) rest

-- ## Operands that are substituted, and texts in braces

-- A variable or a script in brackets goes on until no index is open.
abbrev pub part_read : PartTurn → (Place → Result (List ℕ) Fault) → Result (List ℕ) Fault
part_read (Ok (over rest)) go = Ok rest
part_read (Ok (more p (zero, rest))) go = Ok rest
part_read (Ok (more p (suc indexes, rest))) go = go (suc indexes, rest)
part_read (Err f) go = Err f

unfoldable pub after_parts : ℕ → Place → Result (List ℕ) Fault
after_parts zero place = Ok []
after_parts (suc n) place = part_read (read_part (level_at 0) true place) (after_parts n)

abbrev pub after_substitution : List ℕ → Result (List ℕ) Fault
after_substitution s = after_parts (suc (length s)) (zero, s)

abbrev pub parts_token : Result (List Part × List ℕ) Fault → Result Token ExprFault
parts_token (Ok read) = Ok (token.Operand (Substituted (record { parts = read.0; expand = false })))
parts_token (Err f) = Err (Operand f)

-- the text reads as a word of its own; a `$` that begins no variable is no operand
abbrev pub substitution_of : List ℕ → List ℕ → TokenRead
substitution_of s rest = cond (length s == suc (length rest)) (Err Syntax)
    (followed (parts_token (joined_parts (read_parts (level_at 0) false (zero, before s rest))))
    rest)

abbrev pub substitution_read : List ℕ → Result (List ℕ) Fault → TokenRead
substitution_read s (Ok rest) = substitution_of s rest
substitution_read s (Err f) = Err (Operand f)

abbrev pub substitution : List ℕ → TokenRead
substitution s = substitution_read s (after_substitution s)

abbrev pub quoted_read : Result (List Part × List ℕ) Fault → TokenRead
quoted_read (Ok read) = Ok (
  token.Operand (Substituted (record { parts = read.0; expand = false })),
  read.1,
)
quoted_read (Err f) = Err (Operand f)

-- behind a quotation mark
abbrev pub quoted : List ℕ → TokenRead
quoted s = quoted_read (joined_parts (read_parts (level_at 0) true (zero, s)))

abbrev pub braced_read : Option (List ℕ × List ℕ) → TokenRead
braced_read (Some p) = Ok (token.Operand (Literal p.0), p.1)
braced_read None = Err (Operand CloseBrace)

-- behind an open brace: the text up to its close brace, as it stands
abbrev pub braced : List ℕ → TokenRead
braced s = braced_read (close_brace s none_open)

-- ## Signs

-- the token that two signs are
abbrev pub pair : ℕ → ℕ → Option Token
pair a b =
    cond ((a == 42) && (b == 42)) (Some (token.Infix operator.Power))
    (cond ((a == 60) && (b == 60)) (Some (token.Infix operator.ShiftLeft))
    (cond ((a == 62) && (b == 62)) (Some (token.Infix operator.ShiftRight))
    (cond ((a == 60) && (b == 61)) (Some (token.Infix operator.AtMost))
    (cond ((a == 62) && (b == 61)) (Some (token.Infix operator.AtLeast))
    (cond ((a == 61) && (b == 61)) (Some (token.Infix operator.Equal))
    (cond ((a == 33) && (b == 61)) (Some (token.Infix operator.Unequal))
    (cond ((a == 38) && (b == 38)) (Some (token.Infix operator.And))
    (cond ((a == 124) && (b == 124)) (Some (token.Infix operator.Or))
    None))))))))

-- the token that one sign is
abbrev pub single : ℕ → Option Token
single a =
    cond (a == 43) (Some token.Plus)
    (cond (a == 45) (Some token.Minus)
    (cond (a == 40) (Some token.Open)
    (cond (a == 41) (Some token.Close)
    (cond (a == 42) (Some (token.Infix operator.Multiply))
    (cond (a == 47) (Some (token.Infix operator.Divide))
    (cond (a == 37) (Some (token.Infix operator.Remainder))
    (cond (a == 60) (Some (token.Infix operator.Less))
    (cond (a == 62) (Some (token.Infix operator.Greater))
    (cond (a == 33) (Some (token.Prefix unary.Not))
    (cond (a == 126) (Some (token.Prefix unary.Complement))
    (cond (a == 38) (Some (token.Infix operator.BitAnd))
    (cond (a == 94) (Some (token.Infix operator.BitXor))
    (cond (a == 124) (Some (token.Infix operator.BitOr))
    (cond (a == 63) (Some token.Question)
    (cond (a == 58) (Some token.Colon)
    (cond (a == 44) (Some token.Comma)
    None))))))))))))))))

abbrev pub alone : Option Token → List ℕ → TokenRead
alone (Some t) rest = Ok (t, rest)
alone None rest = Err Syntax

abbrev pub together : Option Token → ℕ → ℕ → List ℕ → TokenRead
together (Some t) a b rest = Ok (t, rest)
together None a b rest = alone (single a) (b ∷ rest)

-- as many signs as are one token
abbrev pub sign : ℕ → List ℕ → TokenRead
sign a [] = alone (single a) []
sign a (b ∷ s) = together (pair a b) a b s

-- ## Tokens

-- the token that the text b s begins with; the flag says that a minus stands before it that nothing
-- separates from it
abbrev pub token_at : Integers → Bool → ℕ → List ℕ → TokenRead
token_at style close b s =
    cond (is_name_character b) (word_or_number style close (is_in_range 48 57 b)
    (before (b ∷ s) (after_word (b ∷ s))) (after_word (b ∷ s)))
    (cond ((b == dollar) || (b == open_bracket)) (substitution (b ∷ s))
    (cond (b == quote) (quoted s)
    (cond (b == open_brace) (braced s)
    (sign b s))))

-- a token and what follows it, or that none comes any more
pub data Lexed : Type 0 where
  ended : Lexed
  read : (t : Token) (rest : List ℕ) → Lexed

abbrev pub lexed : TokenRead → Result Lexed ExprFault
lexed (Ok p) = Ok (read p.0 p.1)
lexed (Err e) = Err e

abbrev pub first_token : Integers → Bool → List ℕ → Result Lexed ExprFault
first_token style close [] = Ok ended
first_token style close (b ∷ s) = lexed (token_at style close b s)

-- The token that a text begins with, behind white space. The flag says that a minus stands directly
-- before the text.
abbrev pub next_token : Integers → Bool → List ℕ → Result Lexed ExprFault
next_token style minus s = first_token style (minus && (length (trim_start s) == length s))
    (trim_start s)
