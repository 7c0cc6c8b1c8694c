-- What an expression comes to where each of its operands is at hand: a text, or a variable that
-- holds a value.
use Rattle.std.specs.Prelude.{◌≡◌, Bool, true, false, nat_le, length, List, [], ◌∷◌, ◌++◌, ℤ, ◌≤◌}
use Rattle.std.specs.Prelude.{Option, Some, None, Result, Ok, Err}
use Rattle.std.specs.Fmt.{signed_decimal}
use Rattle.tcl_text.specs.declared.integer.Integers.{Integers}
use Rattle.tcl_parser.specs.declared.script.Part.{Part}
use Rattle.tcl_parser.specs.declared.script.Part.TheVariants.{Literal, Variable}
use Rattle.tcl_value.specs.Limits.{Bytes}
use Rattle.tcl_value.specs.Reading.{int_of}
use Rattle.tcl_frames.specs.declared.fault.FrameFault.{FrameFault}
use Rattle.tcl_frames.specs.Places.{Levels}
use Rattle.tcl_frames.specs.Chain.{read}
use Rattle.tcl_expr.specs.declared.operator.BinaryOperator.{BinaryOperator}
use Rattle.tcl_expr.specs.declared.token.Leaf.{Leaf}
use Rattle.tcl_expr.specs.declared.tree.Node.{Node}
use Rattle.tcl_expr.specs.declared.tree.Node.TheVariants as node
use Rattle.tcl_expression_evaluation.specs.Computations.{Computation, value, refused, substitute}
use Rattle.tcl_expression_evaluation.specs.Computations.{needing}
use Rattle.tcl_expression_evaluation.specs.Steps.{from}

-- ## Values at hand

-- a text that is no longer than a value may be
abbrev pub short_text : Bool → Bytes → Option Bytes
short_text true text = Some text
short_text false text = None

abbrev pub text_read : Result Bytes FrameFault → Option Bytes
text_read (Ok text) = short_text (nat_le (length text) 16777216) text
text_read (Err fault) = None

-- the value of the one variable that the parts of a word are, or the one text
abbrev pub operand_value : Levels → List Part → Option Bytes
operand_value frames [] = Some []
operand_value frames (Variable name ∷ []) = text_read (read frames name)
operand_value frames (Literal text ∷ []) = short_text (nat_le (length text) 16777216) text
operand_value frames parts = None

abbrev pub given : Option Bytes → (Bytes → Option Bytes) → Option Bytes
given (Some text) next = next text
given None next = None

-- The value that is computed, where every part that is asked for is a text or a variable that holds
-- a value, and nothing is refused.
abbrev pub comes_to : Levels → Computation → Option Bytes
comes_to frames (value text) = Some text
comes_to frames (refused fault) = None
comes_to frames (substitute word next) = given (operand_value frames word.parts)
    (λ text. comes_to frames (next text))

-- the steps come to a text that reads as the number
abbrev pub IsNumberAtHand : Levels → Integers → List Node → ℤ → Type 0
IsNumberAtHand frames style code n = (text : Bytes) ×
    (comes_to frames (from style code 0 []) ≡ Some text) × (int_of style text ≡ Ok n)

-- and so do they where these texts wait for their operators already
abbrev pub IsNumberFrom : Levels → Integers → List Bytes → List Node → ℤ → Type 0
IsNumberFrom frames style waiting code n = (text : Bytes) ×
    (comes_to frames (from style code 0 waiting) ≡ Some text) × (int_of style text ≡ Ok n)

-- ## What the functions do

-- the steps of an expression of two operands and an operator
abbrev pub steps_of_two : Leaf → BinaryOperator → Leaf → List Node
steps_of_two left operator right =
    node.Operand left ∷ node.Operand right ∷ node.Binary operator ∷ []

-- steps that begin with an operand
abbrev pub begins_with : Leaf → List Node → List Node
begins_with operand rest = node.Operand operand ∷ rest

-- steps that begin with an operand and the operator that takes it second
abbrev pub steps_before : Leaf → BinaryOperator → List Node → List Node
steps_before right operator rest = node.Operand right ∷ node.Binary operator ∷ rest

-- Where such steps come behind a text, those that follow find the number n in its place.
abbrev pub Leaves : Levels → Integers → Bytes → Leaf → BinaryOperator → ℤ → Type 0
Leaves frames style text right operator n = (rest : List Node) →
    comes_to frames (from style (steps_before right operator rest) 0 (text ∷ []))
    ≡ comes_to frames (from style rest 0 (signed_decimal n ∷ []))

-- each text reads as the number at its place
unfoldable pub ReadAs : Integers → List Bytes → List ℤ → Type 0
ReadAs style [] [] = Unit {0}
ReadAs style [] (n ∷ numbers) = Prim.⊥
ReadAs style (text ∷ texts) [] = Prim.⊥
ReadAs style (text ∷ texts) (n ∷ numbers) = (int_of style text ≡ Ok n) × ReadAs style texts numbers

-- Behind a text, steps come to what those that are left of them come to behind one that reads as
-- the number n, whatever waits before it.
pub record Reduces (frames : Levels) (style : Integers) (text : Bytes) (code rest : List Node)
    (n : ℤ) : Type 0 where
  pub last : Bytes
  pub reads : int_of style last ≡ Ok n
  pub same : (before : List Bytes) → comes_to frames (from style code 0 (before ++ text ∷ [])) ≡
      comes_to frames (from style rest 0 (before ++ last ∷ []))
  pub fewer : length rest ≤ length code

-- Behind texts that wait, steps come to what those that are left of them come to behind texts that
-- read as these numbers.
pub record Follows (frames : Levels) (style : Integers) (texts : List Bytes)
    (code rest : List Node) (numbers : List ℤ) : Type 0 where
  pub waiting : List Bytes
  pub wait : ReadAs style waiting numbers
  pub same : comes_to frames (from style code 0 texts) ≡ comes_to frames
      (from style rest 0 waiting)

-- a step, and maybe some of those behind it, make the second numbers of the first
abbrev pub DoesStep : Levels → Integers → Node → List Node → List Node → List ℤ → List ℤ → Type 0
DoesStep frames style step more rest numbers others = (texts : List Bytes) →
    ReadAs style texts numbers → Follows frames style texts (step ∷ more) rest others

-- the number that stands for both operands of an operator, where the first is this one; or none,
-- and the second operand is needed
abbrev pub IsDecided : BinaryOperator → ℤ → Option ℤ → Type 0
IsDecided operator x (Some n) = (style : Integers) (a : Bytes) → int_of style a ≡ Ok x →
    (second : Computation) (next : Bytes → Computation) →
    needing style operator a second next ≡ next (signed_decimal n)
IsDecided operator x None = (style : Integers) (a : Bytes) → int_of style a ≡ Ok x →
    (second : Computation) (next : Bytes → Computation) →
    needing style operator a second next ≡ second
