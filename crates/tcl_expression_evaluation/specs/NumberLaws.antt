-- Worked examples of what an expression comes to, for any frames.
use Rattle.std.specs.Prelude.{◌≡◌, List, [], ◌∷◌, pos, Some, None, Ok, Err}
use Rattle.std.specs.Fmt.{signed_decimal}
use Rattle.tcl_text.specs.declared.integer.Integers.{Integers}
use Rattle.tcl_parser.specs.Words.{WordRead}
use Rattle.tcl_parser.specs.declared.script.Part.TheVariants.{Variable}
use Rattle.tcl_value.specs.Limits.{Bytes}
use Rattle.tcl_frames.specs.declared.fault.FrameFault.{FrameFault}
use Rattle.tcl_frames.specs.Places.{Levels}
use Rattle.tcl_frames.specs.Chain.{read}
use Rattle.tcl_expr.specs.declared.operator.BinaryOperator.TheVariants as operator
use Rattle.tcl_expr.specs.declared.token.Leaf.TheVariants.{Literal, Substituted}
use Rattle.tcl_expr.specs.declared.tree.Node.{Node}
use Rattle.tcl_expr.specs.declared.tree.Node.TheVariants as node
use Rattle.tcl_expression_evaluation.specs.Steps.{from}
use Rattle.tcl_expression_evaluation.specs.AtHand.{comes_to}

-- `$x + 1`
abbrev pub one_more : WordRead → List Node
one_more x = node.Operand (Substituted x) ∷ node.Operand (Literal (49 ∷ [])) ∷
    node.Binary operator.Add ∷ []

-- Where the variable holds 0x29, it comes to 42, in decimal.
abbrev pub OneMoreIs42 : Type 0
OneMoreIs42 = (style : Integers) (frames : Levels) (x : WordRead) (name : Bytes) →
    x.parts ≡ Variable name ∷ [] → read frames name ≡ Ok (48 ∷ 120 ∷ 50 ∷ 57 ∷ []) →
    comes_to frames (from style (one_more x) 0 []) ≡ Some (signed_decimal (pos 42))

-- Where the variable can't be read, it comes to nothing.
abbrev pub OneMoreThanNone : Type 0
OneMoreThanNone = (style : Integers) (frames : Levels) (x : WordRead) (name : Bytes)
    (fault : FrameFault) → x.parts ≡ Variable name ∷ [] → read frames name ≡ Err fault →
    comes_to frames (from style (one_more x) 0 []) ≡ None
