-- Worked examples.
use Rattle.std.proofs.Common.{◌≡◌, ◌∙◌, ap, [], ◌∷◌, Err, None, arith}
use Rattle.tcl_text.specs.declared.integer.Integers.{Integers}
use Rattle.tcl_text.specs.declared.integer.Integers.TheVariants.{Tcl8, Tcl9}
use Rattle.tcl_expr.specs.declared.operator.BinaryOperator.TheVariants as operator
use Rattle.tcl_expr.specs.declared.token.Leaf.TheVariants.{Literal}
use Rattle.tcl_expr.specs.declared.tree.Node.TheVariants as node
use Rattle.tcl_parser.specs.Words.{WordRead}
use Rattle.tcl_parser.specs.declared.script.Part.TheVariants.{Variable}
use Rattle.tcl_value.specs.Limits.{Bytes}
use Rattle.tcl_frames.specs.declared.fault.FrameFault.{FrameFault}
use Rattle.tcl_frames.specs.Places.{Levels}
use Rattle.tcl_frames.specs.Chain.{read}
use Rattle.tcl_expression_evaluation.specs.Computations.{Computation, substitute}
use Rattle.tcl_expression_evaluation.specs.Steps.{doing, goes}
use Rattle.tcl_expression_evaluation.specs.AtHand.{comes_to, given, text_read, operand_value}
use Rattle.tcl_expression_evaluation.specs.NumberLaws.{OneMoreIs42, OneMoreThanNone}
use Rattle.tcl_expression_evaluation.proofs.UnderWay.{variable_at}

-- what is computed with the variable's value
abbrev plus_one : Integers → Bytes → Computation
plus_one style v = goes style (node.Operand (Literal (49 ∷ [])) ∷ node.Binary operator.Add ∷ []) doing (v ∷ [])

pub one_more_is_42 : OneMoreIs42
unfolding goes
one_more_is_42 Tcl8 frames x name is holds = variable_at frames x name (48 ∷ 120 ∷ 50 ∷ 57 ∷ []) (plus_one Tcl8) is holds (omega arith)
one_more_is_42 Tcl9 frames x name is holds = variable_at frames x name (48 ∷ 120 ∷ 50 ∷ 57 ∷ []) (plus_one Tcl9) is holds (omega arith)

none_at : (frames : Levels) (word : WordRead) (name : Bytes) (fault : FrameFault) (next : Bytes → Computation) → word.parts ≡ Variable name ∷ [] → read frames name ≡ Err fault → comes_to frames (substitute word next) ≡ None
none_at frames word name fault next is fails =
    ap (λ parts. given (operand_value frames parts) (λ t. comes_to frames (next t))) is ∙ ap (λ r. given (text_read r) (λ t. comes_to frames (next t))) fails

pub one_more_than_none : OneMoreThanNone
unfolding goes
one_more_than_none style frames x name fault is fails = none_at frames x name fault (plus_one style) is fails
