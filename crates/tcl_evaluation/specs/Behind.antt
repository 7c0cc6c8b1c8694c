-- Expressions whose first operand is a script in brackets that is a sum or an answer at hand, and
-- whose other operands are numbers at hand.
use Rattle.std.specs.Prelude.{◌≡◌, true, false, ℤ, List, [], ◌∷◌, Some}
use Rattle.tcl_core.specs.Paths.{Text, Path}
use Rattle.tcl_core.specs.Runs.{Ending}
use Rattle.tcl_core.specs.Trees.{Node}
use Rattle.tcl_expr.specs.declared.token.Leaf.TheVariants.{Substituted}
use Rattle.tcl_expr.specs.declared.tree.Node.{Node as Step}
use Rattle.tcl_expr.specs.declared.tree.Node.TheVariants.{Operand}
use Rattle.tcl_expression_evaluation.specs.AtHand.{IsNumberFrom}
use Rattle.tcl_expression_evaluation.specs.Steps.{from}
use Rattle.tcl_language.specs.Expressions.{computed}
use Rattle.tcl_language.specs.Instructions.{fits}
use Rattle.tcl_parser.specs.Reading.{read_script}
use Rattle.tcl_parser.specs.declared.script.Part.TheVariants.{Script}
use Rattle.tcl_run.specs.Language.{language}
use Rattle.tcl_run.specs.Runs.{IsAt, Proceeds, Ways}
use Rattle.tcl_text.specs.declared.integer.Integers.{Integers}
use Rattle.tcl_tree.specs.Own.{Own}
use Rattle.tcl_tree.specs.TreeOf.{tree_of, marks_of, Names}
use Rattle.tcl_tree.specs.declared.tree.Place.{Place}
use Rattle.tcl_tree.specs.declared.tree.Tree.{Tree as Table}
use Rattle.tcl_calls.specs.Expressions.{settles}
use Rattle.tcl_evaluation.specs.Hands.{IsCounted}

-- the steps of an expression whose first operand is a script in brackets
abbrev pub begins_with : Text → List Step → List Step
begins_with inner rest =
    Operand (Substituted (record { parts = Script inner ∷ []; expand = false })) ∷ rest

-- The first operand is a script in brackets that is a sum or an answer, which comes to a text; and
-- behind that, where it waits for its operator, the rest of the steps comes to the number.
pub record IsNumberBehind (style : Integers) (n : Node Own) (steps : List Step) (number : ℤ) :
    Type 0 where
  pub inner : Text
  pub rest : List Step
  pub are : steps ≡ begins_with inner rest
  pub text : Text
  pub short : fits text ≡ true
  pub counted : IsCounted style n (read_script inner) text
  pub comes : IsNumberFrom n.own.chain.frames style (text ∷ []) rest number

-- and so in the interpreter that a place names
abbrev pub IsNumberBehindIn : Table → Place → List Step → ℤ → Type 0
IsNumberBehindIn t place steps number = (p : Path) (n : Node Own) → Names t place p →
    tree_of t p ≡ Some n → IsNumberBehind (marks_of t).integers n steps number

-- each such expression is computed so far, to the end that its number has
abbrev pub ComputesBehind : {S : Type 0} → Ways S → Table → S → Place → Table → S →
    (ℤ → Ending) → Type 0
ComputesBehind ways old o place new z end = (p : Path) (style : Integers) (n : Node Own) →
    IsAt old place p style → tree_of old p ≡ Some n → (steps : List Step) (number : ℤ) →
    IsNumberBehind style n steps number →
    Proceeds ways (language style) (tree_of old) o p (computed (from style steps 0 [])
    (settles style)) (tree_of new) z (end number)
