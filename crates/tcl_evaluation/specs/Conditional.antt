-- What contracts see of expressions that were read, of conditions, and of the turns of loops.
use Rattle.std.specs.Prelude.{ℕ, Bool, true, false, List, [], Some, Result}
use Rattle.tcl_core.specs.Endings.{ok}
use Rattle.tcl_core.specs.Endings.Reply.{Completed}
use Rattle.tcl_core.specs.Paths.{Path}
use Rattle.tcl_core.specs.Runs.{Ending}
use Rattle.tcl_core.specs.Trees.{Tree}
use Rattle.tcl_expr.specs.declared.token.Leaf.{Leaf}
use Rattle.tcl_expr.specs.declared.tree.ExprTree.{ExprTree}
use Rattle.tcl_expression_evaluation.specs.Computations.{Computation, operand}
use Rattle.tcl_language.specs.Control.{after_body}
use Rattle.tcl_language.specs.Expressions.{computed, expression, condition, turn}
use Rattle.tcl_language.specs.Instructions.{Program}
use Rattle.tcl_run.specs.Language.{language}
use Rattle.tcl_run.specs.Ends.{IfRan}
use Rattle.tcl_run.specs.Runs.{IsAt, Proceeds, Ways}
use Rattle.tcl_run.specs.declared.interruption.Interruption.{Interruption}
use Rattle.tcl_text.specs.declared.integer.Integers.{Integers}
use Rattle.tcl_tree.specs.Own.{Own}
use Rattle.tcl_tree.specs.TreeOf.{tree_of}
use Rattle.tcl_tree.specs.declared.tree.Place.{Place}
use Rattle.tcl_tree.specs.declared.tree.Tree.{Tree as Table}
use Rattle.tcl_calls.specs.Expressions.{IsKept}

-- How an expression that was read ends: as each text does that it is.
abbrev pub ComputesTo : {S : Type 0} → Ways S → Table → S → Place → ExprTree → Table → S → Ending →
    Type 0
ComputesTo ways old o place kept new z e = (p : Path) (style : Integers) → IsAt old place p style →
    (text : List ℕ) → IsKept style text kept →
    Proceeds ways (language style) (tree_of old) o p (expression style text) (tree_of new) z e

-- what came of it
abbrev pub Computes : {S : Type 0} → Ways S → Table → S → Place → ExprTree → Table → S →
    Result (List ℕ) Interruption → Type 0
Computes ways old o place kept new z result = IfRan result (ComputesTo ways old o place kept new z)

-- An operand has this value: what is computed with it goes on from there.
abbrev pub OperandGoes : {S : Type 0} → Ways S → Table → S → Place → Leaf → Table → S → List ℕ →
    Type 0
OperandGoes {S} ways old o place leaf new z v = (p : Path) (style : Integers) →
    IsAt old place p style → (next : List ℕ → Computation) (k : List ℕ → Program) (V : Tree Own)
    (y : S) (e : Ending) →
    Proceeds ways (language style) (tree_of new) z p (computed (next v) k) V y e →
    Proceeds ways (language style) (tree_of old) o p (computed (operand leaf next) k) V y e

-- It ended what was to be computed.
abbrev pub OperandBreaks : {S : Type 0} → Ways S → Table → S → Place → Leaf → Table → S → Ending →
    Type 0
OperandBreaks ways old o place leaf new z e = (p : Path) (style : Integers) →
    IsAt old place p style → (next : List ℕ → Computation) (k : List ℕ → Program) →
    Proceeds ways (language style) (tree_of old) o p (computed (operand leaf next) k) (tree_of new)
    z e

-- A condition that was read holds, or doesn't: what comes behind goes on from there.
abbrev pub TestGoes : {S : Type 0} → Ways S → Table → S → Place → ExprTree → Table → S → Bool →
    Type 0
TestGoes {S} ways old o place kept new z holds = (p : Path) (style : Integers) →
    IsAt old place p style → (text : List ℕ) → IsKept style text kept →
    (k : Bool → Program) (V : Tree Own) (y : S) (e : Ending) →
    Proceeds ways (language style) (tree_of new) z p (k holds) V y e →
    Proceeds ways (language style) (tree_of old) o p (condition style text k) V y e

-- It ended what was to come behind.
abbrev pub TestBreaks : {S : Type 0} → Ways S → Table → S → Place → ExprTree → Table → S → Ending →
    Type 0
TestBreaks ways old o place kept new z e = (p : Path) (style : Integers) → IsAt old place p style →
    (text : List ℕ) → IsKept style text kept → (k : Bool → Program) →
    Proceeds ways (language style) (tree_of old) o p (condition style text k) (tree_of new) z e

-- a turn, behind which that comes
abbrev pub turn_then : Integers → List ℕ → List ℕ → Program → Program
turn_then style test body more = turn style test body (λ c. after_body c.code c more)

-- A turn of a loop went by, and what comes behind goes on from there; or the loop is over.
abbrev pub TurnGoes : {S : Type 0} → Ways S → Table → S → Place → ExprTree → List ℕ → Table → S →
    Bool → Type 0
TurnGoes {S} ways old o place kept body new z true = (p : Path) (style : Integers) →
    IsAt old place p style → (test : List ℕ) → IsKept style test kept →
    (more : Program) (V : Tree Own) (y : S) (e : Ending) →
    Proceeds ways (language style) (tree_of new) z p more V y e →
    Proceeds ways (language style) (tree_of old) o p (turn_then style test body more) V y e
TurnGoes ways old o place kept body new z false = (p : Path) (style : Integers) →
    IsAt old place p style → (test : List ℕ) → IsKept style test kept → (more : Program) →
    Proceeds ways (language style) (tree_of old) o p (turn_then style test body more) (tree_of new)
    z (Some (Completed (ok [])))

-- It ended the loop.
abbrev pub TurnBreaks : {S : Type 0} → Ways S → Table → S → Place → ExprTree → List ℕ → Table → S →
    Ending → Type 0
TurnBreaks ways old o place kept body new z e = (p : Path) (style : Integers) →
    IsAt old place p style → (test : List ℕ) → IsKept style test kept → (more : Program) →
    Proceeds ways (language style) (tree_of old) o p (turn_then style test body more) (tree_of new)
    z e
