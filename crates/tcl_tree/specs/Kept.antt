-- What contracts see of expressions that are kept.
use Rattle.std.specs.Prelude.{◌≡◌, List, ℕ, Option, Some, None, Result, Ok, Err}
use Rattle.std.specs.declared.rc.Rc.{Rc}
use Rattle.tcl_expr.specs.Expressions.{expression_of}
use Rattle.tcl_expr.specs.declared.fault.ExprError.{ExprError}
use Rattle.tcl_expr.specs.declared.fault.ExprError.TheVariants as error
use Rattle.tcl_expr.specs.declared.fault.ExprFault.{ExprFault}
use Rattle.tcl_expr.specs.Trees.{Tree}
use Rattle.tcl_expr.specs.Code.{code_of}
use Rattle.tcl_expr.specs.declared.tree.ExprTree.{ExprTree}
use Rattle.tcl_expr.specs.declared.tree.Node.{Node}
use Rattle.tcl_text.specs.declared.integer.Integers.{Integers}

-- the steps of a tree that was read
abbrev pub steps_of : Result Tree ExprFault → Option (List Node)
steps_of (Ok t) = Some (code_of t)
steps_of (Err f) = None

-- the steps are those of the text's expression
abbrev pub IsTree : Integers → List ℕ → ExprTree → Type 0
IsTree style text kept = steps_of (expression_of style text) ≡ Some kept.nodes.items

-- What is given is the tree that was read, and what is refused is the fault.
abbrev pub Gives : {A : Type 0} → Result (Rc ExprTree A) ExprError → Result Tree ExprFault → Type 0
Gives (Ok kept) read = steps_of read ≡ Some kept.value.nodes.items
Gives (Err error.Memory) read = Unit {0}
Gives (Err (error.Fault f)) read = read ≡ Err f

-- a refusal is the fault of a text that is no expression, or want of memory
abbrev pub IsRefused : ExprError → Result Tree ExprFault → Type 0
IsRefused error.Memory read = Unit {0}
IsRefused (error.Fault f) read = read ≡ Err f
