-- What is kept of a text is the tree that it is, and what is refused its fault.
use Rattle.std.proofs.Common.{◌≡◌, ◌∙◌, refl, ℕ, List, Result, Ok, Err}
use Rattle.tcl_text.specs.declared.integer.Integers.{Integers}
use Rattle.tcl_expr.specs.Trees.{Tree}
use Rattle.tcl_expr.specs.declared.fault.ExprFault.{ExprFault}
use Rattle.tcl_expr.specs.declared.fault.ExprError.{ExprError}
use Rattle.tcl_expr.specs.declared.fault.ExprError.TheVariants as error
use Rattle.tcl_expr.specs.Expressions.{expression_of}
use Rattle.tcl_expr.proofs.Decisions.{gives_tree, gives_fault}
use Rattle.tcl_expr.specs.declared.tree.ExprTree.{ExprTree}
use Rattle.tcl_expr.specs.Parsing.{Keeps, IsRead}

by_read : (style : Integers) (s : List ℕ) (r : Result ExprTree ExprError) (e : Result Tree ExprFault) → expression_of style s ≡ e → Keeps r e → IsRead style s r
by_read style s (Ok kept) (Ok t) at h = (t, (gives_tree style s t).0 at, h)
by_read style s (Ok kept) (Err f) at h = absurd h
by_read style s (Err error.Memory) e at h = tt
by_read style s (Err (error.Fault f)) e at h = (gives_fault style s f).0 (at ∙ h)

pub is_read : (style : Integers) (s : List ℕ) (r : Result ExprTree ExprError) → Keeps r (expression_of style s) → IsRead style s r
is_read style s r h = by_read style s r (expression_of style s) refl h
