-- Expressions that were read.
use Rattle.std.proofs.Common.{◌≡◌, ◌≤◌, true, List, [], Some, None, length, refl, sym, ap, ◌∙◌, arith}
use Rattle.std.specs.Prelude.{unwrap_or, Result, Ok, Err}
use Rattle.std.proofs.lemmas.Bool.Decides.{nat_tests}
use Rattle.tcl_core.specs.Paths.{Text}
use Rattle.tcl_expr.specs.Expressions.{expression_of}
use Rattle.tcl_expr.specs.declared.fault.ExprFault.{ExprFault}
use Rattle.tcl_expr.proofs.Decisions.{gives_tree}
use Rattle.tcl_expr.specs.Trees.{Tree}
use Rattle.tcl_expression_evaluation.specs.Steps.{from}
use Rattle.tcl_expression_evaluation.proofs.Trees.{steps_compute_trees}
use Rattle.tcl_tree.specs.Kept.{steps_of}
use Rattle.tcl_expr.specs.declared.tree.ExprTree.{ExprTree}
use Rattle.tcl_expr.specs.declared.tree.Node.{Node}
use Rattle.tcl_language.specs.Instructions.{fits}
use Rattle.tcl_text.specs.declared.integer.Integers.{Integers}
use Rattle.tcl_calls.specs.Expressions.{IsKept}

pub fits_within : (text : Text) → fits text ≡ true → length text ≤ 16777216
fits_within text h = grind (arith, nat_tests)

pub kept_is : (style : Integers) (text : Text) (kept : ExprTree) → steps_of (expression_of style text) ≡ Some kept.nodes.items → IsKept style text kept
kept_is style text kept h = by (expression_of style text) refl h
  where
    by : (read : Result Tree ExprFault) → expression_of style text ≡ read → steps_of read ≡ Some kept.nodes.items → IsKept style text kept
    by (Ok t) e k = (t, e, ap (λ (nodes : List Node). from style nodes 0 []) (sym (ap (λ o. unwrap_or o []) k)) ∙ steps_compute_trees style text t ((gives_tree style text t).0 e))
    by (Err f) e k = let clash : None ≡ Some kept.nodes.items = k in cc
