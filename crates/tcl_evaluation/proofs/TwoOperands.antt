-- What operands of expressions come to, and expressions of two operands.
use Rattle.std.proofs.Common.{◌≡◌, ◌∙◌, pos, [], Some, refl, ap, subst}
use Rattle.std.specs.Prelude.{Result, Ok, Err, IfOk, IfErr, MatchResult}
use Rattle.tcl_core.specs.Endings.{Completion, Reply}
use Rattle.tcl_core.specs.Endings.Reply.{Completed}
use Rattle.tcl_core.specs.Paths.{Text, Path}
use Rattle.tcl_core.specs.Runs.{Ending}
use Rattle.tcl_core.specs.Trees.{Tree}
use Rattle.tcl_expr.specs.declared.operator.BinaryOperator.{BinaryOperator}
use Rattle.tcl_expr.specs.declared.token.Leaf.{Leaf}
use Rattle.tcl_expr.specs.declared.tree.ExprTree.{ExprTree}
use Rattle.tcl_expression_evaluation.specs.Apply.{Outcome, apply_binary}
use Rattle.tcl_expression_evaluation.specs.AtHand.{steps_of_two}
use Rattle.tcl_expression_evaluation.specs.Computations.{value, operand, and_then}
use Rattle.tcl_expression_evaluation.specs.Messages.{message_of as operator_message}
use Rattle.tcl_expression_evaluation.specs.Steps.{from}
use Rattle.tcl_expression_evaluation.proofs.Going.{two_steps}
use Rattle.tcl_language.specs.Expressions.{computed, expression}
use Rattle.tcl_language.specs.Instructions.{Program, or_fails}
use Rattle.tcl_run.specs.Ends.{Breaks, IfRan, IsText, OnCompletion, Stays}
use Rattle.tcl_run.specs.Language.{language}
use Rattle.tcl_run.specs.Runs.{IsHere, Proceeds, Ways}
use Rattle.tcl_run.specs.declared.interruption.Interruption.{Interruption}
use Rattle.tcl_run.proofs.Endings.{Breaks-more, ran_text}
use Rattle.tcl_run.proofs.Proceeding.{at_prog}
use Rattle.tcl_text.specs.declared.integer.Integers.{Integers}
use Rattle.tcl_tree.specs.Own.{Own}
use Rattle.tcl_tree.specs.declared.tree.Place.{Place as TablePlace}
use Rattle.tcl_tree.specs.declared.tree.Tree.{Tree as Table}
use Rattle.tcl_calls.specs.Expressions.{IsKept, settles, settles_two}
use Rattle.tcl_calls.specs.Words.{EndsBy}
use Rattle.tcl_evaluation.proofs.Computing.{computes_kept}
use Rattle.tcl_evaluation.proofs.Conditions.{ends_by}
use Rattle.tcl_evaluation.proofs.Staying.{here_text}
use Rattle.tcl_evaluation.proofs.Steps.{stays_of}

-- ## An operand that is substituted

-- the text that it came to, or the end that is its caller's own
pub passed_on : (ended r : Result Text Interruption) (P R : Ending → Type 0) (Q : Text → Type 0) → IfOk r (IsText ended) → IfErr r (λ i. ended ≡ Err i) → IfErr r (λ i. Breaks i Stays) → IfRan ended P →
    ((c : Completion) (text : Text) → c.code ≡ pos 0 → c.text ≡ text → P (Some (Completed c)) → Q text) → ((e : Ending) → P e → Stays e → R e) → MatchResult r Q (λ i. Breaks i R)
passed_on ended (Ok text) P R Q is same stays h k l = let x = ran_text ended text P is h in k x.0 text x.2 x.3 x.1
passed_on ended (Err i) P R Q is same stays h k l = Breaks-more i (λ e. P e × Stays e) R (λ e g. l e g.0 g.1) (stays_of ended i P same h stays)

pub here_on : (ended r : Result Text Interruption) (s t : Table) (place : TablePlace) → IfOk r (IsText ended) → IfErr r (λ i. ended ≡ Err i) → OnCompletion ended (IsHere s t place) → OnCompletion r (IsHere s t place)
here_on ended (Ok text) s t place is same h = here_text ended text s t place is h
here_on ended (Err i) s t place is same h = subst (λ (x : Result Text Interruption). OnCompletion x (IsHere s t place)) same h

-- ## Two operands and an operator

or_refused : (r : Outcome) (k : Text → Program) → computed (and_then r value) k ≡ or_fails operator_message r k
or_refused (Ok v) k = refl
or_refused (Err f) k = refl

module _ {S : Type 0} {ways : Ways S} (style : Integers) where
  pub two_kept : {T V : Tree Own} {o z : S} {p : Path} {e : Ending} (l r : Leaf) (b : BinaryOperator) (text : Text) (kept : ExprTree) → kept.nodes.items ≡ steps_of_two l b r → IsKept style text kept →
      Proceeds ways (language style) T o p (computed (operand l (λ x. operand r (λ y. and_then (apply_binary style b x y) value))) (settles style)) V z e → Proceeds ways (language style) T o p (expression style text) V z e
  two_kept l r b text kept nodes is t =
      computes_kept style text kept is (at_prog (ap (λ c. computed c (settles style)) (ap (λ ns. from style ns 0 []) nodes ∙ two_steps style l r b)) t)

  pub two_end : {T : Tree Own} {o : S} {p : Path} (s : Integers) (b : BinaryOperator) (x y : Text) (e : Reply) → s ≡ style → EndsBy (settles_two s b x y) e →
      Proceeds ways (language style) T o p (computed (and_then (apply_binary style b x y) value) (settles style)) T o (Some e)
  two_end s b x y e same h = at_prog (or_refused (apply_binary style b x y) (settles style)) (ends_by style (settles_two style b x y) e (subst (λ (i : Integers). EndsBy (settles_two i b x y) e) same h))
