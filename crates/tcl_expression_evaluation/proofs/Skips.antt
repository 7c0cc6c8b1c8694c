-- The steps of a tree that are left out leave everything as it is.
use Rattle.std.proofs.Common.{◌≡◌, ◌∙◌, ap, ℕ, suc, true, List, [], ◌∷◌, ◌++◌, append_assoc}
use Rattle.tcl_text.specs.declared.integer.Integers.{Integers}
use Rattle.tcl_value.specs.Limits.{Bytes}
use Rattle.tcl_expr.specs.declared.operator.BinaryOperator.{BinaryOperator}
use Rattle.tcl_expr.specs.declared.operator.BinaryOperator.TheVariants as operator
use Rattle.tcl_expr.specs.Trees.{Tree, leaf, unary, binary, choice, first, also}
use Rattle.tcl_expr.specs.declared.tree.Node.{Node}
use Rattle.tcl_expr.specs.declared.tree.Node.TheVariants as node
use Rattle.tcl_expr.specs.Code.{mark, function_of, count_of, before, code_of}
use Rattle.tcl_expression_evaluation.specs.Steps.{leaving, goes}
use Rattle.tcl_expression_evaluation.specs.Laws.{takes_more, IsFormed}
use Rattle.tcl_expression_evaluation.proofs.Going.{goes_leaving}

-- ## The steps of each tree, and what follows them

pub one_code : (xs : List Node) (n : Node) (code : List Node) → (xs ++ n ∷ []) ++ code ≡ xs ++ (n ∷ code)
one_code xs n code = append_assoc xs (n ∷ []) code

pub two_code : (xs ys zs : List Node) (n : Node) (code : List Node) → (((xs ++ ys) ++ zs) ++ n ∷ []) ++ code ≡ xs ++ (ys ++ (zs ++ (n ∷ code)))
two_code xs ys zs n code = one_code ((xs ++ ys) ++ zs) n code ∙ append_assoc (xs ++ ys) zs (n ∷ code) ∙ append_assoc xs ys (zs ++ (n ∷ code))

pub three_code : (xs ys zs : List Node) (m n o : Node) (code : List Node) → (((((xs ++ m ∷ []) ++ ys) ++ n ∷ []) ++ zs) ++ o ∷ []) ++ code ≡ xs ++ (m ∷ (ys ++ (n ∷ (zs ++ (o ∷ code)))))
three_code xs ys zs m n o code =
    one_code ((((xs ++ m ∷ []) ++ ys) ++ n ∷ []) ++ zs) o code ∙ append_assoc (((xs ++ m ∷ []) ++ ys) ++ n ∷ []) zs (o ∷ code) ∙ one_code ((xs ++ m ∷ []) ++ ys) n (zs ++ (o ∷ code)) ∙
    append_assoc (xs ++ m ∷ []) ys (n ∷ (zs ++ (o ∷ code))) ∙ one_code xs m (ys ++ (n ∷ (zs ++ (o ∷ code))))

pub more_code : (xs ys : List Node) (n : Node) (code : List Node) → ((xs ++ ys) ++ n ∷ []) ++ code ≡ xs ++ (ys ++ (n ∷ code))
more_code xs ys n code = one_code (xs ++ ys) n code ∙ append_assoc xs ys (n ∷ code)

-- ## Leaving out

abbrev pub SkipsAll : List Node → Type 0
SkipsAll xs = (style : Integers) (code : List Node) (d : ℕ) (s : List Bytes) → goes style (xs ++ code) (leaving d) s ≡ goes style code (leaving d) s

pub record Skips (t : Tree) : Type 0 where
  pub whole : IsFormed t → SkipsAll (code_of t)
  pub calls : IsFormed t → takes_more t ≡ true → SkipsAll (before t)

-- an operator with what marks its second operand
past_second : (o : BinaryOperator) (style : Integers) (xs code : List Node) (d : ℕ) (s : List Bytes) → ((e : ℕ) → goes style xs (leaving e) s ≡ goes style (node.Binary o ∷ code) (leaving e) s) → goes style (mark o ++ xs) (leaving d) s ≡ goes style code (leaving d) s
past_second operator.And style xs code d s h = goes_leaving style (node.Needed operator.And) xs d s ∙ h (suc d) ∙ goes_leaving style (node.Binary operator.And) code (suc d) s
past_second operator.Or style xs code d s h = goes_leaving style (node.Needed operator.Or) xs d s ∙ h (suc d) ∙ goes_leaving style (node.Binary operator.Or) code (suc d) s
past_second o style xs code d s h = h d ∙ goes_leaving style (node.Binary o) code d s

pub skips : (t : Tree) → Skips t
unfolding before IsFormed
skips (leaf x) = record { whole = λ f style code d s. goes_leaving style (node.Operand x) code d s; calls = λ f m. absurd (cc) }
skips (unary o a) = record {
  whole = λ f style code d s. ap (λ c. goes style c (leaving d) s) (one_code (code_of a) (node.Unary o) code) ∙ (skips a).whole f style (node.Unary o ∷ code) d s ∙ goes_leaving style (node.Unary o) code d s;
  calls = λ f m. absurd (cc);
}
skips (binary o a b) = record {
  whole = λ f style code d s.
      ap (λ c. goes style c (leaving d) s) (two_code (code_of a) (mark o) (code_of b) (node.Binary o) code) ∙
      (skips a).whole f.0 style (mark o ++ (code_of b ++ (node.Binary o ∷ code))) d s ∙
      past_second o style (code_of b ++ (node.Binary o ∷ code)) code d s (λ e. (skips b).whole f.1 style (node.Binary o ∷ code) e s);
  calls = λ f m. absurd (cc);
}
skips (choice c a b) = record {
  whole = λ f style code d s.
      ap (λ x. goes style x (leaving d) s) (three_code (code_of c) (code_of a) (code_of b) node.Question node.Colon node.Choice code) ∙
      (skips c).whole f.0 style _ d s ∙ goes_leaving style node.Question _ d s ∙
      (skips a).whole f.1 style _ (suc d) s ∙ goes_leaving style node.Colon _ (suc d) s ∙
      (skips b).whole f.2 style _ (suc d) s ∙ goes_leaving style node.Choice code (suc d) s;
  calls = λ f m. absurd (cc);
}
skips (first g a) = record {
  whole = λ f style code d s. ap (λ c. goes style c (leaving d) s) (one_code (code_of a) (node.Call g 1) code) ∙ (skips a).whole f style (node.Call g 1 ∷ code) d s ∙ goes_leaving style (node.Call g 1) code d s;
  calls = λ f m style code d s. (skips a).whole f style code d s;
}
skips (also call a) = record {
  whole = λ f style code d s.
      ap (λ c. goes style c (leaving d) s) (more_code (before call) (code_of a) (node.Call (function_of call) (suc (count_of call))) code) ∙
      (skips call).calls f.1 f.0 style _ d s ∙ (skips a).whole f.2 style _ d s ∙ goes_leaving style (node.Call (function_of call) (suc (count_of call))) code d s;
  calls = λ f m style code d s. ap (λ c. goes style c (leaving d) s) (append_assoc (before call) (code_of a) code) ∙ (skips call).calls f.1 f.0 style _ d s ∙ (skips a).whole f.2 style code d s;
}
