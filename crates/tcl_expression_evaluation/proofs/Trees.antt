-- The steps of a tree compute what the tree computes.
use Rattle.std.proofs.Common.{◌≡◌, ◌∙◌, sym, ap, refl, ℕ, suc, Bool, true, false, List, [], ◌∷◌, ◌++◌, length, length-append, append_assoc, Result, arith}
use Rattle.std.proofs.Math.Path.{fun_ext}
use Rattle.std.proofs.lemmas.List.{append-nil}
use Rattle.tcl_text.specs.declared.integer.Integers.{Integers}
use Rattle.tcl_value.specs.Limits.{Bytes}
use Rattle.tcl_expr.specs.declared.operator.BinaryOperator.{BinaryOperator}
use Rattle.tcl_expr.specs.declared.operator.BinaryOperator.TheVariants as operator
use Rattle.tcl_expr.specs.declared.operator.Function.{Function}
use Rattle.tcl_expr.specs.declared.operator.UnaryOperator.{UnaryOperator}
use Rattle.tcl_expr.specs.Trees.{Tree, leaf, unary, binary, choice, first, also}
use Rattle.tcl_expression_evaluation.specs.Apply.{truth, answer, apply_unary, apply_binary}
use Rattle.tcl_expr.specs.declared.tree.Node.{Node}
use Rattle.tcl_expr.specs.declared.tree.Node.TheVariants as node
use Rattle.tcl_expr.specs.Code.{mark, function_of, count_of, before, code_of}
use Rattle.tcl_expression_evaluation.specs.Computations.{Computation, value, and_then, decided, needing, call, computes, arguments}
use Rattle.tcl_expression_evaluation.specs.Steps.{top, below, without, doing, leaving, passed, goes}
use Rattle.tcl_expression_evaluation.specs.Laws.{takes_more, IsFormed, StepsComputeTrees}
use Rattle.tcl_expression_evaluation.proofs.Stacks.{top_push, below_push, last_push, without_push}
use Rattle.tcl_expression_evaluation.proofs.Going.{goes_nil, goes_doing, goes_leaving}
use Rattle.tcl_expression_evaluation.proofs.Skips.{one_code, two_code, three_code, more_code, skips}
use Rattle.tcl_expression_evaluation.proofs.Forms.{trees_are_formed}

-- the rest, with a value more
abbrev pub rest : Integers → List Node → List Bytes → Bytes → Computation
rest style code s v = goes style code doing (s ++ v ∷ [])

-- ## Each last step

unary_step : (style : Integers) (o : UnaryOperator) (code : List Node) (s : List Bytes) (x : Bytes) → goes style (node.Unary o ∷ code) doing (s ++ x ∷ []) ≡ and_then (apply_unary style o x) (rest style code s)
unary_step style o code s x =
    goes_doing style (node.Unary o) code (s ++ x ∷ []) ∙ ap (λ y. and_then (apply_unary style o y) (rest style code (below (s ++ x ∷ [])))) (top_push s x) ∙
    ap (λ t. and_then (apply_unary style o x) (rest style code t)) (below_push s x)

binary_step : (style : Integers) (o : BinaryOperator) (code : List Node) (s : List Bytes) (x y : Bytes) → goes style (node.Binary o ∷ code) doing ((s ++ x ∷ []) ++ y ∷ []) ≡ and_then (apply_binary style o x y) (rest style code s)
binary_step style o code s x y =
    let t = (s ++ x ∷ []) ++ y ∷ [] in
    goes_doing style (node.Binary o) code t ∙
    ap (λ z. and_then (apply_binary style o (top (below t)) z) (rest style code (below (below t)))) (top_push (s ++ x ∷ []) y) ∙
    ap (λ u. and_then (apply_binary style o (top u) y) (rest style code (below u))) (below_push (s ++ x ∷ []) y) ∙
    ap (λ z. and_then (apply_binary style o z y) (rest style code (below (s ++ x ∷ [])))) (top_push s x) ∙
    ap (λ u. and_then (apply_binary style o x y) (rest style code u)) (below_push s x)

call_step : (style : Integers) (f : Function) (n : ℕ) (code : List Node) (s xs : List Bytes) → length xs ≡ n → goes style (node.Call f n ∷ code) doing (s ++ xs) ≡ and_then (call style f xs) (rest style code s)
call_step style f n code s xs h =
    goes_doing style (node.Call f n) code (s ++ xs) ∙ ap (λ ys. and_then (call style f ys) (rest style code (without n (s ++ xs)))) (last_push s xs n h) ∙
    ap (λ t. and_then (call style f xs) (rest style code t)) (without_push s xs n h)

decided_as : (r : Result Bool _) (a b c d : Computation) → a ≡ c → b ≡ d → decided r a b ≡ decided r c d
decided_as r a b c d h k = ap (λ y. decided r y b) h ∙ ap (λ y. decided r c y) k

question_step : (style : Integers) (code : List Node) (s : List Bytes) (x : Bytes) → goes style (node.Question ∷ code) doing (s ++ x ∷ []) ≡ decided (truth style x) (goes style code doing s) (goes style code (leaving 0) s)
question_step style code s x =
    goes_doing style node.Question code (s ++ x ∷ []) ∙ ap (λ y. decided (truth style y) (goes style code doing (below (s ++ x ∷ []))) (goes style code (leaving 0) (below (s ++ x ∷ [])))) (top_push s x) ∙
    ap (λ t. decided (truth style x) (goes style code doing t) (goes style code (leaving 0) t)) (below_push s x)

-- what marks the second operand
needed_step : (style : Integers) (o : BinaryOperator) (code : List Node) (s : List Bytes) (x : Bytes) → goes style (node.Needed o ∷ code) doing (s ++ x ∷ []) ≡ needing style o x (goes style code doing (s ++ x ∷ [])) (λ v. goes style code (leaving 0) (s ++ v ∷ []))
needed_step style o code s x =
    let t = s ++ x ∷ [] in
    goes_doing style (node.Needed o) code t ∙
    ap (λ y. needing style o y (goes style code doing (below t ++ y ∷ [])) (λ v. goes style code (leaving 0) (below t ++ v ∷ []))) (top_push s x) ∙
    ap (λ u. needing style o x (goes style code doing (u ++ x ∷ [])) (λ v. goes style code (leaving 0) (u ++ v ∷ []))) (below_push s x)

second : (o : BinaryOperator) (style : Integers) (xs code : List Node) (s : List Bytes) (x : Bytes) (c : Computation) → goes style xs doing (s ++ x ∷ []) ≡ c →
    ((v : Bytes) → goes style xs (leaving 0) (s ++ v ∷ []) ≡ goes style code (passed (node.Binary o) 0) (s ++ v ∷ [])) → goes style (mark o ++ xs) doing (s ++ x ∷ []) ≡ needing style o x c (rest style code s)
second operator.And style xs code s x c h k = needed_step style operator.And xs s x ∙ decided_as (truth style x) _ _ _ _ h (k (answer false))
second operator.Or style xs code s x c h k = needed_step style operator.Or xs s x ∙ decided_as (truth style x) _ _ _ _ (k (answer true)) h
second o style xs code s x c h k = h

-- ## Trees

pub record Runs (t : Tree) : Type 0 where
  pub whole : IsFormed t → (style : Integers) (code : List Node) (s : List Bytes) → goes style (code_of t ++ code) doing s ≡ computes style t (rest style code s)
  pub calls : IsFormed t → takes_more t ≡ true → (style : Integers) (code : List Node) (s : List Bytes) (k : List Bytes → Computation) →
      ((xs : List Bytes) → length xs ≡ count_of t → goes style code doing (s ++ xs) ≡ k xs) → goes style (before t ++ code) doing s ≡ arguments style t k

-- and then, whatever comes
pub goes_on : (style : Integers) (a : Tree) (j k : Bytes → Computation) → ((x : Bytes) → j x ≡ k x) → computes style a j ≡ computes style a k
goes_on style a j k h = ap (computes style a) (fun_ext h)

longer : (xs : List Bytes) (x : Bytes) (n : ℕ) → length xs ≡ n → length (xs ++ x ∷ []) ≡ suc n
longer xs x n h = omega (arith, h, length-append xs (x ∷ []))

pub runs : (t : Tree) → Runs t
unfolding before IsFormed computes arguments
runs (leaf x) = record { whole = λ f style code s. goes_doing style (node.Operand x) code s; calls = λ f m. absurd (cc) }
runs (unary o a) = record {
  whole = λ f style code s.
      ap (λ c. goes style c doing s) (one_code (code_of a) (node.Unary o) code) ∙ (runs a).whole f style (node.Unary o ∷ code) s ∙
      goes_on style a (rest style (node.Unary o ∷ code) s) (λ x. and_then (apply_unary style o x) (rest style code s)) (unary_step style o code s);
  calls = λ f m. absurd (cc);
}
runs (binary o a b) = record {
  whole = λ f style code s.
      ap (λ c. goes style c doing s) (two_code (code_of a) (mark o) (code_of b) (node.Binary o) code) ∙ (runs a).whole f.0 style (mark o ++ (code_of b ++ (node.Binary o ∷ code))) s ∙
      goes_on style a (rest style (mark o ++ (code_of b ++ (node.Binary o ∷ code))) s) (λ x. needing style o x (computes style b (λ y. and_then (apply_binary style o x y) (rest style code s))) (rest style code s))
      (λ x. second o style (code_of b ++ (node.Binary o ∷ code)) code s x (computes style b (λ y. and_then (apply_binary style o x y) (rest style code s)))
      ((runs b).whole f.1 style (node.Binary o ∷ code) (s ++ x ∷ []) ∙ goes_on style b (rest style (node.Binary o ∷ code) (s ++ x ∷ [])) (λ y. and_then (apply_binary style o x y) (rest style code s)) (binary_step style o code s x))
      (λ v. (skips b).whole f.1 style (node.Binary o ∷ code) 0 (s ++ v ∷ []) ∙ goes_leaving style (node.Binary o) code 0 (s ++ v ∷ [])));
  calls = λ f m. absurd (cc);
}
runs (choice c a b) = record {
  whole = λ f style code s.
      let third = code_of b ++ (node.Choice ∷ code) in
      let later = code_of a ++ (node.Colon ∷ third) in
      ap (λ x. goes style x doing s) (three_code (code_of c) (code_of a) (code_of b) node.Question node.Colon node.Choice code) ∙ (runs c).whole f.0 style (node.Question ∷ later) s ∙
      goes_on style c (rest style (node.Question ∷ later) s) (λ x. decided (truth style x) (computes style a (rest style code s)) (computes style b (rest style code s)))
      (λ x. question_step style later s x ∙ decided_as (truth style x) _ _ _ _
      ((runs a).whole f.1 style (node.Colon ∷ third) s ∙ goes_on style a (rest style (node.Colon ∷ third) s) (rest style code s)
      (λ v. goes_doing style node.Colon third (s ++ v ∷ []) ∙ (skips b).whole f.2 style (node.Choice ∷ code) 0 (s ++ v ∷ []) ∙ goes_leaving style node.Choice code 0 (s ++ v ∷ [])))
      ((skips a).whole f.1 style (node.Colon ∷ third) 0 s ∙ goes_leaving style node.Colon third 0 s ∙ (runs b).whole f.2 style (node.Choice ∷ code) s ∙
      goes_on style b (rest style (node.Choice ∷ code) s) (rest style code s) (λ v. goes_doing style node.Choice code (s ++ v ∷ []))));
  calls = λ f m. absurd (cc);
}
runs (first g a) = record {
  whole = λ f style code s.
      ap (λ c. goes style c doing s) (one_code (code_of a) (node.Call g 1) code) ∙ (runs a).whole f style (node.Call g 1 ∷ code) s ∙
      goes_on style a (rest style (node.Call g 1 ∷ code) s) (λ x. and_then (call style g (x ∷ [])) (rest style code s)) (λ x. call_step style g 1 code s (x ∷ []) refl);
  calls = λ f m style code s k h. (runs a).whole f style code s ∙ goes_on style a (rest style code s) (λ x. k (x ∷ [])) (λ x. h (x ∷ []) refl);
}
runs (also c a) = record {
  whole = λ f style code s.
      let n = node.Call (function_of c) (suc (count_of c)) in
      ap (λ x. goes style x doing s) (more_code (before c) (code_of a) n code) ∙
      (runs c).calls f.1 f.0 style (code_of a ++ (n ∷ code)) s (λ xs. computes style a (λ x. and_then (call style (function_of c) (xs ++ x ∷ [])) (rest style code s)))
      (λ xs h. (runs a).whole f.2 style (n ∷ code) (s ++ xs) ∙ goes_on style a (rest style (n ∷ code) (s ++ xs)) (λ x. and_then (call style (function_of c) (xs ++ x ∷ [])) (rest style code s))
      (λ x. ap (goes style (n ∷ code) doing) (append_assoc s xs (x ∷ [])) ∙ call_step style (function_of c) (suc (count_of c)) code s (xs ++ x ∷ []) (longer xs x (count_of c) h)));
  calls = λ f m style code s k h.
      ap (λ x. goes style x doing s) (append_assoc (before c) (code_of a) code) ∙
      (runs c).calls f.1 f.0 style (code_of a ++ code) s (λ xs. computes style a (λ x. k (xs ++ x ∷ [])))
      (λ xs e. (runs a).whole f.2 style code (s ++ xs) ∙ goes_on style a (rest style code (s ++ xs)) (λ x. k (xs ++ x ∷ []))
      (λ x. ap (goes style code doing) (append_assoc s xs (x ∷ [])) ∙ h (xs ++ x ∷ []) (longer xs x (count_of c) e)));
}

pub steps_compute_trees : StepsComputeTrees
steps_compute_trees style s t is =
    ap (λ c. goes style c doing []) (sym (append-nil (code_of t))) ∙ (runs t).whole (trees_are_formed style s t is) style [] [] ∙
    goes_on style t (rest style [] []) value (λ v. goes_nil style doing (v ∷ []))
