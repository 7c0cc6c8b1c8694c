-- What expressions come to whose first operand is a script in brackets that is counted.
use Rattle.std.proofs.Common.{◌≡◌, ℤ, false, List, [], ◌∷◌, Some, refl, sym, ◌∙◌, ap, subst}
use Rattle.std.specs.Fmt.{signed_decimal}
use Rattle.tcl_core.specs.Endings.{ok}
use Rattle.tcl_core.specs.Endings.Reply.{Completed}
use Rattle.tcl_core.specs.Paths.{Text, Path}
use Rattle.tcl_core.specs.Runs.{Ending}
use Rattle.tcl_core.specs.Trees.{Tree, Node}
use Rattle.tcl_expr.specs.declared.tree.ExprTree.{ExprTree}
use Rattle.tcl_expr.specs.declared.tree.Node.{Node as Step}
use Rattle.tcl_expression_evaluation.specs.AtHand.{IsNumberFrom}
use Rattle.tcl_expression_evaluation.specs.Computations.{Computation, substitute}
use Rattle.tcl_expression_evaluation.specs.Steps.{from}
use Rattle.tcl_expression_evaluation.proofs.UnderWay.{first_substituted}
use Rattle.tcl_language.specs.Expressions.{computed}
use Rattle.tcl_parser.specs.Reading.{read_script}
use Rattle.tcl_parser.specs.Words.{WordRead}
use Rattle.tcl_parser.specs.declared.script.Part.TheVariants.{Script}
use Rattle.tcl_run.proofs.Proceeding.{at_prog, completed}
use Rattle.tcl_run.proofs.Steady.{stands}
use Rattle.tcl_run.specs.Ends.{Stays}
use Rattle.tcl_run.specs.Language.{language}
use Rattle.tcl_run.specs.Runs.{Proceeds, Ways}
use Rattle.tcl_text.specs.declared.integer.Integers.{Integers}
use Rattle.tcl_tree.specs.Own.{Own}
use Rattle.tcl_tree.proofs.CoreLemmas.{tree_there}
use Rattle.tcl_tree.specs.TreeOf.{tree_of, marks_of}
use Rattle.tcl_tree.specs.declared.tree.Place.{Place as TablePlace}
use Rattle.tcl_tree.specs.declared.tree.Tree.{Tree as Table}
use Rattle.tcl_calls.specs.Expressions.{settles}
use Rattle.tcl_evaluation.specs.Behind.{ComputesBehind, IsNumberBehind, IsNumberBehindIn}
use Rattle.tcl_evaluation.specs.Conditional.{ComputesTo}
use Rattle.tcl_evaluation.specs.Hands.{KeepsOwn}
use Rattle.tcl_evaluation.specs.Scripts.{read_so}
use Rattle.tcl_evaluation.specs.Sums.{Sums}
use Rattle.tcl_evaluation.proofs.Computing.{computes_kept, number_settles, part_goes}
use Rattle.tcl_evaluation.proofs.Conditions.{part_stays}
use Rattle.tcl_evaluation.proofs.HandPlainly.{there_at}
use Rattle.tcl_evaluation.proofs.Steps.{script_goes, script_stays}

-- the word that a script in brackets is
abbrev bracket : Text → WordRead
bracket inner = record { parts = Script inner ∷ []; expand = false }

-- such an expression substitutes its script, and behind that the rest comes
begins : (style : Integers) (n : Node Own) (steps : List Step) (number : ℤ) (b : IsNumberBehind style n steps number) →
    from style steps 0 [] ≡ substitute (bracket b.inner) (λ v. from style b.rest 0 (v ∷ []))
begins style n steps number b = ap (λ (s : List Step). from style s 0 []) b.are ∙ first_substituted style (bracket b.inner) b.rest

module _ {S : Type 0} {ways : Ways S} (style : Integers) where
  -- the script is counted, which changes no own part, and the rest comes to the number
  counted_goes : {T U : Tree Own} {o u : S} {p : Path} {n m : Node Own} (steps : List Step) (number : ℤ) (b : IsNumberBehind style n steps number) →
      Proceeds ways (language style) T o p (read_so (read_script b.inner)) U u (Some (Completed (ok b.text))) → U p ≡ Some m → m.own ≡ n.own →
      Proceeds ways (language style) T o p (computed (from style steps 0 []) (settles style)) U u (Some (Completed (ok (signed_decimal number))))
  counted_goes {n = n} {m = m} steps number b t there same =
      let comes : IsNumberFrom m.own.chain.frames style (b.text ∷ []) b.rest number = subst (λ (x : Own). IsNumberFrom x.chain.frames style (b.text ∷ []) b.rest number) (sym same) b.comes in
      at_prog (ap (λ (c : Computation). computed c (settles style)) (begins style n steps number b))
      (part_goes style (bracket b.inner) (λ v. from style b.rest 0 (v ∷ [])) (settles style) (ok b.text) b.text refl refl
      (script_goes style b.inner b.text [] [] [] (ok b.text) refl refl t b.short completed)
      (number_settles style (from style b.rest 0 (b.text ∷ [])) comes.0 number (signed_decimal number) there comes.1 comes.2 refl))

  -- the script ends it
  counted_ends : {T U : Tree Own} {o u : S} {p : Path} {n : Node Own} (steps : List Step) (number : ℤ) (b : IsNumberBehind style n steps number) (e : Ending) → Stays e →
      Proceeds ways (language style) T o p (read_so (read_script b.inner)) U u e → Proceeds ways (language style) T o p (computed (from style steps 0 []) (settles style)) U u e
  counted_ends {n = n} steps number b e stays t =
      at_prog (ap (λ (c : Computation). computed c (settles style)) (begins style n steps number b))
      (part_stays style (bracket b.inner) (λ v. from style b.rest 0 (v ∷ [])) (settles style) e stays (script_stays style b.inner [] [] [] e stays t))

-- where the script was counted, each such expression comes to its number
pub behind_goes : {S : Type 0} (ways : Ways S) (old new : Table) (o z : S) (place : TablePlace) → Sums ways old o place new z (λ text. Some (Completed (ok text))) → KeepsOwn old new place →
    ComputesBehind ways old o place new z (λ n. Some (Completed (ok (signed_decimal n))))
behind_goes ways old new o z place sums own = λ p style n at there steps number b.
    let kept = own p n at.names there in
    counted_goes style steps number b (sums p style n (there_at old place p style at) there (read_script b.inner) b.text b.counted) kept.1 kept.2

-- where it was refused, each ends so
pub behind_ends : {S : Type 0} (ways : Ways S) (old new : Table) (o z : S) (place : TablePlace) (e : Ending) → Stays e → Sums ways old o place new z (λ text. e) → ComputesBehind ways old o place new z (λ n. e)
behind_ends ways old new o z place e stays sums = λ p style n at there steps number b.
    counted_ends style steps number b e stays (sums p style n (there_at old place p style at) there (read_script b.inner) b.text b.counted)

-- the same in a tree of some style
behind_in : (t : Table) (style : Integers) (n : Node Own) (steps : List Step) (number : ℤ) → (marks_of t).integers ≡ style → IsNumberBehind (marks_of t).integers n steps number → IsNumberBehind style n steps number
behind_in t style n steps number e h = subst (λ (s : Integers). IsNumberBehind s n steps number) e h

-- each text of such an expression is computed so far
pub computes_behind : {S : Type 0} (ways : Ways S) (old new : Table) (o z : S) (place : TablePlace) (kept : ExprTree) (number : ℤ) (end : ℤ → Ending) → IsNumberBehindIn old place kept.nodes.items number →
    ComputesBehind ways old o place new z end → ComputesTo ways old o place kept new z (end number)
computes_behind ways old new o z place kept number end b runs = λ q style at text is.
    let n = stands (tree_of old q) (tree_there old q _ at.names) in
    computes_kept style text kept is (runs q style n.0 at n.1 kept.nodes.items number (behind_in old style n.0 kept.nodes.items number at.style_is (b q n.0 at.names n.1)))
