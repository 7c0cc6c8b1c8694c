-- Step after step.
use Rattle.std.proofs.Common.{◌≡◌, ◌∙◌, sym, ap, subst, refl, ℕ, suc, ◌+◌, ◌≤◌, ◌<◌, List, [], ◌∷◌, ◌++◌, length, drop, get_or, ℤ, FitsSigned, of_z, w64, Bool, true, false, nat_eq, nat_le, arith, Option, Some, None, Result, Ok, Err, IfSome, option_to_list}
use Rattle.std.specs.Result.{result_ok}
use Rattle.std.specs.Fmt.{signed_decimal}
use Rattle.tcl_text.specs.declared.integer.Integers.{Integers}
use Rattle.tcl_text.specs.declared.integer.IntegerFault.{IntegerFault}
use Rattle.tcl_parser.specs.Words.{WordRead}
use Rattle.tcl_parser.specs.declared.script.Part.{Part}
use Rattle.tcl_parser.specs.declared.script.Part.TheVariants.{Variable}
use Rattle.tcl_prepared.specs.Views.{literal_parts, literal_word}
use Rattle.tcl_value.specs.Limits.{Bytes, IsWithin}
use Rattle.tcl_frames.specs.declared.fault.FrameFault.{FrameFault}
use Rattle.std.proofs.lemmas.Bool.Decides.{nat_tests}
use Rattle.tcl_value.specs.Reading.{int_of}
use Rattle.tcl_value.proofs.Laws.{int_of-number}
use Rattle.tcl_frames.specs.Places.{Levels}
use Rattle.tcl_frames.specs.Chain.{read}
use Rattle.tcl_expression_evaluation.specs.Apply.{apply_unary, apply_binary}
use Rattle.tcl_expr.specs.declared.operator.UnaryOperator.{UnaryOperator}
use Rattle.tcl_expr.specs.declared.operator.BinaryOperator.{BinaryOperator}
use Rattle.tcl_expr.specs.declared.token.Leaf.{Leaf}
use Rattle.tcl_expr.specs.declared.token.Leaf.TheVariants.{Substituted}
use Rattle.tcl_expr.specs.declared.tree.Node.{Node}
use Rattle.tcl_expr.specs.declared.tree.Node.TheVariants as node
use Rattle.tcl_expression_evaluation.specs.Computations.{Computation, value, substitute, operand, and_then, decided}
use Rattle.tcl_expression_evaluation.specs.Steps.{doing, leaving, does, goes, from, top, below}
use Rattle.tcl_expression_evaluation.proofs.Going.{goes_doing, goes_nil, two_steps}
use Rattle.tcl_expression_evaluation.specs.AtHand.{comes_to, given, text_read, operand_value, short_text, ReadAs, Reduces, Follows, DoesStep, IsDecided, IsNumberAtHand, IsNumberFrom, Leaves, steps_before, steps_of_two}
use Rattle.tcl_expression_evaluation.proofs.Stacks.{top_push, below_push}
use Rattle.tcl_expression_evaluation.proofs.Truths.{truth_told}
use Rattle.tcl_expression_evaluation.proofs.Waiting.{none_wait, pushed, popped}

-- ## Steps

is_short : (text : Bytes) → IsWithin text → nat_le (length text) 16777216 ≡ true
is_short text h = grind (arith, nat_tests)

pub variable_at : (frames : Levels) (word : WordRead) (name text : Bytes) (next : Bytes → Computation) → word.parts ≡ Variable name ∷ [] → read frames name ≡ Ok text → IsWithin text → comes_to frames (substitute word next) ≡ comes_to frames (next text)
variable_at frames word name text next is holds short =
    ap (λ parts. given (operand_value frames parts) (λ t. comes_to frames (next t))) is ∙ ap (λ r. given (text_read r) (λ t. comes_to frames (next t))) holds
    ∙ ap (λ b. given (short_text b text) (λ t. comes_to frames (next t))) (is_short text short)

-- a literal's value is its text
pub literal_at : (frames : Levels) (word : WordRead) (text : Bytes) (next : Bytes → Computation) → word ≡ literal_word text → IsWithin text → comes_to frames (substitute word next) ≡ comes_to frames (next text)
literal_at frames word text next is short = ap (λ (w : WordRead). given (operand_value frames w.parts) (λ t. comes_to frames (next t))) is ∙ by text short
  where
    by : (t : Bytes) → IsWithin t → given (operand_value frames (literal_parts t)) (λ u. comes_to frames (next u)) ≡ comes_to frames (next t)
    by [] h = refl
    by (b ∷ t) h = ap (λ c. given (short_text c (b ∷ t)) (λ u. comes_to frames (next u))) (is_short (b ∷ t) h)

-- what an operand's value leads to, taken apart
pub record Leads (frames : Levels) (parts : List Part) (next : Bytes → Option Bytes) (text : Bytes) : Type 0 where
  pub value : Bytes
  pub is : operand_value frames parts ≡ Some value
  pub on : next value ≡ Some text

pub leads : (frames : Levels) (parts : List Part) (next : Bytes → Option Bytes) (text : Bytes) → given (operand_value frames parts) next ≡ Some text → Leads frames parts next text
leads frames parts next text h = by (operand_value frames parts) refl h
  where
    by : (held : Option Bytes) → operand_value frames parts ≡ held → given held next ≡ Some text → Leads frames parts next text
    by (Some found) e k = record { value = found; is = e; on = k }
    by None e k = absurd (cc)

pub number_read : (r : Result ℤ IntegerFault) (found : Option ℤ) (given : Result ℤ IntegerFault) → found ≡ result_ok r → r ≡ given → IfSome found (λ n. given ≡ Ok n)
number_read (Ok m) found given e h = subst (λ (p : Option ℤ). IfSome p (λ n. given ≡ Ok n)) (sym e) (sym h)
number_read (Err f) found given e h = subst (λ (p : Option ℤ). IfSome p (λ n. given ≡ Ok n)) (sym e) tt

-- ## Steps among those that wait

pub steps_shorter : (rest more : List Node) (r : Leaf) (o : BinaryOperator) → rest ≡ steps_before r o more → length more < length rest
steps_shorter rest more r o is = let same : length rest ≡ suc (suc (length more)) = ap length is in omega (arith, same)

-- a step that leaves a text behind others
pub stepped : (frames : Levels) (style : Integers) (step : Node) (more rest : List Node) (texts before : List Bytes) (text : Bytes) (left all : List ℤ) (n : ℤ) →
    comes_to frames (does style step texts (goes style more)) ≡ comes_to frames (from style rest 0 (before ++ text ∷ [])) → ReadAs style before left → int_of style text ≡ Ok n → all ≡ left ++ n ∷ [] → Follows frames style texts (step ∷ more) rest all
stepped frames style step more rest texts before text left all n is wait reads pushes = record {
  waiting = before ++ text ∷ [];
  wait = subst (ReadAs style (before ++ text ∷ [])) (sym pushes) (pushed style before left text n wait reads);
  same = ap (comes_to frames) (goes_doing style step more texts) ∙ is;
}

-- what comes of an operator, its two operands and those that wait before them
abbrev of_two : Levels → Integers → BinaryOperator → List Node → Bytes → Bytes → List Bytes → Option Bytes
of_two frames style o rest x y s = comes_to frames (and_then (apply_binary style o x y) (λ v. goes style rest doing (s ++ v ∷ [])))

-- an operator makes one of two that wait behind others
applied_behind : (frames : Levels) (style : Integers) (o : BinaryOperator) (rest : List Node) (before : List Bytes) (a b c : Bytes) → apply_binary style o a b ≡ Ok c →
    comes_to frames (does style (node.Binary o) ((before ++ a ∷ []) ++ b ∷ []) (goes style rest)) ≡ comes_to frames (from style rest 0 (before ++ c ∷ []))
applied_behind frames style o rest before a b c made =
    ap (λ (s : List Bytes). of_two frames style o rest (top s) (top ((before ++ a ∷ []) ++ b ∷ [])) (below s)) (below_push (before ++ a ∷ []) b)
    ∙ ap (λ (y : Bytes). of_two frames style o rest (top (before ++ a ∷ [])) y (below (before ++ a ∷ []))) (top_push (before ++ a ∷ []) b)
    ∙ ap (λ (x : Bytes). of_two frames style o rest x b (below (before ++ a ∷ []))) (top_push before a) ∙ ap (λ (s : List Bytes). of_two frames style o rest a b s) (below_push before a)
    ∙ ap (λ r. comes_to frames (and_then r (λ v. goes style rest doing (before ++ v ∷ [])))) made

-- a text, and nothing else is taken
pub reduced_alone : (found : Option ℤ) (frames : Levels) (style : Integers) (text : Bytes) (code : List Node) → IfSome found (λ n. int_of style text ≡ Ok n) → IfSome found (λ n. Reduces frames style text code code n)
reduced_alone (Some n) frames style text code reads = record { last = text; reads = reads; same = λ before. refl; fewer = omega arith }
reduced_alone None frames style text code reads = tt

-- an operand that comes next, and the operator of both
pub reduced_with : (frames : Levels) (style : Integers) (text : Bytes) (code rest : List Node) (r : Leaf) (o : BinaryOperator) (b : Bytes) (n : ℤ) → code ≡ steps_before r o rest →
    ((next : Bytes → Computation) → comes_to frames (operand r next) ≡ comes_to frames (next b)) → FitsSigned w64 n → apply_binary style o text b ≡ Ok (signed_decimal n) → Reduces frames style text code rest n
reduced_with frames style text code rest r o b n is right fits made =
    let shorter = steps_shorter code rest r o is in record {
      last = signed_decimal n;
      reads = int_of-number style n fits;
      same = λ before.
          ap (λ c. comes_to frames (from style c 0 (before ++ text ∷ []))) is ∙ ap (comes_to frames) (goes_doing style (node.Operand r) (node.Binary o ∷ rest) (before ++ text ∷ []))
          ∙ right (λ v. goes style (node.Binary o ∷ rest) doing ((before ++ text ∷ []) ++ v ∷ [])) ∙ ap (comes_to frames) (goes_doing style (node.Binary o) rest ((before ++ text ∷ []) ++ b ∷ []))
          ∙ applied_behind frames style o rest before text b (signed_decimal n) made;
      fewer = omega (arith, shorter);
    }

pub operand_taken : (frames : Levels) (style : Integers) (x : Leaf) (more rest : List Node) (numbers all : List ℤ) (text : Bytes) (n : ℤ) → ((next : Bytes → Computation) → comes_to frames (operand x next) ≡ comes_to frames (next text)) →
    Reduces frames style text more rest n → all ≡ numbers ++ n ∷ [] → DoesStep frames style (node.Operand x) more rest numbers all
operand_taken frames style x more rest numbers all text n is h pushes = λ texts wait.
    stepped frames style (node.Operand x) more rest texts texts h.last numbers all n (is (λ v. goes style more doing (texts ++ v ∷ [])) ∙ h.same texts) wait h.reads pushes

pub one_gone : (frames : Levels) (style : Integers) (o : UnaryOperator) (more : List Node) (numbers left all : List ℤ) (x n : ℤ) → numbers ≡ left ++ x ∷ [] → FitsSigned w64 n →
    ((style : Integers) (a : Bytes) → int_of style a ≡ Ok x → apply_unary style o a ≡ Ok (signed_decimal n)) → all ≡ left ++ n ∷ [] → DoesStep frames style (node.Unary o) more more numbers all
one_gone frames style o more numbers left all x n is fits made pushes = λ texts wait. let p = popped style texts numbers left x wait is in
    stepped frames style (node.Unary o) more more texts (below texts) (signed_decimal n) left all n
    (ap (λ r. comes_to frames (and_then r (λ v. goes style more doing (below texts ++ v ∷ [])))) (made style (top texts) p.last)) p.others (int_of-number style n fits) pushes

pub two_gone : (frames : Levels) (style : Integers) (o : BinaryOperator) (more : List Node) (numbers fewer left all : List ℤ) (x y n : ℤ) → numbers ≡ fewer ++ y ∷ [] → fewer ≡ left ++ x ∷ [] → FitsSigned w64 n →
    ((style : Integers) (a b : Bytes) → int_of style a ≡ Ok x → int_of style b ≡ Ok y → apply_binary style o a b ≡ Ok (signed_decimal n)) → all ≡ left ++ n ∷ [] → DoesStep frames style (node.Binary o) more more numbers all
two_gone frames style o more numbers fewer left all x y n is then fits made pushes = λ texts wait.
    let q = popped style texts numbers fewer y wait is in
    let p = popped style (below texts) fewer left x q.others then in
    stepped frames style (node.Binary o) more more texts (below (below texts)) (signed_decimal n) left all n
    (ap (λ r. comes_to frames (and_then r (λ v. goes style more doing (below (below texts) ++ v ∷ [])))) (made style (top (below texts)) (top texts) p.last q.last)) p.others (int_of-number style n fits) pushes

-- ## What isn't needed is left out

-- the steps behind what is left out, and before it
abbrev pub LeavesOut : Integers → List Node → List Node → Type 0
LeavesOut style more rest = (texts : List Bytes) → goes style more (leaving 0) texts ≡ from style rest 0 texts

pub second_left_out : (frames : Levels) (style : Integers) (o : BinaryOperator) (more rest : List Node) (numbers left all : List ℤ) (x n : ℤ) → numbers ≡ left ++ x ∷ [] → IsDecided o x (Some n) → FitsSigned w64 n → LeavesOut style more rest → all ≡ left ++ n ∷ [] →
    DoesStep frames style (node.Needed o) more rest numbers all
second_left_out frames style o more rest numbers left all x n is told fits left_out pushes = λ texts wait. let p = popped style texts numbers left x wait is in
    stepped frames style (node.Needed o) more rest texts (below texts) (signed_decimal n) left all n
    (ap (comes_to frames) (told style (top texts) p.last (goes style more doing (below texts ++ top texts ∷ [])) (λ v. goes style more (leaving 0) (below texts ++ v ∷ [])) ∙ left_out (below texts ++ signed_decimal n ∷ []))) p.others (int_of-number style n fits) pushes

pub second_needed : (frames : Levels) (style : Integers) (o : BinaryOperator) (more : List Node) (numbers left all : List ℤ) (x : ℤ) → numbers ≡ left ++ x ∷ [] → IsDecided o x None → all ≡ left ++ x ∷ [] → DoesStep frames style (node.Needed o) more more numbers all
second_needed frames style o more numbers left all x is told pushes = λ texts wait. let p = popped style texts numbers left x wait is in
    stepped frames style (node.Needed o) more more texts (below texts) (top texts) left all x
    (ap (comes_to frames) (told style (top texts) p.last (goes style more doing (below texts ++ top texts ∷ [])) (λ v. goes style more (leaving 0) (below texts ++ v ∷ [])))) p.others p.last pushes

-- a choice whose first operand is false, or true
pub third_taken : (frames : Levels) (style : Integers) (more rest : List Node) (numbers left : List ℤ) (x : ℤ) → numbers ≡ left ++ x ∷ [] → FitsSigned w64 x → nat_eq (of_z w64 x) 0 ≡ true → LeavesOut style more rest → DoesStep frames style node.Question more rest numbers left
third_taken frames style more rest numbers left x is fits none left_out = λ texts wait. let p = popped style texts numbers left x wait is in record {
  waiting = below texts;
  wait = p.others;
  same = ap (comes_to frames) (goes_doing style node.Question more texts ∙ ap (λ r. decided r (goes style more doing (below texts)) (goes style more (leaving 0) (below texts))) (truth_told style (top texts) x true fits none p.last) ∙ left_out (below texts));
}

pub second_taken : (frames : Levels) (style : Integers) (more : List Node) (numbers left : List ℤ) (x : ℤ) → numbers ≡ left ++ x ∷ [] → FitsSigned w64 x → nat_eq (of_z w64 x) 0 ≡ false → DoesStep frames style node.Question more more numbers left
second_taken frames style more numbers left x is fits some = λ texts wait. let p = popped style texts numbers left x wait is in record {
  waiting = below texts;
  wait = p.others;
  same = ap (comes_to frames) (goes_doing style node.Question more texts ∙ ap (λ r. decided r (goes style more doing (below texts)) (goes style more (leaving 0) (below texts))) (truth_told style (top texts) x false fits some p.last));
}

pub third_left_out : (frames : Levels) (style : Integers) (more rest : List Node) (numbers : List ℤ) → LeavesOut style more rest → DoesStep frames style node.Colon more rest numbers numbers
third_left_out frames style more rest numbers left_out = λ texts wait. record { waiting = texts; wait = wait; same = ap (comes_to frames) (goes_doing style node.Colon more texts ∙ left_out texts) }

pub choice_ends : (frames : Levels) (style : Integers) (more : List Node) (numbers : List ℤ) → DoesStep frames style node.Choice more more numbers numbers
choice_ends frames style more numbers = λ texts wait. record { waiting = texts; wait = wait; same = ap (comes_to frames) (goes_doing style node.Choice more texts) }

-- ## The whole

pub begins : (frames : Levels) (style : Integers) (texts : List Bytes) (code : List Node) (numbers : List ℤ) → ReadAs style texts numbers → Follows frames style texts code code numbers
begins frames style texts code numbers wait = record { waiting = texts; wait = wait; same = refl }

pub goes_on : (frames : Levels) (style : Integers) (texts : List Bytes) (code rest more left : List Node) (n : Node) (numbers others : List ℤ) → Follows frames style texts code rest numbers → rest ≡ n ∷ more → DoesStep frames style n more left numbers others → Follows frames style texts code left others
goes_on frames style texts code rest more left n numbers others u is step = let b = step u.waiting u.wait in record {
  waiting = b.waiting;
  wait = b.wait;
  same = u.same ∙ ap (λ c. comes_to frames (from style c 0 u.waiting)) is ∙ b.same;
}

end : (frames : Levels) (style : Integers) (texts : List Bytes) (code rest : List Node) (numbers left : List ℤ) (x : ℤ) → Follows frames style texts code rest numbers → rest ≡ [] → numbers ≡ left ++ x ∷ [] → IsNumberFrom frames style texts code x
end frames style texts code rest numbers left x u past is = let p = popped style u.waiting numbers left x u.wait is in
    (top u.waiting, u.same ∙ ap (λ c. comes_to frames (from style c 0 u.waiting)) past ∙ ap (comes_to frames) (goes_nil style doing u.waiting), p.last)

pub ends : (r : Option ℤ) (frames : Levels) (style : Integers) (texts : List Bytes) (code rest : List Node) (numbers left : List ℤ) → Follows frames style texts code rest numbers → rest ≡ [] → numbers ≡ left ++ option_to_list r → IfSome r (λ n. IsNumberFrom frames style texts code n)
ends (Some n) frames style texts code rest numbers left u past is = end frames style texts code rest numbers left n u past is
ends None frames style texts code rest numbers left u past is = tt

-- ## An operand and an operator behind one that waits

-- the one that waits reads as its number
one_waits : (style : Integers) (text : Bytes) (n : ℤ) → int_of style text ≡ Ok n → ReadAs style (text ∷ []) (n ∷ [])
one_waits style text n reads = pushed style [] [] text n (none_wait style [] refl) reads

pub first_waits : (style : Integers) (text : Bytes) (n : ℤ) (none all : List ℤ) → none ≡ [] → all ≡ none ++ n ∷ [] → int_of style text ≡ Ok n → ReadAs style (text ∷ []) all
first_waits style text n none all is pushes reads = subst (ReadAs style (text ∷ [])) (sym (pushes ∙ ap (λ ns. ns ++ n ∷ []) is)) (one_waits style text n reads)

leaves : (frames : Levels) (style : Integers) (r : Leaf) (o : BinaryOperator) (a b : Bytes) (x y n : ℤ) → int_of style a ≡ Ok x →
    ((next : Bytes → Computation) → comes_to frames (operand r next) ≡ comes_to frames (next b)) → int_of style b ≡ Ok y →
    ((style : Integers) (a b : Bytes) → int_of style a ≡ Ok x → int_of style b ≡ Ok y → apply_binary style o a b ≡ Ok (signed_decimal n)) → Leaves frames style a r o n
leaves frames style r o a b x y n reads right reads' made = λ rest.
    ap (comes_to frames) (goes_doing style (node.Operand r) (node.Binary o ∷ rest) (a ∷ [])) ∙ right (λ v. goes style (node.Binary o ∷ rest) doing (a ∷ v ∷ []))
    ∙ ap (comes_to frames) (goes_doing style (node.Binary o) rest (a ∷ b ∷ [])) ∙ ap (λ r. comes_to frames (and_then r (λ v. goes style rest doing (v ∷ [])))) (made style a b reads reads')

pub computed_with : (found : Option ℤ) (frames : Levels) (style : Integers) (r : Leaf) (o : BinaryOperator) (a b : Bytes) (x y : ℤ) → int_of style a ≡ Ok x →
    ((next : Bytes → Computation) → comes_to frames (operand r next) ≡ comes_to frames (next b)) → int_of style b ≡ Ok y →
    IfSome found (λ n. (style : Integers) (a b : Bytes) → int_of style a ≡ Ok x → int_of style b ≡ Ok y → apply_binary style o a b ≡ Ok (signed_decimal n)) → IfSome found (λ n. Leaves frames style a r o n)
computed_with (Some n) frames style r o a b x y reads right reads' made = leaves frames style r o a b x y n reads right reads' made
computed_with None frames style r o a b x y reads right reads' made = tt

-- two values that read as numbers
pub values_applied : (found : Option ℤ) (style : Integers) (o : BinaryOperator) (a b : Bytes) (x y : ℤ) → int_of style a ≡ Ok x → int_of style b ≡ Ok y →
    IfSome found (λ n. (style : Integers) (a b : Bytes) → int_of style a ≡ Ok x → int_of style b ≡ Ok y → apply_binary style o a b ≡ Ok (signed_decimal n)) → IfSome found (λ n. apply_binary style o a b ≡ Ok (signed_decimal n))
values_applied (Some n) style o a b x y reads reads' made = made style a b reads reads'
values_applied None style o a b x y reads reads' made = tt

-- two that are kept as numbers
pub numbers_applied : (found : Option ℤ) (o : BinaryOperator) (a b : Bytes) (x y : ℤ) → ((style : Integers) → int_of style a ≡ Ok x) → ((style : Integers) → int_of style b ≡ Ok y) →
    IfSome found (λ n. (style : Integers) (a b : Bytes) → int_of style a ≡ Ok x → int_of style b ≡ Ok y → apply_binary style o a b ≡ Ok (signed_decimal n)) → IfSome found (λ n. (style : Integers) → apply_binary style o a b ≡ Ok (signed_decimal n))
numbers_applied (Some n) o a b x y reads reads' made = λ style. made style a b (reads style) (reads' style)
numbers_applied None o a b x y reads reads' made = tt

-- from behind the first text to the rest of the steps, before which a number waits
pub record Along (frames : Levels) (style : Integers) (first : Bytes) (code rest : List Node) (n : ℤ) : Type 0 where
  pub text : Bytes
  pub reads : int_of style text ≡ Ok n
  pub same : comes_to frames (from style code 0 (first ∷ [])) ≡ comes_to frames (from style rest 0 (text ∷ []))

pub along : (frames : Levels) (style : Integers) (first : Bytes) (code : List Node) (n : ℤ) → int_of style first ≡ Ok n → Along frames style first code code n
along frames style first code n reads = record { text = first; reads = reads; same = refl }

pub along_on : (frames : Levels) (style : Integers) (first : Bytes) (code rest more : List Node) (r : Leaf) (o : BinaryOperator) (x n : ℤ) → Along frames style first code rest x → rest ≡ steps_before r o more → FitsSigned w64 n →
    ((text : Bytes) → int_of style text ≡ Ok x → Leaves frames style text r o n) → Along frames style first code more n
along_on frames style first code rest more r o x n u is fits h = record {
  text = signed_decimal n;
  reads = int_of-number style n fits;
  same = u.same ∙ ap (λ c. comes_to frames (from style c 0 (u.text ∷ []))) is ∙ h u.text u.reads more;
}

pub reduced_along : (found : Option ℤ) (frames : Levels) (style : Integers) (first : Bytes) (code rest : List Node) (x : ℤ) → Reduces frames style first code rest x →
    ((text : Bytes) → int_of style text ≡ Ok x → IfSome found (λ n. IsNumberFrom frames style (text ∷ []) rest n)) → IfSome found (λ n. IsNumberFrom frames style (first ∷ []) code n)
reduced_along (Some n) frames style first code rest x u h = let m = h u.last u.reads in (m.0, u.same [] ∙ m.1, m.2)
reduced_along None frames style first code rest x u h = tt

pub none_of : (rest : List Node) → length rest ≡ 0 → rest ≡ []
none_of [] h = refl
none_of (n ∷ rest) h = absurd (omega arith)

pub none_left : (rest : List Node) (t : Bool) → t ≡ nat_eq (length rest) 0 → t ≡ true → rest ≡ []
none_left [] t e h = refl
none_left (n ∷ rest) t e h = absurd (grind (arith, nat_tests))

pub along_all : (frames : Levels) (style : Integers) (first : Bytes) (code rest : List Node) (n : ℤ) → Along frames style first code rest n → rest ≡ [] → IsNumberFrom frames style (first ∷ []) code n
along_all frames style first code rest n u is = (u.text, u.same ∙ ap (λ c. comes_to frames (from style c 0 (u.text ∷ []))) is ∙ ap (comes_to frames) (goes_nil style doing (u.text ∷ [])), u.reads)

pub along_then : (found : Option ℤ) (frames : Levels) (style : Integers) (first : Bytes) (code rest : List Node) (x : ℤ) → Along frames style first code rest x →
    ((text : Bytes) → int_of style text ≡ Ok x → IfSome found (λ n. IsNumberFrom frames style (text ∷ []) rest n)) → IfSome found (λ n. IsNumberFrom frames style (first ∷ []) code n)
along_then (Some n) frames style first code rest x u h = let m = h u.text u.reads in (m.0, u.same ∙ m.1, m.2)
along_then None frames style first code rest x u h = tt

-- ## Steps behind a first operand

-- a first operand that comes to a text, behind which the rest of the steps come to a number
behind : (frames : Levels) (style : Integers) (l : Leaf) (rest : List Node) (a : Bytes) (n : ℤ) → ((next : Bytes → Computation) → comes_to frames (operand l next) ≡ comes_to frames (next a)) →
    IsNumberFrom frames style (a ∷ []) rest n → IsNumberAtHand frames style (node.Operand l ∷ rest) n
behind frames style l rest a n left h = (h.0, ap (comes_to frames) (goes_doing style (node.Operand l) rest []) ∙ left (λ v. goes style rest doing (v ∷ [])) ∙ h.1, h.2)

pub some_behind : (found : Option ℤ) (frames : Levels) (style : Integers) (l : Leaf) (rest : List Node) (a : Bytes) → ((next : Bytes → Computation) → comes_to frames (operand l next) ≡ comes_to frames (next a)) →
    IfSome found (λ n. IsNumberFrom frames style (a ∷ []) rest n) → IfSome found (λ n. IsNumberAtHand frames style (node.Operand l ∷ rest) n)
some_behind (Some n) frames style l rest a left h = behind frames style l rest a n left h
some_behind None frames style l rest a left h = tt

-- two operands and an operator
pub two_computed : (found : Option ℤ) (frames : Levels) (style : Integers) (l r : Leaf) (o : BinaryOperator) (a b : Bytes) → ((next : Bytes → Computation) → comes_to frames (operand l next) ≡ comes_to frames (next a)) →
    ((next : Bytes → Computation) → comes_to frames (operand r next) ≡ comes_to frames (next b)) → IfSome found (λ n. FitsSigned w64 n) → IfSome found (λ n. apply_binary style o a b ≡ Ok (signed_decimal n)) → IfSome found (λ n. IsNumberAtHand frames style (steps_of_two l o r) n)
two_computed (Some n) frames style l r o a b left right fits made = (
  signed_decimal n,
  ap (comes_to frames) (two_steps style l r o) ∙ left (λ x. operand r (λ y. and_then (apply_binary style o x y) value)) ∙ right (λ y. and_then (apply_binary style o a y) value) ∙ ap (λ w. comes_to frames (and_then w value)) made,
  int_of-number style n fits,
)
two_computed None frames style l r o a b left right fits made = tt

-- a first operand that is substituted, and the rest of the steps behind it
pub first_substituted : (style : Integers) (word : WordRead) (rest : List Node) → from style (node.Operand (Substituted word) ∷ rest) 0 [] ≡ substitute word (λ v. from style rest 0 (v ∷ []))
first_substituted style word rest = goes_doing style (node.Operand (Substituted word)) rest []
