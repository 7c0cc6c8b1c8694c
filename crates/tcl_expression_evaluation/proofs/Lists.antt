-- Members of lists, and the number that is chosen, from a place on.
use Rattle.std.proofs.Common.{◌≡◌, ◌∙◌, sym, ap, refl, ℕ, ◌+◌, ◌<◌, ◌≤◌, ◌||◌, Bool, true, false, List, length, drop, get_or, ℤ, Result, Ok}
use Rattle.std.proofs.lemmas.List.{at_drop_more, at_drop_all}
use Rattle.std.specs.Str.{bytes_eq}
use Rattle.tcl_text.specs.declared.integer.Integers.{Integers}
use Rattle.tcl_expr.specs.declared.operator.Function.{Function}
use Rattle.tcl_expression_evaluation.specs.declared.fault.Operator.TheVariants.{Function as Called}
use Rattle.tcl_expression_evaluation.specs.declared.fault.OperatorFault.{OperatorFault}
use Rattle.tcl_expression_evaluation.specs.Apply.{is_among, integer, chosen, choose, ◌>>=◌}

found : (b c : Bool) → b ≡ true → (b || c) ≡ true
found true c h = refl
found false c h = absurd (cc)

other : (b c : Bool) → b ≡ false → (b || c) ≡ c
other true c h = absurd (cc)
other false c h = refl

pub among_here : (a : List ℕ) (l : List (List ℕ)) (i : ℕ) (x : List ℕ) → i < length l → x ≡ get_or l i x → bytes_eq a x ≡ true → is_among a (drop i l) ≡ true
among_here a l i x small is h = at_drop_more (is_among a) l i x small ∙ found (bytes_eq a (get_or l i x)) (is_among a (drop (i + 1) l)) (ap (bytes_eq a) (sym is) ∙ h)

pub among_later : (a : List ℕ) (l : List (List ℕ)) (i : ℕ) (x : List ℕ) → i < length l → x ≡ get_or l i x → bytes_eq a x ≡ false → is_among a (drop i l) ≡ is_among a (drop (i + 1) l)
among_later a l i x small is h = at_drop_more (is_among a) l i x small ∙ other (bytes_eq a (get_or l i x)) (is_among a (drop (i + 1) l)) (ap (bytes_eq a) (sym is) ∙ h)

abbrev pub chosen_then : Integers → Function → ℤ → Result ℤ OperatorFault → List (List ℕ) → Result ℤ OperatorFault
chosen_then style f n read more = read >>= λ m. choose style f (chosen f n m) more

-- an operand more
pub choose_more : (style : Integers) (f : Function) (n : ℤ) (l : List (List ℕ)) (i : ℕ) (d : List ℕ) → i < length l → choose style f n (drop i l) ≡ chosen_then style f n (integer style (Called f) (get_or l i d)) (drop (i + 1) l)
choose_more style f n l i d small = at_drop_more (choose style f n) l i d small

pub choose_all : (style : Integers) (f : Function) (n : ℤ) (l : List (List ℕ)) (i : ℕ) → length l ≤ i → choose style f n (drop i l) ≡ Ok n
choose_all style f n l i h = at_drop_all (choose style f n) l i h
