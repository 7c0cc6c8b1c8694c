-- An integer text abbreviates no boolean word: it doesn't begin with a letter.
use Rattle.std.proofs.Common.{◌≡◌, ◌∙◌, sym, ap, subst, refl, ℕ, ◌+◌, ◌<◌, ◌≤◌, ◌==◌, nat_eq, Bool, true, false, not, cond, List, [], ◌∷◌, ℤ, pos, negsuc, FitsSigned, of_z, w64, arith, Ok, Option, Some, None, inl, inr, ◌⊎◌}
use Rattle.std.proofs.lemmas.Bool.Decides.{nat_tests}
use Rattle.std.specs.Char.{to_ascii_lowercase}
use Rattle.tcl_text.specs.declared.integer.Integers.{Integers}
use Rattle.tcl_text.specs.Lists.{is_white}
use Rattle.tcl_text.specs.Numbers.{trim_start, trim_end, before_trimmed, signed, integer_of, in_64_bits}
use Rattle.tcl_text.specs.Booleans.{word_truth, is_not_zero, number_truth, word_or_number}
use Rattle.tcl_value.specs.Reading.{int_of}
use Rattle.tcl_expression_evaluation.specs.Apply.{truth, truth_read}

-- a text that begins with this is no integer text
abbrev pub NoStart : ℕ → Type 0
NoStart c = (style : Integers) (ds : List ℕ) → signed style (before_trimmed c ds) ≡ None

upper_t : NoStart 84
upper_t style [] = refl
upper_t style (d ∷ ds) = refl

lower_t : NoStart 116
lower_t style [] = refl
lower_t style (d ∷ ds) = refl

upper_y : NoStart 89
upper_y style [] = refl
upper_y style (d ∷ ds) = refl

lower_y : NoStart 121
lower_y style [] = refl
lower_y style (d ∷ ds) = refl

upper_o : NoStart 79
upper_o style [] = refl
upper_o style (d ∷ ds) = refl

lower_o : NoStart 111
lower_o style [] = refl
lower_o style (d ∷ ds) = refl

upper_f : NoStart 70
upper_f style [] = refl
upper_f style (d ∷ ds) = refl

lower_f : NoStart 102
lower_f style [] = refl
lower_f style (d ∷ ds) = refl

upper_n : NoStart 78
upper_n style [] = refl
upper_n style (d ∷ ds) = refl

lower_n : NoStart 110
lower_n style [] = refl
lower_n style (d ∷ ds) = refl

-- a letter in either case
letter : (c d : ℕ) → 97 ≤ d → d ≤ 122 → (to_ascii_lowercase c == d) ≡ true → (c ≡ d) ⊎ (c + 32 ≡ d)
letter c d low high h = grind (arith, nat_tests)

starts : (c d e : ℕ) (n : ℤ) (style : Integers) (cs : List ℕ) → 97 ≤ d → d ≤ 122 → e + 32 ≡ d → is_white d ≡ false → is_white e ≡ false → NoStart d → NoStart e →
    integer_of style (c ∷ cs) ≡ Some n → (to_ascii_lowercase c == d) ≡ true → Prim.⊥
starts c d e n style cs low high up plain bare lower upper h t = at (letter c d low high t)
  where
    none : (k : ℕ) → is_white k ≡ false → NoStart k → c ≡ k → Prim.⊥
    none k w never is = let there : integer_of style (k ∷ cs) ≡ None = ap (λ b. signed style (trim_end (cond b (trim_start cs) (k ∷ cs)))) w ∙ never style (trim_end cs) in
        let here : integer_of style (k ∷ cs) ≡ Some n = subst (λ (x : ℕ). integer_of style (x ∷ cs) ≡ Some n) is h in
        absurd (cc)

    at : (c ≡ d) ⊎ (c + 32 ≡ d) → Prim.⊥
    at (inl is) = none d plain lower is
    at (inr is) = none e bare upper (omega arith)

-- a test that fails
fails : (b : Bool) → (b ≡ true → Prim.⊥) → b ≡ false
fails true h = absurd (h refl)
fails false h = refl

no_word : (c : ℕ) (cs : List ℕ) → (to_ascii_lowercase c == 116) ≡ false → (to_ascii_lowercase c == 121) ≡ false → (to_ascii_lowercase c == 111) ≡ false → (to_ascii_lowercase c == 102) ≡ false → (to_ascii_lowercase c == 110) ≡ false → word_truth (c ∷ cs) ≡ None
no_word c cs t y o f n = simp (t, y, o, f, n)

pub integer_is_no_word : (style : Integers) (a : List ℕ) (n : ℤ) → integer_of style a ≡ Some n → word_truth a ≡ None
integer_is_no_word style [] n h = absurd (cc)
integer_is_no_word style (c ∷ cs) n h = no_word c cs
    (fails (to_ascii_lowercase c == 116) (starts c 116 84 n style cs (omega arith) (omega arith) (omega arith) refl refl lower_t upper_t h))
    (fails (to_ascii_lowercase c == 121) (starts c 121 89 n style cs (omega arith) (omega arith) (omega arith) refl refl lower_y upper_y h))
    (fails (to_ascii_lowercase c == 111) (starts c 111 79 n style cs (omega arith) (omega arith) (omega arith) refl refl lower_o upper_o h))
    (fails (to_ascii_lowercase c == 102) (starts c 102 70 n style cs (omega arith) (omega arith) (omega arith) refl refl lower_f upper_f h))
    (fails (to_ascii_lowercase c == 110) (starts c 110 78 n style cs (omega arith) (omega arith) (omega arith) refl refl lower_n upper_n h))

some_read : (o : Option ℤ) (n : ℤ) → in_64_bits o ≡ Ok n → (m : ℤ) × (o ≡ Some m)
some_read None n h = absurd (cc)
some_read (Some m) n h = (m, refl)

not_zero : (n : ℤ) → FitsSigned w64 n → is_not_zero n ≡ not (nat_eq (of_z w64 n) 0)
not_zero (pos n) f = refl
not_zero (negsuc n) f = let big : 0 < of_z w64 (negsuc n) = omega (arith, f.sfits) in let none : nat_eq (of_z w64 (negsuc n)) 0 ≡ false = grind (arith, nat_tests) in sym (ap not none)

pub truth_of_number : (style : Integers) (a : List ℕ) (n : ℤ) → FitsSigned w64 n → int_of style a ≡ Ok n → truth style a ≡ Ok (not (nat_eq (of_z w64 n) 0))
truth_of_number style a n f h = let some = some_read (integer_of style a) n h in
    let none : word_truth a ≡ None = integer_is_no_word style a some.0 some.1 in
    ap (λ o. truth_read a (word_or_number o (int_of style a))) none ∙ ap (λ r. truth_read a (number_truth r)) h ∙ ap Ok (not_zero n f)

-- a number is true where it isn't 0
pub truth_told : (style : Integers) (a : List ℕ) (n : ℤ) (none : Bool) → FitsSigned w64 n → nat_eq (of_z w64 n) 0 ≡ none → int_of style a ≡ Ok n → truth style a ≡ Ok (not none)
truth_told style a n none f e h = truth_of_number style a n f h ∙ ap (λ t. Ok (not t)) e
