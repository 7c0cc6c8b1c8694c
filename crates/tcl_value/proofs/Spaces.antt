-- Texts with a space between two words are no integers.
use Rattle.std.proofs.Common.{◌≡◌, ℕ, Bool, true, false, cond, not, ◌&&◌, ◌||◌, List, [], ◌∷◌, ◌++◌, refl, sym, ◌∙◌, ap, subst, arith, Some, None, option_map}
use Rattle.std.specs.Prelude.{◌==◌, nat_lt}
use Rattle.std.specs.List.{list_any}
use Rattle.std.specs.Char.{digit_value}
use Rattle.std.proofs.lemmas.Bool.Decides.{nat_tests}
use Rattle.std.proofs.lemmas.Bool.{or_right}
use Rattle.tcl_text.specs.declared.integer.Integers.{Integers}
use Rattle.tcl_text.specs.declared.integer.Integers.TheVariants.{Tcl8, Tcl9}
use Rattle.tcl_text.specs.Lists.{is_white}
use Rattle.tcl_text.specs.Numbers.{trim_start, trim_end, before_trimmed, are_digits, sum_of_digits, in_base, is_letter, base_after_zero, after_zero, unsigned, with_sign, signed, integer_of}

-- a space stands in a text
abbrev pub has_space : List ℕ → Bool
has_space s = list_any (λ b. b == 32) s

-- a byte that isn't white space stands in a text
abbrev pub has_word : List ℕ → Bool
has_word s = list_any (λ b. not (is_white b)) s

or_rest : (a b : Bool) → a ≡ false → (a || b) ≡ true → b ≡ true
or_rest true b h k = absurd (cc)
or_rest false b h k = k

and_left : (a b : Bool) → a ≡ false → (a && b) ≡ false
and_left true b h = absurd (cc)
and_left false b h = refl

and_right : (a b : Bool) → b ≡ false → (a && b) ≡ false
and_right true b h = h
and_right false b h = refl

choose : {A : Type 0} (t : Bool) (a b x : A) → (t ≡ true → a ≡ x) → (t ≡ false → b ≡ x) → cond t a b ≡ x
choose true a b x h k = h refl
choose false a b x h k = k refl

-- no digit is a space
no_digits : (base : ℕ) (s : List ℕ) → nat_lt (digit_value 32) base ≡ false → has_space s ≡ true → are_digits base s ≡ false
no_digits base [] d h = absurd (cc)
no_digits base (c ∷ cs) d h = at_head (c == 32) refl
    (λ k. no_digits base cs d k)
  where
    at_head : (t : Bool) → (c == 32) ≡ t → (has_space cs ≡ true → are_digits base cs ≡ false) → are_digits base (c ∷ cs) ≡ false
    at_head true e later = let same : c ≡ 32 = grind (arith, nat_tests) in and_left _ (are_digits base cs) (ap (λ b. nat_lt (digit_value b) base) same ∙ d)
    at_head false e later = and_right (nat_lt (digit_value c) base) (are_digits base cs) (later (or_rest (c == 32) (has_space cs) e h))

no_base : (base : ℕ) (s : List ℕ) → nat_lt (digit_value 32) base ≡ false → has_space s ≡ true → in_base base s ≡ None
no_base base [] d h = refl
no_base base (c ∷ cs) d h = ap (λ t. cond t (Some (sum_of_digits base (c ∷ cs))) None) (no_digits base (c ∷ cs) d h)

behind : (c : ℕ) (cs : List ℕ) → (c == 32) ≡ false → has_space (c ∷ cs) ≡ true → has_space cs ≡ true
behind c cs e h = or_rest (c == 32) (has_space cs) e h

not_letter : (lower c : ℕ) → is_letter lower 32 ≡ false → is_letter lower c ≡ true → (c == 32) ≡ false
not_letter lower c n h = by_test (c == 32) refl
  where
    by_test : (t : Bool) → (c == 32) ≡ t → t ≡ false
    by_test true e = let same : c ≡ 32 = grind (arith, nat_tests) in absurd (let k = ap (is_letter lower) same in cc)
    by_test false e = refl

is_48 : (c : ℕ) → (c == 48) ≡ true → (c == 32) ≡ false
is_48 c h = grind (arith, nat_tests)

is_45 : (c : ℕ) → (c == 45) ≡ true → (c == 32) ≡ false
is_45 c h = grind (arith, nat_tests)

is_43 : (c : ℕ) → (c == 43) ≡ true → (c == 32) ≡ false
is_43 c h = grind (arith, nat_tests)

plain_base : (style : Integers) → nat_lt (digit_value 32) (base_after_zero style) ≡ false
plain_base Tcl8 = refl
plain_base Tcl9 = refl

no_after_zero : (style : Integers) (c : ℕ) (cs : List ℕ) → has_space (c ∷ cs) ≡ true → after_zero style c cs ≡ None
no_after_zero style c cs h =
    choose (is_letter 120 c) (in_base 16 cs) _ None (λ l. no_base 16 cs refl (behind c cs (not_letter 120 c refl l) h))
    (λ _. choose (is_letter 111 c) (in_base 8 cs) _ None (λ l. no_base 8 cs refl (behind c cs (not_letter 111 c refl l) h))
    (λ _. choose (is_letter 98 c) (in_base 2 cs) _ None (λ l. no_base 2 cs refl (behind c cs (not_letter 98 c refl l) h))
    (λ _. no_base (base_after_zero style) (48 ∷ c ∷ cs) (plain_base style) h)))

no_unsigned : (style : Integers) (s : List ℕ) → has_space s ≡ true → unsigned style s ≡ None
no_unsigned style [] h = refl
no_unsigned style (c ∷ []) h = no_base 10 (c ∷ []) refl h
no_unsigned style (c ∷ d ∷ ds) h =
    choose (c == 48) (after_zero style d ds) (in_base 10 (c ∷ d ∷ ds)) None (λ e. no_after_zero style d ds (behind c (d ∷ ds) (is_48 c e) h)) (λ _. no_base 10 (c ∷ d ∷ ds) refl h)

no_signed : (style : Integers) (s : List ℕ) → has_space s ≡ true → signed style s ≡ None
no_signed style [] h = refl
no_signed style (c ∷ cs) h =
    choose (c == 45) (option_map (with_sign true) (unsigned style cs)) _ None (λ e. ap (option_map (with_sign true)) (no_unsigned style cs (behind c cs (is_45 c e) h)))
    (λ _. choose (c == 43) (option_map (with_sign false) (unsigned style cs)) _ None (λ e. ap (option_map (with_sign false)) (no_unsigned style cs (behind c cs (is_43 c e) h)))
    (λ _. ap (option_map (with_sign false)) (no_unsigned style (c ∷ cs) h)))

-- what the white space at the ends leaves
record Some_text (s : List ℕ) : Type 0 where
  pub head : ℕ
  pub tail : List ℕ
  pub is : s ≡ head ∷ tail

end_kept : (c : ℕ) (r : List ℕ) → is_white c ≡ false → Some_text (before_trimmed c r)
end_kept c [] e = record { head = c; tail = []; is = ap (λ t. cond t [] (c ∷ [])) e }
end_kept c (d ∷ ds) e = record { head = c; tail = d ∷ ds; is = refl }

end_before : (c : ℕ) (r : List ℕ) → Some_text r → Some_text (before_trimmed c r)
end_before c r h = record { head = c; tail = h.head ∷ h.tail; is = ap (before_trimmed c) h.is }

word_end : (c : ℕ) (cs : List ℕ) (t : Bool) → is_white c ≡ t → has_word (c ∷ cs) ≡ true → (has_word cs ≡ true → Some_text (trim_end cs)) → Some_text (trim_end (c ∷ cs))
word_end c cs true e h later = end_before c (trim_end cs) (later (or_rest (not (is_white c)) (has_word cs) (ap not e) h))
word_end c cs false e h later = end_kept c (trim_end cs) e

kept_word : (s : List ℕ) → has_word s ≡ true → Some_text (trim_end s)
kept_word [] h = absurd (cc)
kept_word (c ∷ cs) h = word_end c cs (is_white c) refl h (kept_word cs)

space_before : (c : ℕ) (r : List ℕ) → has_space r ≡ true → has_space (before_trimmed c r) ≡ true
space_before c [] h = absurd (cc)
space_before c (d ∷ ds) h = or_right (c == 32) (has_space (d ∷ ds)) h

space_end : (a b : List ℕ) → has_word b ≡ true → has_space (trim_end (a ++ 32 ∷ b)) ≡ true
space_end [] b h = let k = kept_word b h in subst (λ r. has_space (before_trimmed 32 r) ≡ true) (sym k.is) refl
space_end (c ∷ a) b h = space_before c (trim_end (a ++ 32 ∷ b)) (space_end a b h)

record Leaves (s rest : List ℕ) : Type 0 where
  pub front : List ℕ
  pub is : s ≡ front ++ rest

word_start : (c : ℕ) (a rest : List ℕ) (t : Bool) → is_white c ≡ t → has_word (c ∷ a) ≡ true → (has_word a ≡ true → Leaves (trim_start (a ++ rest)) rest) → Leaves (trim_start (c ∷ a ++ rest)) rest
word_start c a rest true e h later =
    let l = later (or_rest (not (is_white c)) (has_word a) (ap not e) h) in
    record { front = l.front; is = ap (λ t. cond t (trim_start (a ++ rest)) (c ∷ a ++ rest)) e ∙ l.is }
word_start c a rest false e h later = record { front = c ∷ a; is = ap (λ t. cond t (trim_start (a ++ rest)) (c ∷ a ++ rest)) e }

kept_start : (a rest : List ℕ) → has_word a ≡ true → Leaves (trim_start (a ++ rest)) rest
kept_start [] rest h = absurd (cc)
kept_start (c ∷ a) rest h = word_start c a rest (is_white c) refl h (kept_start a rest)

-- two words with a space between them are no integer
pub two_words : (style : Integers) (a b : List ℕ) → has_word a ≡ true → has_word b ≡ true → integer_of style (a ++ 32 ∷ b) ≡ None
two_words style a b h k =
    let l = kept_start a (32 ∷ b) h in
    no_signed style (trim_end (trim_start (a ++ 32 ∷ b))) (ap (λ s. has_space (trim_end s)) l.is ∙ space_end l.front b k)
