-- The forms of integer texts.
use Rattle.std.proofs.Common.{◌≡◌, ℕ, ◌<◌, ◌≤◌, Bool, true, false, cond, List, [], ◌∷◌, ◌++◌, length, refl, sym, ◌∙◌, ap, subst, arith, ℤ, pos, inl, inr, append_assoc}
use Rattle.std.specs.Prelude.{◌==◌, nat_lt, Option, Some, None, option_map}
use Rattle.std.specs.Char.{digit_value}
use Rattle.std.proofs.lemmas.Bool.Decides.{nat_tests, Decides-eqb}
use Rattle.tcl_text.specs.declared.integer.Integers.{Integers}
use Rattle.tcl_text.specs.declared.integer.Integers.TheVariants.{Tcl8, Tcl9}
use Rattle.tcl_text.specs.Lists.{is_white, IsWhite}
use Rattle.tcl_text.specs.Numbers.{trim_start, trim_end, before_trimmed, are_digits, in_base, is_letter, base_after_zero, after_zero, unsigned, with_sign, signed, integer_of}
use Rattle.tcl_text.specs.NumberForms.{IsSigned, IsInteger, IntegersByForm}
use Rattle.tcl_text.proofs.Digits.{and_true, and_parts}

-- ---- the characters of numbers

abbrev pub AllDark : List ℕ → Type 0
AllDark [] = Unit {0}
AllDark (c ∷ cs) = (digit_value c < 36) × AllDark cs

pub dark_not_white : (c : ℕ) → digit_value c < 36 → is_white c ≡ false
dark_not_white c h = grind (arith, nat_tests)

pub dark_not_plus : (c : ℕ) → digit_value c < 36 → (c == 43) ≡ false
dark_not_plus c h = grind (arith, nat_tests)

pub dark_not_minus : (c : ℕ) → digit_value c < 36 → (c == 45) ≡ false
dark_not_minus c h = grind (arith, nat_tests)

test_lt : (a b : ℕ) → nat_lt a b ≡ true → a < b
test_lt a b h = grind (arith, nat_tests)

dark_digits : (base : ℕ) (cs : List ℕ) → base ≤ 36 → are_digits base cs ≡ true → AllDark cs
dark_digits base [] h d = tt
dark_digits base (c ∷ cs) h d =
    let both = and_parts _ _ d in
    let small = test_lt (digit_value c) base both.0 in
    (omega arith, dark_digits base cs h both.1)

some_test : (t : Bool) (x m : ℕ) → ◌≡◌ {A = Option ℕ} (cond t (Some x) None) (Some m) → t ≡ true
some_test true x m h = refl
some_test false x m h = absurd (cc)

based_dark : (base : ℕ) (cs : List ℕ) (m : ℕ) → base ≤ 36 → in_base base cs ≡ Some m → AllDark cs
based_dark base [] m h e = tt
based_dark base (c ∷ cs) m h e = dark_digits base (c ∷ cs) h (some_test _ _ m e)

letter_dark : (lower c : ℕ) → 97 ≤ lower → lower ≤ 122 → is_letter lower c ≡ true → digit_value c < 36
letter_dark lower c low high h = grind (arith, nat_tests)

base_small : (style : Integers) → base_after_zero style ≤ 36
base_small Tcl8 = omega arith
base_small Tcl9 = omega arith

zero_dark : (style : Integers) (d : ℕ) (ds : List ℕ) (m : ℕ) → after_zero style d ds ≡ Some m → AllDark (48 ∷ d ∷ ds)
zero_dark style d ds m = pick (is_letter 120 d) (is_letter 111 d) (is_letter 98 d) refl refl refl
  where
    pick : (x o b : Bool) → is_letter 120 d ≡ x → is_letter 111 d ≡ o → is_letter 98 d ≡ b → cond x (in_base 16 ds) (cond o (in_base 8 ds) (cond b (in_base 2 ds) (in_base (base_after_zero style) (48 ∷ d ∷ ds)))) ≡ Some m → AllDark (48 ∷ d ∷ ds)
    pick true o b p q r h = (omega arith, (letter_dark 120 d (omega arith) (omega arith) p, based_dark 16 ds m (omega arith) h))
    pick false true b p q r h = (omega arith, (letter_dark 111 d (omega arith) (omega arith) q, based_dark 8 ds m (omega arith) h))
    pick false false true p q r h = (omega arith, (letter_dark 98 d (omega arith) (omega arith) r, based_dark 2 ds m (omega arith) h))
    pick false false false p q r h = based_dark (base_after_zero style) (48 ∷ d ∷ ds) m (base_small style) h

pub unsigned_dark : (style : Integers) (cs : List ℕ) (m : ℕ) → unsigned style cs ≡ Some m → AllDark cs
unsigned_dark style [] m h = tt
unsigned_dark style (c ∷ []) m h = based_dark 10 (c ∷ []) m (omega arith) h
unsigned_dark style (c ∷ d ∷ ds) m h = pick (c == 48) refl h
  where
    pick : (t : Bool) → (c == 48) ≡ t → cond t (after_zero style d ds) (in_base 10 (c ∷ d ∷ ds)) ≡ Some m → AllDark (c ∷ d ∷ ds)
    pick true e h = subst (λ a. AllDark (a ∷ d ∷ ds)) (sym ((Decides-eqb c 48).0 e)) (zero_dark style d ds m h)
    pick false e h = based_dark 10 (c ∷ d ∷ ds) m (omega arith) h

pub unsigned_some : (style : Integers) (cs : List ℕ) (m : ℕ) → unsigned style cs ≡ Some m → 0 < length cs
unsigned_some style [] m h = absurd (cc)
unsigned_some style (c ∷ cs) m h = omega arith

-- ---- white space at the ends

pub start_white : (before cs : List ℕ) → IsWhite before → trim_start (before ++ cs) ≡ trim_start cs
start_white [] cs h = refl
start_white (b ∷ before) cs h =
    let both = and_parts _ _ h in
    ap (λ t. cond t (trim_start (before ++ cs)) (b ∷ (before ++ cs))) both.0 ∙ start_white before cs both.1

pub start_dark : (c : ℕ) (cs : List ℕ) → is_white c ≡ false → trim_start (c ∷ cs) ≡ c ∷ cs
start_dark c cs h = ap (λ t. cond t (trim_start cs) (c ∷ cs)) h

end_white : (after : List ℕ) → IsWhite after → trim_end after ≡ []
end_white [] h = refl
end_white (c ∷ cs) h =
    let both = and_parts _ _ h in
    ap (before_trimmed c) (end_white cs both.1) ∙ ap (λ t. cond t [] (c ∷ [])) both.0

kept_before : (c : ℕ) (ds : List ℕ) → is_white c ≡ false → before_trimmed c ds ≡ c ∷ ds
kept_before c [] h = ap (λ t. cond t [] (c ∷ [])) h
kept_before c (d ∷ ds) h = refl

pub end_dark : (cs after : List ℕ) → AllDark cs → IsWhite after → trim_end (cs ++ after) ≡ cs
end_dark [] after d h = end_white after h
end_dark (c ∷ cs) after d h = ap (before_trimmed c) (end_dark cs after d.1 h) ∙ kept_before c cs (dark_not_white c d.0)

pub start_parts : (text : List ℕ) → (before : List ℕ) × IsWhite before × (text ≡ before ++ trim_start text)
start_parts [] = ([], refl, refl)
start_parts (c ∷ cs) = pick (is_white c) refl (start_parts cs)
  where
    pick : (t : Bool) → is_white c ≡ t → (before : List ℕ) × IsWhite before × (cs ≡ before ++ trim_start cs) → (before : List ℕ) × IsWhite before × (c ∷ cs ≡ before ++ cond t (trim_start cs) (c ∷ cs))
    pick true e s = (c ∷ s.0, and_true _ _ e s.1, ap (λ l. c ∷ l) s.2)
    pick false e s = ([], refl, refl)

pub end_parts : (text : List ℕ) → (after : List ℕ) × IsWhite after × (text ≡ trim_end text ++ after)
end_parts [] = ([], refl, refl)
end_parts (c ∷ cs) = let s = end_parts cs in pick (trim_end cs) s.0 s.1 s.2
  where
    alone : (t : Bool) (after : List ℕ) → is_white c ≡ t → IsWhite after → cs ≡ after → (rest : List ℕ) × IsWhite rest × (c ∷ cs ≡ cond t [] (c ∷ []) ++ rest)
    alone true after w h e = (c ∷ after, and_true _ _ w h, ap (λ l. c ∷ l) e)
    alone false after w h e = (after, h, ap (λ l. c ∷ l) e)

    pick : (ds after : List ℕ) → IsWhite after → cs ≡ ds ++ after → (rest : List ℕ) × IsWhite rest × (c ∷ cs ≡ before_trimmed c ds ++ rest)
    pick [] after h e = alone (is_white c) after refl h e
    pick (d ∷ ds) after h e = (after, h, ap (λ l. c ∷ l) e)

-- ---- signs

mapped_some : (f : ℕ → ℤ) (o : Option ℕ) (n : ℤ) → option_map f o ≡ Some n → (m : ℕ) × (o ≡ Some m) × (n ≡ f m)
mapped_some f None n h = absurd (cc)
mapped_some f (Some m) n h = (m, refl, cc)

pub signed_parts : (style : Integers) (core : List ℕ) (n : ℤ) → signed style core ≡ Some n → (sign digits : List ℕ) × (m : ℕ) × (core ≡ sign ++ digits) × (unsigned style digits ≡ Some m) × IsSigned sign m n
signed_parts style [] n h = absurd (cc)
signed_parts style (c ∷ cs) n h = pick (c == 45) (c == 43) refl refl h
  where
    pick : (t u : Bool) → (c == 45) ≡ t → (c == 43) ≡ u → cond t (option_map (with_sign true) (unsigned style cs)) (cond u (option_map (with_sign false) (unsigned style cs)) (option_map (with_sign false) (unsigned style (c ∷ cs)))) ≡ Some n → (sign digits : List ℕ) × (m : ℕ) × (c ∷ cs ≡ sign ++ digits) × (unsigned style digits ≡ Some m) × IsSigned sign m n
    pick true u p q h = let s = mapped_some (with_sign true) (unsigned style cs) n h in (c ∷ [], cs, s.0, refl, s.1, inr ((Decides-eqb c 45).0 p, s.2))
    pick false true p q h = let s = mapped_some (with_sign false) (unsigned style cs) n h in (c ∷ [], cs, s.0, refl, s.1, inl ((Decides-eqb c 43).0 q, s.2))
    pick false false p q h = let s = mapped_some (with_sign false) (unsigned style (c ∷ cs)) n h in ([], c ∷ cs, s.0, refl, s.1, s.2)

plain_signed : (style : Integers) (digits : List ℕ) (m : ℕ) → AllDark digits → unsigned style digits ≡ Some m → signed style digits ≡ Some (pos m)
plain_signed style [] m d h = absurd (cc)
plain_signed style (c ∷ cs) m d h =
    ap (λ t. cond t (option_map (with_sign true) (unsigned style cs)) (cond (c == 43) (option_map (with_sign false) (unsigned style cs)) (option_map (with_sign false) (unsigned style (c ∷ cs))))) (dark_not_minus c d.0)
    ∙ ap (λ t. cond t (option_map (with_sign false) (unsigned style cs)) (option_map (with_sign false) (unsigned style (c ∷ cs)))) (dark_not_plus c d.0)
    ∙ ap (option_map (with_sign false)) h

pub signed_join : (style : Integers) (sign digits : List ℕ) (m : ℕ) (n : ℤ) → unsigned style digits ≡ Some m → IsSigned sign m n → signed style (sign ++ digits) ≡ Some n
signed_join style [] digits m n h s = plain_signed style digits m (unsigned_dark style digits m h) h ∙ ap Some (sym s)
signed_join style (c ∷ []) digits m n h (inl s) = ap (λ a. signed style (a ∷ digits)) s.0 ∙ ap (option_map (with_sign false)) h ∙ ap Some (sym s.1)
signed_join style (c ∷ []) digits m n h (inr s) = ap (λ a. signed style (a ∷ digits)) s.0 ∙ ap (option_map (with_sign true)) h ∙ ap Some (sym s.1)
signed_join style (c ∷ d ∷ cs) digits m n h s = absurd s

-- ---- integer texts

start_at : (style : Integers) (sign digits after : List ℕ) (m : ℕ) (n : ℤ) → unsigned style digits ≡ Some m → IsSigned sign m n → trim_start (sign ++ (digits ++ after)) ≡ sign ++ (digits ++ after)
start_at style [] [] after m n h s = absurd (cc)
start_at style [] (c ∷ cs) after m n h s = start_dark c (cs ++ after) (dark_not_white c (unsigned_dark style (c ∷ cs) m h).0)
start_at style (c ∷ []) digits after m n h (inl s) = start_dark c (digits ++ after) (ap is_white s.0)
start_at style (c ∷ []) digits after m n h (inr s) = start_dark c (digits ++ after) (ap is_white s.0)
start_at style (c ∷ d ∷ cs) digits after m n h s = absurd s

end_at : (style : Integers) (sign digits after : List ℕ) (m : ℕ) (n : ℤ) → unsigned style digits ≡ Some m → IsSigned sign m n → IsWhite after → trim_end (sign ++ (digits ++ after)) ≡ sign ++ digits
end_at style [] digits after m n h s w = end_dark digits after (unsigned_dark style digits m h) w
end_at style (c ∷ []) digits after m n h (inl s) w = ap (before_trimmed c) (end_dark digits after (unsigned_dark style digits m h) w) ∙ kept_before c digits (ap is_white s.0)
end_at style (c ∷ []) digits after m n h (inr s) w = ap (before_trimmed c) (end_dark digits after (unsigned_dark style digits m h) w) ∙ kept_before c digits (ap is_white s.0)
end_at style (c ∷ d ∷ cs) digits after m n h s w = absurd s

pub integers_by_form : IntegersByForm
integers_by_form style text n = (apart, joined)
  where
    apart : integer_of style text ≡ Some n → IsInteger style text n
    apart h =
        let front = start_parts text in
        let back = end_parts (trim_start text) in
        let core = signed_parts style (trim_end (trim_start text)) n h in
        record {
          before = front.0;
          sign = core.0;
          digits = core.1;
          after = back.0;
          size = core.2;
          parts = front.2 ∙ ap (λ l. front.0 ++ l) (back.2 ∙ ap (λ l. l ++ back.0) core.3 ∙ append_assoc core.0 core.1 back.0);
          white_before = front.1;
          white_after = back.1;
          number = core.4;
          signed = core.5;
        }

    joined : IsInteger style text n → integer_of style text ≡ Some n
    joined i =
        let start = ap trim_start i.parts ∙ start_white i.before (i.sign ++ (i.digits ++ i.after)) i.white_before ∙ start_at style i.sign i.digits i.after i.size n i.number i.signed in
        ap (λ l. signed style (trim_end l)) start ∙ ap (signed style) (end_at style i.sign i.digits i.after i.size n i.number i.signed i.white_after) ∙ signed_join style i.sign i.digits i.size n i.number i.signed
