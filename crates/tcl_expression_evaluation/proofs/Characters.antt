-- Texts compare by their bytes as by the numbers of their characters.
use Rattle.std.proofs.Common.{◌≡◌, ◌∙◌, refl, sym, ap, ap₂, ℕ, ◌+◌, ◌/◌, ◌<◌, ◌≤◌, List, [], ◌∷◌, ◌++◌, inl, inr, arith}
use Rattle.std.proofs.lemmas.Bool.{cases_lt}
use Rattle.std.proofs.lemmas.Bool.Decides.{nat_tests}
use Rattle.std.proofs.lemmas.Cmp.{nat_list_cmp_total}
use Rattle.std.proofs.lemmas.Str.{encode_ascii, chars-encodes}
use Rattle.std.specs.Ordering.{nat_cmp, ordering_reverse}
use Rattle.std.specs.declared.cmp.Ordering.{Ordering}
use Rattle.std.specs.declared.cmp.Ordering.TheVariants.{Less, Greater}
use Rattle.std.specs.Cmp.Lexicographic.{slice_cmp}
use Rattle.std.specs.Str.{chars}
use lib.Utf8.{next, encode, encodes}
use Rattle.tcl_expression_evaluation.specs.Characters.{BytesOrderCharacters}

abbrev order : List ℕ → List ℕ → Ordering
order = slice_cmp nat_cmp

-- ## The first bytes that differ decide

before_it : (x y : ℕ) (r t : List ℕ) → x < y → order (x ∷ r) (y ∷ t) ≡ Less
before_it x y r t h = grind (arith, nat_tests)

same_first : (x y : ℕ) (r t : List ℕ) → x ≡ y → order (x ∷ r) (y ∷ t) ≡ order r t
same_first x y r t h = grind (arith, nat_tests)

same_front : (s r t : List ℕ) → order (s ++ r) (s ++ t) ≡ order r t
same_front [] r t = refl
same_front (x ∷ s) r t = same_first x x (s ++ r) (s ++ t) refl ∙ same_front s r t

-- ## The bytes of a character, by its number

two : (c : ℕ) → 128 ≤ c → c < 2048 → encode c ≡ (192 + c / 64) ∷ next c ∷ []
unfolding encode
two c l h = grind (arith, nat_tests)

three : (c : ℕ) → 2048 ≤ c → c < 65536 → encode c ≡ (224 + c / 4096) ∷ next (c / 64) ∷ next c ∷ []
unfolding encode
three c l h = grind (arith, nat_tests)

four : (c : ℕ) → 65536 ≤ c → encode c ≡ (240 + c / 262144) ∷ next (c / 4096) ∷ next (c / 64) ∷ next c ∷ []
unfolding encode
four c l = grind (arith, nat_tests)

-- ## The smaller character's bytes come first

last_byte : (c d : ℕ) (r t : List ℕ) → c < d → c / 64 ≡ d / 64 → order (next c ∷ r) (next d ∷ t) ≡ Less
last_byte c d r t h e = before_it (next c) (next d) r t (omega arith)

two_bytes : (a c d : ℕ) (r t : List ℕ) → c < d → order ((a + c / 64) ∷ next c ∷ r) ((a + d / 64) ∷ next d ∷ t) ≡ Less
two_bytes a c d r t h = elim (cases_lt (c / 64) (d / 64)) [
  | inl less ↦ before_it (a + c / 64) (a + d / 64) (next c ∷ r) (next d ∷ t) (omega arith)
  | inr more ↦
      let e : c / 64 ≡ d / 64 = omega arith in
      same_first (a + c / 64) (a + d / 64) (next c ∷ r) (next d ∷ t) (omega arith) ∙ last_byte c d r t h e
]

last_two : (c d : ℕ) (r t : List ℕ) → c < d → c / 4096 ≡ d / 4096 → order (next (c / 64) ∷ next c ∷ r) (next (d / 64) ∷ next d ∷ t) ≡ Less
last_two c d r t h e = elim (cases_lt (c / 64) (d / 64)) [
  | inl less ↦ before_it (next (c / 64)) (next (d / 64)) (next c ∷ r) (next d ∷ t) (omega arith)
  | inr more ↦
      let f : c / 64 ≡ d / 64 = omega arith in
      same_first (next (c / 64)) (next (d / 64)) (next c ∷ r) (next d ∷ t) (ap next f) ∙ last_byte c d r t h f
]

three_bytes : (a c d : ℕ) (r t : List ℕ) → c < d → order ((a + c / 4096) ∷ next (c / 64) ∷ next c ∷ r) ((a + d / 4096) ∷ next (d / 64) ∷ next d ∷ t) ≡ Less
three_bytes a c d r t h = elim (cases_lt (c / 4096) (d / 4096)) [
  | inl less ↦ before_it (a + c / 4096) (a + d / 4096) (next (c / 64) ∷ next c ∷ r) (next (d / 64) ∷ next d ∷ t) (omega arith)
  | inr more ↦
      let e : c / 4096 ≡ d / 4096 = omega arith in
      same_first (a + c / 4096) (a + d / 4096) (next (c / 64) ∷ next c ∷ r) (next (d / 64) ∷ next d ∷ t) (omega arith) ∙ last_two c d r t h e
]

last_three : (c d : ℕ) (r t : List ℕ) → c < d → c / 262144 ≡ d / 262144 →
    order (next (c / 4096) ∷ next (c / 64) ∷ next c ∷ r) (next (d / 4096) ∷ next (d / 64) ∷ next d ∷ t) ≡ Less
last_three c d r t h e = elim (cases_lt (c / 4096) (d / 4096)) [
  | inl less ↦ before_it (next (c / 4096)) (next (d / 4096)) (next (c / 64) ∷ next c ∷ r) (next (d / 64) ∷ next d ∷ t) (omega arith)
  | inr more ↦
      let f : c / 4096 ≡ d / 4096 = omega arith in
      same_first (next (c / 4096)) (next (d / 4096)) (next (c / 64) ∷ next c ∷ r) (next (d / 64) ∷ next d ∷ t) (ap next f) ∙ last_two c d r t h f
]

four_bytes : (c d : ℕ) (r t : List ℕ) → c < d →
    order ((240 + c / 262144) ∷ next (c / 4096) ∷ next (c / 64) ∷ next c ∷ r) ((240 + d / 262144) ∷ next (d / 4096) ∷ next (d / 64) ∷ next d ∷ t) ≡ Less
four_bytes c d r t h = elim (cases_lt (c / 262144) (d / 262144)) [
  | inl less ↦ before_it (240 + c / 262144) (240 + d / 262144) (next (c / 4096) ∷ next (c / 64) ∷ next c ∷ r) (next (d / 4096) ∷ next (d / 64) ∷ next d ∷ t) (omega arith)
  | inr more ↦
      let e : c / 262144 ≡ d / 262144 = omega arith in
      same_first (240 + c / 262144) (240 + d / 262144) (next (c / 4096) ∷ next (c / 64) ∷ next c ∷ r) (next (d / 4096) ∷ next (d / 64) ∷ next d ∷ t) (omega arith) ∙ last_three c d r t h e
]

-- how many bytes, with what they are
data Width (c : ℕ) : Type 0 where
  one_byte : c < 128 → Width c
  two_of : 128 ≤ c → c < 2048 → Width c
  three_of : 2048 ≤ c → c < 65536 → Width c
  four_of : 65536 ≤ c → Width c

width : (c : ℕ) → Width c
width c = elim (cases_lt c 128) [
  | inl a ↦ one_byte a
  | inr a ↦ elim (cases_lt c 2048) [
    | inl b ↦ two_of a b
    | inr b ↦ elim (cases_lt c 65536) [ inl d ↦ three_of b d | inr d ↦ four_of d ]
  ]
]

joined : (c d : ℕ) (x y r t : List ℕ) → encode c ≡ x → encode d ≡ y → order (x ++ r) (y ++ t) ≡ Less → order (encode c ++ r) (encode d ++ t) ≡ Less
joined c d x y r t e f h = ap₂ (λ (a b : List ℕ). order (a ++ r) (b ++ t)) e f ∙ h

comes_first : (c d : ℕ) (r t : List ℕ) → c < d → Width c → Width d → order (encode c ++ r) (encode d ++ t) ≡ Less
comes_first c d r t h (one_byte a) (one_byte b) = joined c d _ _ r t (encode_ascii c a) (encode_ascii d b) (before_it c d r t h)
comes_first c d r t h (one_byte a) (two_of b m) = joined c d _ _ r t (encode_ascii c a) (two d b m) (before_it c (192 + d / 64) r (next d ∷ t) (omega arith))
comes_first c d r t h (one_byte a) (three_of b m) = joined c d _ _ r t (encode_ascii c a) (three d b m) (before_it c (224 + d / 4096) r (next (d / 64) ∷ next d ∷ t) (omega arith))
comes_first c d r t h (one_byte a) (four_of b) = joined c d _ _ r t (encode_ascii c a) (four d b) (before_it c (240 + d / 262144) r (next (d / 4096) ∷ next (d / 64) ∷ next d ∷ t) (omega arith))
comes_first c d r t h (two_of a n) (two_of b m) = joined c d _ _ r t (two c a n) (two d b m) (two_bytes 192 c d r t h)
comes_first c d r t h (two_of a n) (three_of b m) = joined c d _ _ r t (two c a n) (three d b m) (before_it (192 + c / 64) (224 + d / 4096) (next c ∷ r) (next (d / 64) ∷ next d ∷ t) (omega arith))
comes_first c d r t h (two_of a n) (four_of b) = joined c d _ _ r t (two c a n) (four d b) (before_it (192 + c / 64) (240 + d / 262144) (next c ∷ r) (next (d / 4096) ∷ next (d / 64) ∷ next d ∷ t) (omega arith))
comes_first c d r t h (three_of a n) (three_of b m) = joined c d _ _ r t (three c a n) (three d b m) (three_bytes 224 c d r t h)
comes_first c d r t h (three_of a n) (four_of b) = joined c d _ _ r t (three c a n) (four d b) (before_it (224 + c / 4096) (240 + d / 262144) (next (c / 64) ∷ next c ∷ r) (next (d / 4096) ∷ next (d / 64) ∷ next d ∷ t) (omega arith))
comes_first c d r t h (four_of a) (four_of b) = joined c d _ _ r t (four c a) (four d b) (four_bytes c d r t h)
comes_first c d r t h (two_of a n) (one_byte b) = absurd (omega arith)
comes_first c d r t h (three_of a n) (one_byte b) = absurd (omega arith)
comes_first c d r t h (three_of a n) (two_of b m) = absurd (omega arith)
comes_first c d r t h (four_of a) (one_byte b) = absurd (omega arith)
comes_first c d r t h (four_of a) (two_of b m) = absurd (omega arith)
comes_first c d r t h (four_of a) (three_of b m) = absurd (omega arith)

first_of_texts : (c d : ℕ) (r t : List ℕ) → c < d → order (encode c ++ r) (encode d ++ t) ≡ Less
first_of_texts c d r t h = comes_first c d r t h (width c) (width d)

-- ## Whole texts

shorter : (c : ℕ) (r : List ℕ) → Width c → order [] (encode c ++ r) ≡ Less
shorter c r (one_byte a) = ap (λ (x : List ℕ). order [] (x ++ r)) (encode_ascii c a)
shorter c r (two_of a n) = ap (λ (x : List ℕ). order [] (x ++ r)) (two c a n)
shorter c r (three_of a n) = ap (λ (x : List ℕ). order [] (x ++ r)) (three c a n)
shorter c r (four_of a) = ap (λ (x : List ℕ). order [] (x ++ r)) (four c a)

turned : (x y : List ℕ) → order x y ≡ Less → order y x ≡ Greater
turned x y h = nat_list_cmp_total.antisymm y x ∙ ap ordering_reverse h

by_characters : (cs ds : List ℕ) → order (encodes cs) (encodes ds) ≡ order cs ds
by_characters [] [] = refl
by_characters [] (d ∷ ds) = shorter d (encodes ds) (width d)
by_characters (c ∷ cs) [] = turned [] (encode c ++ encodes cs) (shorter c (encodes cs) (width c))
by_characters (c ∷ cs) (d ∷ ds) = elim (cases_lt c d) [
  | inl less ↦ first_of_texts c d (encodes cs) (encodes ds) less ∙ sym (before_it c d cs ds less)
  | inr more ↦ elim (cases_lt d c) [
    | inl less ↦ turned (encode d ++ encodes ds) (encode c ++ encodes cs) (first_of_texts d c (encodes ds) (encodes cs) less) ∙ sym (turned (d ∷ ds) (c ∷ cs) (before_it d c ds cs less))
    | inr least ↦
        let e : c ≡ d = omega arith in
        ap (λ (x : ℕ). order (encode c ++ encodes cs) (encode x ++ encodes ds)) (sym e) ∙ same_front (encode c) (encodes cs) (encodes ds) ∙ by_characters cs ds ∙ sym (same_first c d cs ds e)
  ]
]

pub bytes_order_characters : BytesOrderCharacters
bytes_order_characters a b u v =
    ap₂ (λ (x y : List ℕ). order x y) (sym u.1.1) (sym v.1.1)
    ∙ by_characters u.0 v.0
    ∙ ap₂ (λ (x y : List ℕ). order x y) (sym (chars-encodes u.0 u.1.0)) (sym (chars-encodes v.0 v.1.0))
    ∙ ap₂ (λ (x y : List ℕ). order (chars x) (chars y)) u.1.1 v.1.1
