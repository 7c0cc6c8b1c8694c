-- What a text spells is no longer than the text.
use Rattle.std.proofs.Common.{◌≡◌, ℕ, zero, suc, ◌+◌, ◌*◌, ◌<◌, ◌≤◌, Bool, true, false, cond, ◌==◌, List, [], ◌∷◌, ◌++◌, length, take, get_or, max, reverse, Result, Err, refl, sym, ap, subst, inl, inr, arith, Ok, length-append}
use Rattle.std.specs.Char.{encode_utf8, is_digit, digit_value}
use Rattle.std.specs.List.{prefix_len}
use Rattle.std.specs.Str.Parse.{digits_value}
use Rattle.std.proofs.lemmas.Bool.{cases_Bool, cases_eq}
use Rattle.std.proofs.lemmas.Bool.Decides.{nat_tests}
use Rattle.std.proofs.lemmas.Int.Digits.{digits_value_more}
use Rattle.std.proofs.lemmas.List.Sums.{prefix_len_passes, prefix_len-le-length}
use Rattle.std.proofs.lemmas.List.{reverse-append}
use Rattle.std.proofs.lemmas.Str.{length-encode, len_utf8_bounds}
use Rattle.tcl_text.specs.Backslash.{is_number, hexadecimal, Escape, escape, escape_of, character, number_value, number_len}
use Rattle.tcl_text.specs.Lists.{Units, none, byte, sequence, Elem, braced, quoted, bare, Spells, list_of}
use Rattle.tcl_text.specs.declared.list.ListFault.{ListFault}
use Rattle.tcl_text.proofs.Spellings.{gives_list}
use Rattle.std.specs.Str.{bytes_eq}
use Rattle.tcl_flow.specs.OptionReading.{weight}
use Rattle.tcl_value.specs.Dicts.{Pairs, put, put_all, dict_of_read, dict_of}
use Rattle.tcl_value.specs.declared.dict_fault.DictFault.TheVariants.{MissingValue}
use Rattle.tcl_text.proofs.Fronts.{Number, number_parts}

-- a sequence means no more bytes than it has, its backslash counted
abbrev Fits : Escape → Type 0
Fits e = length e.meaning ≤ suc e.taken

either : (t : Bool) (x y : Escape) → Fits x → Fits y → Fits (cond t x y)
either true x y a b = a
either false x y a b = b

len_one : (n : ℕ) → n ≤ 127 → length (encode_utf8 (character n)) ≤ 1
len_one n h = let e = length-encode (character n) in grind (arith, nat_tests)

len_two : (n : ℕ) → n ≤ 255 → length (encode_utf8 (character n)) ≤ 2
len_two n h = let e = length-encode (character n) in grind (arith, nat_tests)

len_three : (n : ℕ) → n ≤ 0xFFFF → length (encode_utf8 (character n)) ≤ 3
len_three n h = let e = length-encode (character n) in grind (arith, nat_tests)

len_four : (n : ℕ) → length (encode_utf8 (character n)) ≤ 4
len_four n = let e = length-encode (character n) in let b = len_utf8_bounds (character n) in omega arith

-- the digits that are read are a number
read_number : (base greatest width : ℕ) (s : List ℕ) → Number base greatest (number_len width base greatest s) s
unfolding number_len
read_number base greatest zero s = record { digits = omega arith; small = omega arith }
read_number base greatest (suc width) s =
    elim (cases_Bool (is_number base greatest (suc width) s)) [
      | inl holds ↦ rw holds (number_parts base greatest (suc width) s holds)
      | inr fails ↦ rw fails (read_number base greatest width s)
    ]

one_digit : (s : List ℕ) → 1 ≤ prefix_len (λ b. is_digit b 16) s → digits_value 16 (take 1 s) ≤ 127
one_digit s h =
    let l : 0 < length s = omega (arith, prefix_len-le-length (λ b. is_digit b 16) s) in
    let more : digits_value 16 (take 1 s) ≡ digits_value 16 (take 0 s) * 16 + digit_value (get_or s 0 0) = digits_value_more 16 s 0 l in
    let passes = prefix_len_passes (λ b. is_digit b 16) s 0 0 (omega arith) in
    grind (arith, nat_tests)

hexadecimal_two : (letter width : ℕ) (s : List ℕ) → Fits (hexadecimal letter width 255 s)
hexadecimal_two letter width s =
    elim (cases_Bool (number_len width 16 255 s == 0)) [
      | inl no_digit ↦ rw no_digit (omega arith)
      | inr digit ↦ rw digit (let m = len_two (number_value width 16 255 s) (read_number 16 255 width s).small in grind (arith, nat_tests))
    ]

hexadecimal_three : (letter width : ℕ) (s : List ℕ) → Fits (hexadecimal letter width 0xFFFF s)
hexadecimal_three letter width s =
    elim (cases_Bool (number_len width 16 0xFFFF s == 0)) [
      | inl no_digit ↦ rw no_digit (omega arith)
      | inr digit ↦ rw digit (let m = len_three (number_value width 16 0xFFFF s) (read_number 16 0xFFFF width s).small in grind (arith, nat_tests))
    ]

by_digits : (n value : ℕ) → 1 ≤ n → (n ≡ 1 → value ≤ 127) → length (encode_utf8 (character value)) ≤ suc (suc n)
by_digits n value h small =
    elim (cases_eq n 1) [
      | inl one ↦ let m = len_one value (small one) in omega arith
      | inr more ↦ let m = len_four value in omega arith
    ]

hexadecimal_four : (letter width : ℕ) (s : List ℕ) → Fits (hexadecimal letter width 0x10_FFFF s)
hexadecimal_four letter width s =
    let read = read_number 16 0x10_FFFF width s in
    let digits = read.digits in
    elim (cases_Bool (number_len width 16 0x10_FFFF s == 0)) [
      | inl no_digit ↦ rw no_digit (omega arith)
      | inr digit ↦ rw digit (by_digits (number_len width 16 0x10_FFFF s) (number_value width 16 0x10_FFFF s) (grind (arith, nat_tests)) (λ one. subst (λ n. digits_value 16 (take n s) ≤ 127) (sym one) (one_digit s (omega arith))))
    ]

octal_by : (n value : ℕ) → value ≤ 255 → (n ≡ 0 → value ≡ 0) → length (encode_utf8 (character value)) ≤ suc n
octal_by n value h empty =
    elim (cases_eq n 0) [
      | inl nothing ↦ let v = empty nothing in let m = len_one value (omega arith) in omega arith
      | inr some ↦ let m = len_two value h in omega arith
    ]

octal : (s : List ℕ) → Fits (escape_of (encode_utf8 (character (number_value 3 8 255 s))) (number_len 3 8 255 s))
octal s = octal_by (number_len 3 8 255 s) (number_value 3 8 255 s) (read_number 8 255 3 s).small (λ empty. ap (λ n. digits_value 8 (take n s)) empty)

pub escape_fits : (s : List ℕ) → length (escape s).meaning ≤ suc (escape s).taken
unfolding escape
escape_fits [] = omega arith
escape_fits (b ∷ s) =
    either (is_digit b 8) _ _ (octal (b ∷ s))
    (either (b == 97) _ _ (omega arith)
    (either (b == 98) _ _ (omega arith)
    (either (b == 102) _ _ (omega arith)
    (either (b == 110) _ _ (omega arith)
    (either (b == 114) _ _ (omega arith)
    (either (b == 116) _ _ (omega arith)
    (either (b == 118) _ _ (omega arith)
    (either (b == 10) _ _ (omega arith)
    (either (b == 120) _ _ (hexadecimal_two 120 2 s)
    (either (b == 117) _ _ (hexadecimal_three 117 4 s)
    (either (b == 85) _ _ (hexadecimal_four 85 8 s) (omega arith))))))))))))

units_fit : (stop : ℕ → Bool) (after x s : List ℕ) → Units stop after x s → length x ≤ length s
units_fit stop after _ _ none = omega arith
units_fit stop after _ _ (byte b x s other dark more) = let m = units_fit stop after x s more in omega arith
units_fit stop after _ _ (sequence own x s m t whole taken means more) =
    let u = units_fit stop after x s more in
    let e = escape_fits (t ++ after) in
    omega (arith, ap length whole, ap length means, length-append own s, length-append (escape (t ++ after)).meaning x)

-- an element has no more bytes than what spells it, which has one at least
pub elem_fits : (x s after : List ℕ) → Elem x s after → (length x ≤ length s) × (1 ≤ length s)
elem_fits x s after (braced whole balanced) = let e = ap length whole in let l = length-append x (125 ∷ []) in (omega arith, omega arith)
elem_fits x s after (quoted t whole means) =
    let e = ap length whole in let l = length-append t (34 ∷ []) in let u = units_fit _ _ x t means in (omega arith, omega arith)
elem_fits x s after (bare b t whole no_brace no_quote means) =
    let e = ap length whole in let u = units_fit _ _ x (b ∷ t) means in (omega arith, omega arith)

-- how many bytes spell a list at least
abbrev spelled : List (List ℕ) → ℕ
spelled [] = 0
spelled (x ∷ l) = max 1 (length x) + spelled l

list_fits : (l : List (List ℕ)) (s : List ℕ) → Spells l s → spelled l ≤ length s
list_fits [] s h = omega arith
list_fits (x ∷ l) s h =
    let e = elem_fits x h.elem h.rest h.is_elem in
    let m = list_fits l h.rest h.goes in
    omega (arith, ap length h.whole, length-append h.white (h.elem ++ h.rest), length-append h.elem h.rest)

insert_by : (t : Bool) (e : List ℕ × List ℕ) (es more : Pairs) (k v : List ℕ) → weight more ≤ weight es + suc (length v) → weight (cond t ((e.0, v) ∷ es) (e ∷ more)) ≤ weight (e ∷ es) + suc (length v)
insert_by true e es more k v h = omega arith
insert_by false e es more k v h = omega arith

put_weight : (es : Pairs) (k v : List ℕ) → weight (put es k v) ≤ weight es + suc (length v)
put_weight [] k v = omega arith
put_weight (e ∷ es) k v = insert_by (bytes_eq k e.0) e es (put es k v) k v (put_weight es k v)

put_all_weight : (es : Pairs) (l : List (List ℕ)) → weight (put_all es l) ≤ weight es + spelled l
put_all_weight es [] = omega arith
put_all_weight es (x ∷ []) = omega arith
put_all_weight es (k ∷ v ∷ l) = let one = put_weight es k v in let rest = put_all_weight (put es k v) l in omega arith

of_list : (l : List (List ℕ)) (t : Bool) (es : Pairs) → cond t (Err MissingValue) (Ok (put_all [] l)) ≡ Ok es → weight es ≤ spelled l
of_list l true es h = absurd (cc)
of_list l false es h = let same : put_all [] l ≡ es = cc in subst (λ z. weight z ≤ spelled l) same (omega (arith, put_all_weight [] l))

of_read : (s : List ℕ) (r : Result (List (List ℕ)) ListFault) (es : Pairs) → list_of s ≡ r → dict_of_read r ≡ Ok es → weight es ≤ length s
of_read s (Err f) es e h = absurd (cc)
of_read s (Ok l) es e h = let m = list_fits l s ((gives_list l s).0 e) in let w = of_list l _ es h in omega arith

-- the entries of a dict have less to read than the option that it is the value of
pub dict_weight : (s : List ℕ) (es : Pairs) → dict_of s ≡ Ok es → weight es ≤ length s
dict_weight s es h = of_read s (list_of s) es refl h

pub weight-append : (ps qs : Pairs) → weight (ps ++ qs) ≡ weight ps + weight qs
weight-append [] qs = omega arith
weight-append (p ∷ ps) qs = omega (arith, weight-append ps qs)

pub weight-reverse : (ps : Pairs) → weight (reverse ps) ≡ weight ps
weight-reverse [] = refl
weight-reverse (p ∷ ps) = let e = ap weight (reverse-append (p ∷ []) ps) in omega (arith, weight-append (reverse ps) (p ∷ []), weight-reverse ps)
