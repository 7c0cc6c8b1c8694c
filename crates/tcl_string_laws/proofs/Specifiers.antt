-- Specifiers, as they are written and as they are read.
use Rattle.std.proofs.Common.{◌≡◌, ℕ, ◌+◌, ◌-◌, ◌*◌, ◌≤◌, ◌⊎◌, inl, inr, Bool, true, false, cond, List, [], ◌∷◌, ◌++◌, length, Option, Some, None, refl, sym, ◌∙◌, ap, subst, arith}
use Rattle.std.specs.Prelude.{◌==◌, ◌||◌, ◌^◌, min, nat_le}
use Rattle.std.specs.Char.{is_ascii_digit, digit_value}
use Rattle.std.proofs.lemmas.Bool.{false≢true}
use Rattle.std.proofs.lemmas.Bool.Decides.{nat_tests, Decides-eqb}
use Rattle.std.proofs.Math.Nat.{pow-suc, pow-zero}
use Rattle.tcl_text.specs.Numbers.{sum_of_digits}
use Rattle.tcl_format.specs.declared.specifier.Flags.{Flags}
use Rattle.tcl_format.specs.declared.specifier.Conversion.{Conversion}
use Rattle.tcl_format.specs.declared.specifier.Specifier.{Specifier}
use Rattle.tcl_format.specs.Specifiers.{is_flag, no_flags, with_flag, read_flags, read_number, capped, precise, read_precision, behind_l, conversion_of, made_of, closed, behind_precision, behind_width, behind_flags, specified}
use Rattle.tcl_string_laws.specs.Specifiers.{Each, has, IsWidth, written_precision, IsPrecision, IsSize, flags_of, precision_of, IsWritten, SpecifiersReadOneWay}

-- ---- runs of characters that pass a test

-- none that passes stands first
abbrev pub Stops : (ℕ → Bool) → List ℕ → Type 0
Stops p [] = Unit {0}
Stops p (c ∷ cs) = p c ≡ false

record Split (p : ℕ → Bool) (cs : List ℕ) : Type 0 where
  front : List ℕ
  rest : List ℕ
  whole : cs ≡ front ++ rest
  each : Each p front
  stops : Stops p rest

split : (p : ℕ → Bool) (cs : List ℕ) → Split p cs
split p [] = record { front = []; rest = []; whole = refl; each = tt; stops = tt }
split p (c ∷ cs) = by_test (p c) refl (split p cs)
  where
    by_test : (t : Bool) → p c ≡ t → Split p cs → Split p (c ∷ cs)
    by_test true e h = record { front = c ∷ h.front; rest = h.rest; whole = ap (λ l. c ∷ l) h.whole; each = (e, h.each); stops = h.stops }
    by_test false e h = record { front = []; rest = c ∷ cs; whole = refl; each = tt; stops = e }

-- ---- flags

gather : Flags → List ℕ → Flags
gather f [] = f
gather f (c ∷ cs) = gather (with_flag f c) cs

flags_read : (f : Flags) (front rest : List ℕ) → Each is_flag front → Stops is_flag rest → read_flags f (front ++ rest) ≡ (gather f front, rest)
unfolding gather
flags_read f [] [] e s = refl
flags_read f [] (c ∷ cs) e s = ap (λ t. cond t (read_flags (with_flag f c) cs) (f, c ∷ cs)) s
flags_read f (c ∷ front) rest e s =
    ap (λ t. cond t (read_flags (with_flag f c) (front ++ rest)) (f, c ∷ (front ++ rest))) e.0 ∙ flags_read (with_flag f c) front rest e.1 s

or_none : (a : Bool) → (a || false) ≡ a
or_none true = refl
or_none false = refl

or_more : (a b c : Bool) → ((a || b) || c) ≡ (a || (b || c))
or_more true b c = refl
or_more false b c = refl

abbrev with_parts : Bool → Bool → Bool → Flags
with_parts l z p = record { left = l; zeros = z; plus = p }

gathered : (f : Flags) (cs : List ℕ) → gather f cs ≡ record { left = f.left || has 45 cs; zeros = f.zeros || has 48 cs; plus = f.plus || has 43 cs }
unfolding gather
gathered f [] =
    sym (ap (λ l. with_parts l (f.zeros || false) (f.plus || false)) (or_none f.left) ∙ ap (λ z. with_parts f.left z (f.plus || false)) (or_none f.zeros) ∙ ap (λ p. with_parts f.left f.zeros p) (or_none f.plus))
gathered f (c ∷ cs) =
    let more = gathered (with_flag f c) cs in
    let a = or_more f.left (c == 45) (has 45 cs) in
    let b = or_more f.zeros (c == 48) (has 48 cs) in
    let d = or_more f.plus (c == 43) (has 43 cs) in
    cc

-- ---- numbers

horner : ℕ → List ℕ → ℕ
horner n [] = n
horner n (c ∷ cs) = horner (n * 10 + (c - 48)) cs

number_read : (n : ℕ) (front rest : List ℕ) → Each is_ascii_digit front → Stops is_ascii_digit rest → read_number n (front ++ rest) ≡ (horner n front, rest)
unfolding horner
number_read n [] [] e s = refl
number_read n [] (c ∷ cs) e s = ap (λ t. cond t (read_number (n * 10 + (c - 48)) cs) (n, c ∷ cs)) s
number_read n (c ∷ front) rest e s =
    ap (λ t. cond t (read_number (n * 10 + (c - 48)) (front ++ rest)) (n, c ∷ (front ++ rest))) e.0 ∙ number_read (n * 10 + (c - 48)) front rest e.1 s

digit_is : (c : ℕ) → is_ascii_digit c ≡ true → digit_value c ≡ c - 48
digit_is c e = grind (arith, nat_tests)

digit_range : (c : ℕ) → is_ascii_digit c ≡ true → (48 ≤ c) × (c ≤ 57)
digit_range c e = grind (arith, nat_tests)

one_digit : (n d p s q : ℕ) → q ≡ p * 10 → (n * 10 + d) * p + s ≡ n * q + (d * p + s)
one_digit n d p s q e = rw e (omega arith)

horner_sum : (n : ℕ) (cs : List ℕ) → Each is_ascii_digit cs → horner n cs ≡ n * 10 ^ length cs + sum_of_digits 10 cs
unfolding horner
horner_sum n [] e = sym (ap (λ p. n * p + 0) (pow-zero 10) ∙ plain n)
  where
    plain : (n : ℕ) → n * 1 + 0 ≡ n
    plain n = omega arith
horner_sum n (c ∷ cs) e =
    horner_sum (n * 10 + (c - 48)) cs e.1 ∙ one_digit n (c - 48) (10 ^ length cs) (sum_of_digits 10 cs) (10 ^ length (c ∷ cs)) (pow-suc 10 (length cs))
    ∙ ap (λ d. n * 10 ^ length (c ∷ cs) + (d * 10 ^ length cs + sum_of_digits 10 cs)) (sym (digit_is c e.0))

sum_read : (cs : List ℕ) → Each is_ascii_digit cs → horner 0 cs ≡ sum_of_digits 10 cs
sum_read cs e = horner_sum 0 cs e ∙ zero_times (10 ^ length cs) (sum_of_digits 10 cs)
  where
    zero_times : (p s : ℕ) → 0 * p + s ≡ s
    zero_times p s = omega arith

-- ---- precisions

-- a precision stands first, and behind it no digit; or no point stands first
record Precise (cs : List ℕ) : Type 0 where
  precision : Option (List ℕ)
  rest : List ℕ
  whole : cs ≡ written_precision precision ++ rest
  is : IsPrecision precision
  reads : read_precision cs ≡ (precision_of precision, rest)

digits_read : (ds rest : List ℕ) → Each is_ascii_digit ds → Stops is_ascii_digit rest → read_precision (46 ∷ (ds ++ rest)) ≡ (precision_of (Some ds), rest)
digits_read ds rest e s = ap (λ p. precise (capped p)) (number_read 0 ds rest e s) ∙ ap (λ n. precise (capped (n, rest))) (sum_read ds e)

no_point : (c : ℕ) (cs : List ℕ) → (c == 46) ≡ false → read_precision (c ∷ cs) ≡ (None, c ∷ cs)
no_point c cs e = ap (λ t. cond t (precise (capped (read_number 0 cs))) (None, c ∷ cs)) e

split_precision : (cs : List ℕ) → Precise cs
split_precision [] = record { precision = None; rest = []; whole = refl; is = tt; reads = refl }
split_precision (c ∷ cs) = by_test (c == 46) refl
  where
    by_test : (t : Bool) → (c == 46) ≡ t → Precise (c ∷ cs)
    by_test true e =
        let h = split is_ascii_digit cs in
        let point : c ≡ 46 = (Decides-eqb c 46).0 e in
        let whole : c ∷ cs ≡ 46 ∷ (h.front ++ h.rest) = ap (λ d. d ∷ cs) point ∙ ap (λ l. 46 ∷ l) h.whole in
        record { precision = Some h.front; rest = h.rest; whole = whole; is = h.each; reads = ap read_precision whole ∙ digits_read h.front h.rest h.each h.stops }
    by_test false e = record { precision = None; rest = c ∷ cs; whole = refl; is = tt; reads = no_point c cs e }

-- ---- sizes

record Sized (cs : List ℕ) : Type 0 where
  size : List ℕ
  rest : List ℕ
  whole : cs ≡ size ++ rest
  is : IsSize size
  reads : behind_l (behind_l cs) ≡ rest

passed : (c : ℕ) (cs : List ℕ) → (c == 108) ≡ true → (c ∷ cs ≡ 108 ∷ cs) × (behind_l (c ∷ cs) ≡ cs)
passed c cs e = (ap (λ d. d ∷ cs) ((Decides-eqb c 108).0 e), ap (λ t. cond t cs (c ∷ cs)) e)

left : (c : ℕ) (cs : List ℕ) → (c == 108) ≡ false → behind_l (c ∷ cs) ≡ c ∷ cs
left c cs e = ap (λ t. cond t cs (c ∷ cs)) e

record Once (cs : List ℕ) : Type 0 where
  size : List ℕ
  rest : List ℕ
  whole : cs ≡ size ++ rest
  is : (size ≡ []) ⊎ (size ≡ 108 ∷ [])
  reads : behind_l cs ≡ rest

once : (cs : List ℕ) → Once cs
once [] = record { size = []; rest = []; whole = refl; is = inl refl; reads = refl }
once (c ∷ cs) = by_test (c == 108) refl
  where
    by_test : (t : Bool) → (c == 108) ≡ t → Once (c ∷ cs)
    by_test true e = let p = passed c cs e in record { size = 108 ∷ []; rest = cs; whole = p.0; is = inr refl; reads = p.1 }
    by_test false e = record { size = []; rest = c ∷ cs; whole = refl; is = inl refl; reads = left c cs e }

split_size : (cs : List ℕ) → Sized cs
split_size [] = record { size = []; rest = []; whole = refl; is = inl refl; reads = refl }
split_size (c ∷ cs) = by_test (c == 108) refl (once cs)
  where
    by_once : (o : Once cs) → (c == 108) ≡ true → (o.size ≡ []) ⊎ (o.size ≡ 108 ∷ []) → Sized (c ∷ cs)
    by_once o e (inl none) =
        let p = passed c cs e in
        record { size = 108 ∷ []; rest = o.rest; whole = p.0 ∙ ap (λ l. 108 ∷ l) (o.whole ∙ ap (λ s. s ++ o.rest) none); is = inr (inl refl); reads = ap behind_l p.1 ∙ o.reads }
    by_once o e (inr one) =
        let p = passed c cs e in
        record { size = 108 ∷ 108 ∷ []; rest = o.rest; whole = p.0 ∙ ap (λ l. 108 ∷ l) (o.whole ∙ ap (λ s. s ++ o.rest) one); is = inr (inr refl); reads = ap behind_l p.1 ∙ o.reads }

    by_test : (t : Bool) → (c == 108) ≡ t → Once cs → Sized (c ∷ cs)
    by_test true e o = by_once o e o.is
    by_test false e o = record { size = []; rest = c ∷ cs; whole = refl; is = inl refl; reads = ap behind_l (left c cs e) ∙ left c cs e }

-- ---- the whole

read_whole : (flags width : List ℕ) (p : Option ℕ) (one two three four : List ℕ) → Each is_flag flags → Stops is_flag one → one ≡ width ++ two → Each is_ascii_digit width → Stops is_ascii_digit two → read_precision two ≡ (p, three) → behind_l (behind_l three) ≡ four
    → specified (flags ++ one) ≡ closed (flags_of flags) (min (sum_of_digits 10 width) 16777216) p four
read_whole flags width p one two three four f s e w t precision size =
    let number : read_number 0 one ≡ (sum_of_digits 10 width, two) = ap (read_number 0) e ∙ number_read 0 width two w t ∙ ap (λ n. (n, two)) (sum_read width w) in
    ap behind_flags (flags_read no_flags flags one f s ∙ ap (λ g. (g, one)) (gathered no_flags flags))
    ∙ ap (λ n. behind_width (flags_of flags) (capped n)) number
    ∙ ap (behind_precision (flags_of flags) (min (sum_of_digits 10 width) 16777216)) precision
    ∙ ap (closed (flags_of flags) (min (sum_of_digits 10 width) 16777216) p) size

-- ---- from what is read to what is written

record Made (f : Flags) (w : ℕ) (p : Option ℕ) (o : Option Conversion) (s : Specifier) : Type 0 where
  narrow : w ≤ 9999
  flags : s.flags ≡ f
  width : s.width ≡ w
  precision : s.precision ≡ p
  conversion : o ≡ Some s.conversion

parts_of : (f : Flags) (w : ℕ) (p : Option ℕ) (o : Option Conversion) (s : Specifier) → made_of f w p o ≡ Some s → Made f w p o s
parts_of f w p None s e = let no_way : ⊥ = cc in absurd no_way
parts_of f w p (Some k) s e = by_test (nat_le w 9999) refl e
  where
    by_test : (t : Bool) → nat_le w 9999 ≡ t → cond t (Some (record { flags = f; width = w; precision = p; conversion = k })) None ≡ Some s → Made f w p (Some k) s
    by_test true h e =
        let made : Specifier = record { flags = f; width = w; precision = p; conversion = k } in
        let same : s ≡ made = cc in
        record {
          narrow = grind (arith, nat_tests);
          flags = ap (λ (x : Specifier). x.flags) same;
          width = ap (λ (x : Specifier). x.width) same;
          precision = ap (λ (x : Specifier). x.precision) same;
          conversion = ap (λ (x : Specifier). Some x.conversion) (sym same);
        }
    by_test false h e = let no_way : ⊥ = cc in absurd no_way

width_from : (width rest : List ℕ) → Stops is_flag (width ++ rest) → Each is_ascii_digit width → IsWidth width
width_from [] rest s e = tt
width_from (c ∷ cs) rest s e = (λ z. false≢true (sym s ∙ ap is_flag z), e)

written : (cs : List ℕ) (s : Specifier) (rest : List ℕ) → specified cs ≡ (Some s, rest) → IsWritten cs s rest
written cs s rest e =
    let a = split is_flag cs in
    let b = split is_ascii_digit a.rest in
    let p = split_precision b.rest in
    let z = split_size p.rest in
    let w = min (sum_of_digits 10 b.front) 16777216 in
    let read = read_whole a.front b.front (precision_of p.precision) a.rest b.rest p.rest z.rest a.each a.stops b.whole b.each b.stops p.reads z.reads in
    let width = width_from b.front b.rest (subst (Stops is_flag) b.whole a.stops) b.each in
    let whole = a.whole ∙ ap (λ l. a.front ++ l) (b.whole ∙ ap (λ l. b.front ++ l) (p.whole ∙ ap (λ l. written_precision p.precision ++ l) z.whole)) in
    by_rest a.front b.front p.precision z.size z.rest (flags_of a.front) w (precision_of p.precision) whole a.each width p.is z.is refl refl refl (sym read ∙ ap specified (sym a.whole) ∙ e)
  where
    by_rest : (flags width : List ℕ) (precision : Option (List ℕ)) (size four : List ℕ) (f : Flags) (w : ℕ) (p : Option ℕ) → cs ≡ flags ++ (width ++ (written_precision precision ++ (size ++ four))) → Each is_flag flags → IsWidth width → IsPrecision precision → IsSize size
        → f ≡ flags_of flags → w ≡ min (sum_of_digits 10 width) 16777216 → p ≡ precision_of precision → closed f w p four ≡ (Some s, rest) → IsWritten cs s rest
    by_rest flags width precision size [] f w p whole fs ws ps zs a b d e = let nothing : None ≡ Some s = ap (λ (r : Option Specifier × List ℕ). r.0) e in let no_way : ⊥ = cc in absurd no_way
    by_rest flags width precision size (last ∷ four) f w p whole fs ws ps zs a b d e =
        let parts = parts_of f w p (conversion_of last) s (ap (λ (r : Option Specifier × List ℕ). r.0) e) in
        let tail : four ≡ rest = ap (λ (r : Option Specifier × List ℕ). r.1) e in
        let narrow : w ≤ 9999 = parts.narrow in
        let is_width : s.width ≡ w = parts.width in
        record {
          flags = flags;
          width = width;
          precision = precision;
          size = size;
          last = last;
          whole = whole ∙ ap (λ l. flags ++ (width ++ (written_precision precision ++ (size ++ (last ∷ l))))) tail;
          flags_are = fs;
          width_is = ws;
          precision_is = ps;
          size_is = zs;
          flags_mean = parts.flags ∙ a;
          width_means = omega arith;
          narrow = omega arith;
          precision_means = parts.precision ∙ d;
          last_means = parts.conversion;
        }

-- ---- from what is written to what is read

-- a character that closes a specifier is none of those that may stand before it
record Closes (c : ℕ) : Type 0 where
  no_flag : is_flag c ≡ false
  no_digit : is_ascii_digit c ≡ false
  no_point : (c == 46) ≡ false
  no_l : (c == 108) ≡ false

unless : (t : Bool) → (t ≡ true → ⊥) → t ≡ false
unless true h = absurd (h refl)
unless false h = refl

either : (a b : Bool) → (a || b) ≡ true → (a ≡ true) ⊎ (b ≡ true)
either true b h = inl refl
either false b h = inr h

flag_none : (c : ℕ) → is_flag c ≡ true → conversion_of c ≡ None
flag_none c h = minus (either (c == 45) (c == 48 || c == 43) h)
  where
    other : ((c == 48) ≡ true) ⊎ ((c == 43) ≡ true) → conversion_of c ≡ None
    other (inl e) = ap conversion_of ((Decides-eqb c 48).0 e)
    other (inr e) = ap conversion_of ((Decides-eqb c 43).0 e)

    minus : ((c == 45) ≡ true) ⊎ ((c == 48 || c == 43) ≡ true) → conversion_of c ≡ None
    minus (inl e) = ap conversion_of ((Decides-eqb c 45).0 e)
    minus (inr e) = other (either (c == 48) (c == 43) e)

digit_none : (c : ℕ) → 48 ≤ c → c ≤ 57 → conversion_of c ≡ None
digit_none c low high = grind (arith, nat_tests)

closes : (c : ℕ) (k : Conversion) → conversion_of c ≡ Some k → Closes c
closes c k e = record {
  no_flag = unless (is_flag c) (λ h. both (flag_none c h));
  no_digit = unless (is_ascii_digit c) (λ h. both (digit_none c (digit_range c h).0 (digit_range c h).1));
  no_point = unless (c == 46) (λ h. both (ap conversion_of ((Decides-eqb c 46).0 h)));
  no_l = unless (c == 108) (λ h. both (ap conversion_of ((Decides-eqb c 108).0 h)));
}
  where
    both : conversion_of c ≡ None → ⊥
    both n = let other : Some k ≡ None = sym e ∙ n in cc

digits_of_width : (width : List ℕ) → IsWidth width → Each is_ascii_digit width
digits_of_width [] h = tt
digits_of_width (c ∷ cs) h = h.1

behind_size : (q : ℕ → Bool) (size : List ℕ) (last : ℕ) (rest : List ℕ) → q 108 ≡ false → q last ≡ false → IsSize size → Stops q (size ++ (last ∷ rest))
behind_size q size last rest l e (inl none) = subst (λ s. Stops q (s ++ (last ∷ rest))) (sym none) e
behind_size q size last rest l e (inr (inl one)) = subst (λ s. Stops q (s ++ (last ∷ rest))) (sym one) l
behind_size q size last rest l e (inr (inr two)) = subst (λ s. Stops q (s ++ (last ∷ rest))) (sym two) l

behind_point : (q : ℕ → Bool) (p : Option (List ℕ)) (rest : List ℕ) → q 46 ≡ false → Stops q rest → Stops q (written_precision p ++ rest)
behind_point q None rest h s = s
behind_point q (Some ds) rest h s = h

no_flag_first : (width rest : List ℕ) → IsWidth width → Stops is_flag rest → Stops is_flag (width ++ rest)
no_flag_first [] rest h s = s
no_flag_first (c ∷ cs) rest h s = no_flag_digit c h.0 (digit_range c h.1.0).0
  where
    no_flag_digit : (c : ℕ) → (c ≡ 48 → ⊥) → 48 ≤ c → is_flag c ≡ false
    no_flag_digit c h l = grind (arith, nat_tests)

precision_read : (p : Option (List ℕ)) (rest : List ℕ) → IsPrecision p → Stops is_ascii_digit rest → Stops (λ c. c == 46) rest → read_precision (written_precision p ++ rest) ≡ (precision_of p, rest)
precision_read None [] h s t = refl
precision_read None (c ∷ cs) h s t = no_point c cs t
precision_read (Some ds) rest h s t = digits_read ds rest h s

size_read : (size : List ℕ) (last : ℕ) (rest : List ℕ) → (last == 108) ≡ false → IsSize size → behind_l (behind_l (size ++ (last ∷ rest))) ≡ last ∷ rest
size_read size last rest l (inl none) = ap (λ s. behind_l (behind_l (s ++ (last ∷ rest)))) none ∙ ap behind_l (left last rest l) ∙ left last rest l
size_read size last rest l (inr (inl one)) = ap (λ s. behind_l (behind_l (s ++ (last ∷ rest)))) one ∙ left last rest l
size_read size last rest l (inr (inr two)) = ap (λ s. behind_l (behind_l (s ++ (last ∷ rest)))) two

abbrev some_of : Conversion → Flags → ℕ → Option ℕ → Specifier
some_of k f w p = record { flags = f; width = w; precision = p; conversion = k }

made_back : (f : Flags) (w : ℕ) (p : Option ℕ) (o : Option Conversion) (s : Specifier) → w ≤ 9999 → s.flags ≡ f → s.width ≡ w → s.precision ≡ p → o ≡ Some s.conversion → made_of f (min w 16777216) p o ≡ Some s
made_back f w p o s n a b d e =
    let as_wide : min w 16777216 ≡ s.width = omega arith in
    let narrow : min w 16777216 ≤ 9999 = omega arith in
    ap (made_of f (min w 16777216) p) e
    ∙ ap (λ t. cond t (Some (some_of s.conversion f (min w 16777216) p)) None) (within (min w 16777216) narrow)
    ∙ ap (λ g. Some (some_of s.conversion g (min w 16777216) p)) (sym a) ∙ ap (λ v. Some (some_of s.conversion s.flags v p)) as_wide ∙ ap (λ q. Some (some_of s.conversion s.flags s.width q)) (sym d)
  where
    within : (v : ℕ) → v ≤ 9999 → nat_le v 9999 ≡ true
    within v h = grind (arith, nat_tests)

read_back : (cs : List ℕ) (s : Specifier) (rest : List ℕ) → IsWritten cs s rest → specified cs ≡ (Some s, rest)
read_back cs s rest h =
    let c = closes h.last s.conversion h.last_means in
    let three = h.size ++ (h.last ∷ rest) in
    let two = written_precision h.precision ++ three in
    let no_flag = behind_size is_flag h.size h.last rest refl c.no_flag h.size_is in
    let no_digit = behind_size is_ascii_digit h.size h.last rest refl c.no_digit h.size_is in
    let no_point = behind_size (λ d. d == 46) h.size h.last rest refl c.no_point h.size_is in
    ap specified h.whole
    ∙ read_whole h.flags h.width (precision_of h.precision) (h.width ++ two) two three (h.last ∷ rest) h.flags_are
    (no_flag_first h.width two h.width_is (behind_point is_flag h.precision three refl no_flag))
    refl (digits_of_width h.width h.width_is) (behind_point is_ascii_digit h.precision three refl no_digit)
    (precision_read h.precision three h.precision_is no_digit no_point)
    (size_read h.size h.last rest c.no_l h.size_is)
    ∙ ap (λ o. (o, rest)) (made_back (flags_of h.flags) (sum_of_digits 10 h.width) (precision_of h.precision) (conversion_of h.last) s
    (subst (λ n. n ≤ 9999) h.width_means h.narrow) h.flags_mean h.width_means h.precision_means h.last_means)

pub specifiers : SpecifiersReadOneWay
specifiers cs s rest = (written cs s rest, read_back cs s rest)
