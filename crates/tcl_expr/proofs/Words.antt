-- White space and words, character by character.
use Rattle.std.proofs.Common.{◌≡◌, ◌∙◌, sym, ap, subst, refl, ℕ, suc, ◌≤◌, length, Option, Some, None, Ok, Err, Bool, true, false, cond, List, [], ◌∷◌, arith}
use Rattle.tcl_text.specs.Lists.{is_white, close_brace, none_open, count, next_brace, with_byte}
use Rattle.tcl_text.specs.Numbers.{trim_start}
use Rattle.tcl_parser.specs.Characters.{is_name_character}
use Rattle.tcl_parser.specs.Texts.{EndsWith, IsNotAscii}
use Rattle.tcl_parser.proofs.EndLemmas.{EndsWith-itself, EndsWith-more, EndsWith-cond}
use Rattle.std.specs.Option.{ok_or}
use Rattle.std.proofs.lemmas.Bool.Decides.{nat_tests}
use Rattle.tcl_expr.specs.Tokens.{after_word}

word_cons : (b : ℕ) (t : List ℕ) → after_word (b ∷ t) ≡ cond (is_name_character b) (after_word t) (b ∷ t)
unfolding after_word
word_cons b t = refl

word_nil : after_word [] ≡ []
unfolding after_word
word_nil = refl

pub word_on : (s t : List ℕ) (b : ℕ) → s ≡ b ∷ t → is_name_character b ≡ true → after_word s ≡ after_word t
word_on s t b e h = ap after_word e ∙ word_cons b t ∙ ap (λ x. cond x (after_word t) (b ∷ t)) h

pub word_stops : (s t : List ℕ) (b : ℕ) → s ≡ b ∷ t → is_name_character b ≡ false → after_word s ≡ s
word_stops s t b e h = ap after_word e ∙ word_cons b t ∙ ap (λ x. cond x (after_word t) (b ∷ t)) h ∙ sym e

far : (b : ℕ) → 128 ≤ b → is_name_character b ≡ false
far b h = grind (arith, nat_tests)

pub word_ends : (s : List ℕ) → IsNotAscii s → after_word s ≡ s
word_ends [] h = word_nil
word_ends (b ∷ t) h = word_stops (b ∷ t) t b refl (far b h)

pub EndsWith-after_word : (s : List ℕ) → EndsWith s (after_word s)
unfolding after_word
EndsWith-after_word [] = EndsWith-itself []
EndsWith-after_word (b ∷ t) = EndsWith-cond (is_name_character b) (b ∷ t) (after_word t) (b ∷ t) (EndsWith-more b t (after_word t) (EndsWith-after_word t)) (EndsWith-itself (b ∷ t))

pub white_on : (s t : List ℕ) (b : ℕ) → s ≡ b ∷ t → is_white b ≡ true → trim_start s ≡ trim_start t
white_on s t b e h = ap trim_start e ∙ ap (λ x. cond x (trim_start t) (b ∷ t)) h

pub white_stops : (s t : List ℕ) (b : ℕ) → s ≡ b ∷ t → is_white b ≡ false → trim_start s ≡ s
white_stops s t b e h = ap trim_start e ∙ ap (λ x. cond x (trim_start t) (b ∷ t)) h ∙ sym e

far_white : (b : ℕ) → 128 ≤ b → is_white b ≡ false
far_white b h = grind (arith, nat_tests)

pub white_ends : (s : List ℕ) → IsNotAscii s → trim_start s ≡ s
white_ends [] h = refl
white_ends (b ∷ t) h = white_stops (b ∷ t) t b refl (far_white b h)

-- ## Texts in braces

abbrev pub AtMostLong : ℕ → Option (List ℕ × List ℕ) → Type 0
AtMostLong n None = Unit {0}
AtMostLong n (Some p) = length p.0 ≤ n

longer : (c n : ℕ) (o : Option (List ℕ × List ℕ)) → AtMostLong n o → AtMostLong (suc n) (with_byte c o)
longer c n None h = tt
longer c n (Some p) h = omega arith

inside_step : (s : List ℕ) (c : ℕ) (o : Option _) → ((d : _) → AtMostLong (length s) (close_brace s d)) → AtMostLong (suc (length s)) (next_brace o s c (close_brace s))
inside_step s c None later = omega arith
inside_step s c (Some d) later = longer c (length s) (close_brace s d) (later d)

inside : (s : List ℕ) (b : _) → AtMostLong (length s) (close_brace s b)
unfolding close_brace
inside [] b = tt
inside (c ∷ s) b = inside_step s c (count b c) (λ d. inside s d)

pub inside_is_shorter : (s x y : List ℕ) → close_brace s none_open ≡ Some (x, y) → length x ≤ length s
inside_is_shorter s x y h = subst (AtMostLong (length s)) h (inside s none_open)

-- ## Boolean words

pub truth_found : {T E : Type 0} (o : Option T) (b : T) (e : E) → ok_or o e ≡ Ok b → o ≡ Some b
truth_found None b e h = absurd (cc)
truth_found (Some c) b e h = cc

pub truth_missing : {T E : Type 0} (o : Option T) (f e : E) → ok_or o e ≡ Err f → o ≡ None
truth_missing None f e h = refl
truth_missing (Some c) f e h = absurd (cc)

-- ## White space is only taken away

trimmed : (b : Bool) (x y : List ℕ) (n : ℕ) → length x ≤ n → length y ≤ n → length (cond b x y) ≤ n
trimmed true x y n h k = h
trimmed false x y n h k = k

pub trim_start-length : (s : List ℕ) → length (trim_start s) ≤ length s
trim_start-length [] = omega arith
trim_start-length (b ∷ t) = trimmed (is_white b) (trim_start t) (b ∷ t) (suc (length t)) (omega (arith, trim_start-length t)) (omega arith)
