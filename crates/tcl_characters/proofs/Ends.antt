-- Texts without characters at their ends, and copies of texts.
use Rattle.std.proofs.Common.{◌≡◌, ℕ, zero, suc, Bool, true, false, cond, List, [], ◌∷◌, ◌++◌, length, refl, sym, ◌∙◌, ap, arith, append-nil, append_assoc}
use Rattle.std.specs.Char.{encode_utf8}
use Rattle.std.specs.Str.{chars, IsUtf8}
use Rattle.std.proofs.lemmas.Str.{chars_past_char, chars-nil, encodes-chars}
use Rattle.tcl_characters.specs.Texts.{text_of, copies, is_among, trim_start, before_trimmed, trim_end}
use Rattle.tcl_characters.proofs.LetterSteps.{last_character}

pub copies_more : (n : ℕ) (s : List ℕ) → copies n s ++ s ≡ copies (suc n) s
copies_more zero s = sym (append-nil s)
copies_more (suc n) s = append_assoc s (copies n s) s ∙ ap (λ t. s ++ t) (copies_more n s)

-- ---- at the start

start_test : (set cs : List ℕ) (c : ℕ) (t : Bool) → is_among set c ≡ t → trim_start set (c ∷ cs) ≡ cond t (trim_start set cs) (c ∷ cs)
start_test set cs c t e = ap (λ b. cond b (trim_start set cs) (c ∷ cs)) e

pub start_stops : (set rest new : List ℕ) (c : ℕ) → IsUtf8 rest → rest ≡ encode_utf8 c ++ new → is_among set c ≡ false → rest ≡ text_of (trim_start set (chars rest))
start_stops set rest new c u e out =
    let first = chars_past_char rest new c u e in
    let kept : trim_start set (chars rest) ≡ chars rest = ap (trim_start set) first ∙ start_test set (chars new) c false out ∙ sym first in
    sym (encodes-chars rest u) ∙ ap text_of (sym kept)

pub start_goes : (set rest new : List ℕ) (c : ℕ) → IsUtf8 rest → rest ≡ encode_utf8 c ++ new → is_among set c ≡ true → trim_start set (chars rest) ≡ trim_start set (chars new)
start_goes set rest new c u e in_set = ap (trim_start set) (chars_past_char rest new c u e) ∙ start_test set (chars new) c true in_set

pub start_ends : (set rest : List ℕ) → length rest ≡ 0 → rest ≡ text_of (trim_start set (chars rest))
start_ends set [] h = ap (λ cs. text_of (trim_start set cs)) (sym chars-nil)
start_ends set (c ∷ cs) h = absurd (omega arith)

-- ---- at the end

before_filled : (set cs : List ℕ) (d c : ℕ) → before_trimmed set d (cs ++ c ∷ []) ≡ d ∷ (cs ++ c ∷ [])
before_filled set [] d c = refl
before_filled set (b ∷ cs) d c = refl

end_in : (set cs : List ℕ) (c : ℕ) → is_among set c ≡ true → trim_end set (cs ++ c ∷ []) ≡ trim_end set cs
end_in set [] c h = ap (λ b. cond b [] (c ∷ [])) h
end_in set (d ∷ cs) c h = ap (before_trimmed set d) (end_in set cs c h)

end_out : (set cs : List ℕ) (c : ℕ) → is_among set c ≡ false → trim_end set (cs ++ c ∷ []) ≡ cs ++ c ∷ []
end_out set [] c h = ap (λ b. cond b [] (c ∷ [])) h
end_out set (d ∷ cs) c h = ap (before_trimmed set d) (end_out set cs c h) ∙ before_filled set cs d c

pub end_stops : (set rest front : List ℕ) (c : ℕ) → IsUtf8 rest → IsUtf8 front → rest ≡ front ++ encode_utf8 c → is_among set c ≡ false → rest ≡ text_of (trim_end set (chars rest))
end_stops set rest front c u v e out =
    let last = last_character rest front c u v e in
    let kept : trim_end set (chars rest) ≡ chars rest = ap (trim_end set) last ∙ end_out set (chars front) c out ∙ sym last in
    sym (encodes-chars rest u) ∙ ap text_of (sym kept)

pub end_goes : (set rest front : List ℕ) (c : ℕ) → IsUtf8 rest → IsUtf8 front → rest ≡ front ++ encode_utf8 c → is_among set c ≡ true → trim_end set (chars rest) ≡ trim_end set (chars front)
end_goes set rest front c u v e in_set = ap (trim_end set) (last_character rest front c u v e) ∙ end_in set (chars front) c in_set

pub end_ends : (set rest : List ℕ) → length rest ≡ 0 → rest ≡ text_of (trim_end set (chars rest))
end_ends set [] h = ap (λ cs. text_of (trim_end set cs)) (sym chars-nil)
end_ends set (c ∷ cs) h = absurd (omega arith)
