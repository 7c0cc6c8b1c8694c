-- Texts, over their characters.
use Rattle.std.specs.Prelude.{ℕ, zero, suc, ◌==◌, Bool, if◌then◌else◌, List, [], ◌∷◌, ◌++◌}
use Rattle.std.specs.List.{list_any}
use Rattle.std.specs.Str.{encode_utf8_all}

-- the text of these characters
abbrev pub text_of : List ℕ → List ℕ
text_of cs = encode_utf8_all cs

-- a text, so many times
abbrev pub copies : ℕ → List ℕ → List ℕ
copies zero text = []
copies (suc n) text = text ++ copies n text

-- whether a character is one of a set
abbrev pub is_among : List ℕ → ℕ → Bool
is_among set c = list_any (λ d. d == c) set

-- the characters behind those of a set that stand first
abbrev pub trim_start : List ℕ → List ℕ → List ℕ
trim_start set [] = []
trim_start set (c ∷ cs) = if is_among set c then trim_start set cs else c ∷ cs

-- a character before characters of which those of a set that stood last are gone
abbrev pub before_trimmed : List ℕ → ℕ → List ℕ → List ℕ
before_trimmed set c [] = if is_among set c then [] else c ∷ []
before_trimmed set c (d ∷ ds) = c ∷ d ∷ ds

-- the characters before those of a set that stand last
abbrev pub trim_end : List ℕ → List ℕ → List ℕ
trim_end set [] = []
trim_end set (c ∷ cs) = before_trimmed set c (trim_end set cs)

-- texts one behind another
abbrev pub joined : List (List ℕ) → List ℕ
joined [] = []
joined (t ∷ ts) = t ++ joined ts
