-- Short texts of one length whose first eight bytes make the same number are the same.
use Rattle.std.proofs.Common.{◌≡◌, ◌≤◌, ℕ, List, [], ◌∷◌, length, take, refl, sym, ◌∙◌, ap, arith}
use Rattle.std.proofs.lemmas.Nat.{le_bytes_8}
use Rattle.std.specs.Int.{w64, to_le_bytes}
use Rattle.tcl_text.specs.Eight.{eight, IsFront}

-- a short text is the first of its eight bytes
cut : (text : List ℕ) → length text ≤ 8 → take (length text) (eight text) ≡ text
cut [] short = refl
cut (a ∷ []) short = refl
cut (a ∷ b ∷ []) short = refl
cut (a ∷ b ∷ c ∷ []) short = refl
cut (a ∷ b ∷ c ∷ d ∷ []) short = refl
cut (a ∷ b ∷ c ∷ d ∷ e ∷ []) short = refl
cut (a ∷ b ∷ c ∷ d ∷ e ∷ f ∷ []) short = refl
cut (a ∷ b ∷ c ∷ d ∷ e ∷ f ∷ g ∷ []) short = refl
cut (a ∷ b ∷ c ∷ d ∷ e ∷ f ∷ g ∷ h ∷ []) short = refl
cut (a ∷ b ∷ c ∷ d ∷ e ∷ f ∷ g ∷ h ∷ i ∷ rest) short = absurd (omega arith)

pub same_short : (a b : List ℕ) (m n : ℕ) → IsFront a m → IsFront b n → length a ≡ length b → length a ≤ 8 → m ≡ n → a ≡ b
same_short a b m n is_m is_n len short e =
    let same : eight a ≡ eight b =
    sym (le_bytes_8 (eight a) m refl is_m.small is_m.is)
    ∙ ap (to_le_bytes w64) e
    ∙ le_bytes_8 (eight b) n refl is_n.small is_n.is
    in
    sym (cut a short) ∙ (λ i. take (len i) (same i)) ∙ cut b (omega (arith, short, len))
