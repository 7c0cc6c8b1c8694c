-- Lines, part by part.
use Rattle.std.proofs.Common.{◌≡◌, ◌≢◌, ◌∙◌, ℕ, suc, ◌<◌, List, [], ◌∷◌, ◌++◌, length, get_or, refl, sym, ap, arith, append_assoc}
use Rattle.std.specs.Prelude.{◌==◌, false}
use Rattle.std.proofs.lemmas.Bool.{ne_eqb}
use Rattle.std.proofs.lemmas.List.Concat.{flat_map-append}
use Rattle.tcl_player.specs.Lines.{line_byte, one_line}

-- no byte of these is a newline
abbrev pub NoNewline : List ℕ → Type 0
NoNewline s = (i : ℕ) → i < length s → get_or s i 0 ≢ 10

-- such a text is a line as it is
pub plain : (s : List ℕ) → NoNewline s → one_line s ≡ s
plain [] none = refl
plain (b ∷ s) none =
    let low : 0 < length (b ∷ s) = omega arith in
    let no : (b == 10) ≡ false = ne_eqb b 10 (none 0 low) in
    rw no (ap (λ t. b ∷ t) (plain s (λ i h. none (suc i) (omega arith))))

-- the first newline of a text
first_newline : (x y : List ℕ) → NoNewline x → one_line (x ++ 10 ∷ y) ≡ x ++ 92 ∷ 110 ∷ one_line y
first_newline x y none = flat_map-append line_byte x (10 ∷ y) ∙ ap (λ t. t ++ 92 ∷ 110 ∷ one_line y) (plain x none)

-- and how far a line has come with it
pub line_on : (made next whole rest x y : List ℕ) → made ++ one_line rest ≡ whole → rest ≡ x ++ 10 ∷ y → NoNewline x → next ≡ (made ++ x) ++ 92 ∷ 110 ∷ [] → next ++ one_line y ≡ whole
line_on made next whole rest x y h is none e =
    ap (λ t. t ++ one_line y) e ∙ append_assoc (made ++ x) (92 ∷ 110 ∷ []) (one_line y) ∙ append_assoc made x (92 ∷ 110 ∷ one_line y)
    ∙ ap (λ t. made ++ t) (sym (first_newline x y none)) ∙ ap (λ t. made ++ one_line t) (sym is) ∙ h

pub line_ends : (made next whole rest : List ℕ) → made ++ one_line rest ≡ whole → NoNewline rest → next ≡ made ++ rest → next ≡ whole
line_ends made next whole rest h none e = e ∙ ap (λ t. made ++ t) (sym (plain rest none)) ∙ h
