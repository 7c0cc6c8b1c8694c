-- Joining undoes splitting.
use Rattle.std.proofs.Common.{◌≡◌, ℕ, Bool, true, false, List, [], ◌∷◌, ◌++◌, map, refl, ◌∙◌, ap, append_assoc}
use Rattle.std.specs.Prelude.{◌==◌, ◌||◌}
use Rattle.std.specs.Char.{encode_utf8}
use Rattle.std.specs.List.{flat_map}
use Rattle.std.proofs.lemmas.Bool.Decides.{Decides-eqb}
use Rattle.std.proofs.lemmas.List.{append-nil}
use Rattle.tcl_characters.specs.Texts.{text_of, is_among}
use Rattle.tcl_lists.specs.Joining.{joined}
use Rattle.tcl_lists.specs.Splitting.{Parts, before_parts, parts, part_texts, letter_text}
use Rattle.tcl_lists.specs.Laws.{JoinUndoesSplit, JoinUndoesLetters}

or_false : (b : Bool) → (b || false) ≡ true → b ≡ true
or_false true h = h
or_false false h = h

step : (t : Bool) (c d : ℕ) (ds : List ℕ) (p : Parts) → (t ≡ true → c ≡ d) → joined (letter_text c) (part_texts p) ≡ text_of ds → joined (letter_text c) (part_texts (before_parts t d p)) ≡ encode_utf8 d ++ text_of ds
step true c d ds p same e =
    ap (λ s. (s ++ text_of p.0) ++ flat_map (λ y. letter_text c ++ y) (map text_of p.1)) (append-nil (encode_utf8 c)) ∙ (append_assoc (encode_utf8 c) (text_of p.0) (flat_map (λ y. letter_text c ++ y) (map text_of p.1)) ∙ (ap (λ r. encode_utf8 c ++ r) e ∙ ap (λ x. encode_utf8 x ++ text_of ds) (same refl)))
step false c d ds p same e = append_assoc (encode_utf8 d) (text_of p.0) (flat_map (λ y. letter_text c ++ y) (map text_of p.1)) ∙ ap (λ r. encode_utf8 d ++ r) e

all_parts : (c : ℕ) (cs : List ℕ) → joined (letter_text c) (part_texts (parts (c ∷ []) cs)) ≡ text_of cs
all_parts c [] = refl
all_parts c (d ∷ ds) = step (is_among (c ∷ []) d) c d ds (parts (c ∷ []) ds) (λ h. (Decides-eqb c d).0 (or_false (c == d) h)) (all_parts c ds)

pub undone : JoinUndoesSplit
undone c [] = refl
undone c (d ∷ ds) = all_parts c (d ∷ ds)

letters_joined : (cs : List ℕ) → flat_map (λ y. [] ++ y) (map letter_text cs) ≡ text_of cs
letters_joined [] = refl
letters_joined (c ∷ cs) = ap (λ s. s ++ flat_map (λ y. [] ++ y) (map letter_text cs)) (append-nil (encode_utf8 c)) ∙ ap (λ r. encode_utf8 c ++ r) (letters_joined cs)

pub letters_undone : JoinUndoesLetters
letters_undone [] = refl
letters_undone (c ∷ cs) = letters_joined (c ∷ cs)
