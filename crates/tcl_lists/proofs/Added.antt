-- Texts added to others.
use Rattle.std.proofs.Common.{◌≡◌, ℕ, ◌+◌, Bool, true, false, List, [], ◌∷◌, ◌++◌, length, refl, sym, ◌∙◌, ap, length-append, append_assoc}
use Rattle.std.specs.Prelude.{◌==◌, codes}
use Rattle.std.specs.List.{flat_map}
use Rattle.std.specs.Str.{chars, IsUtf8}
use Rattle.std.proofs.lemmas.Bool.{false≢true}
use Rattle.std.proofs.lemmas.List.{append-nil}
use Rattle.std.proofs.lemmas.Str.{chars_past_char}
use Rattle.std.specs.Char.{encode_utf8}
use Rattle.tcl_text.proofs.Emptiness.{is_nothing}
use Rattle.tcl_lists.specs.Joining.{with_part, gap, onto}

-- a part that is added, where there is anything of it
pub part_added : (made text : List ℕ) (l : List (List ℕ)) (empty : Bool) → empty ≡ (length text == 0) → empty ≡ false → onto (made ++ (gap made ++ text)) l ≡ onto made (with_part text l)
part_added made [] l empty e h = absurd (false≢true (sym h ∙ e))
part_added [] (b ∷ text) l empty e h = refl
part_added (a ∷ made) (b ∷ text) l empty e h = append_assoc (a ∷ made) (codes " " ++ b ∷ text) (flat_map (λ y. codes " " ++ y) l)

-- what is told before the rest is added is told of the whole
pub part_whole : (made text : List ℕ) (l : List (List ℕ)) (empty : Bool) → empty ≡ (length text == 0) → empty ≡ false → made ++ ((gap made ++ text) ++ flat_map (λ y. codes " " ++ y) l) ≡ onto made (with_part text l)
part_whole made [] l empty e h = absurd (false≢true (sym h ∙ e))
part_whole [] (b ∷ text) l empty e h = refl
part_whole (a ∷ made) (b ∷ text) l empty e h = refl

pub nothing_added : (made text : List ℕ) (l : List (List ℕ)) (empty : Bool) → empty ≡ (length text == 0) → empty ≡ true → onto made l ≡ onto made (with_part text l)
nothing_added made text l empty e h = ap (λ t. onto made (with_part t l)) (sym (is_nothing text empty e h))

pub onto_end : (made : List ℕ) → onto made [] ≡ made
onto_end [] = refl
onto_end (b ∷ made) = append-nil (b ∷ made)

-- the first character of a text
pub first_of : (text old new rest : List ℕ) (c : ℕ) → IsUtf8 text → old ≡ text → rest ≡ new → old ≡ encode_utf8 c ++ new → (chars text ≡ c ∷ chars rest) × (length text ≡ length (encode_utf8 c) + length rest)
first_of text old new rest c u is_old is_new e =
    let whole : text ≡ encode_utf8 c ++ rest = sym is_old ∙ e ∙ ap (λ r. encode_utf8 c ++ r) (sym is_new) in
    (chars_past_char text rest c u whole, ap length whole ∙ length-append (encode_utf8 c) rest)
