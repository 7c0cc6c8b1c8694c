-- The parts of a text, from the left.
use Rattle.std.proofs.Common.{◌≡◌, ℕ, ◌<◌, Ok, Bool, true, false, List, [], ◌∷◌, ◌++◌, length, map, refl, sym, ◌∙◌, ap, arith}
use Rattle.tcl_characters.specs.Texts.{text_of}
use Rattle.std.specs.Prelude.{◌==◌}
use Rattle.std.specs.Str.{chars}
use Rattle.std.proofs.lemmas.Str.{chars-nil}
use Rattle.std.proofs.lemmas.Bool.{false≢true}
use Rattle.tcl_lists.specs.Lists.{Texts, list_value}
use Rattle.tcl_text.proofs.Emptiness.{is_nothing}
use Rattle.tcl_lists.specs.Splitting.{Parts, parts, part_texts, letter_text, split_at}

-- the parts that were made, the one that is being made, and those of what is left
abbrev pub behind : Texts → List ℕ → Parts → Texts
behind made part p = made ++ ((part ++ text_of p.0) ∷ map text_of p.1)

pub split_nothing : (set cs : List ℕ) → cs ≡ [] → list_value (split_at set cs) ≡ Ok []
split_nothing set cs e = ap (λ l. list_value (split_at set l)) e

pub split_by_none : (set cs : List ℕ) → set ≡ [] → split_at set cs ≡ map letter_text cs
split_by_none set [] e = refl
split_by_none [] (c ∷ cs) e = refl
split_by_none (s ∷ set) (c ∷ cs) e = cc

pub split_by_some : (set cs ss ds : List ℕ) (s c : ℕ) → set ≡ s ∷ ss → cs ≡ c ∷ ds → split_at set cs ≡ part_texts (parts set cs)
split_by_some [] cs ss ds s c e d = cc
split_by_some (t ∷ set) [] ss ds s c e d = cc
split_by_some (t ∷ set) (b ∷ cs) ss ds s c e d = refl

pub some_bytes : (text : List ℕ) (empty : Bool) → empty ≡ (length text == 0) → empty ≡ false → 0 < length text
some_bytes [] empty e h = absurd (false≢true (sym h ∙ e))
some_bytes (b ∷ text) empty e h = omega arith

pub no_characters : (text : List ℕ) (empty : Bool) → empty ≡ (length text == 0) → empty ≡ true → chars text ≡ []
no_characters text empty e h = ap chars (is_nothing text empty e h) ∙ chars-nil
