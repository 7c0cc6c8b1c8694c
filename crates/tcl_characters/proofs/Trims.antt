-- Texts that are trimmed in front.
use Rattle.std.proofs.Common.{◌≡◌, ℕ, Bool, true, false, cond, List, [], ◌∷◌, ◌∙◌, ap}
use Rattle.std.specs.Str.{chars, IsUtf8, all_scalars}
use Rattle.std.proofs.lemmas.Bool.{and_parts}
use Rattle.std.proofs.lemmas.Str.{chars-encodes, scalars-chars}
use Rattle.tcl_characters.specs.Texts.{text_of, is_among, trim_start}

kept_by : (t : Bool) (cs ds : List ℕ) → all_scalars cs ≡ true → all_scalars ds ≡ true → all_scalars (cond t cs ds) ≡ true
kept_by true cs ds h k = h
kept_by false cs ds h k = k

scalars_kept : (set cs : List ℕ) → all_scalars cs ≡ true → all_scalars (trim_start set cs) ≡ true
scalars_kept set [] h = h
scalars_kept set (c ∷ cs) h = kept_by (is_among set c) (trim_start set cs) (c ∷ cs) (scalars_kept set cs (and_parts _ _ h).1) h

pub chars_of_start : (set text kept : List ℕ) → IsUtf8 text → kept ≡ text_of (trim_start set (chars text)) → chars kept ≡ trim_start set (chars text)
chars_of_start set text kept u e = ap chars e ∙ chars-encodes (trim_start set (chars text)) (scalars_kept set (chars text) (scalars-chars text u))
