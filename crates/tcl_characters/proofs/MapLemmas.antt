-- Steps of the reading of mapped texts.
use Rattle.std.proofs.Common.{◌≡◌, ℕ, zero, suc, ◌+◌, ◌-◌, ◌≤◌, Bool, true, false, cond, List, [], ◌∷◌, ◌++◌, length, take, drop, get_or, map, Option, Some, None, refl, sym, ◌∙◌, ap, arith}
use Rattle.std.specs.Prelude.{◌==◌, ◌&&◌, MatchOption}
use Rattle.std.specs.Char.{encode_utf8, to_ascii_lowercase}
use Rattle.std.specs.Str.{chars}
use Rattle.std.proofs.lemmas.Bool.Decides.{Decides-eqb}
use Rattle.std.proofs.lemmas.List.{drop-drop, length-drop}
use Rattle.std.proofs.Math.Seq.{take-length}
use Rattle.tcl_glob.specs.Patterns.{letters}
use Rattle.tcl_characters.specs.Places.{begins}
use Rattle.tcl_characters.specs.Mapping.{folded, fits, fitting, put, mapped}
use Rattle.tcl_characters.proofs.LetterSteps.{length-letters}

-- ---- keys

-- a letter that is the one wanted
pub same_letter : (nocase : Bool) (left behind rest after : List ℕ) (wanted letter : ℕ) → letters nocase left ≡ wanted ∷ letters nocase behind → letters nocase rest ≡ letter ∷ letters nocase after → letter ≡ wanted → begins (letters nocase left) (letters nocase rest) ≡ begins (letters nocase behind) (letters nocase after)
same_letter nocase left behind rest after wanted letter e f same =
    ap (λ k. begins k (letters nocase rest)) e ∙ ap (begins (wanted ∷ letters nocase behind)) f
    ∙ ap (λ t. t && begins (letters nocase behind) (letters nocase after)) ((Decides-eqb wanted letter).1 (sym same))

pub other_letter : (nocase : Bool) (left behind rest after : List ℕ) (wanted letter : ℕ) → letters nocase left ≡ wanted ∷ letters nocase behind → letters nocase rest ≡ letter ∷ letters nocase after → (letter ≡ wanted → ⊥) → begins (letters nocase left) (letters nocase rest) ≡ false
other_letter nocase left behind rest after wanted letter e f apart =
    ap (λ k. begins k (letters nocase rest)) e ∙ ap (begins (wanted ∷ letters nocase behind)) f ∙ differs (wanted == letter) refl
  where
    differs : (t : Bool) → (wanted == letter) ≡ t → (t && begins (letters nocase behind) (letters nocase after)) ≡ false
    differs true h = absurd (apart (sym ((Decides-eqb wanted letter).0 h)))
    differs false h = refl

pub no_letter_left : (nocase : Bool) (left behind rest : List ℕ) (wanted : ℕ) → letters nocase left ≡ wanted ∷ letters nocase behind → letters nocase rest ≡ [] → begins (letters nocase left) (letters nocase rest) ≡ false
no_letter_left nocase left behind rest wanted e f = ap (λ k. begins k (letters nocase rest)) e ∙ ap (begins (wanted ∷ letters nocase behind)) f

pub key_step : (nocase : Bool) (left behind rest after : List ℕ) (wanted : ℕ) → letters nocase left ≡ wanted ∷ letters nocase behind → chars after ≡ drop 1 (chars rest) → drop (length (chars left)) (chars rest) ≡ drop (length (chars behind)) (chars after)
key_step nocase left behind rest after wanted e f =
    let sizes = ap length e in
    let one = length-letters nocase left in
    let two = length-letters nocase behind in
    let more : length (chars left) ≡ 1 + length (chars behind) = omega arith in
    ap (λ n. drop n (chars rest)) more ∙ sym (drop-drop (length (chars behind)) 1 (chars rest)) ∙ ap (drop (length (chars behind))) (sym f)

-- a key of which nothing is left
pub key_ends : (nocase : Bool) (left rest : List ℕ) → letters nocase left ≡ [] → (begins (letters nocase left) (letters nocase rest) ≡ true) × (drop (length (chars left)) (chars rest) ≡ chars rest)
key_ends nocase left rest e =
    let size : length (chars left) ≡ 0 = sym (length-letters nocase left) ∙ ap length e in
    (ap (λ k. begins k (letters nocase rest)) e, ap (λ n. drop n (chars rest)) size)

-- ---- places

mapped_skip : (nocase : Bool) (mapping : List (List ℕ)) (cs : List ℕ) (n : ℕ) → mapped nocase mapping cs n ≡ mapped nocase mapping (drop n cs) 0
mapped_skip nocase mapping [] zero = refl
mapped_skip nocase mapping [] (suc n) = refl
mapped_skip nocase mapping (c ∷ cs) zero = refl
mapped_skip nocase mapping (c ∷ cs) (suc n) = mapped_skip nocase mapping cs n

pub mapped_kept : (nocase : Bool) (mapping : List (List ℕ)) (cs ds : List ℕ) (c : ℕ) → cs ≡ c ∷ ds → fitting nocase mapping cs ≡ None → mapped nocase mapping cs 0 ≡ encode_utf8 c ++ mapped nocase mapping ds 0
mapped_kept nocase mapping cs ds c e none =
    ap (λ l. mapped nocase mapping l 0) e ∙ ap (λ r. put r c (mapped nocase mapping ds)) (ap (fitting nocase mapping) (sym e) ∙ none)

pub mapped_put : (nocase : Bool) (mapping : List (List ℕ)) (cs ds after new : List ℕ) (c n : ℕ) → cs ≡ c ∷ ds → fitting nocase mapping cs ≡ Some (suc n, new) → after ≡ drop (suc n) cs → mapped nocase mapping cs 0 ≡ new ++ mapped nocase mapping after 0
mapped_put nocase mapping cs ds after new c n e some behind =
    let first : mapped nocase mapping cs 0 ≡ put (fitting nocase mapping (c ∷ ds)) c (mapped nocase mapping ds) = ap (λ l. mapped nocase mapping l 0) e in
    let found : put (fitting nocase mapping (c ∷ ds)) c (mapped nocase mapping ds) ≡ put (Some (suc n, new)) c (mapped nocase mapping ds) = ap (λ r. put r c (mapped nocase mapping ds)) (ap (fitting nocase mapping) (sym e) ∙ some) in
    let tail : mapped nocase mapping ds n ≡ mapped nocase mapping after 0 = mapped_skip nocase mapping ds n ∙ ap (λ l. mapped nocase mapping l 0) (sym (behind ∙ ap (drop (suc n)) e)) in
    let less : suc n - 1 ≡ n = omega arith in
    first ∙ found ∙ ap (λ m. new ++ mapped nocase mapping ds m) less ∙ ap (λ t. new ++ t) tail

-- ---- the keys of a mapping

pub at_pair : (nocase : Bool) (left : List (List ℕ)) (cs key new : List ℕ) → 2 ≤ length left → key ≡ get_or left 0 key → new ≡ get_or left 1 new → fitting nocase left cs ≡ cond (fits (letters nocase key) (folded nocase cs)) (Some (length (chars key), new)) (fitting nocase (drop 2 left) cs)
at_pair nocase [] cs key new h e f = absurd (omega arith)
at_pair nocase (a ∷ []) cs key new h e f = absurd (omega arith)
at_pair nocase (a ∷ b ∷ left) cs key new h e f =
    ap (λ k. cond (fits (letters nocase k) (folded nocase cs)) (Some (length (chars k), b)) (fitting nocase left cs)) (sym e)
    ∙ ap (λ x. cond (fits (letters nocase key) (folded nocase cs)) (Some (length (chars key), x)) (fitting nocase left cs)) (sym f)

pub fits_letters : (nocase : Bool) (key : List ℕ) (text : List ℕ) (n : ℕ) → length (chars key) ≡ suc n → fits (letters nocase key) (letters nocase text) ≡ begins (letters nocase key) (letters nocase text)
fits_letters nocase key text n e = some (letters nocase key) (length-letters nocase key ∙ e)
  where
    some : (ks : List ℕ) → length ks ≡ suc n → fits ks (letters nocase text) ≡ begins ks (letters nocase text)
    some [] h = absurd (omega arith)
    some (k ∷ ks) h = refl

pub no_fit : (nocase : Bool) (key text : List ℕ) → chars key ≡ [] → fits (letters nocase key) (letters nocase text) ≡ false
no_fit true key text e = ap (λ k. fits (map to_ascii_lowercase k) (letters true text)) e
no_fit false key text e = ap (λ k. fits k (letters false text)) e

pub keys_step : (nocase : Bool) (mapping left : List (List ℕ)) (cs key new text_key : List ℕ) → 2 ≤ length left → key ≡ get_or left 0 key → new ≡ get_or left 1 new → text_key ≡ key → fits (letters nocase text_key) (folded nocase cs) ≡ false → fitting nocase mapping cs ≡ fitting nocase left cs → fitting nocase mapping cs ≡ fitting nocase (take (length left - 2) (drop 2 left)) cs
keys_step nocase mapping left cs key new text_key h e f same out i =
    let all : take (length left - 2) (drop 2 left) ≡ drop 2 left = ap (λ n. take n (drop 2 left)) (sym (length-drop 2 left)) ∙ take-length (drop 2 left) in
    let unfit : fits (letters nocase key) (folded nocase cs) ≡ false = ap (λ k. fits (letters nocase k) (folded nocase cs)) (sym same) ∙ out in
    i ∙ at_pair nocase left cs key new h e f ∙ ap (λ t. cond t (Some (length (chars key), new)) (fitting nocase (drop 2 left) cs)) unfit ∙ ap (λ l. fitting nocase l cs) (sym all)

pub match_map : {A : Type 0} (found : Option A) (P P' : Type 0) (Q Q' : A → Type 0) → (P → P') → ((a : A) → Q a → Q' a) → MatchOption found P Q → MatchOption found P' Q'
match_map None P P' Q Q' f g h = f h
match_map (Some a) P P' Q Q' f g h = g a h
