-- Runs of characters at which no key fits.
use Rattle.std.proofs.Common.{◌≡◌, ℕ, suc, ◌-◌, ◌<◌, ◌≤◌, Bool, true, false, List, [], ◌∷◌, ◌++◌, length, take, drop, refl, sym, ◌∙◌, ap, arith, append_assoc, length-append, length-drop, subst, Some, None}
use Rattle.std.specs.Char.{encode_utf8}
use Rattle.std.specs.Str.{chars, IsUtf8, IsCharBoundary}
use Rattle.std.specs.Str.Pattern.{LacksTextAt}
use Rattle.std.proofs.lemmas.Str.{chars-append, encodes-chars, encodes-append, IsCharBoundary-at_seam}
use Rattle.std.proofs.Math.Seq.{take-append_seam, drop-append_seam}
use Rattle.tcl_characters.specs.Texts.{text_of}
use Rattle.tcl_characters.specs.Places.{begins}
use Rattle.tcl_characters.specs.Mapping.{fitting, mapped}
use Rattle.tcl_characters.proofs.StandLemmas.{begins_split, begins_append}
use Rattle.tcl_characters.proofs.MapLemmas.{mapped_kept, mapped_put}

-- ---- keys, by their bytes

pub same_found : (key text rest : List ℕ) → IsUtf8 key → text ≡ key ++ rest → (begins (chars key) (chars text) ≡ true) × (chars rest ≡ drop (length (chars key)) (chars text))
same_found key text rest u e =
    let whole : chars text ≡ chars key ++ chars rest = ap chars e ∙ chars-append key rest u in
    (ap (begins (chars key)) whole ∙ begins_append (chars key) (chars rest), sym (ap (drop (length (chars key))) whole ∙ drop-append_seam (chars key) (chars rest)))

pub same_absent : (key text : List ℕ) → IsUtf8 key → IsUtf8 text → LacksTextAt key text 0 → begins (chars key) (chars text) ≡ false
same_absent key text u v none = by_answer (begins (chars key) (chars text)) refl
  where
    by_answer : (t : Bool) → begins (chars key) (chars text) ≡ t → t ≡ false
    by_answer false e = refl
    by_answer true e =
        let split = begins_split (chars key) (chars text) e in
        let bytes : text ≡ key ++ text_of split.0 =
        sym (encodes-chars text v) ∙ ap text_of split.1 ∙ encodes-append (chars key) split.0 ∙ ap (λ t. t ++ text_of split.0) (encodes-chars key u) in
        absurd (none (text_of split.0) bytes)

-- ---- runs

-- the bytes of the text before the rest stand in the mapped text as they are
pub record Kept (nocase : Bool) (mapping : List (List ℕ)) (text rest : List ℕ) : Type 0 where
  pub front : List ℕ
  pub whole : text ≡ front ++ rest
  pub kept : mapped nocase mapping (chars text) 0 ≡ front ++ mapped nocase mapping (chars rest) 0
  pub fewer : length (chars rest) ≤ length (chars text)

pub kept_none : (nocase : Bool) (mapping : List (List ℕ)) (text : List ℕ) → Kept nocase mapping text text
kept_none nocase mapping text = record {
  front = [];
  whole = refl;
  kept = refl;
  fewer = omega arith;
}

-- a character more
pub kept_more : (nocase : Bool) (mapping : List (List ℕ)) (text rest behind : List ℕ) (c : ℕ) → IsUtf8 rest → IsUtf8 behind → chars rest ≡ c ∷ chars behind → fitting nocase mapping (chars rest) ≡ None → Kept nocase mapping text rest → Kept nocase mapping text behind
kept_more nocase mapping text rest behind c u v e none k =
    let bytes : rest ≡ encode_utf8 c ++ behind = sym (encodes-chars rest u) ∙ ap text_of e ∙ ap (λ t. encode_utf8 c ++ t) (encodes-chars behind v) in
    let sizes = ap length e in
    let before = k.fewer in
    record {
      front = k.front ++ encode_utf8 c;
      whole = k.whole ∙ ap (λ t. k.front ++ t) bytes ∙ sym (append_assoc k.front (encode_utf8 c) behind);
      kept = k.kept ∙ ap (λ t. k.front ++ t) (mapped_kept nocase mapping (chars rest) (chars behind) c e none)
          ∙ sym (append_assoc k.front (encode_utf8 c) (mapped nocase mapping (chars behind) 0));
      fewer = omega arith;
    }

-- the end
pub kept_all : (nocase : Bool) (mapping : List (List ℕ)) (text rest : List ℕ) → IsUtf8 rest → chars rest ≡ [] → Kept nocase mapping text rest → mapped nocase mapping (chars text) 0 ≡ text
kept_all nocase mapping text rest u e k =
    let empty : rest ≡ [] = sym (encodes-chars rest u) ∙ ap text_of e in
    k.kept ∙ ap (λ cs. k.front ++ mapped nocase mapping cs 0) e ∙ ap (λ t. k.front ++ t) (sym empty) ∙ sym k.whole

kept_size : (nocase : Bool) (mapping : List (List ℕ)) (text rest : List ℕ) (k : Kept nocase mapping text rest) → length text - length rest ≡ length k.front
kept_size nocase mapping text rest k =
    let sum = ap length k.whole in
    let parts = length-append k.front rest in
    omega arith

pub kept_smaller : (nocase : Bool) (mapping : List (List ℕ)) (text rest : List ℕ) → Kept nocase mapping text rest → length rest ≤ length text
kept_smaller nocase mapping text rest k =
    let sum = ap length k.whole in
    let parts = length-append k.front rest in
    omega arith

pub kept_cut : (nocase : Bool) (mapping : List (List ℕ)) (text rest : List ℕ) → IsUtf8 rest → Kept nocase mapping text rest → IsCharBoundary text (length text - length rest)
kept_cut nocase mapping text rest u k =
    subst (IsCharBoundary text) (sym (kept_size nocase mapping text rest k)) (IsCharBoundary-at_seam text k.front rest k.whole u)

kept_front : (nocase : Bool) (mapping : List (List ℕ)) (text rest : List ℕ) (k : Kept nocase mapping text rest) → take (length text - length rest) text ≡ k.front
kept_front nocase mapping text rest k =
    ap (λ n. take n text) (kept_size nocase mapping text rest k) ∙ ap (take (length k.front)) k.whole ∙ take-append_seam k.front rest

-- a place at which a key fits
pub kept_put : (nocase : Bool) (mapping : List (List ℕ)) (text rest after kept new : List ℕ) (ds : List ℕ) (c n : ℕ) → chars rest ≡ c ∷ ds → fitting nocase mapping (chars rest) ≡ Some (suc n, new) → chars after ≡ drop (suc n) (chars rest) → kept ≡ take (length text - length rest) text → Kept nocase mapping text rest → (mapped nocase mapping (chars text) 0 ≡ kept ++ (new ++ mapped nocase mapping (chars after) 0)) × (length (chars after) < length (chars text))
kept_put nocase mapping text rest after kept new ds c n e some behind is k =
    let sizes = ap length behind in
    let all = ap length e in
    let less = length-drop (suc n) (chars rest) in
    let before = k.fewer in (
      k.kept ∙ ap (λ t. k.front ++ t) (mapped_put nocase mapping (chars rest) ds (chars after) new c n e some behind)
          ∙ ap (λ t. t ++ (new ++ mapped nocase mapping (chars after) 0)) (sym (is ∙ kept_front nocase mapping text rest k)),
      omega arith,
    )
