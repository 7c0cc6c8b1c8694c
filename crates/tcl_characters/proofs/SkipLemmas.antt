-- Bytes that are passed since none of them is the first of a key.
use Rattle.std.proofs.Common.{◌≡◌, ℕ, ◌+◌, ◌<◌, ◌≤◌, Bool, cond, true, false, List, [], ◌∷◌, ◌++◌, length, take, drop, get_or, Some, None, IsFalse, IsTrue, not, nat_eq, refl, sym, ◌∙◌, ap, subst, arith, append_assoc, length-append, length-take, take-append-drop}
use Rattle.std.specs.Char.{encode_utf8}
use Rattle.std.specs.Str.{chars, IsUtf8, IsCharBoundary}
use Rattle.std.proofs.lemmas.Bool.Decides.{Decides-eqb, nat_tests}
use Rattle.std.proofs.lemmas.List.{get_or_append_left, drop-drop}
use Rattle.std.proofs.lemmas.Str.{chars-nil, chars-append, chars_past_char, encodes-chars, length-le-encodes, IsUtf8-take, IsUtf8-past_char, IsCharBoundary-start, IsCharBoundary-from_drop}
use Rattle.std.proofs.Math.Seq.{drop-append_seam}
use Rattle.memchr.specs.Find.{Nowhere, Passes, is_byte}
use Rattle.tcl_characters.specs.Texts.{text_of}
use Rattle.tcl_characters.specs.Places.{begins}
use Rattle.tcl_characters.specs.Mapping.{fits, fitting, mapped}
use Rattle.tcl_characters.proofs.ByteLemmas.{occurs_from_split, fewer_bytes}
use Rattle.tcl_characters.proofs.StandLemmas.{begins_split, NoShorter}
use Rattle.tcl_characters.proofs.MapLemmas.{mapped_kept}
use Rattle.tcl_characters.proofs.RunLemmas.{Kept, same_absent}

-- none of the bytes before a place is the first of the key
abbrev pub NoLead : List ℕ → List ℕ → ℕ → Type 0
NoLead key text at = Nowhere (Passes (is_byte (get_or key 0 0)) text) 0 at

lead_shorter : (key text : List ℕ) (at : ℕ) → IsUtf8 key → IsUtf8 text → 0 < length key → IsCharBoundary text at → NoLead key text at → NoShorter (chars key) (chars text) (length (chars (take at text)))
lead_shorter key text at v u some cut none f r e l =
    let front = IsUtf8-take text at u cut in
    let whole : chars text ≡ chars (take at text) ++ chars (drop at text) = ap chars (sym (take-append-drop at text)) ∙ chars-append (take at text) (drop at text) front in
    let fewer = fewer_bytes f (chars (take at text)) (chars key ++ r) (chars (drop at text)) (sym e ∙ whole) l in
    let size : length (text_of (chars (take at text))) ≡ length (take at text) = ap length (encodes-chars (take at text) front) in
    let short = length-take at text in
    let o = occurs_from_split text key f r u v e in
    let none_more : length (text_of f) ≡ length (text_of f) + 0 = omega arith in
    let here : get_or text (length (text_of f)) 0 ≡ get_or key 0 0 = ap (λ i. get_or text i 0) none_more ∙ o.reads 0 some in
    none (length (text_of f)) (omega arith) (omega arith) ((Decides-eqb (get_or text (length (text_of f)) 0) (get_or key 0 0)).1 here)

-- a key stands nowhere but where its first byte does
pub other_lead : (key text : List ℕ) → IsUtf8 key → IsUtf8 text → 0 < length key → IsTrue (not (nat_eq (get_or text 0 0) (get_or key 0 0))) → begins (chars key) (chars text) ≡ false
other_lead key text v u some apart =
    same_absent key text v u (λ rest e. differs _ _ apart (ap (λ t. get_or t 0 0) e ∙ get_or_append_left key rest 0 0 some))
  where
    differs : (a b : ℕ) → IsTrue (not (nat_eq a b)) → a ≡ b → ⊥
    differs a b h e = grind (arith, nat_tests)

fits_none : (key cs : List ℕ) → ((rest : List ℕ) → cs ≡ key ++ rest → ⊥) → fits key cs ≡ false
fits_none [] cs none = refl
fits_none (k ∷ key) cs none = by_answer (begins (k ∷ key) cs) refl
  where
    by_answer : (t : Bool) → begins (k ∷ key) cs ≡ t → t ≡ false
    by_answer true e = let split = begins_split (k ∷ key) cs e in absurd (none split.0 split.1)
    by_answer false e = refl

-- characters before the first place at which the only key may stand
run_kept : (key new front rest : List ℕ) → NoShorter (chars key) (front ++ rest) (length front) → mapped false (key ∷ new ∷ []) (front ++ rest) 0 ≡ text_of front ++ mapped false (key ∷ new ∷ []) rest 0
run_kept key new [] rest none = refl
run_kept key new (c ∷ front) rest none =
    let some : 0 < length (c ∷ front) = omega arith in
    let here : fits (chars key) (c ∷ (front ++ rest)) ≡ false = fits_none (chars key) (c ∷ (front ++ rest)) (λ r e. none [] r e some) in
    let unfit : fitting false (key ∷ new ∷ []) (c ∷ (front ++ rest)) ≡ None = ap (λ t. cond t (Some (length (chars key), new)) None) here in
    let more = run_kept key new front rest (λ f r e l. none (c ∷ f) r (ap (λ x. c ∷ x) e) (omega (arith, l))) in
    mapped_kept false (key ∷ new ∷ []) (c ∷ (front ++ rest)) (front ++ rest) c refl unfit ∙ ap (λ t. encode_utf8 c ++ t) more
    ∙ sym (append_assoc (encode_utf8 c) (text_of front) (mapped false (key ∷ new ∷ []) rest 0))

-- what is passed stands in the mapped text as it is
abbrev pub Passed : (List ℕ → List ℕ) → List ℕ → List ℕ → Type 0
Passed put text rest = (front : List ℕ) × (text ≡ front ++ rest) × (put (chars text) ≡ front ++ put (chars rest)) × (length (chars rest) ≤ length (chars text))

abbrev pub OneKeyPassed : List ℕ → List ℕ → List ℕ → Type 0
OneKeyPassed key text rest = (front : List ℕ) × (text ≡ front ++ rest) × ((new : List ℕ) → mapped false (key ∷ new ∷ []) (chars text) 0 ≡ front ++ mapped false (key ∷ new ∷ []) (chars rest) 0) × (length (chars rest) ≤ length (chars text))

pub skipped : (key text rest : List ℕ) (at : ℕ) → IsUtf8 key → IsUtf8 text → 0 < length key → IsCharBoundary text at → NoLead key text at → rest ≡ drop at text → OneKeyPassed key text rest
skipped key text rest at v u some cut none e =
    let front = IsUtf8-take text at u cut in
    let whole : chars text ≡ chars (take at text) ++ chars (drop at text) = ap chars (sym (take-append-drop at text)) ∙ chars-append (take at text) (drop at text) front in
    let shorter = subst (λ cs. NoShorter (chars key) cs (length (chars (take at text)))) whole (lead_shorter key text at v u some cut none) in
    let sizes = ap length whole in
    let parts = length-append (chars (take at text)) (chars (drop at text)) in
    let same = ap (λ t. length (chars t)) e in (
      take at text,
      sym (take-append-drop at text) ∙ ap (λ t. take at text ++ t) (sym e),
      λ new. ap (λ cs. mapped false (key ∷ new ∷ []) cs 0) whole ∙ run_kept key new (chars (take at text)) (chars (drop at text)) shorter
          ∙ ap (λ t. t ++ mapped false (key ∷ new ∷ []) (chars (drop at text)) 0) (encodes-chars (take at text) front)
          ∙ ap (λ t. take at text ++ mapped false (key ∷ new ∷ []) (chars t) 0) (sym e),
      omega arith,
    )

-- the first byte of a key stands where the text may be cut
pub lead_boundary : (key text : List ℕ) (at : ℕ) → IsUtf8 key → 0 < length key → at < length text → Passes (is_byte (get_or key 0 0)) text at → IsCharBoundary text at
lead_boundary key text at v some lt is =
    let lead = IsCharBoundary-start key v in
    let same : get_or text at 0 ≡ get_or key 0 0 = (Decides-eqb (get_or text at 0) (get_or key 0 0)).0 is in
    (omega arith, λ below high. subst (λ b. 192 ≤ b) (sym same) (lead.1 some (subst (λ b. 128 ≤ b) same high)))

-- a run goes on by what is passed
pub kept_skip : (nocase : Bool) (mapping : List (List ℕ)) (text behind rest : List ℕ) → Passed (λ cs. mapped nocase mapping cs 0) behind rest → Kept nocase mapping text behind → Kept nocase mapping text rest
kept_skip nocase mapping text behind rest h k =
    let fewer = h.3 in
    let before = k.fewer in
    record {
      front = k.front ++ h.0;
      whole = k.whole ∙ ap (λ t. k.front ++ t) h.1 ∙ sym (append_assoc k.front h.0 rest);
      kept = k.kept ∙ ap (λ t. k.front ++ t) h.2 ∙ sym (append_assoc k.front h.0 (mapped nocase mapping (chars rest) 0));
      fewer = omega arith;
    }

-- ---- several keys

unfit_key : (key cs : List ℕ) → begins key cs ≡ false → fits key cs ≡ false
unfit_key [] cs e = refl
unfit_key (k ∷ key) cs e = e

-- a key without a byte
pub empty_unfit : (key cs : List ℕ) → length key < 1 → fits (chars key) cs ≡ false
empty_unfit [] cs e = ap (λ k. fits k cs) chars-nil
empty_unfit (k ∷ key) cs e = absurd (omega (arith, e))

-- a key that begins with another byte than a text
pub lead_unfit : (key rest : List ℕ) (byte : ℕ) → IsUtf8 key → 0 < length key → IsFalse (nat_eq (get_or key 0 0) byte) → IsUtf8 (byte ∷ rest) → fits (chars key) (chars (byte ∷ rest)) ≡ false
lead_unfit key rest byte v some differ u = unfit_key (chars key) (chars (byte ∷ rest)) (other_lead key (byte ∷ rest) v u some (turned (get_or key 0 0) byte differ))
  where
    turned : (a b : ℕ) → IsFalse (nat_eq a b) → IsTrue (not (nat_eq b a))
    turned a b h = grind (arith, nat_tests)

-- the first byte of a key isn't one that continues a character
pub lead_edge : (key : List ℕ) (byte : ℕ) → IsUtf8 key → 0 < length key → IsTrue (nat_eq (get_or key 0 0) byte) → 128 ≤ byte → 192 ≤ byte
lead_edge key byte v some is high =
    let lead = IsCharBoundary-start key v in
    let same = equal (get_or key 0 0) byte is in
    subst (λ b. 192 ≤ b) same (lead.1 some (subst (λ b. 128 ≤ b) (sym same) high))
  where
    equal : (a b : ℕ) → IsTrue (nat_eq a b) → a ≡ b
    equal a b h = grind (arith, nat_tests)

-- no key fits at the characters that begin before a place
abbrev pub NoneFits : List (List ℕ) → List ℕ → ℕ → Type 0
NoneFits mapping text at = (i : ℕ) → i < at → IsUtf8 (drop i text) → fitting false mapping (chars (drop i text)) ≡ None

-- the characters before such a place
none_kept : (mapping : List (List ℕ)) (cs rest text : List ℕ) → IsUtf8 text → text ≡ text_of cs ++ rest → NoneFits mapping text (length (text_of cs)) → mapped false mapping (chars text) 0 ≡ text_of cs ++ mapped false mapping (chars rest) 0
none_kept mapping [] rest text u e none = ap (λ t. mapped false mapping (chars t) 0) e
none_kept mapping (c ∷ cs) rest text u e none =
    let first = encode_utf8 c in
    let behind = text_of cs ++ rest in
    let whole : text ≡ first ++ behind = e ∙ append_assoc first (text_of cs) rest in
    let size = length-append first (text_of cs) in
    let some : 0 < length (text_of (c ∷ cs)) = omega (arith, length-le-encodes (c ∷ cs)) in
    let shorter : (i : ℕ) → drop (length first + i) text ≡ drop i behind =
    λ i. sym (drop-drop i (length first) text) ∙ ap (drop i) (ap (drop (length first)) whole ∙ drop-append_seam first behind) in
    let more = none_kept mapping cs rest behind (IsUtf8-past_char text behind c u whole) refl
    (λ i before v. ap (λ t. fitting false mapping (chars t)) (sym (shorter i)) ∙ none (length first + i) (omega (arith, before, size)) (subst IsUtf8 (sym (shorter i)) v)) in
    mapped_kept false mapping (chars text) (chars behind) c (chars_past_char text behind c u whole) (none 0 some u)
    ∙ ap (λ t. first ++ t) more ∙ sym (append_assoc first (text_of cs) (mapped false mapping (chars rest) 0))

pub none_passed : (mapping : List (List ℕ)) (text rest : List ℕ) (at : ℕ) → IsUtf8 text → IsUtf8 rest → at ≤ length text → NoneFits mapping text at → rest ≡ drop at text → Passed (λ cs. mapped false mapping cs 0) text rest
none_passed mapping text rest at u v within none e =
    let cut = IsCharBoundary-from_drop text at within (subst IsUtf8 e v) in
    let front = IsUtf8-take text at u cut in
    let bytes = encodes-chars (take at text) front in
    let whole : text ≡ take at text ++ rest = sym (take-append-drop at text) ∙ ap (λ t. take at text ++ t) (sym e) in
    let letters = ap length (ap chars whole ∙ chars-append (take at text) rest front) in
    let parts = length-append (chars (take at text)) (chars rest) in
    let size = ap length bytes in
    let short = length-take at text in
    let kept = none_kept mapping (chars (take at text)) rest text u (whole ∙ ap (λ t. t ++ rest) (sym bytes)) (λ i before v. none i (omega (arith, before, size, short)) v) in (
      take at text,
      whole,
      kept ∙ ap (λ t. t ++ mapped false mapping (chars rest) 0) bytes,
      omega arith,
    )
