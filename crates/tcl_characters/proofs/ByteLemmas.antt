-- Where needles stand: over the bytes of texts.
use Rattle.std.proofs.Common.{◌≡◌, ℕ, ◌+◌, ◌<◌, ◌≤◌, Bool, true, false, List, [], ◌∷◌, ◌++◌, length, take, drop, get_or, Some, None, refl, sym, ◌∙◌, ap, subst, arith, length-append}
use Rattle.std.specs.declared.option.Option.{Option}
use Rattle.std.specs.Str.{chars, IsUtf8, IsCharBoundary}
use Rattle.std.proofs.lemmas.Str.{encodes-append, encodes-chars, chars-append, chars-nil, IsUtf8-take, IsCharBoundary-start, length-le-encodes}
use Rattle.std.proofs.lemmas.List.{take-append-drop, same_lists, get_or-append-add, get_or_append_left, get_or-drop, get_or-take, length-take, length-drop}
use Rattle.std.proofs.lemmas.Grind.{get_or_default_zero}
use Rattle.memchr.specs.Find.{OccursAt, Nowhere}
use Rattle.tcl_text.proofs.Emptiness.{is_nothing, is_filled}
use Rattle.tcl_characters.specs.Texts.{text_of}
use Rattle.std.specs.Prelude.{◌==◌}
use Rattle.tcl_characters.specs.Places.{first_from, last_from, first_place, last_place, counted_from}
use Rattle.tcl_characters.proofs.LetterSteps.{some_character}
use Rattle.tcl_characters.proofs.StandLemmas.{Absent, NoShorter, NoLonger, some_first, some_last, longer_front}

pub occurs_from_split : (text needle front rest : List ℕ) → IsUtf8 text → IsUtf8 needle → chars text ≡ front ++ (chars needle ++ rest) → OccursAt text needle (length (text_of front))
occurs_from_split text needle front rest u v e =
    let whole : text ≡ text_of front ++ (needle ++ text_of rest) =
    sym (encodes-chars text u) ∙ ap text_of e ∙ encodes-append front (chars needle ++ rest)
    ∙ ap (λ t. text_of front ++ t) (encodes-append (chars needle) rest ∙ ap (λ t. t ++ text_of rest) (encodes-chars needle v)) in
    let sum = ap length whole in
    let one = length-append (text_of front) (needle ++ text_of rest) in
    let two = length-append needle (text_of rest) in
    record {
      fits = omega arith;
      reads = λ j below. ap (λ t. get_or t (length (text_of front) + j) 0) whole ∙ get_or-append-add (text_of front) (needle ++ text_of rest) j 0 ∙ get_or_append_left needle (text_of rest) 0 j below;
    }

-- an occurrence begins where the text may be cut
pub occurs_boundary : (text needle : List ℕ) (k : ℕ) → IsUtf8 needle → 0 < length needle → OccursAt text needle k → IsCharBoundary text k
occurs_boundary text needle k v some o =
    let lead = IsCharBoundary-start needle v in
    let first : get_or text k 0 ≡ get_or needle 0 0 = ap (λ i. get_or text i 0) (omega arith) ∙ o.reads 0 some in
    (omega (arith, o.fits), λ below high. subst (λ b. 192 ≤ b) (sym first) (lead.1 some (subst (λ b. 128 ≤ b) first high)))

pub record Split (text needle : List ℕ) (k : ℕ) : Type 0 where
  pub cut : IsCharBoundary text k
  pub front : IsUtf8 (take k text)
  pub rest : List ℕ
  pub whole : chars text ≡ chars (take k text) ++ (chars needle ++ rest)
  pub size : length (take k text) ≡ k

pub split_from_occurs : (text needle : List ℕ) (k : ℕ) → IsUtf8 text → IsUtf8 needle → 0 < length needle → OccursAt text needle k → Split text needle k
split_from_occurs text needle k u v some o =
    let cut = occurs_boundary text needle k v some o in
    let fits = o.fits in
    let behind = drop k text in
    let size_behind = length-drop k text in
    let size_part = length-take (length needle) behind in
    let sizes : length (take (length needle) behind) ≡ length needle = omega arith in
    let part : take (length needle) behind ≡ needle =
    same_lists (take (length needle) behind) needle sizes (λ j d below.
    let at : j < length needle = omega arith in
    let in_behind : j < length behind = omega arith in
    get_or-take (length needle) behind j d at ∙ get_or-drop k text j d ∙ any_default text (k + j) d (omega arith) ∙ o.reads j at ∙ sym (any_default needle j d at)) in
    let tail = drop (length needle) behind in
    let joined : behind ≡ needle ++ tail = sym (take-append-drop (length needle) behind) ∙ ap (λ t. t ++ tail) part in
    let front = IsUtf8-take text k u cut in
    let size_front = length-take k text in
    record {
      cut = cut;
      front = front;
      rest = chars tail;
      whole = ap chars (sym (take-append-drop k text)) ∙ chars-append (take k text) behind front ∙ ap (λ cs. chars (take k text) ++ cs) (ap chars joined ∙ chars-append needle tail v);
      size = omega arith;
    }
  where
    any_default : (xs : List ℕ) (i d : ℕ) → i < length xs → get_or xs i d ≡ get_or xs i 0
    any_default xs i d h = get_or_default_zero xs i d h

some_letters : (needle : List ℕ) → IsUtf8 needle → 0 < length needle → 0 < length (chars needle)
some_letters needle v some = let first = some_character needle v some in omega (arith, ap length first.2)

first_some : (needle front rest : List ℕ) (s : ℕ) → 0 < length needle → NoShorter needle (front ++ (needle ++ rest)) (length front) → first_from needle (front ++ (needle ++ rest)) s ≡ Some (s + length front)
first_some [] front rest s some none = absurd (omega arith)
first_some (d ∷ needle) front rest s some none = some_first d needle front rest s none

last_some : (needle front rest : List ℕ) (s : ℕ) → 0 < length needle → NoLonger needle (front ++ (needle ++ rest)) (length front) → last_from needle (front ++ (needle ++ rest)) s ≡ Some (s + length front)
last_some [] front rest s some none = absurd (omega arith)
last_some (d ∷ needle) front rest s some none = some_last d needle front rest s none

-- fewer characters take fewer bytes
pub fewer_bytes : (front other : List ℕ) (rest behind : List ℕ) → front ++ rest ≡ other ++ behind → length front < length other → length (text_of front) < length (text_of other)
fewer_bytes front other rest behind e l =
    let more = longer_front front other rest behind e l in
    let sum = ap length (ap text_of more.1 ∙ encodes-append front more.0) in
    let parts = length-append (text_of front) (text_of more.0) in
    let some = length-le-encodes more.0 in
    let filled : 0 < length more.0 = more.2 in
    omega arith

pub absent_from_none : (text needle : List ℕ) → IsUtf8 text → IsUtf8 needle → Nowhere (OccursAt text needle) 0 (length text + 1) → Absent (chars needle) (chars text)
absent_from_none text needle u v none front rest e =
    let o = occurs_from_split text needle front rest u v e in
    let fits = o.fits in
    none (length (text_of front)) (omega arith) (omega arith) o

pub found_first : (text needle : List ℕ) (k s : ℕ) → IsUtf8 text → IsUtf8 needle → 0 < length needle → OccursAt text needle k → Nowhere (OccursAt text needle) 0 k → first_from (chars needle) (chars text) s ≡ Some (s + length (chars (take k text)))
found_first text needle k s u v some o none =
    let split = split_from_occurs text needle k u v some o in
    let front = chars (take k text) in
    let size : length (text_of front) ≡ k = ap length (encodes-chars (take k text) split.front) ∙ split.size in
    let shorter : NoShorter (chars needle) (front ++ (chars needle ++ split.rest)) (length front) = λ f r e l.
    let fewer = fewer_bytes f front (chars needle ++ r) (chars needle ++ split.rest) (sym e) l in
    none (length (text_of f)) (omega arith) (omega arith) (occurs_from_split text needle f r u v (split.whole ∙ e)) in
    ap (λ cs. first_from (chars needle) cs s) split.whole ∙ first_some (chars needle) front split.rest s (some_letters needle v some) shorter

pub found_last : (text needle : List ℕ) (k s : ℕ) → IsUtf8 text → IsUtf8 needle → 0 < length needle → OccursAt text needle k → Nowhere (OccursAt text needle) (k + 1) (length text + 1) → last_from (chars needle) (chars text) s ≡ Some (s + length (chars (take k text)))
found_last text needle k s u v some o none =
    let split = split_from_occurs text needle k u v some o in
    let front = chars (take k text) in
    let size : length (text_of front) ≡ k = ap length (encodes-chars (take k text) split.front) ∙ split.size in
    let longer : NoLonger (chars needle) (front ++ (chars needle ++ split.rest)) (length front) = λ f r e l.
    let fewer = fewer_bytes front f (chars needle ++ split.rest) (chars needle ++ r) e l in
    let other = occurs_from_split text needle f r u v (split.whole ∙ e) in
    let fits = other.fits in
    none (length (text_of f)) (omega arith) (omega arith) other in
    ap (λ cs. last_from (chars needle) cs s) split.whole ∙ last_some (chars needle) front split.rest s (some_letters needle v some) longer

-- the front is shorter than the whole
pub found_within : (text needle : List ℕ) (k : ℕ) → IsUtf8 text → IsUtf8 needle → 0 < length needle → OccursAt text needle k → length (chars (take k text)) < length (chars text)
found_within text needle k u v some o =
    let split = split_from_occurs text needle k u v some o in
    let sum = ap length split.whole in
    let one = length-append (chars (take k text)) (chars needle ++ split.rest) in
    let two = length-append (chars needle) split.rest in
    let letters = some_letters needle v some in
    omega arith

-- a fact of two texts, of their bytes
pub over_texts : (P : List ℕ → List ℕ → Type 0) {text bytes needle needle_bytes : List ℕ} → bytes ≡ text → needle_bytes ≡ needle → P bytes needle_bytes → P text needle
over_texts P {text = text} {bytes = bytes} {needle = needle} {needle_bytes = needle_bytes} e f h = subst (P text) f (subst (λ t. P t needle_bytes) e h)

pub filled : (text : List ℕ) → (text ≡ [] → ⊥) → 0 < length text
filled [] h = absurd (h refl)
filled (b ∷ text) h = omega arith

no_letters : (needle : List ℕ) → needle ≡ [] → chars needle ≡ []
no_letters needle e = ap chars e ∙ chars-nil

pub first_of_empty : (needle text : List ℕ) (start : ℕ) (empty : Bool) → empty ≡ (length needle == 0) → empty ≡ true → None ≡ first_place (chars needle) (chars text) start
first_of_empty needle text start empty e h = sym (ap (λ n. first_place n (chars text) start) (no_letters needle (is_nothing needle empty e h)))

pub last_of_empty : (needle text : List ℕ) (end : ℕ) (empty : Bool) → empty ≡ (length needle == 0) → empty ≡ true → None ≡ last_place (chars needle) (chars text) end
last_of_empty needle text end empty e h = sym (ap (λ n. last_place n (chars text) end) (no_letters needle (is_nothing needle empty e h)))

first_of : (needle cs : List ℕ) (start : ℕ) → 0 < length needle → first_place needle cs start ≡ first_from needle (drop start cs) start
first_of [] cs start h = absurd (omega arith)
first_of (n ∷ ns) cs start h = refl

last_of : (needle cs : List ℕ) (end : ℕ) → 0 < length needle → last_place needle cs end ≡ last_from needle (take end cs) 0
last_of [] cs end h = absurd (omega arith)
last_of (n ∷ ns) cs end h = refl

pub first_behind : (needle text rest : List ℕ) (start : ℕ) (found : Option ℕ) (empty : Bool) → IsUtf8 needle → empty ≡ (length needle == 0) → empty ≡ false → chars rest ≡ drop start (chars text) → counted_from start found ≡ first_from (chars needle) (chars rest) start → counted_from start found ≡ first_place (chars needle) (chars text) start
first_behind needle text rest start found empty v e h behind same =
    same ∙ ap (λ cs. first_from (chars needle) cs start) behind ∙ sym (first_of (chars needle) (chars text) start (some_letters needle v (is_filled needle empty e h)))

pub last_before : (needle text front : List ℕ) (end : ℕ) (found : Option ℕ) (empty : Bool) → IsUtf8 needle → empty ≡ (length needle == 0) → empty ≡ false → chars front ≡ take end (chars text) → found ≡ last_from (chars needle) (chars front) 0 → found ≡ last_place (chars needle) (chars text) end
last_before needle text front end found empty v e h before same =
    same ∙ ap (λ cs. last_from (chars needle) cs 0) before ∙ sym (last_of (chars needle) (chars text) end (some_letters needle v (is_filled needle empty e h)))

pub characters_le_bytes : (text : List ℕ) → IsUtf8 text → length (chars text) ≤ length text
characters_le_bytes text u = let size = ap length (encodes-chars text u) in omega (arith, length-le-encodes (chars text))

pub no_letters_of : (text : List ℕ) (empty : Bool) → empty ≡ (length text == 0) → empty ≡ true → chars text ≡ []
no_letters_of text empty e h = no_letters text (is_nothing text empty e h)

pub letters_of : (text : List ℕ) (empty : Bool) → IsUtf8 text → empty ≡ (length text == 0) → empty ≡ false → 0 < length (chars text)
letters_of text empty u e h = some_letters text u (is_filled text empty e h)
