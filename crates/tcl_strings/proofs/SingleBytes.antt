-- Texts in which each character takes one byte.
use Rattle.std.proofs.Common.{◌≡◌, ℕ, ◌+◌, ◌-◌, ◌<◌, ◌≤◌, Bool, cond, true, false, List, [], ◌∷◌, length, take, drop, get_or, refl, sym, ◌∙◌, ap, arith, length-take, length-drop, drop-cons, take_all, drop_of_length-le}
use Rattle.std.specs.Str.{chars, IsUtf8}
use Rattle.std.proofs.lemmas.List.Sums.{sum_by-cons}
use Rattle.std.proofs.lemmas.Str.{chars-nil}
use Rattle.tcl_characters.specs.Starts.{begins_character}
use Rattle.tcl_characters.proofs.StartLemmas.{starts, starts-chars, starts-split, starts-block, starts-le-length, StandsBehind, behind_starts}

abbrev pub Single : List ℕ → Type 0
Single text = length (chars text) ≡ length text

-- as many characters begin before a byte as bytes stand there
starts_before : (text : List ℕ) (at : ℕ) → IsUtf8 text → Single text → at ≤ length text → starts (take at text) ≡ at
starts_before text at u single le =
    let all = starts-chars text u in
    let split = starts-split text at in
    let front = starts-le-length (take at text) in
    let behind = starts-le-length (drop at text) in
    let one = length-take at text in
    let two = length-drop at text in
    omega arith

one_begins : (b : ℕ) → starts (b ∷ []) ≡ 1 → begins_character b ≡ true
one_begins b e = by_answer (begins_character b) refl
  where
    by_answer : (t : Bool) → begins_character b ≡ t → t ≡ true
    by_answer true h = refl
    by_answer false h =
        let sum = sum_by-cons (λ x. cond (begins_character x) 1 0) b [] in
        let none : starts (b ∷ []) ≡ 0 = sum ∙ ap (λ y. cond y 1 0 + starts []) h in
        absurd (omega (arith, none, e))

begins_there : (text : List ℕ) (at : ℕ) → IsUtf8 text → Single text → at < length text → begins_character (get_or text at 0) ≡ true
begins_there text at u single lt =
    let here = starts_before text at u single (omega arith) in
    let next = starts_before text (at + 1) u single (omega arith) in
    let block = starts-block text at 1 in
    let one : starts (take 1 (drop at text)) ≡ 1 = omega arith in
    one_begins (get_or text at 0) (sym (ap (λ t. starts (take 1 t)) (drop-cons text at 0 lt)) ∙ one)

pub single_stands : (text : List ℕ) (at : ℕ) → IsUtf8 text → Single text → at < length text → StandsBehind text at at
single_stands text at u single lt = behind_starts text at at u lt (begins_there text at u single lt) (starts_before text at u single (omega arith))

pub single_front : (text front : List ℕ) (at : ℕ) → IsUtf8 text → Single text → at < length text → front ≡ take (at - 0) text → (chars front ≡ take at (chars text)) × Single front
single_front text front at u single lt is =
    let same : at - 0 ≡ at = omega arith in
    let e : front ≡ take at text = is ∙ ap (λ n. take n text) same in
    let cut = ap chars e ∙ (single_stands text at u single lt).front in
    let one = ap length cut in
    let two = ap length e in
    let letters = length-take at (chars text) in
    let bytes = length-take at text in
    (cut, omega arith)

pub single_all : (text : List ℕ) (at : ℕ) → Single text → length text ≤ at → chars text ≡ take at (chars text)
single_all text at single le = sym (take_all at (chars text) (omega arith))

pub single_none : (text : List ℕ) (at : ℕ) → Single text → length text ≤ at → chars [] ≡ drop at (chars text)
single_none text at single le = chars-nil ∙ sym (drop_of_length-le (chars text) {i = at} (omega arith))
