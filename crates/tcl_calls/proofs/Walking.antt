-- How loops over lists are read, and how their variables are set.
use Rattle.std.proofs.Common.{◌≡◌, ℕ, zero, suc, ◌+◌, ◌-◌, ◌*◌, ◌<◌, ◌≤◌, ◌%◌, ◌⊎◌, inl, inr, Bool, true, false, cond, List, [], ◌∷◌, ◌++◌, take, drop, get_or, length, append-nil, refl, sym, ◌∙◌, ap, subst, arith}
use Rattle.std.specs.Prelude.{Result, Ok, Err, IsOkAnd, IsTrue, not, leb, ◌&&◌, ◌||◌, ◌==◌}
use Rattle.std.proofs.lemmas.Bool.Decides.{nat_tests, eqb_tells, leb_tells}
use Rattle.std.proofs.Math.Seq.{drop-cons, take-length}
use Rattle.std.proofs.lemmas.List.{length-take-le}
use Rattle.tcl_core.specs.Endings.{Reply}
use Rattle.tcl_core.specs.Endings.Reply.{Completed}
use Rattle.tcl_dicts.specs.Dicts.{dict_word}
use Rattle.tcl_core.specs.Paths.{Text}
use Rattle.tcl_language.specs.Control.{is_empty, is_over, sets_names, walks_of, walk_of}
use Rattle.tcl_language.specs.Faults.{wrong_args}
use Rattle.tcl_language.specs.Instructions.{Walk, Program, either, fails, or_fails}
use Rattle.tcl_language.specs.Pairing.{dict_for_form, dict_loop, entries_walk}
use Rattle.tcl_run.specs.Ends.{IsFailure, failing, itself}
use Rattle.tcl_value.specs.Dicts.{Pairs}
use Rattle.tcl_value.specs.Texts.{flat}
use Rattle.tcl_text.specs.Lists.{list_of}
use Rattle.tcl_text.specs.Writing.{fault_message, fits_braces, has_special, in_form, written, written_list}
use Rattle.tcl_text.specs.declared.list_writing.Form.{Form}
use Rattle.tcl_text.specs.declared.list_writing.Form.TheVariants.{Plain, Braced, Escaped}
use Rattle.tcl_text.proofs.Spellings.{list_from}
use Rattle.tcl_text.proofs.Writings.{written_spells}
use Rattle.tcl_text.specs.declared.list.ListFault.{ListFault}
use Rattle.tcl_language.specs.Variables.{is_odd, sets}
use Rattle.tcl_language.proofs.Counting.{odd_is}
use Rattle.tcl_calls.specs.Walks.{whole, walks_at, Alone, IsNoLoop, MisreadsEntry, MisreadsWalk, ReadsWalk}
use Rattle.tcl_calls.specs.Words.{EndsBy}
use Rattle.tcl_calls.specs.declared.walks.Walk as read

-- ## The words of a loop

pub even_is : {A : Type 0} (xs : List A) → (length xs % 2 ≡ 1 → ⊥) → is_odd xs ≡ false
even_is xs h = let e = odd_is xs in grind (arith, nat_tests)

pub few_words : (args : List Text) → length args < 3 → IsNoLoop args
few_words [] h = λ form k. refl
few_words (a ∷ []) h = λ form k. refl
few_words (a ∷ b ∷ []) h = λ form k. refl
few_words (a ∷ b ∷ c ∷ rest) h = absurd (omega arith)

even_words : (args : List Text) → length args % 2 ≡ 0 → IsNoLoop args
even_words [] h = λ form k. refl
even_words (a ∷ []) h = λ form k. refl
even_words (a ∷ b ∷ rest) h =
    let n : length rest % 2 ≡ 0 = omega arith in
    let e : is_odd rest ≡ false = even_is rest (λ g. let clash : 0 ≡ 1 = sym n ∙ g in cc) in
    λ form k. ap (λ t. either t (walks_of form (a ∷ b ∷ rest) [] k) (fails (wrong_args form))) e

-- the words before the last, and the last
pub before_last : (args : List Text) (last : Text) → 1 ≤ length args → last ≡ get_or args (length args - 1) last → args ≡ take (length args - 1) args ++ last ∷ []
before_last [] last h e = absurd (omega arith)
before_last (x ∷ []) last h e = ap (λ y. y ∷ []) (sym e)
before_last (x ∷ y ∷ xs) last h e =
    let n : length (x ∷ y ∷ xs) - 1 ≡ suc (length (y ∷ xs) - 1) = omega arith in
    ap (λ ws. x ∷ ws) (before_last (y ∷ xs) last (omega arith) (e ∙ ap (λ m. get_or (x ∷ y ∷ xs) m last) n)) ∙ sym (ap (λ m. take m (x ∷ y ∷ xs) ++ last ∷ []) n)

pub odd_words : (args : List Text) → 1 ≤ length args → length (take (length args - 1) args) % 2 ≡ 1 → IsNoLoop args
odd_words args h e = even_words args (let n = take_less args h in omega (arith, e, n))
  where
    take_less : (xs : List Text) → 1 ≤ length xs → length (take (length xs - 1) xs) ≡ length xs - 1
    take_less xs l = length-take-le (length xs - 1) xs (omega arith)

-- ## Walks that are read

pub walk_read : (form names elements : Text) (rest : List Text) (before : List Walk) (k : List Walk → Text → Program) (w : read.Walk) → ReadsWalk names elements w →
    walks_of form (names ∷ elements ∷ rest) before k ≡ walks_of form rest (before ++ whole w ∷ []) k
walk_read form names elements rest before k w r = r form (λ walk. walks_of form rest (before ++ walk ∷ []) k)

pub walk_misread : (form names elements : Text) (rest : List Text) (before : List Walk) (k : List Walk → Text → Program) (e : Reply) → MisreadsWalk form names elements e → EndsBy (walks_of form (names ∷ elements ∷ rest) before k) e
walk_misread form names elements rest before k e m = m (λ walk. walks_of form rest (before ++ walk ∷ []) k)

-- words of which none is left are no more than one
pub none_left : (words : List Text) → length words < 2 → is_odd words ≡ false → words ≡ []
none_left [] h e = refl
none_left (x ∷ []) h e = let clash : true ≡ false = e in cc
none_left (x ∷ y ∷ xs) h e = absurd (omega arith)

-- two words, and those behind them
pub two_left : (words : List Text) (a b : Text) → 2 ≤ length words → a ≡ get_or words 0 a → b ≡ get_or words 1 b → words ≡ a ∷ b ∷ take (length words - 2) (drop 2 words)
two_left [] a b h e f = absurd (omega arith)
two_left (x ∷ []) a b h e f = absurd (omega arith)
two_left (x ∷ y ∷ xs) a b h e f =
    let n : length (x ∷ y ∷ xs) - 2 ≡ length xs = omega arith in
    (λ i. sym e i ∷ sym f i ∷ xs) ∙ ap (λ ws. a ∷ b ∷ ws) (sym (ap (λ m. take m xs) n ∙ take-length xs))

-- ## What is left

more_left : (elements : List Text) (n : ℕ) → n < length elements → is_empty (drop n elements) ≡ false
more_left [] n h = absurd (omega arith)
more_left (x ∷ xs) zero h = refl
more_left (x ∷ xs) (suc n) h = more_left xs n (omega arith)

-- ## Variables

-- the first variable is set to the next element
pub names_on : (names : List Text) (name : Text) (elements : List Text) (i : ℕ) (k : List Text → Program) → sets_names (name ∷ names) (drop i elements) k ≡ sets name (get_or elements i []) (sets_names names (drop (suc i) elements) k)
names_on names name [] zero k = refl
names_on names name [] (suc i) k = refl
names_on names name (x ∷ elements) zero k = refl
names_on names name (x ∷ elements) (suc i) k = names_on names name elements i k

-- a variable is set, and then those behind it
pub step_on : (names elements : List Text) (i j : ℕ) (name value : Text) (k : Program) → i < length names → name ≡ get_or names i name → value ≡ get_or elements j [] →
    sets_names (drop i names) (drop j elements) (λ left. k) ≡ sets name value (sets_names (drop (i + 1) names) (drop (j + 1) elements) (λ left. k))
step_on names elements i j name value k h e f =
    let n : suc i ≡ i + 1 = omega arith in
    let m : suc j ≡ j + 1 = omega arith in
    ap (λ (ns : List Text). sets_names ns (drop j elements) (λ left. k)) (drop-cons names i name h ∙ ap (λ (x : Text). x ∷ drop (suc i) names) (sym e))
    ∙ names_on (drop (suc i) names) name elements j (λ left. k)
    ∙ (λ t. sets name (sym f t) (sets_names (drop (n t) names) (drop (m t) elements) (λ left. k)))

pub names_end : (names left : List Text) (k : Program) → names ≡ [] → sets_names names left (λ more. k) ≡ k
names_end names left k e = ap (λ (ns : List Text). sets_names ns left (λ more. k)) e

-- ## Walks

pub walk_on : (walks : List read.Walk) (i : ℕ) (walk : read.Walk) → i < length walks → walk ≡ get_or walks i walk → drop i walks ≡ walk ∷ drop (i + 1) walks
walk_on walks i walk h e =
    let n : suc i ≡ i + 1 = omega arith in
    drop-cons walks i walk h ∙ (λ t. sym e t ∷ drop (n t) walks)

-- elements are left of a walk
pub not_over : (turns : ℕ) (walks : List read.Walk) (i : ℕ) (walk : read.Walk) → i < length walks → walk ≡ get_or walks i walk → turns * length walk.names < length walk.elements → is_over (walks_at turns (drop i walks)) ≡ false
not_over turns walks i walk h e more =
    ap (λ (ws : List read.Walk). is_over (walks_at turns ws)) (walk_on walks i walk h e)
    ∙ ap (λ b. b && is_over (walks_at turns (drop (i + 1) walks))) (more_left walk.elements (turns * length walk.names) more)

-- a list of elements that is none
pub misread_second : (form names elements : Text) (xs : List Text) (e : Reply) → list_of names ≡ Ok xs → IsFailure fault_message (list_of elements) e → MisreadsWalk form names elements e
misread_second form names elements xs e f h = λ k. subst (λ (r : Result (List Text) ListFault). EndsBy (or_fails fault_message r (λ zs. or_fails fault_message (list_of elements) (λ ys. walk_of form zs ys k))) e) (sym f) (by k (list_of elements) h)
  where
    by : (k : Walk → Program) (r : Result (List Text) ListFault) → IsFailure fault_message r e → EndsBy (or_fails fault_message r (λ ys. walk_of form xs ys k)) e
    by k (Ok ys) g = elim g [ ]
    by k (Err x) g = g

-- ## The words of a loop over a dict

-- what names that were read, and a dict, are
abbrev entries_named : List Text → Text → (Walk → Program) → Program
entries_named xs dict k = either (length xs == 2) (or_fails (λ message. message) (dict_word dict) (λ entries. k (record { names = xs; left = flat entries }))) (fails (wrong_args dict_for_form))

named_on : (names dict : Text) (xs : List Text) (k : Walk → Program) → list_of names ≡ Ok xs → entries_walk names dict k ≡ entries_named xs dict k
named_on names dict xs k e = ap (λ (r : Result (List Text) ListFault). or_fails fault_message r (λ ys. entries_named ys dict k)) e

two_named : (xs : List Text) (dict : Text) (k : Walk → Program) → length xs ≡ 2 → entries_named xs dict k ≡ or_fails (λ message. message) (dict_word dict) (λ entries. k (record { names = xs; left = flat entries }))
two_named xs dict k two = ap (λ n. either (n == 2) (or_fails (λ message. message) (dict_word dict) (λ entries. k (record { names = xs; left = flat entries }))) (fails (wrong_args dict_for_form))) two

pub entries_read : (names dict : Text) (xs elements : List Text) (k : Walk → Program) → list_of names ≡ Ok xs → length xs ≡ 2 → IsOkAnd (dict_word dict) (λ entries. elements ≡ flat entries) → entries_walk names dict k ≡ k (record { names = xs; left = elements })
entries_read names dict xs elements k e two f = named_on names dict xs k e ∙ two_named xs dict k two ∙ by (dict_word dict) f
  where
    by : (r : Result Pairs Text) → IsOkAnd r (λ entries. elements ≡ flat entries) → or_fails (λ message. message) r (λ entries. k (record { names = xs; left = flat entries })) ≡ k (record { names = xs; left = elements })
    by (Ok es) g = ap (λ (l : List Text). k (record { names = xs; left = l })) (sym g)
    by (Err m) g = elim g [ ]

pub entries_not_two : (names dict : Text) (xs : List Text) (e : Reply) → list_of names ≡ Ok xs → (length xs == 2) ≡ false → e ≡ Completed (failing (wrong_args dict_for_form)) → MisreadsEntry names dict e
entries_not_two names dict xs e read other h = λ k. subst (λ (x : Program). EndsBy x e)
    (sym (named_on names dict xs k read ∙ ap (λ b. either b (or_fails (λ message. message) (dict_word dict) (λ entries. k (record { names = xs; left = flat entries }))) (fails (wrong_args dict_for_form))) other)) h

pub entries_misread : (names dict : Text) (xs : List Text) (e : Reply) → list_of names ≡ Ok xs → length xs ≡ 2 → IsFailure itself (dict_word dict) e → MisreadsEntry names dict e
entries_misread names dict xs e read two h = λ k. subst (λ (x : Program). EndsBy x e) (sym (named_on names dict xs k read ∙ two_named xs dict k two)) (by k (dict_word dict) h)
  where
    by : (k : Walk → Program) (r : Result Pairs Text) → IsFailure itself r e → EndsBy (or_fails (λ message. message) r (λ entries. k (record { names = xs; left = flat entries }))) e
    by k (Ok es) g = elim g [ ]
    by k (Err m) g = g

pub dict_loop_on : (args : List Text) (names dict body : Text) (k : List Walk → Text → Program) → args ≡ names ∷ dict ∷ body ∷ [] → dict_loop args k ≡ entries_walk names dict (λ walk. k (walk ∷ []) body)
dict_loop_on args names dict body k is = ap (λ (ws : List Text). dict_loop ws k) is

pub dict_loop_none : (args : List Text) (k : List Walk → Text → Program) → (length args < 3) ⊎ (4 ≤ length args) → dict_loop args k ≡ fails (wrong_args dict_for_form)
dict_loop_none [] k h = refl
dict_loop_none (x ∷ []) k h = refl
dict_loop_none (x ∷ y ∷ []) k h = refl
dict_loop_none (x ∷ y ∷ z ∷ []) k (inl h) = absurd (omega arith)
dict_loop_none (x ∷ y ∷ z ∷ []) k (inr h) = absurd (omega arith)
dict_loop_none (x ∷ y ∷ z ∷ w ∷ ws) k h = refl

-- ## A word that is a list of itself alone

plain_form : (t u : Bool) (f : Form) (x : Text) → t ≡ false → u ≡ false → in_form (cond (t || u) f Plain) u x ≡ x
plain_form true u f x h k = absurd (cc)
plain_form false true f x h k = absurd (cc)
plain_form false false f x h k = refl

plain_written : (b : ℕ) (s : Text) → has_special (b ∷ s) ≡ false → (b == 35) ≡ false → written true (b ∷ s) ≡ b ∷ s
unfolding written
plain_written b s h k = plain_form (has_special (b ∷ s)) (b == 35) (cond (fits_braces (b ∷ s)) Braced Escaped) (b ∷ s) h k

word_alone : (x : Text) → 1 ≤ length x → (get_or x 0 0 == 35) ≡ false → has_special x ≡ false → list_of x ≡ Ok (x ∷ [])
word_alone [] l k h = absurd (omega arith)
word_alone (b ∷ s) l k h =
    let same : b ∷ s ≡ written_list ((b ∷ s) ∷ []) = sym (append-nil (b ∷ s)) ∙ ap (λ (z : Text). z ++ []) (sym (plain_written b s h k)) in
    ap list_of same ∙ list_from ((b ∷ s) ∷ []) (written_list ((b ∷ s) ∷ [])) (written_spells ((b ∷ s) ∷ []))

not_so : (b : Bool) → IsTrue (not b) → b ≡ false
not_so true h = absurd (cc)
not_so false h = refl

no_hash : (n : ℕ) → (n ≡ 35 → ⊥) → (((n == 35) ≡ true) × (n ≡ 35)) ⊎ (((n == 35) ≡ false) × (n ≡ 35 → ⊥)) → (n == 35) ≡ false
no_hash n k (inl x) = absurd (k x.1)
no_hash n k (inr x) = x.0

-- a word that doesn't begin with `#`, and has no special byte
pub word_told : (x bytes : Text) (special : Bool) → bytes ≡ x → 1 ≤ length bytes → (get_or bytes 0 0 ≡ 35 → ⊥) → special ≡ has_special x → IsTrue (not special) → list_of x ≡ Ok (x ∷ [])
word_told x bytes special is l k e h =
    word_alone x (subst (λ (y : Text). 1 ≤ length y) is l) (ap (λ (y : Text). get_or y 0 0 == 35) (sym is) ∙ no_hash (get_or bytes 0 0) k (eqb_tells (get_or bytes 0 0) 35)) (sym e ∙ not_so special h)

-- ## One variable and one list

none_behind : (elements : List Text) (n : ℕ) → length elements ≤ n → is_empty (drop n elements) ≡ true
none_behind [] zero h = refl
none_behind [] (suc n) h = refl
none_behind (x ∷ xs) zero h = absurd (omega arith)
none_behind (x ∷ xs) (suc n) h = none_behind xs n (omega arith)

alone_over : (walks : List read.Walk) (name : Text) (elements : List Text) (turns : ℕ) → Alone walks name elements → is_over (walks_at turns walks) ≡ (is_empty (drop turns elements) && true)
alone_over walks name elements turns is =
    let one : turns * 1 ≡ turns = omega arith in
    ap (λ (ws : List read.Walk). is_over (walks_at turns ws)) is ∙ ap (λ n. is_empty (drop n elements) && true) one

alone_ends : (walks : List read.Walk) (name : Text) (elements : List Text) (turns : ℕ) → Alone walks name elements → length elements ≤ turns → true ≡ is_over (walks_at turns walks)
alone_ends walks name elements turns is h = sym (alone_over walks name elements turns is ∙ ap (λ b. b && true) (none_behind elements turns h))

alone_goes_on : (walks : List read.Walk) (name : Text) (elements : List Text) (turns : ℕ) → Alone walks name elements → turns < length elements → false ≡ is_over (walks_at turns walks)
alone_goes_on walks name elements turns is h = sym (alone_over walks name elements turns is ∙ ap (λ b. b && true) (more_left elements turns h))

alone_by : (walks : List read.Walk) (name : Text) (elements : List Text) (turns : ℕ) → Alone walks name elements → ((leb (length elements) turns ≡ true) × (length elements ≤ turns)) ⊎ ((leb (length elements) turns ≡ false) × (turns < length elements))
    → leb (length elements) turns ≡ is_over (walks_at turns walks)
alone_by walks name elements turns is (inl x) = x.0 ∙ alone_ends walks name elements turns is x.1
alone_by walks name elements turns is (inr x) = x.0 ∙ alone_goes_on walks name elements turns is x.1

pub alone_test : (walks : List read.Walk) (name : Text) (elements : List Text) (turns n : ℕ) → Alone walks name elements → n ≡ length elements → leb n turns ≡ is_over (walks_at turns walks)
alone_test walks name elements turns n is e =
    ap (λ m. leb m turns) e ∙ alone_by walks name elements turns is (leb_tells (length elements) turns)
