-- Which body the words of a `switch` choose.
use Rattle.std.proofs.Common.{◌≡◌, ℕ, zero, suc, ◌+◌, ◌-◌, ◌*◌, ◌<◌, ◌≤◌, ◌%◌, ◌⊎◌, inl, inr, Bool, true, false, List, [], ◌∷◌, ◌++◌, take, drop, get_or, length, length-drop, Option, Some, None, refl, sym, ◌∙◌, ap, subst, arith}
use Rattle.std.specs.Prelude.{Result, Ok, Err, codes, ◌==◌, ◌||◌, ◌↔◌}
use Rattle.std.specs.Str.{bytes_eq}
use Rattle.std.proofs.Math.Seq.{drop-cons, take-length}
use Rattle.std.proofs.lemmas.Slice.Eq.{bytes_eq-Decides}
use Rattle.tcl_core.specs.Endings.{Reply}
use Rattle.tcl_core.specs.Endings.Reply.{Completed}
use Rattle.tcl_core.specs.Paths.{Text}
use Rattle.tcl_language.specs.Faults.{wrong_args}
use Rattle.tcl_language.specs.Instructions.{either}
use Rattle.tcl_language.specs.Interpreters.{bad_option, is_option}
use Rattle.tcl_language.specs.Switching.{Choice, Manner, among, among_read, behind_options, choice, chosen, first_body, is_fit, option_first, switch_form, takes}
use Rattle.tcl_language.specs.Variables.{is_odd}
use Rattle.tcl_language.proofs.Counting.{odd_is}
use Rattle.tcl_run.specs.Ends.{Gave, IsFailure, failing, itself}
use Rattle.tcl_run.specs.declared.interruption.Interruption.{Interruption}
use Rattle.tcl_text.specs.Lists.{list_of}
use Rattle.tcl_text.specs.Writing.{fault_message}
use Rattle.tcl_text.specs.declared.list.ListFault.{ListFault}
use Rattle.tcl_text.proofs.Items.{no_item}
use Rattle.tcl_calls.specs.Switching.{IsOption, IsOther}
use Rattle.tcl_calls.specs.declared.switching.OptionWord.{OptionWord}
use Rattle.tcl_calls.specs.declared.switching.OptionWord.TheVariants.{Sets, Ends, Unknown, Compared}
use Rattle.tcl_calls.proofs.Walking.{even_is}

-- ## Options

pub choice_few : (manner : Manner) (words : List Text) → length words < 3 → choice manner words ≡ behind_options manner words
choice_few manner [] h = refl
choice_few manner (a ∷ []) h = refl
choice_few manner (a ∷ b ∷ []) h = refl
choice_few manner (a ∷ b ∷ c ∷ words) h = absurd (omega arith)

pub choice_more : (manner : Manner) (word : Text) (words : List Text) → 2 ≤ length words → choice manner (word ∷ words) ≡ option_first word manner words (λ other. choice other words)
choice_more manner word [] h = absurd (omega arith)
choice_more manner word (a ∷ []) h = absurd (omega arith)
choice_more manner word (a ∷ b ∷ words) h = refl

-- what a first word is, that was read, with more than two words left
pub first_at : (manner : Manner) (left : List Text) (word text : Text) (rest : List Text) → left ≡ word ∷ rest → text ≡ word → 2 ≤ length rest → choice manner left ≡ option_first text manner rest (λ other. choice other rest)
first_at manner left word text rest is same more = ap (choice manner) (is ∙ ap (λ w. w ∷ rest) (sym same)) ∙ choice_more manner text rest more

pub compared_at : (manner : Manner) (left : List Text) (word text : Text) (rest : List Text) → left ≡ word ∷ rest → text ≡ word → behind_options manner (text ∷ rest) ≡ behind_options manner left
compared_at manner left word text rest is same = ap (behind_options manner) (ap (λ w. w ∷ rest) same ∙ sym is)

pub few_left : (left : List Text) (word : Text) (rest : List Text) → left ≡ word ∷ rest → length rest < 2 → length left < 3
few_left left word rest is few = let n : length left ≡ length (word ∷ rest) = ap length is in omega (arith, n, few)

-- a word that names no option
pub no_option : (word : Text) (manner : Manner) (words : List Text) (go_on : Manner → Choice) → bytes_eq word (codes "--") ≡ false → bytes_eq word (codes "-exact") ≡ false → bytes_eq word (codes "-glob") ≡ false → bytes_eq word (codes "-nocase") ≡ false →
    option_first word manner words go_on ≡ either (is_option word) (Err (bad_option word)) (behind_options manner (word ∷ words))
no_option word manner words go_on a b c d = λ i. either (a i) (behind_options manner words)
    (either (b i) (go_on (record manner { glob = false }))
    (either (c i) (go_on (record manner { glob = true }))
    (either (d i) (go_on (record manner { nocase = true }))
    (either (is_option word) (Err (bad_option word)) (behind_options manner (word ∷ words))))))

pub other_is : (r : OptionWord) (word : Text) (manner : Manner) → IsOther r word → bytes_eq word (codes "--") ≡ false → bytes_eq word (codes "-exact") ≡ false → bytes_eq word (codes "-glob") ≡ false → bytes_eq word (codes "-nocase") ≡ false →
    IsOption r word manner
other_is (Sets m) word manner h a b c d = absurd h
other_is Ends word manner h a b c d = absurd h
other_is Unknown word manner h a b c d = λ words go_on. no_option word manner words go_on a b c d ∙ ap (λ t. either t (Err (bad_option word)) (behind_options manner (word ∷ words))) h
other_is Compared word manner h a b c d = λ words go_on. no_option word manner words go_on a b c d ∙ ap (λ t. either t (Err (bad_option word)) (behind_options manner (word ∷ words))) h

-- ## Pairs

pub takes_more : (fits : Text → Bool) (pattern : Text) (pairs : List Text) → 1 ≤ length pairs → takes fits pattern pairs ≡ fits pattern
takes_more fits pattern [] h = absurd (omega arith)
takes_more fits pattern (x ∷ pairs) h = refl

pub takes_last : (fits : Text → Bool) (pattern : Text) (pairs : List Text) (b : Bool) → length pairs < 1 → bytes_eq pattern (codes "default") ≡ b → takes fits pattern pairs ≡ (b || fits pattern)
takes_last fits pattern [] b h e = ap (λ t. t || fits pattern) e
takes_last fits pattern (x ∷ pairs) b h e = absurd (omega arith)

pub first_on : (pairs : List Text) (pattern body : Text) (rest : List Text) (b : Bool) → pairs ≡ pattern ∷ body ∷ rest → bytes_eq body (codes "-") ≡ b → first_body pairs ≡ either b (first_body rest) (Some body)
first_on pairs pattern body rest b is e = ap first_body is ∙ ap (λ t. either t (first_body rest) (Some body)) e

pub first_none : (pairs : List Text) → length pairs < 2 → first_body pairs ≡ None
first_none [] h = refl
first_none (x ∷ []) h = refl
first_none (x ∷ y ∷ pairs) h = absurd (omega arith)

pub chosen_on : (fits : Text → Bool) (pairs : List Text) (pattern body : Text) (rest : List Text) (b : Bool) → pairs ≡ pattern ∷ body ∷ rest → b ≡ takes fits pattern rest → chosen fits pairs ≡ either b (first_body pairs) (chosen fits rest)
chosen_on fits pairs pattern body rest b is e =
    ap (chosen fits) is ∙ ap (λ t. either t (first_body (pattern ∷ body ∷ rest)) (chosen fits rest)) (sym e) ∙ ap (λ (ws : List Text). either b (first_body ws) (chosen fits rest)) (sym is)

pub chosen_none : (fits : Text → Bool) (pairs : List Text) → length pairs < 2 → chosen fits pairs ≡ None
chosen_none fits [] h = refl
chosen_none fits (x ∷ []) h = refl
chosen_none fits (x ∷ y ∷ pairs) h = absurd (omega arith)

-- two words of which one is known, and those behind them
behind_two : (words : List Text) (x y : Text) (xs : List Text) → words ≡ x ∷ y ∷ xs → words ≡ x ∷ y ∷ take (length words - 2) (drop 2 words)
behind_two words x y xs is =
    let n : length (x ∷ y ∷ xs) - 2 ≡ length xs = omega arith in
    is ∙ ap (λ ws. x ∷ y ∷ ws) (sym (ap (λ (ws : List Text). take (length ws - 2) (drop 2 ws)) is ∙ ap (λ m. take m xs) n ∙ take-length xs))

pub first_left : (words : List Text) (a : Text) → 2 ≤ length words → a ≡ get_or words 0 a → (b : Text) × (words ≡ a ∷ b ∷ take (length words - 2) (drop 2 words))
first_left [] a l e = absurd (omega arith)
first_left (x ∷ []) a l e = absurd (omega arith)
first_left (x ∷ y ∷ xs) a l e = (y, behind_two (x ∷ y ∷ xs) a y xs (ap (λ w. w ∷ y ∷ xs) (sym e)))

pub second_left : (words : List Text) (b : Text) → 2 ≤ length words → b ≡ get_or words 1 b → (a : Text) × (words ≡ a ∷ b ∷ take (length words - 2) (drop 2 words))
second_left [] b l e = absurd (omega arith)
second_left (x ∷ []) b l e = absurd (omega arith)
second_left (x ∷ y ∷ xs) b l e = (x, behind_two (x ∷ y ∷ xs) x b xs (ap (λ w. x ∷ w ∷ xs) (sym e)))

-- ## Pairs of a list, by their places

-- the pair at a place, and those behind it
pub pair_at : (words : List Text) (i : ℕ) → i + 1 < length words → drop i words ≡ get_or words i [] ∷ get_or words (i + 1) [] ∷ drop (i + 2) words
pair_at words i h =
    let n : suc i ≡ i + 1 = omega arith in
    let m : suc (i + 1) ≡ i + 2 = omega arith in
    drop-cons words i [] (omega (arith, h))
    ∙ ap (λ (ws : List Text). get_or words i [] ∷ ws) (ap (λ k. drop k words) n ∙ drop-cons words (i + 1) [] h ∙ ap (λ k. get_or words (i + 1) [] ∷ drop k words) m)

-- an element, whatever stands in its place where there is none
pub element_is : (words : List Text) (i : ℕ) (x : Text) → i < length words → x ≡ get_or words i x → x ≡ get_or words i []
element_is [] i x h e = absurd (omega arith)
element_is (w ∷ ws) zero x h e = e
element_is (w ∷ ws) (suc i) x h e = element_is ws i x (omega (arith, h)) e

-- what is left behind the last pair
pub last_pair : (words : List Text) (i : ℕ) → length words - i ≡ 2 → drop (i + 2) words ≡ []
last_pair words i h = no_item (drop (i + 2) words) (let n = length-drop (i + 2) words in omega (arith, n, h))

at_least_three : (n : ℕ) → 2 ≤ n → (n ≡ 2 → ⊥) → 3 ≤ n
at_least_three zero l other = absurd (omega (arith, l))
at_least_three (suc zero) l other = absurd (omega (arith, l))
at_least_three (suc (suc zero)) l other = absurd (other refl)
at_least_three (suc (suc (suc n))) l other = omega arith

-- a pattern before others is taken where it fits
pub takes_before : (fits : Text → Bool) (pattern : Text) (words : List Text) (i : ℕ) → i + 1 < length words → (length words - i ≡ 2 → ⊥) → takes fits pattern (drop (i + 2) words) ≡ fits pattern
takes_before fits pattern words i h other =
    let n = length-drop (i + 2) words in
    let three = at_least_three (length words - i) (omega (arith, h)) other in
    takes_more fits pattern (drop (i + 2) words) (omega (arith, n, three))

-- whether the pattern of a pair takes a text, and what is chosen then
pub chosen_at : (fits : Text → Bool) (words : List Text) (n : ℕ) (b : Bool) → 2 * n + 1 < length words → b ≡ takes fits (get_or words (2 * n) []) (drop (2 * n + 2) words) →
    chosen fits (drop (2 * n) words) ≡ either b (first_body (drop (2 * n) words)) (chosen fits (drop (2 * (n + 1)) words))
chosen_at fits words n b h e =
    let m : 2 * n + 2 ≡ 2 * (n + 1) = omega arith in
    chosen_on fits (drop (2 * n) words) (get_or words (2 * n) []) (get_or words (2 * n + 1) []) (drop (2 * n + 2) words) b (pair_at words (2 * n) h) e
    ∙ ap (λ k. either b (first_body (drop (2 * n) words)) (chosen fits (drop k words))) m

-- the body of a pair, if it isn't `-`
pub body_at : (words : List Text) (n : ℕ) (b : Bool) → 2 * n + 1 < length words → bytes_eq (get_or words (2 * n + 1) []) (codes "-") ≡ b →
    first_body (drop (2 * n) words) ≡ either b (first_body (drop (2 * (n + 1)) words)) (Some (get_or words (2 * n + 1) []))
body_at words n b h e =
    let m : 2 * n + 2 ≡ 2 * (n + 1) = omega arith in
    first_on (drop (2 * n) words) (get_or words (2 * n) []) (get_or words (2 * n + 1) []) (drop (2 * n + 2) words) b (pair_at words (2 * n) h) e
    ∙ ap (λ k. either b (first_body (drop k words)) (Some (get_or words (2 * n + 1) []))) m

-- ## Words behind the options

pub behind_rest : (manner : Manner) (string : Text) (pairs : List Text) → (length pairs < 1) ⊎ (2 ≤ length pairs) → behind_options manner (string ∷ pairs) ≡ among manner string pairs
behind_rest manner string [] h = refl
behind_rest manner string (a ∷ []) (inl h) = absurd (omega arith)
behind_rest manner string (a ∷ []) (inr h) = absurd (omega arith)
behind_rest manner string (a ∷ b ∷ pairs) h = refl

pub read_among : (manner : Manner) (string pairs : Text) (xs : List Text) → list_of pairs ≡ Ok xs → behind_options manner (string ∷ pairs ∷ []) ≡ among manner string xs
read_among manner string pairs xs e = ap (among_read manner string) e

pub among_odd : (manner : Manner) (string : Text) (pairs : List Text) (e : Reply) → length pairs % 2 ≡ 1 → e ≡ Completed (failing (wrong_args switch_form)) → IsFailure itself (among manner string pairs) e
among_odd manner string pairs e odd h =
    let is : is_odd pairs ≡ true = odd_is pairs ∙ ap (λ n. n == 1) odd in
    subst (λ b. IsFailure itself (either b (Err (wrong_args switch_form)) (Ok (chosen (is_fit manner string) pairs))) e) (sym is) h

pub among_even : (manner : Manner) (string text : Text) (pairs : List Text) (body : Option Text) → (length pairs % 2 ≡ 1 → ⊥) → text ≡ string → body ≡ chosen (is_fit manner text) pairs → among manner string pairs ≡ Ok body
among_even manner string text pairs body even same is =
    ap (λ b. either b (Err (wrong_args switch_form)) (Ok (chosen (is_fit manner string) pairs))) (even_is pairs even)
    ∙ ap Ok (ap (λ t. chosen (is_fit manner t) pairs) (sym same) ∙ sym is)

unread_among : (manner : Manner) (string pairs : Text) (e : Reply) → IsFailure fault_message (list_of pairs) e → IsFailure itself (behind_options manner (string ∷ pairs ∷ [])) e
unread_among manner string pairs e h = by (list_of pairs) h
  where
    by : (r : Result (List Text) ListFault) → IsFailure fault_message r e → IsFailure itself (among_read manner string r) e
    by (Ok xs) f = absurd f
    by (Err g) f = f

-- the same of a copy of that text
pub unread_as : (manner : Manner) (string pairs own : Text) (e : Reply) → own ≡ pairs → IsFailure fault_message (list_of own) e → IsFailure itself (behind_options manner (string ∷ pairs ∷ [])) e
unread_as manner string pairs own e same h = unread_among manner string pairs e (subst (λ (x : Text). IsFailure fault_message (list_of x) e) same h)

-- what is given for the words that were read is given for all
pub gave_as : (r s : Choice) (given : Result (Option Text) Interruption) → r ≡ s → Gave itself s given → Gave itself r given
gave_as r s given same h = subst (λ (x : Choice). Gave itself x given) (sym same) h

-- ## Words that are put into a slice

pub filled : (before list made slice : List Text) → slice ≡ made → made ≡ before ++ list → before ≡ [] → list ≡ slice
filled before list made slice same is none = sym (same ∙ is ∙ ap (λ (xs : List Text). xs ++ list) none)

-- ## Texts

-- what says that two texts are the same
pub same_bytes : (b : Bool) (x y : List ℕ) → (b ≡ true) ↔ (x ≡ y) → b ≡ bytes_eq x y
same_bytes true x y h = sym ((bytes_eq-Decides x y).1 (h.0 refl))
same_bytes false x y h = by (bytes_eq x y) refl
  where
    by : (t : Bool) → bytes_eq x y ≡ t → false ≡ t
    by false e = refl
    by true e = h.1 ((bytes_eq-Decides x y).0 e)
