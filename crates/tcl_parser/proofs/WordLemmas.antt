-- Words, commands and scripts leave ends of the text.
use Rattle.std.proofs.Common.{◌≡◌, ℕ, zero, suc, ◌-◌, ◌<◌, ◌∙◌, Bool, true, false, cond, not, ◌&&◌, ◌==◌, List, [], ◌∷◌, length, drop, Result, Ok, Err, refl, subst, inl, inr, arith, length-drop}
use Rattle.std.proofs.lemmas.Bool.{cases_Bool, and_parts}
use Rattle.std.proofs.Math.Bool.{or-false}
use Rattle.tcl_text.specs.Backslash.{is_blank}
use Rattle.tcl_parser.specs.declared.fault.Fault.{Fault}
use Rattle.tcl_parser.specs.declared.fault.Fault.TheVariants.{AfterQuote, AfterBrace}
use Rattle.tcl_parser.specs.declared.script.Part.{Part}
use Rattle.tcl_parser.specs.Characters.{is_white, is_separator, is_command_end}
use Rattle.tcl_parser.specs.Texts.{EndsWith}
use Rattle.tcl_parser.specs.Words.{WordRead}
use Rattle.tcl_parser.specs.Several.{Turn, over, Several, and_then}
use Rattle.tcl_parser.specs.Reading.{◌>>=◌, Level, read_parts, joined_parts, joined, with_literal, closed, put, in_braces, after_white, after_gap, word_ends, command_ends, after_command, is_expanded, read_word_parts, marked, read_word, word_next, word_turn, read_words, command_or_end, command_turn, read_commands, closing, after_script}
use Rattle.tcl_parser.proofs.EndLemmas.{EndsWith-itself, EndsWith-more, EndsWith-drop, EndsWith-trans, EndsWith-length, EndsWith-cond}
use Rattle.tcl_parser.proofs.SeveralLemmas.{Falls, AllFall, several-is, several-ends, several-some}
use Rattle.tcl_parser.proofs.PartLemmas.{LeavesEnds, read_parts-ends, bare_word-shorter}

-- what was read leaves less of the text
abbrev pub Leaves : {A : Type 0} → List ℕ → Result (A × List ℕ) Fault → Type 0
Leaves s (Ok (a, rest)) = EndsWith s rest × (length rest < length s)
Leaves s (Err f) = Unit {0}

Leaves-cond : {A : Type 0} (b : Bool) (s : List ℕ) (x y : Result (A × List ℕ) Fault) → (b ≡ true → Leaves s x) → (b ≡ false → Leaves s y) → Leaves s (cond b x y)
Leaves-cond true s x y h k = h refl
Leaves-cond false s x y h k = k refl

Leaves-more : {A : Type 0} (b : ℕ) (s : List ℕ) (r : Result (A × List ℕ) Fault) → Leaves s r → Leaves (b ∷ s) r
Leaves-more b s (Ok (a, rest)) h = let l = h.1 in (EndsWith-more b s rest h.0, omega arith)
Leaves-more b s (Err f) h = tt

-- ## Words in braces

Leaves-put : (s bs : List ℕ) (r : Result (List ℕ × List ℕ) Fault) → Leaves s r → Leaves s (put bs r)
Leaves-put s bs (Ok (x, rest)) h = h
Leaves-put s bs (Err f) h = tt

closes_here : (x : List ℕ) (b : ℕ) (s : List ℕ) → EndsWith (b ∷ s) s × (length s < length (b ∷ s))
closes_here x b s = (EndsWith-more b s s (EndsWith-itself s), omega arith)

pub in_braces-leaves : (joining : Bool) (depth : ℕ) (s : List ℕ) → Leaves s (in_braces joining depth s)
unfolding in_braces
in_braces-leaves joining depth [] = tt
in_braces-leaves joining depth (b ∷ []) = Leaves-cond ((b == 125) && (depth == 0)) (b ∷ []) (Ok ([], [])) _ (λ _. closes_here [] b []) (λ _. tt)
in_braces-leaves joining depth (b ∷ c ∷ s) =
    let step = λ (j : Bool) (d : ℕ). Leaves-more b (c ∷ s) (in_braces j d (c ∷ s)) (in_braces-leaves j d (c ∷ s)) in
    let skip = λ (j : Bool). Leaves-more b (c ∷ s) (in_braces j depth s) (Leaves-more c s (in_braces j depth s) (in_braces-leaves j depth s)) in
    Leaves-cond (joining && is_blank b) (b ∷ c ∷ s) _ _ (λ _. step true depth)
    (λ _. Leaves-cond (b == 123) (b ∷ c ∷ s) _ _ (λ _. Leaves-put (b ∷ c ∷ s) (b ∷ []) _ (step false (suc depth)))
    (λ _. Leaves-cond (b == 125) (b ∷ c ∷ s) _ _ (λ _. Leaves-cond (depth == 0) (b ∷ c ∷ s) (Ok ([], c ∷ s)) _ (λ _. closes_here [] b (c ∷ s)) (λ _. Leaves-put (b ∷ c ∷ s) (b ∷ []) _ (step false (depth - 1))))
    (λ _. Leaves-cond (b == 92) (b ∷ c ∷ s) _ _ (λ _. Leaves-cond (c == 10) (b ∷ c ∷ s) _ _ (λ _. Leaves-put (b ∷ c ∷ s) (32 ∷ []) _ (skip true)) (λ _. Leaves-put (b ∷ c ∷ s) (b ∷ c ∷ []) _ (skip false)))
    (λ _. Leaves-put (b ∷ c ∷ s) (b ∷ []) _ (step false depth)))))

-- ## Words

ended_leaves : (s : List ℕ) (items : List Part) (ended : Result (List ℕ) Fault) → ((rest : List ℕ) → ended ≡ Ok rest → EndsWith s rest × (length rest < length s)) → Leaves s (ended >>= λ rest. Ok (joined items, rest))
ended_leaves s items (Ok rest) h = h rest refl
ended_leaves s items (Err f) h = tt

joined-leaves : (s : List ℕ) (read : Several Part) → ((rest : List ℕ) → read.ended ≡ Ok rest → EndsWith s rest × (length rest < length s)) → Leaves s (joined_parts read)
joined-leaves s read h = ended_leaves s read.items read.ended h

closed-leaves : (s : List ℕ) (inside : Bool) (fault : Fault) (r : Result (List Part × List ℕ) Fault) → Leaves s r → Leaves s (r >>= closed inside fault)
closed-leaves s inside fault (Ok (ps, rest)) h = Leaves-cond (word_ends inside rest) s (Ok (ps, rest)) (Err fault) (λ _. h) (λ _. tt)
closed-leaves s inside fault (Err f) h = tt

braces-leaves : (s : List ℕ) (inside : Bool) (r : Result (List ℕ × List ℕ) Fault) → Leaves s r → Leaves s (r >>= λ read. closed inside AfterBrace (with_literal read.0 [], read.1))
braces-leaves s inside (Ok (x, rest)) h = Leaves-cond (word_ends inside rest) s (Ok (with_literal x [], rest)) (Err AfterBrace) (λ _. h) (λ _. tt)
braces-leaves s inside (Err f) h = tt

pub read_word_parts-leaves : (level : Level) (s : List ℕ) → LeavesEnds level.nested → word_ends level.inside s ≡ false → Leaves s (read_word_parts level s)
read_word_parts-leaves level [] ends goes = cc
read_word_parts-leaves level (b ∷ s) ends goes =
    Leaves-cond (b == 34) (b ∷ s) _ _
    (λ _. closed-leaves (b ∷ s) level.inside AfterQuote _ (joined-leaves (b ∷ s) (read_parts level true (zero, s)) (λ rest e.
    let h = read_parts-ends level true zero s rest ends e in
    let l = EndsWith-length s rest h in
    (EndsWith-more b s rest h, omega arith))))
    (λ _. Leaves-cond (b == 123) (b ∷ s) _ _
    (λ _. braces-leaves (b ∷ s) level.inside _ (Leaves-more b s _ (in_braces-leaves false 0 s)))
    (λ _. joined-leaves (b ∷ s) (read_parts level false (zero, b ∷ s)) (λ rest e.
    (read_parts-ends level false zero (b ∷ s) rest ends e, bare_word-shorter level b s rest ends goes e))))

marked-leaves : (s : List ℕ) (expand : Bool) (r : Result (List Part × List ℕ) Fault) → Leaves s r → Leaves s (r >>= marked expand)
marked-leaves s expand (Ok (ps, rest)) h = h
marked-leaves s expand (Err f) h = tt

from_not : (b : Bool) → not b ≡ true → b ≡ false
from_not true h = cc
from_not false h = refl

expanded_goes_on : (inside : Bool) (s : List ℕ) → is_expanded inside s ≡ true → word_ends inside (drop 3 s) ≡ false
expanded_goes_on inside [] e = cc
expanded_goes_on inside (a ∷ []) e = cc
expanded_goes_on inside (a ∷ b ∷ []) e = cc
expanded_goes_on inside (a ∷ b ∷ c ∷ s) e = from_not (word_ends inside s) ((and_parts _ _ e).1)

Leaves-drop : {A : Type 0} (n : ℕ) (s : List ℕ) (r : Result (A × List ℕ) Fault) → Leaves (drop n s) r → Leaves s r
Leaves-drop n s (Ok (a, rest)) h =
    let l = h.1 in (EndsWith-trans s (drop n s) rest (EndsWith-drop n s) h.0, omega (arith, length-drop n s))
Leaves-drop n s (Err f) h = tt

by_mark : (level : Level) (s : List ℕ) (expand : Bool) → LeavesEnds level.nested → word_ends level.inside s ≡ false → (expand ≡ true → word_ends level.inside (drop 3 s) ≡ false) → Leaves s (read_word_parts level (cond expand (drop 3 s) s) >>= marked expand)
by_mark level s true ends goes h = marked-leaves s true _ (Leaves-drop 3 s _ (read_word_parts-leaves level (drop 3 s) ends (h refl)))
by_mark level s false ends goes h = marked-leaves s false _ (read_word_parts-leaves level s ends goes)

pub read_word-leaves : (level : Level) (s : List ℕ) → LeavesEnds level.nested → word_ends level.inside s ≡ false → Leaves s (read_word level s)
read_word-leaves level s ends goes = by_mark level s (is_expanded level.inside s) ends goes (expanded_goes_on level.inside s)

-- ## White space and what stands before a command

pub EndsWith-after_white : (s : List ℕ) → EndsWith s (after_white s)
unfolding after_white
EndsWith-after_white [] = EndsWith-itself []
EndsWith-after_white (b ∷ []) = EndsWith-cond (is_white b) _ _ _ (EndsWith-more b [] [] (EndsWith-itself [])) (EndsWith-itself (b ∷ []))
EndsWith-after_white (b ∷ c ∷ s) =
    EndsWith-cond _ _ _ _ (EndsWith-more b (c ∷ s) _ (EndsWith-after_white (c ∷ s)))
    (EndsWith-cond _ _ _ _ (EndsWith-more b (c ∷ s) _ (EndsWith-more c s _ (EndsWith-after_white s))) (EndsWith-itself (b ∷ c ∷ s)))

pub EndsWith-after_gap : (in_comment : Bool) (s : List ℕ) → EndsWith s (after_gap in_comment s)
unfolding after_gap
EndsWith-after_gap true [] = EndsWith-itself []
EndsWith-after_gap false [] = EndsWith-itself []
EndsWith-after_gap true (b ∷ []) = EndsWith-more b [] [] (EndsWith-itself [])
EndsWith-after_gap false (b ∷ []) = EndsWith-cond _ _ _ _ (EndsWith-more b [] [] (EndsWith-itself [])) (EndsWith-itself (b ∷ []))
EndsWith-after_gap true (b ∷ c ∷ s) =
    EndsWith-cond _ _ _ _ (EndsWith-more b (c ∷ s) _ (EndsWith-after_gap false (c ∷ s)))
    (EndsWith-cond _ _ _ _ (EndsWith-more b (c ∷ s) _ (EndsWith-more c s _ (EndsWith-after_gap true s))) (EndsWith-more b (c ∷ s) _ (EndsWith-after_gap true (c ∷ s))))
EndsWith-after_gap false (b ∷ c ∷ s) =
    EndsWith-cond _ _ _ _ (EndsWith-more b (c ∷ s) _ (EndsWith-after_gap false (c ∷ s)))
    (EndsWith-cond _ _ _ _ (EndsWith-more b (c ∷ s) _ (EndsWith-after_gap true (c ∷ s)))
    (EndsWith-cond _ _ _ _ (EndsWith-more b (c ∷ s) _ (EndsWith-more c s _ (EndsWith-after_gap false s))) (EndsWith-itself (b ∷ c ∷ s))))

stops_alike : (inside : Bool) (b c : ℕ) (s : List ℕ) → is_white b ≡ false → ((b == 92) && (c == 10)) ≡ false → word_ends inside (b ∷ c ∷ s) ≡ command_ends inside (b ∷ c ∷ s)
stops_alike inside b c s h k = rw (h, k) (or-false (is_command_end inside b))

-- white space is passed over whole: where a word can't go on behind it, the command ends
pub white_word_ends : (inside : Bool) (s : List ℕ) → word_ends inside (after_white s) ≡ command_ends inside (after_white s)
unfolding after_white
white_word_ends inside [] = refl
white_word_ends inside (b ∷ []) =
    elim (cases_Bool (is_white b)) [
      | inl h ↦ rw h refl
      | inr h ↦ rw h (rw h refl)
    ]
white_word_ends inside (b ∷ c ∷ s) =
    elim (cases_Bool (is_white b)) [
      | inl h ↦ rw h (white_word_ends inside (c ∷ s))
      | inr h ↦ elim (cases_Bool ((b == 92) && (c == 10))) [
        | inl k ↦ rw (h, k) (white_word_ends inside s)
        | inr k ↦ rw (h, k) (stops_alike inside b c s h k)
      ]
    ]

EndsWith-after_command : (s : List ℕ) → EndsWith s (after_command s)
EndsWith-after_command [] = EndsWith-itself []
EndsWith-after_command (b ∷ s) = EndsWith-cond (is_separator b) _ _ _ (EndsWith-more b s s (EndsWith-itself s)) (EndsWith-itself (b ∷ s))

-- ## Commands

Falls-cond : {A : Type 0} (b : Bool) (s : List ℕ) (x y : Result (Turn A (List ℕ)) Fault) → (b ≡ true → Falls (λ (t : List ℕ). t) s x) → (b ≡ false → Falls (λ (t : List ℕ). t) s y) → Falls (λ (t : List ℕ). t) s (cond b x y)
Falls-cond true s x y h k = h refl
Falls-cond false s x y h k = k refl

next_falls : (s t : List ℕ) (r : Result (WordRead × List ℕ) Fault) → EndsWith s t → Leaves t r → Falls (λ (u : List ℕ). u) s (r >>= word_next)
next_falls s t (Ok (word, rest)) ends h = let l = EndsWith-length s t ends in let m = h.1 in (EndsWith-trans s t rest ends h.0, omega arith)
next_falls s t (Err f) ends h = tt

pub word_turn-falls : (level : Level) → LeavesEnds level.nested → AllFall (λ (s : List ℕ). s) (word_turn level)
word_turn-falls level ends s =
    let t = after_white s in
    let white = EndsWith-after_white s in
    Falls-cond (command_ends level.inside t) s (Ok (over (after_command t))) (read_word level t >>= word_next)
    (λ _. EndsWith-trans s t (after_command t) white (EndsWith-after_command t))
    (λ goes. next_falls s t (read_word level t) white (read_word-leaves level t ends (white_word_ends level.inside s ∙ goes)))

pub read_words-is : (level : Level) (s : List ℕ) → LeavesEnds level.nested → read_words level s ≡ and_then (word_turn level s) (read_words level)
unfolding read_words
read_words-is level s ends = several-is (λ (t : List ℕ). t) (word_turn level) (word_turn-falls level ends) s

pub read_words-ends : (level : Level) (s rest : List ℕ) → LeavesEnds level.nested → (read_words level s).ended ≡ Ok rest → EndsWith s rest
unfolding read_words
read_words-ends level s rest ends e = several-ends (λ (t : List ℕ). t) (word_turn level) (word_turn-falls level ends) (suc (length s)) s rest e

pub read_words-some : (level : Level) (s rest : List ℕ) (w : WordRead) (ws : List WordRead) → LeavesEnds level.nested → (read_words level s).items ≡ w ∷ ws → (read_words level s).ended ≡ Ok rest → length rest < length s
unfolding read_words
read_words-some level s rest w ws ends i e = several-some (λ (t : List ℕ). t) (word_turn level) (word_turn-falls level ends) (suc (length s)) s rest w ws i e

command_falls : (s t : List ℕ) (items : List WordRead) (ended : Result (List ℕ) Fault) → EndsWith s t → ((rest : List ℕ) → ended ≡ Ok rest → EndsWith t rest) → ((w : WordRead) (ws : List WordRead) (rest : List ℕ) → items ≡ w ∷ ws → ended ≡ Ok rest → length rest < length t) → Falls (λ (u : List ℕ). u) s ((ended >>= λ rest. Ok (items, rest)) >>= command_or_end)
command_falls s t [] (Ok rest) gap ends some = EndsWith-trans s t rest gap (ends rest refl)
command_falls s t (w ∷ ws) (Ok rest) gap ends some =
    let l = EndsWith-length s t gap in let m = some w ws rest refl refl in (EndsWith-trans s t rest gap (ends rest refl), omega arith)
command_falls s t items (Err f) gap ends some = tt

pub command_turn-falls : (level : Level) → LeavesEnds level.nested → AllFall (λ (s : List ℕ). s) (command_turn level)
command_turn-falls level ends s =
    let t = after_gap false s in
    let words = read_words level t in
    command_falls s t words.items words.ended (EndsWith-after_gap false s) (λ rest. read_words-ends level t rest ends) (λ w ws rest. read_words-some level t rest w ws ends)

-- ## Scripts

pub read_commands-is : (level : Level) (s : List ℕ) → LeavesEnds level.nested → read_commands level s ≡ and_then (command_turn level s) (read_commands level)
unfolding read_commands
read_commands-is level s ends = several-is (λ (t : List ℕ). t) (command_turn level) (command_turn-falls level ends) s

pub read_commands-ends : (level : Level) (s rest : List ℕ) → LeavesEnds level.nested → (read_commands level s).ended ≡ Ok rest → EndsWith s rest
unfolding read_commands
read_commands-ends level s rest ends e = several-ends (λ (t : List ℕ). t) (command_turn level) (command_turn-falls level ends) (suc (length s)) s rest e

closing_keeps : (b : Bool) (s rest : List ℕ) (f : Fault) → cond b (Ok s) (Err f) ≡ Ok rest → s ≡ rest
closing_keeps true s rest f e = cc
closing_keeps false s rest f e = cc

closed_script : (r : Result (List ℕ) Fault) (s rest : List ℕ) → ((x : List ℕ) → r ≡ Ok x → EndsWith s x) → (r >>= closing) ≡ Ok rest → EndsWith s rest
closed_script (Ok x) s rest h e = subst (EndsWith s) (closing_keeps _ x rest _ e) (h x refl)
closed_script (Err f) s rest h e = cc

pub after_script-ends : (room : ℕ) → LeavesEnds (after_script room)
unfolding after_script
after_script-ends zero s rest e = cc
after_script-ends (suc room) s rest e =
    let level : Level = record { nested = after_script room; inside = true } in
    closed_script (read_commands level s).ended s rest (λ x. read_commands-ends level s x (after_script-ends room)) e
