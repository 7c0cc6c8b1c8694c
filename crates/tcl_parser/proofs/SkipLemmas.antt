-- What the functions that skip forms go by: one turn of what a text reads as.
use Rattle.std.proofs.Common.{◌≡◌, ℕ, suc, ◌+◌, ◌-◌, ◌<◌, ◌≤◌, ◌∙◌, Bool, true, false, cond, nat_lt, ◌||◌, List, [], ◌∷◌, length, drop, Result, Ok, Err, refl, ap, sym, subst, arith}
use Rattle.std.proofs.lemmas.Bool.{lt-ltb, false≢true}
use Rattle.std.proofs.Math.Bool.{or-false}
use Rattle.tcl_parser.specs.declared.fault.Fault.{Fault}
use Rattle.tcl_parser.specs.declared.fault.Fault.TheVariants.{CloseBracket, TooDeep}
use Rattle.tcl_parser.specs.declared.script.Part.{Part}
use Rattle.tcl_parser.specs.Texts.{EndsWith, begins_with}
use Rattle.tcl_parser.specs.Words.{WordRead}
use Rattle.tcl_parser.specs.Several.{over, next, Several, led_by, and_then}
use Rattle.tcl_parser.specs.Reading.{◌>>=◌, level_at, read_part, read_parts, joined_parts, joined, after_white, after_gap, word_ends, command_ends, after_command, is_expanded, read_word_parts, marked, read_word, word_next, word_turn, read_words, read_command, command_or_end, read_commands, closing, after_script}
use Rattle.tcl_parser.specs.Pieces.{rest_of, skimmed, is_some_list}
use Rattle.tcl_parser.proofs.EndLemmas.{EndsWith-length}
use Rattle.tcl_parser.proofs.PartLemmas.{LeavesEnds, Turns, read_part-turns, read_parts-is}
use Rattle.tcl_parser.proofs.WordLemmas.{Leaves, read_word-leaves, white_word_ends, EndsWith-after_white, read_words-is, read_commands-is, read_commands-ends, command_turn-falls, after_script-ends}
use Rattle.tcl_parser.proofs.SeveralLemmas.{Falls}

pub level-ends : (k : ℕ) → LeavesEnds (level_at k).nested
level-ends k = after_script-ends (200 - k)

-- ## Parts

pub parts_over : (k : ℕ) (quoted : Bool) (indexes : ℕ) (s rest : List ℕ) → read_part (level_at k) quoted (indexes, s) ≡ Ok (over rest) → (read_parts (level_at k) quoted (indexes, s)).ended ≡ Ok rest
parts_over k quoted indexes s rest e =
    ap (λ x. x.ended) (read_parts-is (level_at k) quoted (indexes, s) (level-ends k)) ∙ ap (λ t. (and_then t (read_parts (level_at k) quoted)).ended) e

pub parts_fault : (k : ℕ) (quoted : Bool) (indexes : ℕ) (s : List ℕ) (f : Fault) → read_part (level_at k) quoted (indexes, s) ≡ Err f → (read_parts (level_at k) quoted (indexes, s)).ended ≡ Err f
parts_fault k quoted indexes s f e =
    ap (λ x. x.ended) (read_parts-is (level_at k) quoted (indexes, s) (level-ends k)) ∙ ap (λ t. (and_then t (read_parts (level_at k) quoted)).ended) e

pub parts_next : (k : ℕ) (quoted : Bool) (indexes deeper : ℕ) (s rest : List ℕ) (p : Part) → read_part (level_at k) quoted (indexes, s) ≡ Ok (next p (deeper, rest)) → read_parts (level_at k) quoted (indexes, s) ≡ led_by p (read_parts (level_at k) quoted (deeper, rest))
parts_next k quoted indexes deeper s rest p e =
    read_parts-is (level_at k) quoted (indexes, s) (level-ends k) ∙ ap (λ t. and_then t (read_parts (level_at k) quoted)) e

pub part_falls : (k : ℕ) (quoted : Bool) (indexes deeper : ℕ) (s rest : List ℕ) (p : Part) → read_part (level_at k) quoted (indexes, s) ≡ Ok (next p (deeper, rest)) → (length rest < length s) × (deeper + length rest ≤ indexes + length s)
part_falls k quoted indexes deeper s rest p e =
    let h = subst (Turns indexes s) e (read_part-turns (level_at k) quoted indexes s (level-ends k)) in (h.1, h.2)

-- ## Words

by_end : (items : List Part) (ended : Result (List ℕ) Fault) → rest_of (ended >>= λ rest. Ok (joined items, rest)) ≡ ended
by_end items (Ok rest) = refl
by_end items (Err f) = refl

pub rest_of-joined : (read : Several Part) → rest_of (joined_parts read) ≡ read.ended
rest_of-joined read = by_end read.items read.ended

pub rest_of-marked : (expand : Bool) (r : Result (List Part × List ℕ) Fault) → rest_of (r >>= marked expand) ≡ rest_of r
rest_of-marked expand (Ok x) = refl
rest_of-marked expand (Err f) = refl

by_mark : (k : ℕ) (s : List ℕ) (expand : Bool) (r : Result (List ℕ) Fault) → rest_of (read_word_parts (level_at k) (cond expand (drop 3 s) s)) ≡ r → rest_of (read_word_parts (level_at k) (cond expand (drop 3 s) s) >>= marked expand) ≡ r
by_mark k s expand r h = rest_of-marked expand (read_word_parts (level_at k) (cond expand (drop 3 s) s)) ∙ h

-- a word is what stands behind its mark
pub word_marked : (k : ℕ) (s rest : List ℕ) → is_expanded (level_at k).inside s ≡ true → rest ≡ drop 3 s → rest_of (read_word (level_at k) s) ≡ rest_of (read_word_parts (level_at k) rest)
word_marked k s rest e r =
    rest_of-marked _ (read_word_parts (level_at k) (cond (is_expanded (level_at k).inside s) (drop 3 s) s))
    ∙ ap (λ b. rest_of (read_word_parts (level_at k) (cond b (drop 3 s) s))) e ∙ ap (λ t. rest_of (read_word_parts (level_at k) t)) (sym r)

pub word_unmarked : (k : ℕ) (s : List ℕ) → is_expanded (level_at k).inside s ≡ false → rest_of (read_word (level_at k) s) ≡ rest_of (read_word_parts (level_at k) s)
word_unmarked k s e =
    rest_of-marked _ (read_word_parts (level_at k) (cond (is_expanded (level_at k).inside s) (drop 3 s) s))
    ∙ ap (λ b. rest_of (read_word_parts (level_at k) (cond b (drop 3 s) s))) e

-- ## Words of a command

pub words_end : (k : ℕ) (s start : List ℕ) → start ≡ after_white s → command_ends (level_at k).inside start ≡ true → read_words (level_at k) s ≡ record { items = []; ended = Ok (after_command start) }
words_end k s start w e =
    let test : command_ends (level_at k).inside (after_white s) ≡ true = ap (command_ends (level_at k).inside) (sym w) ∙ e in
    read_words-is (level_at k) s (level-ends k)
    ∙ ap (λ b. and_then (cond b (Ok (over (after_command (after_white s)))) (read_word (level_at k) (after_white s) >>= word_next)) (read_words (level_at k))) test
    ∙ ap (λ t. record { items = []; ended = Ok (after_command t) }) (sym w)

-- a word is read, or its fault
turn_is : (k : ℕ) (s start : List ℕ) → start ≡ after_white s → command_ends (level_at k).inside start ≡ false → word_turn (level_at k) s ≡ (read_word (level_at k) start >>= word_next)
turn_is k s start w e =
    let test : command_ends (level_at k).inside (after_white s) ≡ false = ap (command_ends (level_at k).inside) (sym w) ∙ e in
    ap (λ b. cond b (Ok (over (after_command (after_white s)))) (read_word (level_at k) (after_white s) >>= word_next)) test
    ∙ ap (λ t. read_word (level_at k) t >>= word_next) (sym w)

pub words_fault : (k : ℕ) (s start : List ℕ) (f : Fault) → start ≡ after_white s → command_ends (level_at k).inside start ≡ false → read_word (level_at k) start ≡ Err f → (read_words (level_at k) s).ended ≡ Err f
words_fault k s start f w e r =
    ap (λ x. x.ended) (read_words-is (level_at k) s (level-ends k))
    ∙ ap (λ t. (and_then t (read_words (level_at k))).ended) (turn_is k s start w e ∙ ap (λ t. t >>= word_next) r)

pub words_word : (k : ℕ) (s start rest : List ℕ) (word : WordRead) → start ≡ after_white s → command_ends (level_at k).inside start ≡ false → read_word (level_at k) start ≡ Ok (word, rest) → read_words (level_at k) s ≡ led_by word (read_words (level_at k) rest)
words_word k s start rest word w e r =
    read_words-is (level_at k) s (level-ends k)
    ∙ ap (λ t. and_then t (read_words (level_at k))) (turn_is k s start w e ∙ ap (λ t. t >>= word_next) r)

pub word_falls : (k : ℕ) (s start rest : List ℕ) (word : WordRead) → start ≡ after_white s → command_ends (level_at k).inside start ≡ false → read_word (level_at k) start ≡ Ok (word, rest) → length rest < length s
word_falls k s start rest word w e r =
    let goes : word_ends (level_at k).inside start ≡ false = ap (word_ends (level_at k).inside) w ∙ white_word_ends (level_at k).inside s ∙ ap (command_ends (level_at k).inside) (sym w) ∙ e in
    let h = subst (Leaves start) r (read_word-leaves (level_at k) start (level-ends k) goes) in
    let l = EndsWith-length s (after_white s) (EndsWith-after_white s) in
    let m = h.1 in
    omega (arith, ap length w)

-- what is known where only the rest of a word is
pub record SomeWord (r : Result (WordRead × List ℕ) Fault) (rest : List ℕ) : Type 0 where
  pub word : WordRead
  pub is : r ≡ Ok (word, rest)

pub some_word : (r : Result (WordRead × List ℕ) Fault) (rest : List ℕ) → rest_of r ≡ Ok rest → SomeWord r rest
some_word (Ok (word, x)) rest e = let same : x ≡ rest = cc in record { word = word; is = ap (λ t. Ok (word, t)) same }
some_word (Err f) rest e = cc

pub fault_known : {A : Type 0} (r : Result (A × List ℕ) Fault) (f : Fault) → rest_of r ≡ Err f → r ≡ Err f
fault_known (Ok x) f e = cc
fault_known (Err g) f e = let same : g ≡ f = cc in ap Err same

-- ## The loop over a command's words

pub command_over : (k : ℕ) (s rest start : List ℕ) (some : Bool) → start ≡ after_white rest → command_ends (level_at k).inside start ≡ true →
    (read_words (level_at k) rest).ended ≡ (read_words (level_at k) (after_gap false s)).ended → is_some_list (read_words (level_at k) (after_gap false s)).items ≡ (some || is_some_list (read_words (level_at k) rest).items) →
    skimmed (read_command (level_at k) s) ≡ Ok (some, after_command start)
command_over k s rest start some w e reads is_some =
    let here = words_end k rest start w e in
    let ended = sym reads ∙ ap (λ x. x.ended) here in
    let same : is_some_list (read_words (level_at k) (after_gap false s)).items ≡ some = is_some ∙ ap (λ x. some || is_some_list x.items) here ∙ or-false some in
    ap (λ x. skimmed (x >>= λ r. Ok ((read_words (level_at k) (after_gap false s)).items, r))) ended ∙ ap (λ b. Ok (b, after_command start)) same

pub command_fault : (k : ℕ) (s rest start : List ℕ) (f : Fault) → start ≡ after_white rest → command_ends (level_at k).inside start ≡ false →
    (read_words (level_at k) rest).ended ≡ (read_words (level_at k) (after_gap false s)).ended → rest_of (read_word (level_at k) start) ≡ Err f → skimmed (read_command (level_at k) s) ≡ Err f
command_fault k s rest start f w e reads r =
    let ended = sym reads ∙ words_fault k rest start f w e (fault_known (read_word (level_at k) start) f r) in
    ap (λ x. skimmed (x >>= λ t. Ok ((read_words (level_at k) (after_gap false s)).items, t))) ended

-- ## Scripts

commands_by : (k : ℕ) (s : List ℕ) (r : Result (List WordRead × List ℕ) Fault) → read_command (level_at k) s ≡ r → read_commands (level_at k) s ≡ and_then (r >>= command_or_end) (read_commands (level_at k))
commands_by k s r e = read_commands-is (level_at k) s (level-ends k) ∙ ap (λ t. and_then (t >>= command_or_end) (read_commands (level_at k))) e

ok_same : (x y : Bool × List ℕ) → ◌≡◌ {A = Result (Bool × List ℕ) Fault} (Ok x) (Ok y) → x ≡ y
ok_same x y e = cc

over_by : (k : ℕ) (s rest : List ℕ) (r : Result (List WordRead × List ℕ) Fault) → read_command (level_at k) s ≡ r → skimmed r ≡ Ok (false, rest) → (read_commands (level_at k) s).ended ≡ Ok rest
over_by k s rest (Ok ([], x)) e h = let same : x ≡ rest = ap (λ (p : Bool × List ℕ). p.1) (ok_same (false, x) (false, rest) h) in ap (λ t. t.ended) (commands_by k s (Ok ([], x)) e) ∙ ap Ok same
over_by k s rest (Ok (w ∷ ws, x)) e h = absurd (false≢true (sym (ap (λ (p : Bool × List ℕ). p.0) (ok_same (true, x) (false, rest) h))))
over_by k s rest (Err f) e h = cc

pub commands_over : (k : ℕ) (s rest : List ℕ) → skimmed (read_command (level_at k) s) ≡ Ok (false, rest) → (read_commands (level_at k) s).ended ≡ Ok rest
commands_over k s rest h = over_by k s rest (read_command (level_at k) s) refl h

clash : (x : Bool × List ℕ) (f : Fault) → ◌≡◌ {A = Result (Bool × List ℕ) Fault} (Err f) (Ok x) → ⊥
clash x f e = cc

next_by : (k : ℕ) (s rest : List ℕ) (r : Result (List WordRead × List ℕ) Fault) → read_command (level_at k) s ≡ r → skimmed r ≡ Ok (true, rest) → ((read_commands (level_at k) s).ended ≡ (read_commands (level_at k) rest).ended) × (length rest < length s)
next_by k s rest (Ok ([], x)) e h = absurd (false≢true (ap (λ (p : Bool × List ℕ). p.0) (ok_same (false, x) (true, rest) h)))
next_by k s rest (Ok (w ∷ ws, x)) e h =
    let same : x ≡ rest = ap (λ (p : Bool × List ℕ). p.1) (ok_same (true, x) (true, rest) h) in
    let falls = subst (Falls (λ (t : List ℕ). t) s) (ap (λ t. t >>= command_or_end) e) (command_turn-falls (level_at k) (level-ends k) s) in
    let l = falls.1 in
    (ap (λ t. t.ended) (commands_by k s (Ok (w ∷ ws, x)) e) ∙ ap (λ t. (read_commands (level_at k) t).ended) same, omega (arith, ap length same))
next_by k s rest (Err f) e h = absurd (clash (true, rest) f h)

pub commands_next : (k : ℕ) (s rest : List ℕ) → skimmed (read_command (level_at k) s) ≡ Ok (true, rest) → ((read_commands (level_at k) s).ended ≡ (read_commands (level_at k) rest).ended) × (length rest < length s)
commands_next k s rest h = next_by k s rest (read_command (level_at k) s) refl h

fault_by : (k : ℕ) (s : List ℕ) (f : Fault) (r : Result (List WordRead × List ℕ) Fault) → read_command (level_at k) s ≡ r → skimmed r ≡ Err f → (read_commands (level_at k) s).ended ≡ Err f
fault_by k s f (Ok x) e h = cc
fault_by k s f (Err g) e h = let same : g ≡ f = cc in ap (λ t. t.ended) (commands_by k s (Err g) e) ∙ ap Err same

pub commands_fault : (k : ℕ) (s : List ℕ) (f : Fault) → skimmed (read_command (level_at k) s) ≡ Err f → (read_commands (level_at k) s).ended ≡ Err f
commands_fault k s f h = fault_by k s f (read_command (level_at k) s) refl h

-- a script in brackets is read where one bracket more is open
unfolded : (room : ℕ) (s : List ℕ) → after_script (suc room) s ≡ ((read_commands (record { nested = after_script room; inside = true }) s).ended >>= closing)
unfolding after_script
unfolded room s = refl

pub script_is : (k : ℕ) (s : List ℕ) → k < 200 → after_script (200 - k) s ≡ ((read_commands (level_at (k + 1)) s).ended >>= closing)
script_is k s h =
    let room : 200 - k ≡ suc (200 - (k + 1)) = omega arith in
    let inside : true ≡ nat_lt 0 (k + 1) = sym (lt-ltb 0 (k + 1) (omega arith)) in
    ap (λ n. after_script n s) room ∙ unfolded (200 - (k + 1)) s
    ∙ ap (λ b. (read_commands (record { nested = after_script (200 - (k + 1)); inside = b }) s).ended >>= closing) inside

too_deep : (s : List ℕ) → after_script 0 s ≡ Err TooDeep
unfolding after_script
too_deep s = refl

pub script_too_deep : (k : ℕ) (s : List ℕ) → k ≡ 200 → after_script (200 - k) s ≡ Err TooDeep
script_too_deep k s h = ap (λ n. after_script (200 - n) s) h ∙ too_deep s

pub or-true : (b : Bool) → true ≡ (b || true)
or-true true = refl
or-true false = refl

-- ## The loop over a script's commands

pub script_ends : (k : ℕ) (s rest after : List ℕ) → k < 200 → (read_commands (level_at (k + 1)) rest).ended ≡ (read_commands (level_at (k + 1)) s).ended → skimmed (read_command (level_at (k + 1)) rest) ≡ Ok (false, after) → after_script (200 - k) s ≡ closing after
script_ends k s rest after h reads last =
    script_is k s h ∙ ap (λ r. r >>= closing) (sym reads ∙ commands_over (k + 1) rest after last)

pub script_fault : (k : ℕ) (s rest : List ℕ) (f : Fault) → k < 200 → (read_commands (level_at (k + 1)) rest).ended ≡ (read_commands (level_at (k + 1)) s).ended → skimmed (read_command (level_at (k + 1)) rest) ≡ Err f → after_script (200 - k) s ≡ Err f
script_fault k s rest f h reads fault =
    script_is k s h ∙ ap (λ r. r >>= closing) (sym reads ∙ commands_fault (k + 1) rest f fault)

pub script_suffix : (k : ℕ) (s rest after : List ℕ) → (read_commands (level_at (k + 1)) rest).ended ≡ (read_commands (level_at (k + 1)) s).ended → skimmed (read_command (level_at (k + 1)) rest) ≡ Ok (false, after) → EndsWith s after
script_suffix k s rest after reads last = read_commands-ends (level_at (k + 1)) s after (level-ends (k + 1)) (sym reads ∙ commands_over (k + 1) rest after last)

pub closes : (after behind : List ℕ) → after ≡ 93 ∷ behind → closing after ≡ Ok (93 ∷ behind)
closes after behind e = ap closing e

pub closes_not : (after : List ℕ) → begins_with 93 after ≡ false → closing after ≡ Err CloseBracket
closes_not after e = ap (λ b. cond b (Ok after) (Err CloseBracket)) e
