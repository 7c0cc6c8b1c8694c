-- What the functions that build scripts go by.
use Rattle.std.proofs.Common.{◌≡◌, ℕ, ◌<◌, ◌∙◌, Bool, true, false, List, [], ◌∷◌, ◌++◌, ◌==◌, length, Result, Ok, Err, refl, ap, sym, subst, arith, append_assoc, append-nil}
use Rattle.std.proofs.lemmas.Bool.{false≢true}
use Rattle.std.proofs.lemmas.Bool.Decides.{nat_tests}
use Rattle.tcl_parser.specs.declared.fault.Fault.{Fault}
use Rattle.tcl_parser.specs.declared.reader.ReadError.{ReadError}
use Rattle.tcl_parser.specs.declared.reader.ReadError.TheVariants as stops
use Rattle.tcl_parser.specs.declared.script.Part.{Part}
use Rattle.tcl_parser.specs.Words.{WordRead, Reading}
use Rattle.tcl_parser.specs.Several.{over, next, Several, led_by, and_then}
use Rattle.tcl_parser.specs.Reading.{◌>>=◌, level_at, read_part, read_parts, joined_parts, joined, with_literal, with_part, after_white, after_gap, command_ends, after_command, read_word, read_words, read_command, command_or_end, read_commands, fault_of, read_script}
use Rattle.tcl_parser.specs.Building.{Adds, Stops}
use Rattle.tcl_parser.proofs.PartLemmas.{read_parts-is}
use Rattle.tcl_parser.proofs.WordLemmas.{read_commands-is, command_turn-falls}
use Rattle.tcl_parser.proofs.SeveralLemmas.{Falls}
use Rattle.tcl_parser.proofs.SkipLemmas.{level-ends, parts_over, parts_next, words_end, words_word, words_fault}

-- ## Parts

joined_part : (p : Part) (ps : List Part) → joined (p ∷ ps) ≡ with_part p (joined ps)
unfolding joined
joined_part p ps = refl

joined_none : joined [] ≡ []
unfolding joined
joined_none = refl

-- a part was added
pub parts_added : (k : ℕ) (quoted : Bool) (indexes deeper : ℕ) (s rest : List ℕ) (p : Part) (whole parts new_parts : List Part) (literal new_literal : List ℕ) →
    read_part (level_at k) quoted (indexes, s) ≡ Ok (next p (deeper, rest)) → Adds parts literal p new_parts new_literal →
    whole ≡ parts ++ with_literal literal (joined (read_parts (level_at k) quoted (indexes, s)).items) → whole ≡ new_parts ++ with_literal new_literal (joined (read_parts (level_at k) quoted (deeper, rest)).items)
parts_added k quoted indexes deeper s rest p whole parts new_parts literal new_literal e adds h =
    let others = (read_parts (level_at k) quoted (deeper, rest)).items in
    h ∙ ap (λ x. parts ++ with_literal literal (joined x.items)) (parts_next k quoted indexes deeper s rest p e)
    ∙ ap (λ x. parts ++ with_literal literal x) (joined_part p others) ∙ adds (joined others)

by_parts : (read : Several Part) (rest : List ℕ) (parts : List Part) → read.ended ≡ Ok rest → joined read.items ≡ parts → joined_parts read ≡ Ok (parts, rest)
by_parts read rest parts e h = ap (λ r. r >>= λ x. Ok (joined read.items, x)) e ∙ ap (λ ps. Ok (ps, rest)) h

-- the word has ended
pub parts_done : (k : ℕ) (quoted : Bool) (indexes : ℕ) (s rest : List ℕ) (whole : Several Part) (parts new_parts : List Part) (literal : List ℕ) →
    read_part (level_at k) quoted (indexes, s) ≡ Ok (over rest) → new_parts ≡ parts ++ with_literal literal [] →
    (read_parts (level_at k) quoted (indexes, s)).ended ≡ whole.ended → joined whole.items ≡ parts ++ with_literal literal (joined (read_parts (level_at k) quoted (indexes, s)).items) →
    joined_parts whole ≡ Ok (new_parts, rest)
parts_done k quoted indexes s rest whole parts new_parts literal e adds ended h =
    let none : (read_parts (level_at k) quoted (indexes, s)).items ≡ [] =
    ap (λ x. x.items) (read_parts-is (level_at k) quoted (indexes, s) (level-ends k)) ∙ ap (λ t. (and_then t (read_parts (level_at k) quoted)).items) e in
    by_parts whole rest new_parts (sym ended ∙ parts_over k quoted indexes s rest e)
    (h ∙ ap (λ x. parts ++ with_literal literal (joined x)) none ∙ ap (λ x. parts ++ with_literal literal x) joined_none ∙ sym adds)

pub joined_fault : (read : Several Part) (f : Fault) → read.ended ≡ Err f → joined_parts read ≡ Err f
joined_fault read f e = ap (λ r. r >>= λ x. Ok (joined read.items, x)) e

-- ## Words

-- the command has ended
pub words_done : (k : ℕ) (s rest start after : List ℕ) (words : List WordRead) → start ≡ after_white rest → command_ends (level_at k).inside start ≡ true → after ≡ after_command start →
    (read_words (level_at k) rest).ended ≡ (read_words (level_at k) (after_gap false s)).ended → (read_words (level_at k) (after_gap false s)).items ≡ words ++ (read_words (level_at k) rest).items →
    read_command (level_at k) s ≡ Ok (words, after)
words_done k s rest start after words w e a ended items =
    let here = words_end k rest start w e in
    let all = (read_words (level_at k) (after_gap false s)).items in
    let is : all ≡ words = items ∙ ap (λ x. words ++ x.items) here ∙ append-nil words in
    ap (λ r. r >>= λ x. Ok (all, x)) (sym ended ∙ ap (λ x. x.ended) here) ∙ ap (λ ws. Ok (ws, after_command start)) is ∙ ap (λ x. Ok (words, x)) (sym a)

-- a word was added
pub words_added : (k : ℕ) (rest start after : List ℕ) (word : WordRead) (whole words : List WordRead) → start ≡ after_white rest → command_ends (level_at k).inside start ≡ false → read_word (level_at k) start ≡ Ok (word, after) →
    whole ≡ words ++ (read_words (level_at k) rest).items → whole ≡ (words ++ word ∷ []) ++ (read_words (level_at k) after).items
words_added k rest start after word whole words w e r h =
    h ∙ ap (λ x. words ++ x.items) (words_word k rest start after word w e r) ∙ sym (append_assoc words (word ∷ []) (read_words (level_at k) after).items)

pub words_stop : (k : ℕ) (s rest start : List ℕ) (f : Fault) → start ≡ after_white rest → command_ends (level_at k).inside start ≡ false → read_word (level_at k) start ≡ Err f →
    (read_words (level_at k) rest).ended ≡ (read_words (level_at k) (after_gap false s)).ended → read_command (level_at k) s ≡ Err f
words_stop k s rest start f w e r ended =
    ap (λ x. x >>= λ t. Ok ((read_words (level_at k) (after_gap false s)).items, t)) (sym ended ∙ words_fault k rest start f w e r)

-- ## Commands

commands_by : (s : List ℕ) (r : Result (List WordRead × List ℕ) Fault) → read_command (level_at 0) s ≡ r → read_commands (level_at 0) s ≡ and_then (r >>= command_or_end) (read_commands (level_at 0))
commands_by s r e = read_commands-is (level_at 0) s (level-ends 0) ∙ ap (λ t. and_then (t >>= command_or_end) (read_commands (level_at 0))) e

abbrev made : List (List WordRead) → Result (List ℕ) Fault → Reading
made commands ended = record { commands = commands; fault = fault_of ended }

-- the script has ended
pub script_done : (s rest after : List ℕ) (words : List WordRead) (commands : List (List WordRead)) → read_command (level_at 0) rest ≡ Ok (words, after) → words ≡ [] →
    (read_commands (level_at 0) rest).ended ≡ (read_commands (level_at 0) s).ended → (read_commands (level_at 0) s).items ≡ commands ++ (read_commands (level_at 0) rest).items →
    made commands (Ok after) ≡ read_script s
script_done s rest after words commands e none ended items =
    let here : read_commands (level_at 0) rest ≡ record { items = []; ended = Ok after } = commands_by rest (Ok ([], after)) (e ∙ ap (λ ws. Ok (ws, after)) none) in
    let is : commands ≡ (read_commands (level_at 0) s).items = sym (items ∙ ap (λ x. commands ++ x.items) here ∙ append-nil commands) in
    let last : Ok after ≡ (read_commands (level_at 0) s).ended = sym (ap (λ x. x.ended) here) ∙ ended in
    λ i. made (is i) (last i)

pub script_stops : (s rest : List ℕ) (f : Fault) (commands : List (List WordRead)) → read_command (level_at 0) rest ≡ Err f →
    (read_commands (level_at 0) rest).ended ≡ (read_commands (level_at 0) s).ended → (read_commands (level_at 0) s).items ≡ commands ++ (read_commands (level_at 0) rest).items →
    made commands (Err f) ≡ read_script s
script_stops s rest f commands e ended items =
    let here : read_commands (level_at 0) rest ≡ record { items = []; ended = Err f } = commands_by rest (Err f) e in
    let is : commands ≡ (read_commands (level_at 0) s).items = sym (items ∙ ap (λ x. commands ++ x.items) here ∙ append-nil commands) in
    let last : Err f ≡ (read_commands (level_at 0) s).ended = sym (ap (λ x. x.ended) here) ∙ ended in
    λ i. made (is i) (last i)

-- a command was read
pub record CommandRead (s after : List ℕ) (words : List WordRead) : Type 0 where
  pub is : read_commands (level_at 0) s ≡ led_by words (read_commands (level_at 0) after)
  pub falls : length after < length s

pub command_read : (s after : List ℕ) (words : List WordRead) → read_command (level_at 0) s ≡ Ok (words, after) → (length words == 0) ≡ false → CommandRead s after words
command_read s after [] e some = absurd (false≢true (sym some))
command_read s after (w ∷ ws) e some =
    let falls = subst (Falls (λ (t : List ℕ). t) s) (ap (λ t. t >>= command_or_end) e) (command_turn-falls (level_at 0) (level-ends 0) s) in
    record { is = commands_by s (Ok (w ∷ ws, after)) e; falls = falls.1 }

pub command_added : (rest after : List ℕ) (words : List WordRead) (whole commands : List (List WordRead)) → CommandRead rest after words →
    whole ≡ commands ++ (read_commands (level_at 0) rest).items → whole ≡ (commands ++ words ∷ []) ++ (read_commands (level_at 0) after).items
command_added rest after words whole commands h items =
    items ∙ ap (λ x. commands ++ x.items) h.is ∙ sym (append_assoc commands (words ∷ []) (read_commands (level_at 0) after).items)

pub no_words : (words : List WordRead) → (length words == 0) ≡ true → words ≡ []
no_words [] h = refl
no_words (w ∷ ws) h = absurd (grind (arith, nat_tests))

pub words_stopped : (k : ℕ) (s rest start : List ℕ) (stop : ReadError) → start ≡ after_white rest → command_ends (level_at k).inside start ≡ false → Stops stop (read_word (level_at k) start) →
    (read_words (level_at k) rest).ended ≡ (read_words (level_at k) (after_gap false s)).ended → Stops stop (read_command (level_at k) s)
words_stopped k s rest start stops.Memory w e r ended = tt
words_stopped k s rest start (stops.Fault f) w e r ended = words_stop k s rest start f w e r ended
