-- What a script reads as: the commands of a text, in order, and the fault that comes after them.
use Rattle.std.specs.Prelude.{ℕ, zero, suc, ◌-◌, ◌==◌, nat_lt, Bool, true, false, ◌&&◌, ◌||◌, not}
use Rattle.std.specs.Prelude.{cond, List, [], ◌∷◌, ◌++◌, length, take, drop, Option, Some, None}
use Rattle.std.specs.Prelude.{Result, Ok, Err}
use Rattle.tcl_text.specs.Backslash.{escape, escape_rest, is_blank}
use Rattle.tcl_parser.specs.declared.fault.Fault.{Fault}
use Rattle.tcl_parser.specs.declared.fault.Fault.TheVariants.{CloseBrace, VariableBrace, CloseQuote}
use Rattle.tcl_parser.specs.declared.fault.Fault.TheVariants.{CloseBracket, AfterBrace, AfterQuote}
use Rattle.tcl_parser.specs.declared.fault.Fault.TheVariants.{CloseParenthesis, TooDeep}
use Rattle.tcl_parser.specs.declared.script.Part.{Part}
use Rattle.tcl_parser.specs.declared.script.Part.TheVariants.{Literal, Variable, Element}
use Rattle.tcl_parser.specs.declared.script.Part.TheVariants.{EndElement, Script}
use Rattle.tcl_parser.specs.Words.{WordRead, Reading}
use Rattle.tcl_parser.specs.declared.scan.Run.{Run}
use Rattle.tcl_parser.specs.declared.scan.Run.TheVariants.{VariableName, Index, Quotes, Bare}
use Rattle.tcl_parser.specs.Texts.{begins_with}
use Rattle.tcl_parser.specs.Runs.{run_of, after_run}
use Rattle.tcl_parser.specs.Characters.{newline, quote, hash, dollar, open_parenthesis}
use Rattle.tcl_parser.specs.Characters.{close_parenthesis, asterisk, colon, open_bracket, backslash}
use Rattle.tcl_parser.specs.Characters.{close_bracket, open_brace, close_brace, is_white}
use Rattle.tcl_parser.specs.Characters.{is_separator, is_command_end, is_name_character}
use Rattle.tcl_parser.specs.Several.{Turn, over, next, Several, several}

infixl 10 ◌>>=◌
abbrev pub ◌>>=◌ : {A B : Type 0} → Result A Fault → (A → Result B Fault) → Result B Fault
(Ok x) >>= f = f x
(Err e) >>= f = Err e

-- the front of a text, up to the rest that follows it
abbrev pub before : List ℕ → List ℕ → List ℕ
before s rest = take (length s - length rest) s

-- ## Parts

-- A literal before other parts: one that is empty is none, and two are one.
abbrev pub with_literal : List ℕ → List Part → List Part
with_literal [] ps = ps
with_literal (b ∷ bs) (Literal cs ∷ ps) = Literal ((b ∷ bs) ++ cs) ∷ ps
with_literal (b ∷ bs) ps = Literal (b ∷ bs) ∷ ps

abbrev pub with_part : Part → List Part → List Part
with_part (Literal bs) ps = with_literal bs ps
with_part p ps = p ∷ ps

-- parts with their literals joined
unfoldable pub joined : List Part → List Part
joined [] = []
joined (p ∷ ps) = with_part p (joined ps)

-- ## Between words and commands

-- What follows white space; a backslash-newline counts as white.
unfoldable pub after_white : List ℕ → List ℕ
after_white [] = []
after_white (b ∷ []) = cond (is_white b) [] (b ∷ [])
after_white (b ∷ c ∷ s) =
    cond (is_white b) (after_white (c ∷ s))
    (cond ((b == backslash) && (c == newline)) (after_white s)
    (b ∷ c ∷ s))

-- What follows white space, separators and comments. In a comment, which the flag says, a backslash
-- and the character after it are passed over, and a newline ends it.
unfoldable pub after_gap : Bool → List ℕ → List ℕ
after_gap in_comment [] = []
after_gap true (b ∷ []) = []
after_gap false (b ∷ []) = cond (is_white b || is_separator b || (b == hash)) [] (b ∷ [])
after_gap true (b ∷ c ∷ s) =
    cond (b == newline) (after_gap false (c ∷ s))
    (cond (b == backslash) (after_gap true s)
    (after_gap true (c ∷ s)))
after_gap false (b ∷ c ∷ s) =
    cond (is_white b || is_separator b) (after_gap false (c ∷ s))
    (cond (b == hash) (after_gap true (c ∷ s))
    (cond ((b == backslash) && (c == newline)) (after_gap false s)
    (b ∷ c ∷ s)))

-- Whether a word that isn't in quotes or braces can't go on: white space, a command's end or the
-- text's end comes.
abbrev pub word_ends : Bool → List ℕ → Bool
word_ends inside [] = true
word_ends inside (b ∷ []) = is_white b || is_command_end inside b
word_ends inside (b ∷ c ∷ s) = is_white b || is_command_end inside b ||
    ((b == backslash) && (c == newline))

-- Whether a command ends, where no white space comes.
abbrev pub command_ends : Bool → List ℕ → Bool
command_ends inside [] = true
command_ends inside (b ∷ s) = is_command_end inside b

-- What follows a command's end, of which a close bracket is left.
abbrev pub after_command : List ℕ → List ℕ
after_command [] = []
after_command (b ∷ s) = cond (is_separator b) s (b ∷ s)

-- ## Words in braces

-- The text up to the close brace and what follows the brace. `depth` braces stand open inside the
-- word, and the flag says that a backslash-newline came, with which the spaces and tabs after it
-- are one space.
abbrev pub put : List ℕ → Result (List ℕ × List ℕ) Fault → Result (List ℕ × List ℕ) Fault
put bs (Ok read) = Ok (bs ++ read.0, read.1)
put bs (Err f) = Err f

unfoldable pub in_braces : Bool → ℕ → List ℕ → Result (List ℕ × List ℕ) Fault
in_braces joining depth [] = Err CloseBrace
in_braces joining depth (b ∷ []) = cond ((b == close_brace) && (depth == 0)) (Ok ([], []))
    (Err CloseBrace)
in_braces joining depth (b ∷ c ∷ s) =
    cond (joining && is_blank b) (in_braces true depth (c ∷ s))
    (cond (b == open_brace) (put (b ∷ []) (in_braces false (suc depth) (c ∷ s)))
    (cond (b == close_brace) (cond (depth == 0) (Ok ([], c ∷ s))
    (put (b ∷ []) (in_braces false (depth - 1) (c ∷ s))))
    (cond (b == backslash) (cond (c == newline) (put (32 ∷ []) (in_braces true depth s))
    (put (b ∷ c ∷ []) (in_braces false depth s)))
    (put (b ∷ []) (in_braces false depth (c ∷ s))))))

-- ## Variables

-- What follows the name at the front: letters, digits, underscores and runs of two or more colons.
-- The flag says that such a run stands before.
unfoldable pub after_name : Bool → List ℕ → List ℕ
after_name colons [] = []
after_name colons (b ∷ []) = cond (is_name_character b || (colons && (b == colon))) [] (b ∷ [])
after_name colons (b ∷ c ∷ s) =
    cond (is_name_character b) (after_name false (c ∷ s))
    (cond (colons && (b == colon)) (after_name true (c ∷ s))
    (cond ((b == colon) && (c == colon)) (after_name true s)
    (b ∷ c ∷ s)))

-- ## Parts of words

-- How the scripts in brackets at a place read, and whether the place is in brackets itself.
pub record Level : Type 0 where
  -- what follows a bracketed script, from its close bracket on
  pub nested : List ℕ → Result (List ℕ) Fault
  pub inside : Bool

-- where a part starts: how many indexes are open, and the text
abbrev pub Place : Type 0
Place = ℕ × List ℕ

-- A part and the place after it, from what the part's text begins with.
abbrev pub PartTurn : Type 0
PartTurn = Result (Turn Part Place) Fault

abbrev pub part_turn : Part → ℕ → List ℕ → PartTurn
part_turn p indexes rest = Ok (next p (indexes, rest))

-- behind `${`: the name up to the next close brace
abbrev pub braced_variable : ℕ → List ℕ → List ℕ → PartTurn
braced_variable indexes s [] = Err VariableBrace
braced_variable indexes s (b ∷ rest) = part_turn (Variable (before s (b ∷ rest))) indexes rest

-- behind `$`: the text s, which is a name, perhaps empty, and what follows it
abbrev pub named_variable : ℕ → List ℕ → List ℕ → PartTurn
named_variable indexes s [] = part_turn (Variable s) indexes []
named_variable indexes s (b ∷ rest) =
    cond (b == open_parenthesis) (part_turn (Element (before s (b ∷ rest))) (suc indexes) rest)
    (cond (length s == length (b ∷ rest)) (part_turn (Literal (dollar ∷ [])) indexes s)
    (part_turn (Variable (before s (b ∷ rest))) indexes (b ∷ rest)))

abbrev pub after_dollar : ℕ → List ℕ → PartTurn
after_dollar indexes [] = part_turn (Literal (dollar ∷ [])) indexes []
after_dollar indexes (b ∷ s) =
    cond (b == open_brace) (braced_variable indexes s (after_run VariableName s))
    (named_variable indexes (b ∷ s) (after_name false (b ∷ s)))

-- behind `[`: the script up to its close bracket
abbrev pub script_turn : ℕ → List ℕ → Result (List ℕ) Fault → PartTurn
script_turn indexes s (Ok rest) = part_turn (Script (before s rest)) indexes (drop 1 rest)
script_turn indexes s (Err f) = Err f

-- which characters stand for themselves, where so many indexes are open
abbrev pub run_at : Bool → Bool → ℕ → Run
run_at inside quoted (suc indexes) = Index
run_at inside true zero = Quotes
run_at inside false zero = Bare inside

-- those, from the front on
abbrev pub plain_turn : Run → ℕ → List ℕ → PartTurn
plain_turn run indexes s = part_turn (Literal (run_of run s)) indexes (after_run run s)

-- what the text lacks where it ends in an index or in quotes
abbrev pub missing : ℕ → Fault
missing zero = CloseQuote
missing (suc indexes) = CloseParenthesis

-- A part, where what it stands in doesn't end.
abbrev pub substituted : Level → Bool → ℕ → List ℕ → PartTurn
substituted level quoted indexes [] = Err (missing indexes)
substituted level quoted indexes (b ∷ s) =
    cond (b == dollar) (after_dollar indexes s)
    (cond (b == open_bracket) (script_turn indexes s (level.nested s))
    (cond (b == backslash) (part_turn (Literal (escape s).meaning) indexes (escape_rest s))
    (plain_turn (run_at level.inside quoted indexes) indexes (b ∷ s))))

-- What ends that in which a part would stand: an index its close parenthesis, a word in quotes its
-- close quote, and another word white space, a command's end or the text's.
abbrev pub part_end : Bool → Bool → Place → Option (Turn Part Place)
part_end inside quoted (suc indexes, s) = cond (begins_with close_parenthesis s)
    (Some (next EndElement (indexes, drop 1 s))) None
part_end inside true (zero, s) = cond (begins_with quote s) (Some (over (drop 1 s))) None
part_end inside false (zero, s) = cond (word_ends inside s) (Some (over s)) None

abbrev pub end_or : Option (Turn Part Place) → PartTurn → PartTurn
end_or (Some turn) other = Ok turn
end_or None other = other

-- A part of a word, which stands in quotes or doesn't, or the end of an index or of the word.
abbrev pub read_part : Level → Bool → Place → PartTurn
read_part level quoted (indexes, s) = end_or (part_end level.inside quoted (indexes, s))
    (substituted level quoted indexes s)

-- the parts of a word from a place on
unfoldable pub read_parts : Level → Bool → Place → Several Part
read_parts level quoted place = several (read_part level quoted) (suc (length place.1)) place

-- the parts with their literals joined, and what follows them
abbrev pub joined_parts : Several Part → Result (List Part × List ℕ) Fault
joined_parts read = read.ended >>= λ rest. Ok (joined read.items, rest)

-- ## Words

-- A word in braces or quotes is followed by white space or the command's end.
abbrev pub closed : Bool → Fault → List Part × List ℕ → Result (List Part × List ℕ) Fault
closed inside fault read = cond (word_ends inside read.1) (Ok read) (Err fault)

abbrev pub read_word_parts : Level → List ℕ → Result (List Part × List ℕ) Fault
read_word_parts level s =
    cond (begins_with quote s) (joined_parts (read_parts level true (zero, drop 1 s)) >>= closed
    level.inside AfterQuote)
    (cond (begins_with open_brace s)
    (in_braces false 0 (drop 1 s) >>= λ read. closed level.inside AfterBrace
    (with_literal read.0 [], read.1))
    (joined_parts (read_parts level false (zero, s))))

-- whether `{*}` marks the word behind it: it stands directly before that word
abbrev pub is_expanded : Bool → List ℕ → Bool
is_expanded inside (a ∷ b ∷ c ∷ s) = (a == open_brace) && (b == asterisk) && (c == close_brace) &&
    not (word_ends inside s)
is_expanded inside s = false

abbrev pub marked : Bool → List Part × List ℕ → Result (WordRead × List ℕ) Fault
marked expand read = Ok (record { parts = read.0; expand = expand }, read.1)

-- A word, where one begins.
abbrev pub read_word : Level → List ℕ → Result (WordRead × List ℕ) Fault
read_word level s =
    let expand = is_expanded level.inside s in
    read_word_parts level (cond expand (drop 3 s) s) >>= marked expand

-- ## Commands

abbrev pub word_next : WordRead × List ℕ → Result (Turn WordRead (List ℕ)) Fault
word_next (word, rest) = Ok (next word rest)

-- A word of a command, or the command's end, from behind the white space on.
abbrev pub word_or_end : Level → List ℕ → Result (Turn WordRead (List ℕ)) Fault
word_or_end level s = cond (command_ends level.inside s) (Ok (over (after_command s)))
    (read_word level s >>= word_next)

abbrev pub word_turn : Level → List ℕ → Result (Turn WordRead (List ℕ)) Fault
word_turn level s = word_or_end level (after_white s)

unfoldable pub read_words : Level → List ℕ → Several WordRead
read_words level s = several (word_turn level) (suc (length s)) s

-- A command: its words, and what follows its end. There are no words only where the script ends.
abbrev pub read_command : Level → List ℕ → Result (List WordRead × List ℕ) Fault
read_command level s =
    let words = read_words level (after_gap false s) in words.ended >>= λ rest.
    Ok (words.items, rest)

abbrev pub command_or_end : List WordRead × List ℕ → Result (Turn (List WordRead) (List ℕ)) Fault
command_or_end ([], rest) = Ok (over rest)
command_or_end (w ∷ ws, rest) = Ok (next (w ∷ ws) rest)

abbrev pub command_turn : Level → List ℕ → Result (Turn (List WordRead) (List ℕ)) Fault
command_turn level s = read_command level s >>= command_or_end

-- ## Scripts

-- the commands of a script, and what follows it
unfoldable pub read_commands : Level → List ℕ → Several (List WordRead)
read_commands level s = several (command_turn level) (suc (length s)) s

-- a script in brackets has to end at a close bracket
abbrev pub closing : List ℕ → Result (List ℕ) Fault
closing s = cond (begins_with close_bracket s) (Ok s) (Err CloseBracket)

-- What follows a bracketed script, from its close bracket on, where so many brackets may still
-- stand inside one another.
unfoldable pub after_script : ℕ → List ℕ → Result (List ℕ) Fault
after_script zero s = Err TooDeep
after_script (suc room) s = (read_commands (record { nested = after_script room; inside = true })
    s).ended >>= closing

-- where k brackets are open
abbrev pub level_at : ℕ → Level
level_at k = record { nested = after_script (200 - k); inside = nat_lt 0 k }

abbrev pub fault_of : Result (List ℕ) Fault → Option Fault
fault_of (Ok rest) = None
fault_of (Err f) = Some f

-- What a text reads as: its commands in order, and the fault that comes after them.
abbrev pub read_script : List ℕ → Reading
read_script s =
    let commands = read_commands (level_at 0) s
    in record { commands = commands.items; fault = fault_of commands.ended }
