-- The grammar of scripts, rule by rule: how a text reads, and which fault it has where it can't be
-- read. Lists are the bytes of texts. `Reading.antt` has the function that decides it.
use Rattle.std.specs.Prelude.{◌≡◌, ℕ, zero, suc, ◌-◌, ◌==◌, nat_lt, Bool, true, false, ◌&&◌, ◌||◌}
use Rattle.std.specs.Prelude.{List, [], ◌∷◌, ◌++◌, drop, Option, Some, None, ◌⊎◌}
use Rattle.std.specs.List.{prefix_len}
use Rattle.tcl_text.specs.Backslash.{escape, escape_rest, is_blank}
use Rattle.tcl_parser.specs.declared.fault.Fault.{Fault}
use Rattle.tcl_parser.specs.declared.fault.Fault.TheVariants.{CloseBrace, VariableBrace, CloseQuote}
use Rattle.tcl_parser.specs.declared.fault.Fault.TheVariants.{CloseBracket, AfterBrace, AfterQuote}
use Rattle.tcl_parser.specs.declared.fault.Fault.TheVariants.{CloseParenthesis, TooDeep}
use Rattle.tcl_parser.specs.declared.script.Part.{Part}
use Rattle.tcl_parser.specs.declared.script.Part.TheVariants.{Literal, Variable, Element}
use Rattle.tcl_parser.specs.declared.script.Part.TheVariants.{EndElement, Script}
use Rattle.tcl_parser.specs.Words.{WordRead}
use Rattle.tcl_parser.specs.Characters.{newline, quote, hash, dollar, open_parenthesis}
use Rattle.tcl_parser.specs.Characters.{close_parenthesis, asterisk, colon, open_bracket, backslash}
use Rattle.tcl_parser.specs.Characters.{close_bracket, open_brace, close_brace, is_white}
use Rattle.tcl_parser.specs.Characters.{is_separator, is_name_character}
use Rattle.tcl_parser.specs.Texts.{begins_with}
use Rattle.tcl_parser.specs.Runs.{ends_run}
use Rattle.tcl_parser.specs.Reading.{joined, with_literal, word_ends, command_ends, is_expanded}
use Rattle.tcl_parser.specs.Reading.{run_at}

-- ## Between words

-- White s rest: s is white space, where a backslash-newline is some, and then rest.
pub data White : List ℕ → List ℕ → Type 0 where
  no_white : {s : List ℕ} → White s s
  space : {b : ℕ} {s rest : List ℕ} → is_white b ≡ true → White s rest → White (b ∷ s) rest
  white_line : {s rest : List ℕ} → White s rest → White (backslash ∷ newline ∷ s) rest

abbrev pub begins_white : List ℕ → Bool
begins_white [] = false
begins_white (b ∷ s) = is_white b || ((b == backslash) && begins_with newline s)

-- ## Between commands

-- Comment s rest: s is the text of a comment, up to a newline that no odd run of backslashes stands
-- before, or up to the end of the text, and then rest.
pub data Comment : List ℕ → List ℕ → Type 0 where
  comment_ends : {s : List ℕ} → Comment (newline ∷ s) s
  comment_text_ends : Comment [] []
  comment_pair : {b : ℕ} {s rest : List ℕ} → Comment s rest → Comment (backslash ∷ b ∷ s) rest
  comment_backslash : Comment (backslash ∷ []) []
  comment_character : {b : ℕ} {s rest : List ℕ} → (b == newline) ≡ false →
      (b == backslash) ≡ false → Comment s rest → Comment (b ∷ s) rest

-- Gap s rest: s is white space, separators and comments, and then rest.
pub data Gap : List ℕ → List ℕ → Type 0 where
  no_gap : {s : List ℕ} → Gap s s
  between : {b : ℕ} {s rest : List ℕ} → (is_white b || is_separator b) ≡ true → Gap s rest →
      Gap (b ∷ s) rest
  gap_line : {s rest : List ℕ} → Gap s rest → Gap (backslash ∷ newline ∷ s) rest
  gap_comment : {s t rest : List ℕ} → Comment s t → Gap t rest → Gap (hash ∷ s) rest

abbrev pub begins_gap : List ℕ → Bool
begins_gap [] = false
begins_gap (b ∷ s) = is_white b || is_separator b || (b == hash) ||
    ((b == backslash) && begins_with newline s)

-- CommandEnd inside s rest: s is a command's end and then rest. In brackets a close bracket ends it
-- and stays.
pub data CommandEnd (inside : Bool) : List ℕ → List ℕ → Type 0 where
  text_ends : CommandEnd inside [] []
  separator : {b : ℕ} {s : List ℕ} → is_separator b ≡ true → CommandEnd inside (b ∷ s) s
  bracket_comes : {s : List ℕ} → inside ≡ true →
      CommandEnd inside (close_bracket ∷ s) (close_bracket ∷ s)

-- ## Words in braces

-- Braced depth s x rest: s is x up to the matching close brace, and then rest; so many braces stand
-- open inside the word. A backslash and the character after it don't count; a backslash-newline
-- with the spaces and tabs after it is a space.
pub data Braced : ℕ → List ℕ → List ℕ → List ℕ → Type 0 where
  brace_matches : {s : List ℕ} → Braced zero (close_brace ∷ s) [] s
  brace_opens : {depth : ℕ} {s x rest : List ℕ} → Braced (suc depth) s x rest →
      Braced depth (open_brace ∷ s) (open_brace ∷ x) rest
  brace_closes : {depth : ℕ} {s x rest : List ℕ} → Braced depth s x rest →
      Braced (suc depth) (close_brace ∷ s) (close_brace ∷ x) rest
  brace_line : {depth : ℕ} {s x rest : List ℕ} →
      Braced depth (drop (prefix_len is_blank s) s) x rest →
      Braced depth (backslash ∷ newline ∷ s) (32 ∷ x) rest
  brace_pair : {depth b : ℕ} {s x rest : List ℕ} → (b == newline) ≡ false → Braced depth s x rest →
      Braced depth (backslash ∷ b ∷ s) (backslash ∷ b ∷ x) rest
  brace_character : {depth b : ℕ} {s x rest : List ℕ} → (b == open_brace) ≡ false →
      (b == close_brace) ≡ false → (b == backslash) ≡ false → Braced depth s x rest →
      Braced depth (b ∷ s) (b ∷ x) rest

-- ## Names

-- Whether a name goes on: a letter, a digit, an underscore or a run of two or more colons comes.
-- The flag says that such a run stands before.
abbrev pub name_goes_on : Bool → List ℕ → Bool
name_goes_on colons [] = false
name_goes_on colons (b ∷ s) = is_name_character b ||
    ((b == colon) && (colons || begins_with colon s))

-- Name colons s x rest: s is x, which is as long a name as it can be, and then rest.
pub data Name : Bool → List ℕ → List ℕ → List ℕ → Type 0 where
  name_ends : {colons : Bool} {s : List ℕ} → name_goes_on colons s ≡ false → Name colons s [] s
  name_character : {colons : Bool} {b : ℕ} {s x rest : List ℕ} → is_name_character b ≡ true →
      Name false s x rest → Name colons (b ∷ s) (b ∷ x) rest
  name_colons : {s x rest : List ℕ} → Name true s x rest →
      Name false (colon ∷ colon ∷ s) (colon ∷ colon ∷ x) rest
  name_colon : {s x rest : List ℕ} → Name true s x rest → Name true (colon ∷ s) (colon ∷ x) rest

-- whether anything of a variable's comes behind a `$`
abbrev pub begins_variable : List ℕ → Bool
begins_variable s = begins_with open_brace s || begins_with open_parenthesis s || name_goes_on false
    s

-- ## Parts of words

-- what a text has none of that a byte ends
abbrev pub Lacks : (ℕ → Bool) → List ℕ → Type 0
Lacks p [] = Unit {0}
Lacks p (b ∷ s) = (p b ≡ false) × Lacks p s

-- a text ends, or begins with a byte that passes
abbrev pub Meets : (ℕ → Bool) → List ℕ → Type 0
Meets p [] = Unit {0}
Meets p (b ∷ s) = p b ≡ true

-- What follows is the grammar inside so many brackets. `Ends s rest` says that s is a script in
-- brackets, its close bracket, and then rest.
module _ (inside : Bool) (Ends : List ℕ → List ℕ → Type 0) where
  -- OnePart quoted indexes s p deeper rest: s is the part p, and then rest, with so many indexes
  -- open before and after it.
  pub data OnePart (quoted : Bool) (indexes : ℕ) : List ℕ → Part → ℕ → List ℕ → Type 0 where
    backslash_sequence : {s : List ℕ} →
        OnePart quoted indexes (backslash ∷ s) (Literal (escape s).meaning) indexes (escape_rest s)
    script : {s x rest : List ℕ} → s ≡ x ++ close_bracket ∷ rest → Ends s rest →
        OnePart quoted indexes (open_bracket ∷ s) (Script x) indexes rest
    variable_in_braces : {s x rest : List ℕ} → s ≡ x ++ close_brace ∷ rest → Lacks
        (λ b. b == close_brace) x → OnePart quoted indexes (dollar ∷ open_brace ∷ s) (Variable x)
        indexes rest
    variable : {b : ℕ} {s x rest : List ℕ} → Name false s (b ∷ x) rest →
        begins_with open_parenthesis rest ≡ false →
        OnePart quoted indexes (dollar ∷ s) (Variable (b ∷ x)) indexes rest
    element : {s x rest : List ℕ} → Name false s x (open_parenthesis ∷ rest) →
        OnePart quoted indexes (dollar ∷ s) (Element x) (suc indexes) rest
    lone_dollar : {s : List ℕ} → begins_variable s ≡ false →
        OnePart quoted indexes (dollar ∷ s) (Literal (dollar ∷ [])) indexes s
    characters : {b : ℕ} {s x rest : List ℕ} → s ≡ b ∷ x ++ rest →
        Lacks (ends_run (run_at inside quoted indexes)) (b ∷ x) →
        Meets (ends_run (run_at inside quoted indexes)) rest →
        OnePart quoted indexes s (Literal (b ∷ x)) indexes rest

  -- whether that ends in which a part would stand: an index, a word in quotes or another word
  abbrev pub part_ends : Bool → ℕ → List ℕ → Bool
  part_ends quoted (suc indexes) s = begins_with close_parenthesis s
  part_ends true zero s = begins_with quote s
  part_ends false zero s = word_ends inside s

  -- Parts quoted indexes s ps rest: s is the parts ps of a word, up to its end, and then rest.
  pub data Parts : Bool → ℕ → List ℕ → List Part → List ℕ → Type 0 where
    word_over : {s : List ℕ} → word_ends inside s ≡ true → Parts false zero s [] s
    quotes_close : {s : List ℕ} → Parts true zero (quote ∷ s) [] s
    index_closes : {quoted : Bool} {indexes : ℕ} {s rest : List ℕ} {ps : List Part} →
        Parts quoted indexes s ps rest →
        Parts quoted (suc indexes) (close_parenthesis ∷ s) (EndElement ∷ ps) rest
    part_first : {quoted : Bool} {indexes deeper : ℕ} {s t rest : List ℕ} {p : Part}
        {ps : List Part} → part_ends quoted indexes s ≡ false →
        OnePart quoted indexes s p deeper t → Parts quoted deeper t ps rest →
        Parts quoted indexes s (p ∷ ps) rest

  -- ## Words

  -- WordParts s ps rest: s is a word behind its mark, with the parts ps, and then rest. Behind its
  -- close quote or brace comes white space, a command's end or the text's end. Literals are joined.
  pub data WordParts : List ℕ → List Part → List ℕ → Type 0 where
    word_in_quotes : {s rest : List ℕ} {ps : List Part} → Parts true zero s ps rest →
        word_ends inside rest ≡ true → WordParts (quote ∷ s) (joined ps) rest
    word_in_braces : {s x rest : List ℕ} → Braced zero s x rest → word_ends inside rest ≡ true →
        WordParts (open_brace ∷ s) (with_literal x []) rest
    bare_word : {s rest : List ℕ} {ps : List Part} → begins_with quote s ≡ false →
        begins_with open_brace s ≡ false → Parts false zero s ps rest → WordParts s (joined ps) rest

  -- Mark s expand rest: `{*}` marks the word at s, or doesn't, and rest is the word itself.
  pub data Mark : List ℕ → Bool → List ℕ → Type 0 where
    mark_stands : {s : List ℕ} → word_ends inside s ≡ false →
        Mark (open_brace ∷ asterisk ∷ close_brace ∷ s) true s
    no_mark : {s : List ℕ} → is_expanded inside s ≡ false → Mark s false s

  -- Word s w rest: s is the word w, and then rest.
  pub data Word : List ℕ → WordRead → List ℕ → Type 0 where
    one_word : {expand : Bool} {s t rest : List ℕ} {ps : List Part} → Mark s expand t →
        WordParts t ps rest → Word s (record { parts = ps; expand = expand }) rest

  -- ## Commands

  -- Words s ws rest: s is the words ws, behind white space each, and the command's end, and then
  -- rest.
  pub data Words : List ℕ → List WordRead → List ℕ → Type 0 where
    words_end : {s t rest : List ℕ} → White s t → CommandEnd inside t rest → Words s [] rest
    word_first : {s t u rest : List ℕ} {w : WordRead} {ws : List WordRead} → White s t →
        begins_white t ≡ false → command_ends inside t ≡ false → Word t w u → Words u ws rest →
        Words s (w ∷ ws) rest

  -- ReadsAt s ws rest: s is separators and comments, the words ws and the command's end, and then
  -- rest.
  pub data ReadsAt : List ℕ → List WordRead → List ℕ → Type 0 where
    reads : {s t rest : List ℕ} {ws : List WordRead} → Gap s t → begins_gap t ≡ false →
        Words t ws rest → ReadsAt s ws rest

  -- ScriptEnds s rest: s is commands, up to where the script ends, and rest is from there on.
  pub data ScriptEnds : List ℕ → List ℕ → Type 0 where
    script_ends : {s rest : List ℕ} → ReadsAt s [] rest → ScriptEnds s rest
    command_first : {s t rest : List ℕ} {w : WordRead} {ws : List WordRead} → ReadsAt s (w ∷ ws) t →
        ScriptEnds t rest → ScriptEnds s rest

-- ## Faults

-- The same, where `Fails s fault` says that s, which stands behind an open bracket, has a fault
-- before the script's end. A fault counts where all before it reads, so it is the leftmost.
module _ (inside : Bool) (Ends : List ℕ → List ℕ → Type 0) (Fails : List ℕ → Fault → Type 0) where
  -- the part that begins at s has a fault
  pub data PartFault : List ℕ → Fault → Type 0 where
    name_open : {s : List ℕ} → Lacks (λ b. b == close_brace) s →
        PartFault (dollar ∷ open_brace ∷ s) VariableBrace
    script_fails : {s : List ℕ} {fault : Fault} → Fails s fault → PartFault (open_bracket ∷ s) fault

  -- the parts from s on have a fault
  pub data PartsFault : Bool → ℕ → List ℕ → Fault → Type 0 where
    index_open : {quoted : Bool} {indexes : ℕ} → PartsFault quoted (suc indexes) [] CloseParenthesis
    quotes_open : PartsFault true zero [] CloseQuote
    part_fails : {quoted : Bool} {indexes : ℕ} {s : List ℕ} {fault : Fault} →
        part_ends inside Ends quoted indexes s ≡ false → PartFault s fault →
        PartsFault quoted indexes s fault
    after_index : {quoted : Bool} {indexes : ℕ} {s : List ℕ} {fault : Fault} →
        PartsFault quoted indexes s fault →
        PartsFault quoted (suc indexes) (close_parenthesis ∷ s) fault
    after_part : {quoted : Bool} {indexes deeper : ℕ} {s t : List ℕ} {p : Part} {fault : Fault} →
        part_ends inside Ends quoted indexes s ≡ false →
        OnePart inside Ends quoted indexes s p deeper t → PartsFault quoted deeper t fault →
        PartsFault quoted indexes s fault

  -- the word at s, behind its mark, has a fault
  pub data WordPartsFault : List ℕ → Fault → Type 0 where
    quotes_fail : {s : List ℕ} {fault : Fault} → PartsFault true zero s fault →
        WordPartsFault (quote ∷ s) fault
    after_quotes : {s rest : List ℕ} {ps : List Part} → Parts inside Ends true zero s ps rest →
        word_ends inside rest ≡ false → WordPartsFault (quote ∷ s) AfterQuote
    braces_open : {s : List ℕ} → ((x rest : List ℕ) → Braced zero s x rest → ⊥) →
        WordPartsFault (open_brace ∷ s) CloseBrace
    after_braces : {s x rest : List ℕ} → Braced zero s x rest → word_ends inside rest ≡ false →
        WordPartsFault (open_brace ∷ s) AfterBrace
    bare_fails : {s : List ℕ} {fault : Fault} → begins_with quote s ≡ false →
        begins_with open_brace s ≡ false → PartsFault false zero s fault → WordPartsFault s fault

  -- a word from s on has a fault
  pub data WordsFault : List ℕ → Fault → Type 0 where
    word_fails : {s t u : List ℕ} {expand : Bool} {fault : Fault} → White s t →
        begins_white t ≡ false → command_ends inside t ≡ false → Mark inside Ends t expand u →
        WordPartsFault u fault → WordsFault s fault
    after_word : {s t u : List ℕ} {w : WordRead} {fault : Fault} → White s t →
        begins_white t ≡ false → command_ends inside t ≡ false → Word inside Ends t w u →
        WordsFault u fault → WordsFault s fault

  -- no command can be read from s on
  pub data FaultAt : List ℕ → Fault → Type 0 where
    fails : {s t : List ℕ} {fault : Fault} → Gap s t → begins_gap t ≡ false → WordsFault t fault →
        FaultAt s fault

  -- the script in brackets from s on has a fault: a command's, or the text ends before the close
  -- bracket
  pub data ScriptFault : List ℕ → Fault → Type 0 where
    bracket_open : {s : List ℕ} → ScriptEnds inside Ends s [] → ScriptFault s CloseBracket
    command_fails : {s : List ℕ} {fault : Fault} → FaultAt s fault → ScriptFault s fault
    command_before : {s t : List ℕ} {w : WordRead} {ws : List WordRead} {fault : Fault} →
        ReadsAt inside Ends s (w ∷ ws) t → ScriptFault t fault → ScriptFault s fault

-- ## Brackets in brackets

-- A script in brackets, where so many brackets may still stand inside one another: its close
-- bracket and rest follow it.
abbrev pub EndsWithin : ℕ → List ℕ → List ℕ → Type 0
EndsWithin zero s rest = ⊥
EndsWithin (suc room) s rest = ScriptEnds true (EndsWithin room) s (close_bracket ∷ rest)

abbrev pub FailsWithin : ℕ → List ℕ → Fault → Type 0
FailsWithin zero s fault = fault ≡ TooDeep
FailsWithin (suc room) s fault = ScriptFault true (EndsWithin room) (FailsWithin room) s fault

-- Reads k s ws rest, where k brackets are open, at most 200: s is separators and comments, the
-- words ws and the command's end, and then rest. There are no words only where the script ends.
abbrev pub Reads : ℕ → List ℕ → List WordRead → List ℕ → Type 0
Reads k = ReadsAt (nat_lt 0 k) (EndsWithin (200 - k))

-- HasFault k s fault: no command can be read from s on, for this fault.
abbrev pub HasFault : ℕ → List ℕ → Fault → Type 0
HasFault k = FaultAt (nat_lt 0 k) (EndsWithin (200 - k)) (FailsWithin (200 - k))

-- ReadsAll s commands fault: s is these commands in order, none of them without words, and then the
-- script's end or a fault.
pub data ReadsAll : List ℕ → List (List WordRead) → Option Fault → Type 0 where
  all_read : {s rest : List ℕ} → Reads 0 s [] rest → ReadsAll s [] None
  first_read : {s t : List ℕ} {w : WordRead} {ws : List WordRead} {commands : List (List WordRead)}
      {fault : Option Fault} → Reads 0 s (w ∷ ws) t → ReadsAll t commands fault →
      ReadsAll s ((w ∷ ws) ∷ commands) fault
  fault_comes : {s : List ℕ} {fault : Fault} → HasFault 0 s fault → ReadsAll s [] (Some fault)

-- ## One result

-- s reads in this way and in no other, and has no fault
pub record OneReading (k : ℕ) (s : List ℕ) (ws : List WordRead) (rest : List ℕ) : Type 0 where
  pub reads : Reads k s ws rest
  pub only : (others : List WordRead) (more : List ℕ) → Reads k s others more → (others ≡ ws) ×
      (more ≡ rest)
  pub no_fault : (fault : Fault) → HasFault k s fault → ⊥

-- s has this fault and no other, and doesn't read
pub record OneFault (k : ℕ) (s : List ℕ) (fault : Fault) : Type 0 where
  pub has : HasFault k s fault
  pub only : (other : Fault) → HasFault k s other → other ≡ fault
  pub no_reading : (ws : List WordRead) (rest : List ℕ) → Reads k s ws rest → ⊥

-- exactly one of the two holds, with one result
abbrev pub IsDecided : ℕ → List ℕ → Type 0
IsDecided k s = ((ws : List WordRead) × (rest : List ℕ) × OneReading k s ws rest) ⊎
    ((fault : Fault) × OneFault k s fault)
