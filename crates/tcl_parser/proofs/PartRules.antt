-- Parts of words: the rules and the function that reads them say the same, where they do so of scripts in brackets.
use Rattle.std.proofs.Common.{◌≡◌, ℕ, zero, suc, ◌+◌, ◌<◌, ◌∙◌, Bool, true, false, cond, ◌||◌, ◌==◌, List, [], ◌∷◌, ◌++◌, length, drop, Some, None, Result, Ok, Err, refl, ap, sym, subst, arith, append-nil, length-append}
use Rattle.std.proofs.lemmas.List.{take-append-drop}
use Rattle.std.proofs.lemmas.Bool.{false≢true, or_from, or_parts}
use Rattle.std.proofs.lemmas.Bool.Decides.{nat_tests}
use Rattle.tcl_text.specs.Backslash.{escape, escape_rest}
use Rattle.tcl_parser.specs.declared.fault.Fault.{Fault}
use Rattle.tcl_parser.specs.declared.fault.Fault.TheVariants.{VariableBrace, CloseQuote, CloseParenthesis}
use Rattle.tcl_parser.specs.declared.script.Part.{Part}
use Rattle.tcl_parser.specs.declared.script.Part.TheVariants.{Literal, Variable, Element, EndElement, Script}
use Rattle.tcl_parser.specs.declared.scan.Run.TheVariants.{VariableName}
use Rattle.tcl_parser.specs.Characters.{is_substitution}
use Rattle.tcl_parser.specs.Texts.{begins_with}
use Rattle.tcl_parser.specs.Runs.{ends_run, run_of, after_run, run_len}
use Rattle.tcl_parser.specs.Several.{Turn, over, next, Several, led_by, and_then}
use Rattle.tcl_parser.specs.Reading.{Level, Place, PartTurn, part_turn, braced_variable, named_variable, after_dollar, script_turn, plain_turn, substituted, part_end, end_or, read_part, read_parts, run_at, after_name, before, word_ends}
use Rattle.tcl_parser.specs.Grammar.{Name, name_goes_on, begins_variable, Lacks, Meets, OnePart, part_ends, Parts, PartFault, PartsFault}
use Rattle.tcl_parser.specs.Grammar.Name.{name_ends, name_character, name_colons}
use Rattle.tcl_parser.specs.Grammar.OnePart.{backslash_sequence, script, variable_in_braces, variable, element, lone_dollar, characters}
use Rattle.tcl_parser.specs.Grammar.Parts.{word_over, quotes_close, index_closes, part_first}
use Rattle.tcl_parser.specs.Grammar.PartFault.{name_open, script_fails}
use Rattle.tcl_parser.specs.Grammar.PartsFault.{index_open, quotes_open, part_fails, after_index, after_part}
use Rattle.tcl_parser.proofs.EndLemmas.{before-front, before-whole}
use Rattle.tcl_parser.proofs.RunLemmas.{run_of_goes_on, after_run_goes_on}
use Rattle.tcl_parser.proofs.PartLemmas.{LeavesEnds, Turns, read_part-turns, read_parts-is, plain_in_index, plain_in_quotes, plain_in_word}
use Rattle.tcl_parser.proofs.GrammarLemmas.{is_eq, after_name-Name, whole-Name, Name-before, name_stops, run-Lacks, Lacks-run_of, Meets-after_run}

-- ## What the rules say the function reads

-- a name that isn't empty begins with no brace
name_first : {b : ℕ} {s x rest : List ℕ} → Name false s (b ∷ x) rest → (b == 123) ≡ false
name_first (name_character {b = c} h n) = grind (arith, nat_tests)
name_first (name_colons n) = refl

-- what stands for itself begins no substitution
pub run_substitution : (inside quoted : Bool) (indexes b : ℕ) → ends_run (run_at inside quoted indexes) b ≡ false → is_substitution b ≡ false
run_substitution inside quoted (suc indexes) b h = (or_parts _ _ h).0
run_substitution inside true zero b h = (or_parts _ _ h).0
run_substitution inside false zero b h = (or_parts _ _ (or_parts _ _ h).0).0

-- behind a `$`, where no brace comes
dollar_named : (indexes b : ℕ) (s : List ℕ) → (b == 123) ≡ false → after_dollar indexes (b ∷ s) ≡ named_variable indexes (b ∷ s) (after_name false (b ∷ s))
dollar_named indexes b s h = rw h refl

variable_is : (indexes b : ℕ) (x rest : List ℕ) → begins_with 40 rest ≡ false → named_variable indexes (b ∷ x ++ rest) rest ≡ part_turn (Variable (b ∷ x)) indexes rest
variable_is indexes b x [] h = ap (λ t. part_turn (Variable (b ∷ t)) indexes []) (append-nil x)
variable_is indexes b x (c ∷ rest) h =
    let size = length-append x (c ∷ rest) in
    let longer : (length (b ∷ x ++ (c ∷ rest)) == length (c ∷ rest)) ≡ false = grind (arith, nat_tests) in
    rw (h, longer) (ap (λ t. part_turn (Variable t) indexes (c ∷ rest)) (before-front (b ∷ x) (c ∷ rest)))

dollar_variable : (indexes b : ℕ) (s x rest : List ℕ) → Name false s (b ∷ x) rest → begins_with 40 rest ≡ false → after_dollar indexes s ≡ part_turn (Variable (b ∷ x)) indexes rest
dollar_variable indexes b s x rest n h =
    let whole = whole-Name n in
    ap (after_dollar indexes) whole ∙ dollar_named indexes b (x ++ rest) (name_first n)
    ∙ ap (named_variable indexes (b ∷ x ++ rest)) (ap (after_name false) (sym whole) ∙ after_name-Name n) ∙ variable_is indexes b x rest h

element_is : (indexes : ℕ) (x rest : List ℕ) → named_variable indexes (x ++ 40 ∷ rest) (40 ∷ rest) ≡ part_turn (Element x) (suc indexes) rest
element_is indexes x rest = ap (λ t. part_turn (Element t) (suc indexes) rest) (before-front x (40 ∷ rest))

dollar_element : (indexes : ℕ) (s x rest : List ℕ) → Name false s x (40 ∷ rest) → after_dollar indexes s ≡ part_turn (Element x) (suc indexes) rest
dollar_element indexes s [] rest n =
    let whole = whole-Name n in
    ap (after_dollar indexes) whole ∙ dollar_named indexes 40 rest refl
    ∙ ap (named_variable indexes (40 ∷ rest)) (ap (after_name false) (sym whole) ∙ after_name-Name n) ∙ element_is indexes [] rest
dollar_element indexes s (b ∷ x) rest n =
    let whole = whole-Name n in
    ap (after_dollar indexes) whole ∙ dollar_named indexes b (x ++ 40 ∷ rest) (name_first n)
    ∙ ap (named_variable indexes (b ∷ x ++ 40 ∷ rest)) (ap (after_name false) (sym whole) ∙ after_name-Name n) ∙ element_is indexes (b ∷ x) rest

alone_is : (indexes c : ℕ) (s : List ℕ) → (c == 40) ≡ false → named_variable indexes (c ∷ s) (c ∷ s) ≡ part_turn (Literal (36 ∷ [])) indexes (c ∷ s)
alone_is indexes c s h =
    let same : (length (c ∷ s) == length (c ∷ s)) ≡ true = grind (arith, nat_tests) in
    rw (h, same) refl

dollar_alone : (indexes : ℕ) (s : List ℕ) → begins_variable s ≡ false → after_dollar indexes s ≡ part_turn (Literal (36 ∷ [])) indexes s
dollar_alone indexes [] h = refl
dollar_alone indexes (c ∷ s) h =
    let outer = or_parts (begins_with 123 (c ∷ s) || begins_with 40 (c ∷ s)) (name_goes_on false (c ∷ s)) h in
    let inner = or_parts (c == 123) (c == 40) outer.0 in
    dollar_named indexes c s inner.0 ∙ ap (named_variable indexes (c ∷ s)) (name_stops false (c ∷ s) outer.1) ∙ alone_is indexes c s inner.1

dollar_braces : (indexes : ℕ) (s x rest : List ℕ) → s ≡ x ++ 125 ∷ rest → Lacks (λ b. b == 125) x → after_dollar indexes (123 ∷ s) ≡ part_turn (Variable x) indexes rest
dollar_braces indexes s x rest e l =
    let run = run-Lacks VariableName x (125 ∷ rest) s e l refl in
    ap (braced_variable indexes s) run.1 ∙ ap (λ t. part_turn (Variable t) indexes rest) (ap (λ t. before t (125 ∷ rest)) e ∙ before-front x (125 ∷ rest))

dollar_open : (indexes : ℕ) (s : List ℕ) → Lacks (λ b. b == 125) s → after_dollar indexes (123 ∷ s) ≡ Err VariableBrace
dollar_open indexes s l =
    let run = run-Lacks VariableName s [] s (sym (append-nil s)) l tt in
    ap (braced_variable indexes s) run.1

-- what is known of scripts in brackets: the rules and the function say the same
pub record Agrees (nested : List ℕ → Result (List ℕ) Fault) (Ends : List ℕ → List ℕ → Type 0) (Fails : List ℕ → Fault → Type 0) : Type 0 where
  pub ends : (s rest : List ℕ) → Ends s rest → nested s ≡ Ok (93 ∷ rest)
  pub fails : (s : List ℕ) (f : Fault) → Fails s f → nested s ≡ Err f
  pub ended : (s t : List ℕ) → nested s ≡ Ok t → (rest : List ℕ) × (t ≡ 93 ∷ rest) × Ends s rest
  pub failed : (s : List ℕ) (f : Fault) → nested s ≡ Err f → Fails s f
  pub leaves : LeavesEnds nested

all_rest : (c d : ℕ) (s rest x : List ℕ) → x ≡ [] → length (c ∷ s) ≡ length x + length (d ∷ rest) → (length (c ∷ s) == length (d ∷ rest)) ≡ true
all_rest c d s rest x none sizes = let zero_long = ap length none in grind (arith, nat_tests)

module _ (level : Level) (Ends : List ℕ → List ℕ → Type 0) (Fails : List ℕ → Fault → Type 0) (agrees : Agrees level.nested Ends Fails) where
  script_is : (indexes : ℕ) (s x rest : List ℕ) → s ≡ x ++ 93 ∷ rest → Ends s rest → script_turn indexes s (level.nested s) ≡ part_turn (Script x) indexes rest
  script_is indexes s x rest e h =
      ap (script_turn indexes s) (agrees.ends s rest h) ∙ ap (λ t. part_turn (Script t) indexes rest) (ap (λ t. before t (93 ∷ rest)) e ∙ before-front x (93 ∷ rest))

  characters_are : (quoted : Bool) (indexes b : ℕ) (x rest : List ℕ) → Lacks (ends_run (run_at level.inside quoted indexes)) (b ∷ x) → Meets (ends_run (run_at level.inside quoted indexes)) rest →
      substituted level quoted indexes (b ∷ x ++ rest) ≡ part_turn (Literal (b ∷ x)) indexes rest
  characters_are quoted indexes b x rest l m =
      let run = run_at level.inside quoted indexes in
      let plain = run_substitution level.inside quoted indexes b l.0 in
      let outer = or_parts _ _ plain in
      let inner = or_parts (b == 36) (b == 91) outer.0 in
      let parts = run-Lacks run (b ∷ x) rest (b ∷ x ++ rest) refl l m in
      rw (inner.0, inner.1, outer.1) (λ i. part_turn (Literal (parts.0 i)) indexes (parts.1 i))

  pub one_part : {quoted : Bool} {indexes deeper : ℕ} {s rest : List ℕ} {p : Part} → OnePart level.inside Ends quoted indexes s p deeper rest → substituted level quoted indexes s ≡ Ok (next p (deeper, rest))
  one_part backslash_sequence = refl
  one_part (script {s = s} {x = x} {rest = rest} e h) = script_is _ s x rest e h
  one_part (variable_in_braces {s = s} {x = x} {rest = rest} e l) = dollar_braces _ s x rest e l
  one_part (variable {b = b} {s = s} {x = x} {rest = rest} n h) = dollar_variable _ b s x rest n h
  one_part (element {s = s} {x = x} {rest = rest} n) = dollar_element _ s x rest n
  one_part (lone_dollar {s = s} h) = dollar_alone _ s h
  one_part {quoted = quoted} {indexes = indexes} (characters {b = b} {s = s} {x = x} {rest = rest} e l m) = ap (substituted level quoted indexes) e ∙ characters_are quoted indexes b x rest l m

  pub part_fault : {s : List ℕ} {f : Fault} (quoted : Bool) (indexes : ℕ) → PartFault level.inside Ends Fails s f → substituted level quoted indexes s ≡ Err f
  part_fault quoted indexes (name_open {s = s} l) = dollar_open indexes s l
  part_fault quoted indexes (script_fails {s = s} {fault = f} h) = ap (script_turn indexes s) (agrees.fails s f h)

  -- ## What the function reads the rules say

  abbrev Said : Bool → ℕ → List ℕ → PartTurn → Type 0
  Said quoted indexes s (Ok (over rest)) = ⊥
  Said quoted indexes s (Ok (next p (deeper, rest))) = OnePart level.inside Ends quoted indexes s p deeper rest
  Said quoted indexes s (Err f) = PartFault level.inside Ends Fails s f

  Said-cond : (b quoted : Bool) (indexes : ℕ) (s : List ℕ) (x y : PartTurn) → (b ≡ true → Said quoted indexes s x) → (b ≡ false → Said quoted indexes s y) → Said quoted indexes s (cond b x y)
  Said-cond true quoted indexes s x y h k = h refl
  Said-cond false quoted indexes s x y h k = k refl

  -- a part that begins with a character of which this is known
  Said-at : (quoted : Bool) (indexes b c : ℕ) (s : List ℕ) (turn : PartTurn) → b ≡ c → Said quoted indexes (c ∷ s) turn → Said quoted indexes (b ∷ s) turn
  Said-at quoted indexes b c s turn e h = subst (λ x. Said quoted indexes (x ∷ s) turn) (sym e) h

  before-all : (s : List ℕ) → before s [] ≡ s
  before-all s = ap (λ t. before t []) (sym (append-nil s)) ∙ before-front s []

  said_variable : (quoted : Bool) (indexes : ℕ) (s x rest : List ℕ) → Name false s x rest → (x ≡ [] → ⊥) → begins_with 40 rest ≡ false → OnePart level.inside Ends quoted indexes (36 ∷ s) (Variable x) indexes rest
  said_variable quoted indexes s [] rest n some h = absurd (some refl)
  said_variable quoted indexes s (b ∷ x) rest n some h = variable n h

  no_front : (x : List ℕ) → length x ≡ 0 → x ≡ []
  no_front [] h = refl
  no_front (b ∷ x) h = absurd (omega arith)

  heads : (c e : ℕ) (s rest : List ℕ) → c ∷ s ≡ e ∷ rest → c ≡ e
  heads c e s rest h = cc

  name_none : {s rest : List ℕ} → Name false s [] rest → (name_goes_on false s ≡ false) × (s ≡ rest)
  name_none (name_ends h) = (h, refl)

  -- no name comes: the `$` is alone
  said_alone : (quoted : Bool) (indexes c e : ℕ) (s rest : List ℕ) → (c == 123) ≡ false → (e == 40) ≡ false → Name false (c ∷ s) [] (e ∷ rest) → OnePart level.inside Ends quoted indexes (36 ∷ c ∷ s) (Literal (36 ∷ [])) indexes (c ∷ s)
  said_alone quoted indexes c e s rest h k n =
      let none = name_none n in
      let first : (c == 40) ≡ false = ap (λ x. x == 40) (heads c e s rest none.1) ∙ k in
      lone_dollar (or_from _ _ (or_from _ _ h first) none.0)

  said_named : (quoted : Bool) (indexes c : ℕ) (s r : List ℕ) → (c == 123) ≡ false → r ≡ after_name false (c ∷ s) → Said quoted indexes (36 ∷ c ∷ s) (named_variable indexes (c ∷ s) r)
  said_named quoted indexes c s [] h e =
      let n = subst (λ x. Name false (c ∷ s) (before (c ∷ s) x) x) (sym e) (Name-before (c ∷ s)) in
      variable (subst (λ x. Name false (c ∷ s) x []) (before-all (c ∷ s)) n) refl
  said_named quoted indexes c s (d ∷ rest) h e =
      let x = before (c ∷ s) (d ∷ rest) in
      let n : Name false (c ∷ s) x (d ∷ rest) = subst (λ t. Name false (c ∷ s) (before (c ∷ s) t) t) (sym e) (Name-before (c ∷ s)) in
      let sizes : length (c ∷ s) ≡ length x + length (d ∷ rest) = ap length (whole-Name n) ∙ length-append x (d ∷ rest) in
      Said-cond (d == 40) quoted indexes (36 ∷ c ∷ s) (part_turn (Element x) (suc indexes) rest) _
      (λ k. element (subst (λ z. Name false (c ∷ s) x (z ∷ rest)) (is_eq d 40 k) n))
      (λ k. Said-cond (length (c ∷ s) == length (d ∷ rest)) quoted indexes (36 ∷ c ∷ s) (part_turn (Literal (36 ∷ [])) indexes (c ∷ s)) (part_turn (Variable x) indexes (d ∷ rest))
      (λ l.
      let same = is_eq (length (c ∷ s)) (length (d ∷ rest)) l in
      let none : x ≡ [] = no_front x (omega arith) in
      said_alone quoted indexes c d s rest h k (subst (λ y. Name false (c ∷ s) y (d ∷ rest)) none n))
      (λ l. said_variable quoted indexes (c ∷ s) x (d ∷ rest) n (λ none. absurd (false≢true (sym l ∙ all_rest c d s rest x none sizes))) k))

  said_braced : (quoted : Bool) (indexes : ℕ) (s r : List ℕ) → r ≡ after_run VariableName s → Said quoted indexes (36 ∷ 123 ∷ s) (braced_variable indexes s r)
  said_braced quoted indexes s [] e =
      let run : run_of VariableName s ≡ s = sym (append-nil (run_of VariableName s)) ∙ ap (λ t. run_of VariableName s ++ t) e ∙ take-append-drop (run_len VariableName s) s in
      name_open (subst (Lacks (ends_run VariableName)) run (Lacks-run_of VariableName s))
  said_braced quoted indexes s (d ∷ rest) e =
      let whole : s ≡ run_of VariableName s ++ d ∷ rest = sym (take-append-drop (run_len VariableName s) s) ∙ ap (λ t. run_of VariableName s ++ t) (sym e) in
      let name : run_of VariableName s ≡ before s (d ∷ rest) = sym (ap (λ t. before t (d ∷ rest)) whole ∙ before-front (run_of VariableName s) (d ∷ rest)) in
      let stop : (d == 125) ≡ true = subst (Meets (ends_run VariableName)) (sym e) (Meets-after_run VariableName s) in
      let at : s ≡ before s (d ∷ rest) ++ 125 ∷ rest = whole ∙ (λ i. name i ++ is_eq d 125 stop i ∷ rest) in
      variable_in_braces at (subst (Lacks (ends_run VariableName)) name (Lacks-run_of VariableName s))

  said_dollar : (quoted : Bool) (indexes : ℕ) (s : List ℕ) → Said quoted indexes (36 ∷ s) (after_dollar indexes s)
  said_dollar quoted indexes [] = lone_dollar refl
  said_dollar quoted indexes (c ∷ s) =
      Said-cond (c == 123) quoted indexes (36 ∷ c ∷ s) (braced_variable indexes s (after_run VariableName s)) _
      (λ k. subst (λ x. Said quoted indexes (36 ∷ x ∷ s) (braced_variable indexes s (after_run VariableName s))) (sym (is_eq c 123 k)) (said_braced quoted indexes s (after_run VariableName s) refl))
      (λ k. said_named quoted indexes c s (after_name false (c ∷ s)) k refl)

  said_script : (quoted : Bool) (indexes : ℕ) (s : List ℕ) (r : Result (List ℕ) Fault) → level.nested s ≡ r → Said quoted indexes (91 ∷ s) (script_turn indexes s r)
  said_script quoted indexes s (Ok t) e =
      let end = agrees.ended s t e in
      let whole : s ≡ before s t ++ 93 ∷ end.0 = before-whole s t (agrees.leaves s t e) ∙ ap (λ x. before s t ++ x) end.1 in
      subst (λ x. OnePart level.inside Ends quoted indexes (91 ∷ s) (Script (before s t)) indexes (drop 1 x)) (sym end.1) (script whole end.2)
  said_script quoted indexes s (Err f) e = script_fails (agrees.failed s f e)

  said_characters : (quoted : Bool) (indexes b : ℕ) (s : List ℕ) → ends_run (run_at level.inside quoted indexes) b ≡ false → Said quoted indexes (b ∷ s) (plain_turn (run_at level.inside quoted indexes) indexes (b ∷ s))
  said_characters quoted indexes b s h =
      let run = run_at level.inside quoted indexes in
      let whole : b ∷ s ≡ b ∷ run_of run s ++ after_run run s = ap (λ t. b ∷ t) (sym (take-append-drop (run_len run s) s)) in
      let read = characters {s = b ∷ s} whole (h, Lacks-run_of run s) (Meets-after_run run s) in
      let front = sym (run_of_goes_on run b s h) in
      let rest = sym (after_run_goes_on run b s h) in
      subst (λ t. OnePart level.inside Ends quoted indexes (b ∷ s) (Literal (run_of run (b ∷ s))) indexes t) rest (subst (λ x. OnePart level.inside Ends quoted indexes (b ∷ s) (Literal x) indexes (after_run run s)) front read)

  pub said_part : (quoted : Bool) (indexes b : ℕ) (s : List ℕ) → (is_substitution b ≡ false → ends_run (run_at level.inside quoted indexes) b ≡ false) → Said quoted indexes (b ∷ s) (substituted level quoted indexes (b ∷ s))
  said_part quoted indexes b s plain =
      Said-cond (b == 36) quoted indexes (b ∷ s) (after_dollar indexes s) _ (λ k. Said-at quoted indexes b 36 s _ (is_eq b 36 k) (said_dollar quoted indexes s))
      (λ d. Said-cond (b == 91) quoted indexes (b ∷ s) (script_turn indexes s (level.nested s)) _ (λ k. Said-at quoted indexes b 91 s _ (is_eq b 91 k) (said_script quoted indexes s (level.nested s) refl))
      (λ o. Said-cond (b == 92) quoted indexes (b ∷ s) (part_turn (Literal (escape s).meaning) indexes (escape_rest s)) _ (λ k. Said-at quoted indexes b 92 s (part_turn (Literal (escape s).meaning) indexes (escape_rest s)) (is_eq b 92 k) backslash_sequence)
      (λ l. said_characters quoted indexes b s (plain (or_from _ _ (or_from _ _ d o) l)))))

  -- ## The parts of a word

  goes_on : (quoted : Bool) (indexes : ℕ) (s : List ℕ) → part_ends level.inside Ends quoted indexes s ≡ false → part_end level.inside quoted (indexes, s) ≡ None
  goes_on quoted (suc indexes) s h = ap (λ b. cond b (Some (next EndElement (indexes, drop 1 s))) None) h
  goes_on true zero s h = ap (λ b. cond b (Some (over (drop 1 s))) None) h
  goes_on false zero s h = ap (λ b. cond b (Some (over s)) None) h

  read_one : {quoted : Bool} {indexes deeper : ℕ} {s rest : List ℕ} {p : Part} → part_ends level.inside Ends quoted indexes s ≡ false → OnePart level.inside Ends quoted indexes s p deeper rest → read_part level quoted (indexes, s) ≡ Ok (next p (deeper, rest))
  read_one {quoted = quoted} {indexes = indexes} {s = s} e h = ap (λ end. end_or end (substituted level quoted indexes s)) (goes_on quoted indexes s e) ∙ one_part h

  read_fault : {s : List ℕ} {f : Fault} (quoted : Bool) (indexes : ℕ) → part_ends level.inside Ends quoted indexes s ≡ false → PartFault level.inside Ends Fails s f → read_part level quoted (indexes, s) ≡ Err f
  read_fault {s = s} quoted indexes e h = ap (λ end. end_or end (substituted level quoted indexes s)) (goes_on quoted indexes s e) ∙ part_fault quoted indexes h

  read_over : (s : List ℕ) → word_ends level.inside s ≡ true → read_part level false (zero, s) ≡ Ok (over s)
  read_over s h = ap (λ b. end_or (cond b (Some (over s)) None) (substituted level false zero s)) h

  by_turn : (quoted : Bool) (indexes : ℕ) (s : List ℕ) (turn : PartTurn) → read_part level quoted (indexes, s) ≡ turn → read_parts level quoted (indexes, s) ≡ and_then turn (read_parts level quoted)
  by_turn quoted indexes s turn e = read_parts-is level quoted (indexes, s) agrees.leaves ∙ ap (λ t. and_then t (read_parts level quoted)) e

  pub parts_read : {quoted : Bool} {indexes : ℕ} {s rest : List ℕ} {ps : List Part} → Parts level.inside Ends quoted indexes s ps rest → read_parts level quoted (indexes, s) ≡ record { items = ps; ended = Ok rest }
  parts_read (word_over {s = s} h) = by_turn false zero s (Ok (over s)) (read_over s h)
  parts_read (quotes_close {s = s}) = by_turn true zero (34 ∷ s) (Ok (over s)) refl
  parts_read (index_closes {quoted = quoted} {indexes = indexes} {s = s} h) = by_turn quoted (suc indexes) (41 ∷ s) (Ok (next EndElement (indexes, s))) refl ∙ ap (led_by EndElement) (parts_read h)
  parts_read (part_first {quoted = quoted} {indexes = indexes} {deeper = deeper} {s = s} {t = t} {p = p} e o h) = by_turn quoted indexes s (Ok (next p (deeper, t))) (read_one e o) ∙ ap (led_by p) (parts_read h)

  pub parts_fail : {quoted : Bool} {indexes : ℕ} {s : List ℕ} {f : Fault} → PartsFault level.inside Ends Fails quoted indexes s f → (read_parts level quoted (indexes, s)).ended ≡ Err f
  parts_fail (index_open {quoted = quoted} {indexes = indexes}) = ap (λ x. x.ended) (by_turn quoted (suc indexes) [] (Err CloseParenthesis) refl)
  parts_fail quotes_open = ap (λ x. x.ended) (by_turn true zero [] (Err CloseQuote) refl)
  parts_fail (part_fails {quoted = quoted} {indexes = indexes} {s = s} {fault = f} e h) = ap (λ x. x.ended) (by_turn quoted indexes s (Err f) (read_fault quoted indexes e h))
  parts_fail (after_index {quoted = quoted} {indexes = indexes} {s = s} h) = ap (λ x. x.ended) (by_turn quoted (suc indexes) (41 ∷ s) (Ok (next EndElement (indexes, s))) refl) ∙ parts_fail h
  parts_fail (after_part {quoted = quoted} {indexes = indexes} {deeper = deeper} {s = s} {t = t} {p = p} e o h) = ap (λ x. x.ended) (by_turn quoted indexes s (Ok (next p (deeper, t))) (read_one e o)) ∙ parts_fail h

  -- what a turn says, whatever comes after it
  abbrev Turned : Bool → ℕ → List ℕ → PartTurn → Type 0
  Turned quoted indexes s (Ok (over rest)) = Parts level.inside Ends quoted indexes s [] rest
  Turned quoted indexes s (Ok (next p (deeper, t))) =
      ((ps : List Part) (rest : List ℕ) → Parts level.inside Ends quoted deeper t ps rest → Parts level.inside Ends quoted indexes s (p ∷ ps) rest)
      × ((f : Fault) → PartsFault level.inside Ends Fails quoted deeper t f → PartsFault level.inside Ends Fails quoted indexes s f)
  Turned quoted indexes s (Err f) = PartsFault level.inside Ends Fails quoted indexes s f

  turned_by : (quoted : Bool) (indexes : ℕ) (s : List ℕ) (turn : PartTurn) → part_ends level.inside Ends quoted indexes s ≡ false → Said quoted indexes s turn → Turned quoted indexes s turn
  turned_by quoted indexes s (Ok (over rest)) e h = absurd h
  turned_by quoted indexes s (Ok (next p (deeper, t))) e h = (λ ps rest k. part_first e h k, λ f k. after_part e h k)
  turned_by quoted indexes s (Err f) e h = part_fails e h

  ended_or : (b quoted : Bool) (indexes : ℕ) (s : List ℕ) (turn : Turn Part Place) (other : PartTurn) → (b ≡ true → Turned quoted indexes s (Ok turn)) → (b ≡ false → Turned quoted indexes s other) → Turned quoted indexes s (end_or (cond b (Some turn) None) other)
  ended_or true quoted indexes s turn other h k = h refl
  ended_or false quoted indexes s turn other h k = k refl

  index_turned : (quoted : Bool) (indexes b : ℕ) (s : List ℕ) → b ≡ 41 → Turned quoted (suc indexes) (b ∷ s) (Ok (next EndElement (indexes, s)))
  index_turned quoted indexes b s e = (
    λ ps rest h. subst (λ x. Parts level.inside Ends quoted (suc indexes) (x ∷ s) (EndElement ∷ ps) rest) (sym e) (index_closes h),
    λ f h. subst (λ x. PartsFault level.inside Ends Fails quoted (suc indexes) (x ∷ s) f) (sym e) (after_index h),
  )

  read_part-turned : (quoted : Bool) (indexes : ℕ) (s : List ℕ) → Turned quoted indexes s (read_part level quoted (indexes, s))
  read_part-turned quoted (suc indexes) [] = index_open
  read_part-turned quoted (suc indexes) (b ∷ s) =
      ended_or (b == 41) quoted (suc indexes) (b ∷ s) (next EndElement (indexes, s)) _ (λ h. index_turned quoted indexes b s (is_eq b 41 h))
      (λ n. turned_by quoted (suc indexes) (b ∷ s) _ n (said_part quoted (suc indexes) b s (plain_in_index level.inside quoted indexes b n)))
  read_part-turned true zero [] = quotes_open
  read_part-turned true zero (b ∷ s) =
      ended_or (b == 34) true zero (b ∷ s) (over s) _ (λ h. subst (λ x. Parts level.inside Ends true zero (x ∷ s) [] s) (sym (is_eq b 34 h)) quotes_close)
      (λ n. turned_by true zero (b ∷ s) _ n (said_part true zero b s (plain_in_quotes level.inside b n)))
  read_part-turned false zero [] = word_over refl
  read_part-turned false zero (b ∷ s) =
      ended_or (word_ends level.inside (b ∷ s)) false zero (b ∷ s) (over (b ∷ s)) _ (λ h. word_over h)
      (λ n. turned_by false zero (b ∷ s) _ n (said_part false zero b s (plain_in_word level.inside b s n)))

  -- what all turns say
  abbrev pub Known : Bool → ℕ → List ℕ → List Part → Result (List ℕ) Fault → Type 0
  Known quoted indexes s ps (Ok rest) = Parts level.inside Ends quoted indexes s ps rest
  Known quoted indexes s ps (Err f) = PartsFault level.inside Ends Fails quoted indexes s f

  known_later : (quoted : Bool) (indexes deeper : ℕ) (s t : List ℕ) (p : Part) (ps : List Part) (r : Result (List ℕ) Fault) → Turned quoted indexes s (Ok (next p (deeper, t))) → Known quoted deeper t ps r → Known quoted indexes s (p ∷ ps) r
  known_later quoted indexes deeper s t p ps (Ok rest) h k = h.0 ps rest k
  known_later quoted indexes deeper s t p ps (Err f) h k = h.1 f k

  known_by : (quoted : Bool) (indexes : ℕ) (s : List ℕ) (turn : PartTurn) (later : Place → Several Part) → Turned quoted indexes s turn → Turns indexes s turn →
      ((deeper : ℕ) (t : List ℕ) → length t < length s → Known quoted deeper t (later (deeper, t)).items (later (deeper, t)).ended) → Known quoted indexes s (and_then turn later).items (and_then turn later).ended
  known_by quoted indexes s (Ok (over rest)) later h falls more = h
  known_by quoted indexes s (Ok (next p (deeper, t))) later h falls more = known_later quoted indexes deeper s t p _ _ h (more deeper t falls.1)
  known_by quoted indexes s (Err f) later h falls more = h

  known_within : (n : ℕ) (quoted : Bool) (indexes : ℕ) (s : List ℕ) → length s < n → Known quoted indexes s (read_parts level quoted (indexes, s)).items (read_parts level quoted (indexes, s)).ended
  known_within zero quoted indexes s l = absurd (omega arith)
  known_within (suc n) quoted indexes s l =
      subst (λ x. Known quoted indexes s x.items x.ended) (sym (read_parts-is level quoted (indexes, s) agrees.leaves))
      (known_by quoted indexes s (read_part level quoted (indexes, s)) (read_parts level quoted) (read_part-turned quoted indexes s) (read_part-turns level quoted indexes s agrees.leaves) (λ deeper t m. known_within n quoted deeper t (omega arith)))

  pub parts_known : (quoted : Bool) (indexes : ℕ) (s : List ℕ) → Known quoted indexes s (read_parts level quoted (indexes, s)).items (read_parts level quoted (indexes, s)).ended
  parts_known quoted indexes s = known_within (suc (length s)) quoted indexes s (omega arith)
