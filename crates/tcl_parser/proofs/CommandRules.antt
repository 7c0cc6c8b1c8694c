-- Words, commands and scripts: the rules and the function that reads them say the same, where they do so of scripts in brackets.
use Rattle.std.proofs.Common.{◌≡◌, ℕ, zero, suc, ◌<◌, ◌∙◌, Bool, true, false, cond, not, ◌&&◌, ◌==◌, List, [], ◌∷◌, ◌⊎◌, length, drop, Result, Ok, Err, refl, ap, sym, subst, inl, inr, arith}
use Rattle.std.proofs.lemmas.Bool.{false≢true, or_from, or_parts, and_parts, and_left}
use Rattle.std.proofs.lemmas.Bool.Decides.{nat_tests}
use Rattle.tcl_parser.specs.declared.fault.Fault.{Fault}
use Rattle.tcl_parser.specs.declared.fault.Fault.TheVariants.{CloseBrace, CloseBracket, AfterBrace, AfterQuote, TooDeep}
use Rattle.tcl_parser.specs.declared.script.Part.{Part}
use Rattle.tcl_parser.specs.Characters.{is_white, is_separator}
use Rattle.tcl_parser.specs.Texts.{begins_with}
use Rattle.tcl_parser.specs.Words.{WordRead}
use Rattle.tcl_parser.specs.Several.{Turn, over, next, led_by, and_then}
use Rattle.tcl_parser.specs.Reading.{◌>>=◌, Level, read_parts, joined_parts, joined, with_literal, closed, in_braces, after_white, after_gap, word_ends, command_ends, after_command, is_expanded, read_word_parts, marked, read_word, word_next, word_or_end, word_turn, read_words, read_command, command_or_end, read_commands, closing, after_script}
use Rattle.tcl_parser.specs.Grammar.{White, begins_white, Gap, begins_gap, CommandEnd, Braced, WordParts, Mark, Word, Words, ReadsAt, ScriptEnds, WordPartsFault, WordsFault, FaultAt, ScriptFault, EndsWithin, FailsWithin}
use Rattle.tcl_parser.specs.Grammar.White.{no_white, space, white_line}
use Rattle.tcl_parser.specs.Grammar.CommandEnd.{text_ends, separator, bracket_comes}
use Rattle.tcl_parser.specs.Grammar.WordParts.{word_in_quotes, word_in_braces, bare_word}
use Rattle.tcl_parser.specs.Grammar.Mark.{mark_stands, no_mark}
use Rattle.tcl_parser.specs.Grammar.Word.{one_word}
use Rattle.tcl_parser.specs.Grammar.Words.{words_end, word_first}
use Rattle.tcl_parser.specs.Grammar.ReadsAt.{reads}
use Rattle.tcl_parser.specs.Grammar.ScriptEnds.{script_ends, command_first}
use Rattle.tcl_parser.specs.Grammar.WordPartsFault.{quotes_fail, after_quotes, braces_open, after_braces, bare_fails}
use Rattle.tcl_parser.specs.Grammar.WordsFault.{word_fails, after_word}
use Rattle.tcl_parser.specs.Grammar.FaultAt.{fails}
use Rattle.tcl_parser.specs.Grammar.ScriptFault.{bracket_open, command_fails, command_before}
use Rattle.tcl_parser.proofs.GrammarLemmas.{is_eq, whitened, after_white-White, cleared, after_gap-Gap, CommandEnd-holds, CommandEnd-made, in_braces-Braced, Braced-in_braces, braces_fault}
use Rattle.tcl_parser.proofs.SeveralLemmas.{Falls}
use Rattle.tcl_parser.proofs.WordLemmas.{word_turn-falls, read_words-is, command_turn-falls, read_commands-is, after_script-ends}
use Rattle.tcl_parser.proofs.PartRules.{Agrees, Known, parts_read, parts_fail, parts_known}

from_not : (b : Bool) → not b ≡ true → b ≡ false
from_not true h = cc
from_not false h = refl

separator_stops : (b : ℕ) (s : List ℕ) → is_separator b ≡ true → begins_white (b ∷ s) ≡ false
separator_stops b s h =
    let white : is_white b ≡ false = grind (arith, nat_tests) in
    let line : (b == 92) ≡ false = grind (arith, nat_tests) in
    or_from _ _ white (and_left _ _ line)

-- where a command ends no white space comes
CommandEnd-stops : {inside : Bool} {s rest : List ℕ} → CommandEnd inside s rest → begins_white s ≡ false
CommandEnd-stops text_ends = refl
CommandEnd-stops (separator {b = b} {s = s} h) = separator_stops b s h
CommandEnd-stops (bracket_comes h) = refl

-- what `{*}` marks
record Marks (inside : Bool) (s : List ℕ) : Type 0 where
  is : s ≡ 123 ∷ 42 ∷ 125 ∷ drop 3 s
  goes : word_ends inside (drop 3 s) ≡ false

marks : (inside : Bool) (s : List ℕ) → is_expanded inside s ≡ true → Marks inside s
marks inside [] h = cc
marks inside (a ∷ []) h = cc
marks inside (a ∷ b ∷ []) h = cc
marks inside (a ∷ b ∷ c ∷ s) h =
    let all = and_parts ((a == 123) && (b == 42) && (c == 125)) (not (word_ends inside s)) h in
    let three = and_parts ((a == 123) && (b == 42)) (c == 125) all.0 in
    let two = and_parts (a == 123) (b == 42) three.0 in
    record { is = λ i. is_eq a 123 two.0 i ∷ is_eq b 42 two.1 i ∷ is_eq c 125 three.1 i ∷ s; goes = from_not (word_ends inside s) all.1 }

no_both : (t x rest : List ℕ) (f : Fault) → ◌≡◌ {A = Result (List ℕ × List ℕ) Fault} (Ok (x, rest)) (Err f) → ⊥
no_both t x rest f e = cc

module _ (level : Level) (Ends : List ℕ → List ℕ → Type 0) (Fails : List ℕ → Fault → Type 0) (agrees : Agrees level.nested Ends Fails) where
  -- ## Words, behind their marks

  bare_is : (s : List ℕ) → begins_with 34 s ≡ false → begins_with 123 s ≡ false → read_word_parts level s ≡ joined_parts (read_parts level false (zero, s))
  bare_is s q b = rw (q, b) refl

  unclosed : (s : List ℕ) (r : Result (List ℕ × List ℕ) Fault) → in_braces false zero s ≡ r → ((x rest : List ℕ) → Braced zero s x rest → ⊥) → r ≡ Err CloseBrace
  unclosed s (Ok (x, rest)) e h = absurd (h x rest (Braced-in_braces zero s x rest e))
  unclosed s (Err f) e h = ap Err (braces_fault zero s f e)

  pub word_parts_read : {s rest : List ℕ} {ps : List Part} → WordParts level.inside Ends s ps rest → read_word_parts level s ≡ Ok (ps, rest)
  word_parts_read (word_in_quotes {s = s} {rest = rest} {ps = ps} h e) =
      ap (λ r. joined_parts r >>= closed level.inside AfterQuote) (parts_read level Ends Fails agrees h) ∙ ap (λ b. cond b (Ok (joined ps, rest)) (Err AfterQuote)) e
  word_parts_read (word_in_braces {s = s} {x = x} {rest = rest} h e) =
      ap (λ r. r >>= λ read. closed level.inside AfterBrace (with_literal read.0 [], read.1)) (in_braces-Braced h) ∙ ap (λ b. cond b (Ok (with_literal x [], rest)) (Err AfterBrace)) e
  word_parts_read (bare_word {s = s} {rest = rest} {ps = ps} q b h) = bare_is s q b ∙ ap joined_parts (parts_read level Ends Fails agrees h)

  pub word_parts_fail : {s : List ℕ} {f : Fault} → WordPartsFault level.inside Ends Fails s f → read_word_parts level s ≡ Err f
  word_parts_fail (quotes_fail {s = s} h) = ap (λ r. (r >>= λ rest. Ok (joined (read_parts level true (zero, s)).items, rest)) >>= closed level.inside AfterQuote) (parts_fail level Ends Fails agrees h)
  word_parts_fail (after_quotes {s = s} {rest = rest} {ps = ps} h e) =
      ap (λ r. joined_parts r >>= closed level.inside AfterQuote) (parts_read level Ends Fails agrees h) ∙ ap (λ b. cond b (Ok (joined ps, rest)) (Err AfterQuote)) e
  word_parts_fail (braces_open {s = s} h) = ap (λ r. r >>= λ read. closed level.inside AfterBrace (with_literal read.0 [], read.1)) (unclosed s (in_braces false zero s) refl h)
  word_parts_fail (after_braces {s = s} {x = x} {rest = rest} h e) =
      ap (λ r. r >>= λ read. closed level.inside AfterBrace (with_literal read.0 [], read.1)) (in_braces-Braced h) ∙ ap (λ b. cond b (Ok (with_literal x [], rest)) (Err AfterBrace)) e
  word_parts_fail (bare_fails {s = s} q b h) = bare_is s q b ∙ ap (λ r. r >>= λ rest. Ok (joined (read_parts level false (zero, s)).items, rest)) (parts_fail level Ends Fails agrees h)

  abbrev PartsSaid : List ℕ → Result (List Part × List ℕ) Fault → Type 0
  PartsSaid s (Ok (ps, rest)) = WordParts level.inside Ends s ps rest
  PartsSaid s (Err f) = WordPartsFault level.inside Ends Fails s f

  closed_or : (b : Bool) (s rest : List ℕ) (ps : List Part) (f : Fault) → (b ≡ true → WordParts level.inside Ends s ps rest) → (b ≡ false → WordPartsFault level.inside Ends Fails s f) → PartsSaid s (cond b (Ok (ps, rest)) (Err f))
  closed_or true s rest ps f h k = h refl
  closed_or false s rest ps f h k = k refl

  quotes_said : (t : List ℕ) (items : List Part) (ended : Result (List ℕ) Fault) → Known level Ends Fails agrees true zero t items ended → PartsSaid (34 ∷ t) ((ended >>= λ rest. Ok (joined items, rest)) >>= closed level.inside AfterQuote)
  quotes_said t items (Ok rest) h = closed_or (word_ends level.inside rest) (34 ∷ t) rest (joined items) AfterQuote (λ e. word_in_quotes h e) (λ e. after_quotes h e)
  quotes_said t items (Err f) h = quotes_fail h

  braces_said : (t : List ℕ) (r : Result (List ℕ × List ℕ) Fault) → in_braces false zero t ≡ r → PartsSaid (123 ∷ t) (r >>= λ read. closed level.inside AfterBrace (with_literal read.0 [], read.1))
  braces_said t (Ok (x, rest)) e =
      let h = Braced-in_braces zero t x rest e in
      closed_or (word_ends level.inside rest) (123 ∷ t) rest (with_literal x []) AfterBrace (λ k. word_in_braces h k) (λ k. after_braces h k)
  braces_said t (Err f) e =
      subst (WordPartsFault level.inside Ends Fails (123 ∷ t)) (sym (braces_fault zero t f e)) (braces_open (λ x rest h. no_both t x rest f (sym (in_braces-Braced h) ∙ e)))

  bare_said : (s : List ℕ) (items : List Part) (ended : Result (List ℕ) Fault) → begins_with 34 s ≡ false → begins_with 123 s ≡ false → Known level Ends Fails agrees false zero s items ended → PartsSaid s (ended >>= λ rest. Ok (joined items, rest))
  bare_said s items (Ok rest) q b h = bare_word q b h
  bare_said s items (Err f) q b h = bare_fails q b h

  PartsSaid-cond : (b : Bool) (s : List ℕ) (x y : Result (List Part × List ℕ) Fault) → (b ≡ true → PartsSaid s x) → (b ≡ false → PartsSaid s y) → PartsSaid s (cond b x y)
  PartsSaid-cond true s x y h k = h refl
  PartsSaid-cond false s x y h k = k refl

  pub word_parts_said : (s : List ℕ) → PartsSaid s (read_word_parts level s)
  word_parts_said [] = bare_said [] _ _ refl refl (parts_known level Ends Fails agrees false zero [])
  word_parts_said (b ∷ t) =
      PartsSaid-cond (b == 34) (b ∷ t) (joined_parts (read_parts level true (zero, t)) >>= closed level.inside AfterQuote) _
      (λ q. subst (λ x. PartsSaid (x ∷ t) (joined_parts (read_parts level true (zero, t)) >>= closed level.inside AfterQuote)) (sym (is_eq b 34 q)) (quotes_said t _ _ (parts_known level Ends Fails agrees true zero t)))
      (λ q. PartsSaid-cond (b == 123) (b ∷ t) (in_braces false zero t >>= λ read. closed level.inside AfterBrace (with_literal read.0 [], read.1)) (joined_parts (read_parts level false (zero, b ∷ t)))
      (λ k. subst (λ x. PartsSaid (x ∷ t) (in_braces false zero t >>= λ read. closed level.inside AfterBrace (with_literal read.0 [], read.1))) (sym (is_eq b 123 k)) (braces_said t (in_braces false zero t) refl))
      (λ k. bare_said (b ∷ t) _ _ q k (parts_known level Ends Fails agrees false zero (b ∷ t))))

  -- ## Words

  by_mark : (s : List ℕ) (expand : Bool) → is_expanded level.inside s ≡ expand → read_word level s ≡ (read_word_parts level (cond expand (drop 3 s) s) >>= marked expand)
  by_mark s expand e = ap (λ b. read_word_parts level (cond b (drop 3 s) s) >>= marked b) e

  marked_word : {s t : List ℕ} {expand : Bool} → Mark level.inside Ends s expand t → read_word level s ≡ (read_word_parts level t >>= marked expand)
  marked_word (mark_stands {s = t} e) = by_mark (123 ∷ 42 ∷ 125 ∷ t) true (ap not e)
  marked_word (no_mark {s = s} e) = by_mark s false e

  pub word_read : {s rest : List ℕ} {w : WordRead} → Word level.inside Ends s w rest → read_word level s ≡ Ok (w, rest)
  word_read (one_word {expand = expand} m h) = marked_word m ∙ ap (λ r. r >>= marked expand) (word_parts_read h)

  -- how a word fails
  pub record WordFails (s : List ℕ) (f : Fault) : Type 0 where
    pub expand : Bool
    pub behind : List ℕ
    pub mark : Mark level.inside Ends s expand behind
    pub fault : WordPartsFault level.inside Ends Fails behind f

  abbrev pub WordSaid : List ℕ → Result (WordRead × List ℕ) Fault → Type 0
  WordSaid s (Ok (w, rest)) = Word level.inside Ends s w rest
  WordSaid s (Err f) = WordFails s f

  said_marked : (s t : List ℕ) (expand : Bool) (r : Result (List Part × List ℕ) Fault) → Mark level.inside Ends s expand t → PartsSaid t r → WordSaid s (r >>= marked expand)
  said_marked s t expand (Ok (ps, rest)) m h = one_word m h
  said_marked s t expand (Err f) m h = record { expand = expand; behind = t; mark = m; fault = h }

  by_expand : (s : List ℕ) (expand : Bool) → is_expanded level.inside s ≡ expand → WordSaid s (read_word_parts level (cond expand (drop 3 s) s) >>= marked expand)
  by_expand s true e =
      let m = marks level.inside s e in
      said_marked s (drop 3 s) true (read_word_parts level (drop 3 s)) (subst (λ x. Mark level.inside Ends x true (drop 3 s)) (sym m.is) (mark_stands m.goes)) (word_parts_said (drop 3 s))
  by_expand s false e = said_marked s s false (read_word_parts level s) (no_mark e) (word_parts_said s)

  pub word_said : (s : List ℕ) → WordSaid s (read_word level s)
  word_said s = by_expand s (is_expanded level.inside s) refl

  -- ## The words of a command

  turn_over : {s t rest : List ℕ} → White s t → CommandEnd level.inside t rest → word_turn level s ≡ Ok (over rest)
  turn_over {t = t} {rest = rest} w c =
      let e = CommandEnd-holds c in
      ap (word_or_end level) (after_white-White w (CommandEnd-stops c))
      ∙ ap (λ b. cond b (Ok (over (after_command t))) (read_word level t >>= word_next)) e.0 ∙ ap (λ x. Ok (over x)) e.1

  turn_word : {s t : List ℕ} → White s t → begins_white t ≡ false → command_ends level.inside t ≡ false → word_turn level s ≡ (read_word level t >>= word_next)
  turn_word {t = t} w n c =
      ap (word_or_end level) (after_white-White w n) ∙ ap (λ b. cond b (Ok (over (after_command t))) (read_word level t >>= word_next)) c

  by_word : (s : List ℕ) (turn : Result (Turn WordRead (List ℕ)) Fault) → word_turn level s ≡ turn → read_words level s ≡ and_then turn (read_words level)
  by_word s turn e = read_words-is level s agrees.leaves ∙ ap (λ t. and_then t (read_words level)) e

  pub words_read : {s rest : List ℕ} {ws : List WordRead} → Words level.inside Ends s ws rest → read_words level s ≡ record { items = ws; ended = Ok rest }
  words_read (words_end {s = s} {rest = rest} w c) = by_word s (Ok (over rest)) (turn_over w c)
  words_read (word_first {s = s} {u = u} {w = w} white n c h more) =
      by_word s (Ok (next w u)) (turn_word white n c ∙ ap (λ r. r >>= word_next) (word_read h)) ∙ ap (led_by w) (words_read more)

  pub words_fail : {s : List ℕ} {f : Fault} → WordsFault level.inside Ends Fails s f → (read_words level s).ended ≡ Err f
  words_fail (word_fails {s = s} {expand = expand} {fault = f} white n c m h) =
      ap (λ x. x.ended) (by_word s (Err f) (turn_word white n c ∙ ap (λ r. r >>= word_next) (marked_word m ∙ ap (λ r. r >>= marked expand) (word_parts_fail h))))
  words_fail (after_word {s = s} {u = u} {w = w} white n c h more) =
      ap (λ x. x.ended) (by_word s (Ok (next w u)) (turn_word white n c ∙ ap (λ r. r >>= word_next) (word_read h))) ∙ words_fail more

  abbrev pub WordsSaid : List ℕ → List WordRead → Result (List ℕ) Fault → Type 0
  WordsSaid s ws (Ok rest) = Words level.inside Ends s ws rest
  WordsSaid s ws (Err f) = WordsFault level.inside Ends Fails s f

  after_first : (s t u : List ℕ) (w : WordRead) (ws : List WordRead) (r : Result (List ℕ) Fault) → White s t → begins_white t ≡ false → command_ends level.inside t ≡ false → Word level.inside Ends t w u → WordsSaid u ws r → WordsSaid s (w ∷ ws) r
  after_first s t u w ws (Ok rest) white n c h more = word_first white n c h more
  after_first s t u w ws (Err f) white n c h more = after_word white n c h more

  -- a word, and what is said of those after it
  first_said : (s t : List ℕ) (r : Result (WordRead × List ℕ) Fault) → White s t → begins_white t ≡ false → command_ends level.inside t ≡ false → WordSaid t r → Falls (λ (x : List ℕ). x) s (r >>= word_next) →
      ((u : List ℕ) → length u < length s → WordsSaid u (read_words level u).items (read_words level u).ended) → WordsSaid s (and_then (r >>= word_next) (read_words level)).items (and_then (r >>= word_next) (read_words level)).ended
  first_said s t (Ok (w, u)) white n c h falls more = after_first s t u w _ _ white n c h (more u falls.1)
  first_said s t (Err f) white n c h falls more = word_fails white n c h.mark h.fault

  turn_said : (s t : List ℕ) (b : Bool) → command_ends level.inside t ≡ b → White s t → begins_white t ≡ false → Falls (λ (x : List ℕ). x) s (cond b (Ok (over (after_command t))) (read_word level t >>= word_next)) →
      ((u : List ℕ) → length u < length s → WordsSaid u (read_words level u).items (read_words level u).ended) →
      WordsSaid s (and_then (cond b (Ok (over (after_command t))) (read_word level t >>= word_next)) (read_words level)).items (and_then (cond b (Ok (over (after_command t))) (read_word level t >>= word_next)) (read_words level)).ended
  turn_said s t true e white n falls more = words_end white (CommandEnd-made level.inside t e)
  turn_said s t false e white n falls more = first_said s t (read_word level t) white n e (word_said t) falls more

  words_within : (n : ℕ) (s : List ℕ) → length s < n → WordsSaid s (read_words level s).items (read_words level s).ended
  words_within zero s l = absurd (omega arith)
  words_within (suc n) s l =
      let w = whitened s in
      subst (λ x. WordsSaid s x.items x.ended) (sym (read_words-is level s agrees.leaves))
      (turn_said s (after_white s) (command_ends level.inside (after_white s)) refl w.white w.stops (word_turn-falls level agrees.leaves s) (λ u m. words_within n u (omega arith)))

  pub words_said : (s : List ℕ) → WordsSaid s (read_words level s).items (read_words level s).ended
  words_said s = words_within (suc (length s)) s (omega arith)

  -- ## Commands

  by_gap : {s t : List ℕ} → Gap s t → begins_gap t ≡ false → read_command level s ≡ ((read_words level t).ended >>= λ rest. Ok ((read_words level t).items, rest))
  by_gap g n = ap (λ t. (read_words level t).ended >>= λ rest. Ok ((read_words level t).items, rest)) (after_gap-Gap g n)

  pub command_read : {s rest : List ℕ} {ws : List WordRead} → ReadsAt level.inside Ends s ws rest → read_command level s ≡ Ok (ws, rest)
  command_read (reads g n h) = by_gap g n ∙ ap (λ x. x.ended >>= λ rest. Ok (x.items, rest)) (words_read h)

  pub command_fail : {s : List ℕ} {f : Fault} → FaultAt level.inside Ends Fails s f → read_command level s ≡ Err f
  command_fail (fails {t = t} g n h) = by_gap g n ∙ ap (λ x. x >>= λ rest. Ok ((read_words level t).items, rest)) (words_fail h)

  abbrev pub CommandSaid : List ℕ → Result (List WordRead × List ℕ) Fault → Type 0
  CommandSaid s (Ok (ws, rest)) = ReadsAt level.inside Ends s ws rest
  CommandSaid s (Err f) = FaultAt level.inside Ends Fails s f

  command_by : (s t : List ℕ) (ws : List WordRead) (r : Result (List ℕ) Fault) → Gap s t → begins_gap t ≡ false → WordsSaid t ws r → CommandSaid s (r >>= λ rest. Ok (ws, rest))
  command_by s t ws (Ok rest) g n h = reads g n h
  command_by s t ws (Err f) g n h = fails g n h

  pub command_said : (s : List ℕ) → CommandSaid s (read_command level s)
  command_said s =
      let c = cleared s in
      command_by s (after_gap false s) (read_words level (after_gap false s)).items (read_words level (after_gap false s)).ended c.gap c.stops (words_said (after_gap false s))

  -- ## Scripts

  pub by_command : (s : List ℕ) (r : Result (List WordRead × List ℕ) Fault) → read_command level s ≡ r → read_commands level s ≡ and_then (r >>= command_or_end) (read_commands level)
  by_command s r e = read_commands-is level s agrees.leaves ∙ ap (λ t. and_then (t >>= command_or_end) (read_commands level)) e

  pub script_read : {s rest : List ℕ} → ScriptEnds level.inside Ends s rest → (read_commands level s).ended ≡ Ok rest
  script_read (script_ends {s = s} {rest = rest} h) = ap (λ x. x.ended) (by_command s (Ok ([], rest)) (command_read h))
  script_read (command_first {s = s} {t = t} {w = w} {ws = ws} h more) = ap (λ x. x.ended) (by_command s (Ok (w ∷ ws, t)) (command_read h)) ∙ script_read more

  pub script_fail : {s : List ℕ} {f : Fault} → ScriptFault level.inside Ends Fails s f → ((read_commands level s).ended >>= closing) ≡ Err f
  script_fail (bracket_open h) = ap (λ r. r >>= closing) (script_read h)
  script_fail (command_fails {s = s} {fault = f} h) = ap (λ x. x.ended >>= closing) (by_command s (Err f) (command_fail h))
  script_fail (command_before {s = s} {t = t} {w = w} {ws = ws} h more) = ap (λ x. x.ended >>= closing) (by_command s (Ok (w ∷ ws, t)) (command_read h)) ∙ script_fail more

  abbrev pub ScriptSaid : List ℕ → Result (List ℕ) Fault → Type 0
  ScriptSaid s (Ok rest) = ScriptEnds level.inside Ends s rest
  ScriptSaid s (Err f) = ScriptFault level.inside Ends Fails s f

  after_command_said : (s t : List ℕ) (w : WordRead) (ws : List WordRead) (r : Result (List ℕ) Fault) → ReadsAt level.inside Ends s (w ∷ ws) t → ScriptSaid t r → ScriptSaid s r
  after_command_said s t w ws (Ok rest) h more = command_first h more
  after_command_said s t w ws (Err f) h more = command_before h more

  script_by : (s : List ℕ) (r : Result (List WordRead × List ℕ) Fault) → CommandSaid s r → Falls (λ (x : List ℕ). x) s (r >>= command_or_end) →
      ((t : List ℕ) → length t < length s → ScriptSaid t (read_commands level t).ended) → ScriptSaid s (and_then (r >>= command_or_end) (read_commands level)).ended
  script_by s (Ok ([], rest)) h falls more = script_ends h
  script_by s (Ok (w ∷ ws, t)) h falls more = after_command_said s t w ws _ h (more t falls.1)
  script_by s (Err f) h falls more = command_fails h

  script_within : (n : ℕ) (s : List ℕ) → length s < n → ScriptSaid s (read_commands level s).ended
  script_within zero s l = absurd (omega arith)
  script_within (suc n) s l =
      subst (λ x. ScriptSaid s x.ended) (sym (read_commands-is level s agrees.leaves))
      (script_by s (read_command level s) (command_said s) (command_turn-falls level agrees.leaves s) (λ t m. script_within n t (omega arith)))

  pub script_said : (s : List ℕ) → ScriptSaid s (read_commands level s).ended
  script_said s = script_within (suc (length s)) s (omega arith)

  -- where a script ends without a close bracket, the text ends
  gap_clash : (b : ℕ) (s : List ℕ) → begins_gap (b ∷ s) ≡ false → (is_white b ≡ true) ⊎ (is_separator b ≡ true) → ⊥
  gap_clash b s n (inl h) = absurd (false≢true (sym (or_parts _ _ (or_parts _ _ (or_parts _ _ n).0).0).0 ∙ h))
  gap_clash b s n (inr h) = absurd (false≢true (sym (or_parts (is_white b) (is_separator b) (or_parts _ _ (or_parts _ _ n).0).0).1 ∙ h))

  end_here : {s rest : List ℕ} → CommandEnd level.inside s rest → begins_gap s ≡ false → begins_with 93 rest ≡ false → rest ≡ []
  end_here text_ends n k = refl
  end_here (separator {b = b} {s = s} h) n k = absurd (gap_clash b s n (inr h))
  end_here (bracket_comes h) n k = absurd (false≢true (sym k))

  end_behind : {s t rest : List ℕ} → White s t → CommandEnd level.inside t rest → begins_gap s ≡ false → begins_with 93 rest ≡ false → rest ≡ []
  end_behind no_white c n k = end_here c n k
  end_behind (space {b = b} {s = s} h w) c n k = absurd (gap_clash b s n (inl h))
  end_behind (white_line w) c n k = absurd (false≢true (sym n))

  no_words : {s rest : List ℕ} {ws : List WordRead} → Words level.inside Ends s ws rest → ws ≡ [] → begins_gap s ≡ false → begins_with 93 rest ≡ false → rest ≡ []
  no_words (words_end w c) e n k = end_behind w c n k
  no_words (word_first {w = w} {ws = ws} white m c h more) e n k = cc

  command_ends_at : {s rest : List ℕ} {ws : List WordRead} → ReadsAt level.inside Ends s ws rest → ws ≡ [] → begins_with 93 rest ≡ false → rest ≡ []
  command_ends_at (reads g n h) e k = no_words h e n k

  pub script_ends_at : {s rest : List ℕ} → ScriptEnds level.inside Ends s rest → begins_with 93 rest ≡ false → rest ≡ []
  script_ends_at (script_ends h) k = command_ends_at h refl k
  script_ends_at (command_first h more) k = script_ends_at more k

-- ## Brackets in brackets

-- what begins with a close bracket
record Bracketed (t : List ℕ) : Type 0 where
  behind : List ℕ
  is : t ≡ 93 ∷ behind

bracketed : (t : List ℕ) → begins_with 93 t ≡ true → Bracketed t
bracketed [] h = cc
bracketed (b ∷ s) h = record { behind = s; is = ap (λ x. x ∷ s) (is_eq b 93 h) }

outer_is : (room : ℕ) (s : List ℕ) → after_script (suc room) s ≡ ((read_commands (record { nested = after_script room; inside = true }) s).ended >>= closing)
unfolding after_script
outer_is room s = refl

none_is : (s : List ℕ) → after_script zero s ≡ Err TooDeep
unfolding after_script
none_is s = refl

err_same : (e f : Fault) → ◌≡◌ {A = Result (List ℕ) Fault} (Err e) (Err f) → e ≡ f
err_same e f h = cc

ok_clash : (t : List ℕ) (f : Fault) → ◌≡◌ {A = Result (List ℕ) Fault} (Err f) (Ok t) → ⊥
ok_clash t f h = cc

ok_same : (t u : List ℕ) → ◌≡◌ {A = Result (List ℕ) Fault} (Ok t) (Ok u) → t ≡ u
ok_same t u h = cc

deepest : Agrees (after_script zero) (EndsWithin zero) (FailsWithin zero)
deepest = record {
  ends = λ s rest h. absurd h;
  fails = λ s f h. none_is s ∙ ap Err (sym h);
  ended = λ s t h. absurd (ok_clash t TooDeep (sym (none_is s) ∙ h));
  failed = λ s f h. sym (err_same TooDeep f (sym (none_is s) ∙ h));
  leaves = after_script-ends zero;
}

at_end : (b : Bool) (x t : List ℕ) → cond b (Ok x) (Err CloseBracket) ≡ Ok t → (b ≡ true) × (x ≡ t)
at_end true x t e = (refl, ok_same x t e)
at_end false x t e = absurd (ok_clash t CloseBracket e)

not_at_end : (b : Bool) (x : List ℕ) (f : Fault) → cond b (Ok x) (Err CloseBracket) ≡ Err f → (b ≡ false) × (CloseBracket ≡ f)
not_at_end true x f e = absurd (ok_clash x f (sym e))
not_at_end false x f e = (refl, err_same CloseBracket f e)

module _ (room : ℕ) (agrees : Agrees (after_script room) (EndsWithin room) (FailsWithin room)) where
  abbrev outer : Level
  outer = record { nested = after_script room; inside = true }

  closed_end : (s t : List ℕ) (r : Result (List ℕ) Fault) → ScriptSaid outer (EndsWithin room) (FailsWithin room) agrees s r → (r >>= closing) ≡ Ok t → (rest : List ℕ) × (t ≡ 93 ∷ rest) × EndsWithin (suc room) s rest
  closed_end s t (Ok x) said e =
      let h = at_end (begins_with 93 x) x t e in
      let b = bracketed x h.0 in
      (b.behind, sym h.1 ∙ b.is, subst (λ y. ScriptEnds true (EndsWithin room) s y) b.is said)
  closed_end s t (Err f) said e = absurd (ok_clash t f e)

  closed_fault : (s : List ℕ) (f : Fault) (r : Result (List ℕ) Fault) → ScriptSaid outer (EndsWithin room) (FailsWithin room) agrees s r → (r >>= closing) ≡ Err f → FailsWithin (suc room) s f
  closed_fault s f (Ok x) said e =
      let h = not_at_end (begins_with 93 x) x f e in
      let none = script_ends_at outer (EndsWithin room) (FailsWithin room) agrees said h.0 in
      subst (λ g. ScriptFault true (EndsWithin room) (FailsWithin room) s g) h.1 (bracket_open (subst (λ y. ScriptEnds true (EndsWithin room) s y) none said))
  closed_fault s f (Err g) said e = subst (λ h. ScriptFault true (EndsWithin room) (FailsWithin room) s h) (err_same g f e) said

  one_more : Agrees (after_script (suc room)) (EndsWithin (suc room)) (FailsWithin (suc room))
  one_more = record {
    ends = λ s rest h. outer_is room s ∙ ap (λ r. r >>= closing) (script_read outer (EndsWithin room) (FailsWithin room) agrees h);
    fails = λ s f h. outer_is room s ∙ script_fail outer (EndsWithin room) (FailsWithin room) agrees h;
    ended = λ s t h. closed_end s t (read_commands outer s).ended (script_said outer (EndsWithin room) (FailsWithin room) agrees s) (sym (outer_is room s) ∙ h);
    failed = λ s f h. closed_fault s f (read_commands outer s).ended (script_said outer (EndsWithin room) (FailsWithin room) agrees s) (sym (outer_is room s) ∙ h);
    leaves = after_script-ends (suc room);
  }

-- the rules and the function say the same of scripts in brackets
pub agrees_within : (room : ℕ) → Agrees (after_script room) (EndsWithin room) (FailsWithin room)
agrees_within zero = deepest
agrees_within (suc room) = one_more room (agrees_within room)
