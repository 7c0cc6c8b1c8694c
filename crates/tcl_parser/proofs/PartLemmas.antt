-- The parts of words leave ends of the text.
use Rattle.std.proofs.Common.{◌≡◌, ℕ, zero, suc, ◌+◌, ◌<◌, ◌≤◌, ◌∙◌, Bool, true, false, cond, ◌==◌, List, [], ◌∷◌, length, drop, Some, None, Result, Ok, Err, refl, ap, sym, subst, arith}
use Rattle.std.proofs.lemmas.Bool.{or_from, or_parts}
use Rattle.tcl_text.specs.Backslash.{escape, escape_rest}
use Rattle.tcl_parser.specs.declared.fault.Fault.{Fault}
use Rattle.tcl_parser.specs.declared.script.Part.{Part}
use Rattle.tcl_parser.specs.declared.script.Part.TheVariants.{Literal, Variable, Element, EndElement}
use Rattle.tcl_parser.specs.declared.scan.Run.{Run}
use Rattle.tcl_parser.specs.declared.scan.Run.TheVariants.{VariableName}
use Rattle.tcl_parser.specs.Characters.{is_substitution}
use Rattle.tcl_parser.specs.Texts.{EndsWith}
use Rattle.tcl_parser.specs.Runs.{ends_run, after_run, run_len}
use Rattle.tcl_parser.specs.Several.{Turn, over, next, and_then}
use Rattle.tcl_parser.specs.Reading.{Level, Place, PartTurn, part_turn, braced_variable, named_variable, after_dollar, script_turn, plain_turn, substituted, end_or, read_part, read_parts, run_at, after_name, before, word_ends}
use Rattle.tcl_parser.proofs.EndLemmas.{EndsWith-itself, EndsWith-more, EndsWith-drop, EndsWith-trans, EndsWith-length}
use Rattle.tcl_parser.proofs.NameLemmas.{EndsWith-after_name}
use Rattle.tcl_parser.proofs.RunLemmas.{after_run_goes_on}
use Rattle.tcl_parser.proofs.SeveralLemmas.{Falls, AllFall, several-is, several-ends, several-shorter}

-- what follows a bracketed script is an end of the text
abbrev pub LeavesEnds : (List ℕ → Result (List ℕ) Fault) → Type 0
LeavesEnds nested = (s rest : List ℕ) → nested s ≡ Ok rest → EndsWith s rest

-- A turn reads a part: it leaves less, and no more indexes are open than there was text for.
abbrev pub Reads : ℕ → List ℕ → PartTurn → Type 0
Reads indexes s (Ok (over rest)) = ⊥
Reads indexes s (Ok (next p (deeper, rest))) = EndsWith s rest × (length rest < length s) × (deeper + length rest ≤ indexes + length s)
Reads indexes s (Err f) = Unit {0}

Reads-cond : (b : Bool) (indexes : ℕ) (s : List ℕ) (x y : PartTurn) → (b ≡ true → Reads indexes s x) → (b ≡ false → Reads indexes s y) → Reads indexes s (cond b x y)
Reads-cond true indexes s x y h k = h refl
Reads-cond false indexes s x y h k = k refl

-- a part of the text behind a character
behind : (indexes b : ℕ) (s rest : List ℕ) → EndsWith s rest → EndsWith (b ∷ s) rest × (length rest < length (b ∷ s)) × (indexes + length rest ≤ indexes + length (b ∷ s))
behind indexes b s rest h = let l = EndsWith-length s rest h in (EndsWith-more b s rest h, omega arith, omega arith)

braced_reads : (indexes b c : ℕ) (s rest : List ℕ) → EndsWith s rest → Reads indexes (b ∷ c ∷ s) (braced_variable indexes s rest)
braced_reads indexes b c s [] h = tt
braced_reads indexes b c s (d ∷ rest) h =
    let l = EndsWith-length s (d ∷ rest) h in
    behind indexes b (c ∷ s) rest (EndsWith-more c s rest (EndsWith-trans s (d ∷ rest) rest h (EndsWith-more d rest rest (EndsWith-itself rest))))

named_reads : (indexes b : ℕ) (s rest : List ℕ) → EndsWith s rest → Reads indexes (b ∷ s) (named_variable indexes s rest)
named_reads indexes b s [] h = behind indexes b s [] h
named_reads indexes b s (d ∷ rest) h =
    let l = EndsWith-length s (d ∷ rest) h in
    let deeper = EndsWith-trans s (d ∷ rest) rest h (EndsWith-more d rest rest (EndsWith-itself rest)) in
    let element : EndsWith (b ∷ s) rest × (length rest < length (b ∷ s)) × (suc indexes + length rest ≤ indexes + length (b ∷ s)) = (EndsWith-more b s rest deeper, omega arith, omega arith) in
    Reads-cond (d == 40) indexes (b ∷ s) (part_turn (Element (before s (d ∷ rest))) (suc indexes) rest) _
    (λ _. element)
    (λ _. Reads-cond (length s == length (d ∷ rest)) indexes (b ∷ s) (part_turn (Literal (36 ∷ [])) indexes s) (part_turn (Variable (before s (d ∷ rest))) indexes (d ∷ rest)) (λ _. behind indexes b s s (EndsWith-itself s)) (λ _. behind indexes b s (d ∷ rest) h))

dollar_reads : (indexes b : ℕ) (s : List ℕ) → Reads indexes (b ∷ s) (after_dollar indexes s)
dollar_reads indexes b [] = behind indexes b [] [] (EndsWith-itself [])
dollar_reads indexes b (c ∷ s) =
    Reads-cond _ indexes (b ∷ c ∷ s) _ _
    (λ _. braced_reads indexes b c s (after_run VariableName s) (EndsWith-drop (run_len VariableName s) s))
    (λ _. named_reads indexes b (c ∷ s) (after_name false (c ∷ s)) (EndsWith-after_name false (c ∷ s)))

script_reads : (indexes b : ℕ) (s : List ℕ) (r : Result (List ℕ) Fault) → ((rest : List ℕ) → r ≡ Ok rest → EndsWith s rest) → Reads indexes (b ∷ s) (script_turn indexes s r)
script_reads indexes b s (Ok rest) h = behind indexes b s (drop 1 rest) (EndsWith-trans s rest (drop 1 rest) (h rest refl) (EndsWith-drop 1 rest))
script_reads indexes b s (Err f) h = tt

plain_reads : (run : Run) (indexes b : ℕ) (s : List ℕ) → ends_run run b ≡ false → Reads indexes (b ∷ s) (plain_turn run indexes (b ∷ s))
plain_reads run indexes b s h =
    let e = after_run_goes_on run b s h in
    let tail = subst (λ r. EndsWith s r) (sym e) (EndsWith-drop (run_len run s) s) in
    behind indexes b s (after_run run (b ∷ s)) tail

-- a character that begins no substitution and doesn't end what it stands in
abbrev pub IsPlainAt : Bool → Bool → ℕ → ℕ → Type 0
IsPlainAt inside quoted indexes b = is_substitution b ≡ false → ends_run (run_at inside quoted indexes) b ≡ false

pub substituted-reads : (level : Level) (quoted : Bool) (indexes b : ℕ) (s : List ℕ) → LeavesEnds level.nested → IsPlainAt level.inside quoted indexes b → Reads indexes (b ∷ s) (substituted level quoted indexes (b ∷ s))
substituted-reads level quoted indexes b s ends plain =
    Reads-cond (b == 36) indexes (b ∷ s) _ _ (λ _. dollar_reads indexes b s)
    (λ d. Reads-cond (b == 91) indexes (b ∷ s) _ _ (λ _. script_reads indexes b s (level.nested s) (ends s))
    (λ o. Reads-cond (b == 92) indexes (b ∷ s) _ _ (λ _. behind indexes b s (escape_rest s) (EndsWith-drop (escape s).taken s))
    (λ l. plain_reads (run_at level.inside quoted indexes) indexes b s (plain (or_from _ _ (or_from _ _ d o) l)))))

-- ## Where nothing else ends what a character stands in

pub plain_in_index : (inside quoted : Bool) (indexes b : ℕ) → (b == 41) ≡ false → IsPlainAt inside quoted (suc indexes) b
plain_in_index inside quoted indexes b h n = or_from _ _ n h

pub plain_in_quotes : (inside : Bool) (b : ℕ) → (b == 34) ≡ false → IsPlainAt inside true zero b
plain_in_quotes inside b h n = or_from _ _ n h

pub plain_in_word : (inside : Bool) (b : ℕ) (s : List ℕ) → word_ends inside (b ∷ s) ≡ false → IsPlainAt inside false zero b
plain_in_word inside b [] h n = let e = or_parts _ _ h in or_from _ _ (or_from _ _ n e.0) e.1
plain_in_word inside b (c ∷ s) h n = let e = or_parts _ _ (or_parts _ _ h).0 in or_from _ _ (or_from _ _ n e.0) e.1

-- ## A part or the end

-- a turn at a place: it ends there, or reads a part
abbrev pub Turns : ℕ → List ℕ → PartTurn → Type 0
Turns indexes s (Ok (over rest)) = EndsWith s rest
Turns indexes s (Ok (next p (deeper, rest))) = EndsWith s rest × (length rest < length s) × (deeper + length rest ≤ indexes + length s)
Turns indexes s (Err f) = Unit {0}

Turns-from_Reads : (indexes : ℕ) (s : List ℕ) (turn : PartTurn) → Reads indexes s turn → Turns indexes s turn
Turns-from_Reads indexes s (Ok (over rest)) h = absurd h
Turns-from_Reads indexes s (Ok (next p (deeper, rest))) h = h
Turns-from_Reads indexes s (Err f) h = tt

-- where the end comes, and where it doesn't
end_or-turns : (b : Bool) (indexes : ℕ) (s : List ℕ) (turn : Turn Part Place) (other : PartTurn) → (b ≡ true → Turns indexes s (Ok turn)) → (b ≡ false → Turns indexes s other) → Turns indexes s (end_or (cond b (Some turn) None) other)
end_or-turns true indexes s turn other h k = h refl
end_or-turns false indexes s turn other h k = k refl

pub read_part-turns : (level : Level) (quoted : Bool) (indexes : ℕ) (s : List ℕ) → LeavesEnds level.nested → Turns indexes s (read_part level quoted (indexes, s))
read_part-turns level quoted (suc indexes) [] ends = tt
read_part-turns level quoted (suc indexes) (b ∷ s) ends =
    let l = EndsWith-more b s s (EndsWith-itself s) in
    let closes : EndsWith (b ∷ s) s × (length s < length (b ∷ s)) × (indexes + length s ≤ suc indexes + length (b ∷ s)) = (l, omega arith, omega arith) in
    end_or-turns (b == 41) (suc indexes) (b ∷ s) (next EndElement (indexes, s)) _ (λ _. closes)
    (λ n. Turns-from_Reads (suc indexes) (b ∷ s) _ (substituted-reads level quoted (suc indexes) b s ends (plain_in_index level.inside quoted indexes b n)))
read_part-turns level true zero [] ends = tt
read_part-turns level true zero (b ∷ s) ends =
    end_or-turns (b == 34) zero (b ∷ s) (over s) _ (λ _. EndsWith-more b s s (EndsWith-itself s))
    (λ n. Turns-from_Reads zero (b ∷ s) _ (substituted-reads level true zero b s ends (plain_in_quotes level.inside b n)))
read_part-turns level false zero [] ends = EndsWith-itself []
read_part-turns level false zero (b ∷ s) ends =
    end_or-turns (word_ends level.inside (b ∷ s)) zero (b ∷ s) (over (b ∷ s)) _ (λ _. EndsWith-itself (b ∷ s))
    (λ n. Turns-from_Reads zero (b ∷ s) _ (substituted-reads level false zero b s ends (plain_in_word level.inside b s n)))

Falls-from_Turns : (indexes : ℕ) (s : List ℕ) (turn : PartTurn) → Turns indexes s turn → Falls (λ (p : Place). p.1) s turn
Falls-from_Turns indexes s (Ok (over rest)) h = h
Falls-from_Turns indexes s (Ok (next p (deeper, rest))) h = (h.0, h.1)
Falls-from_Turns indexes s (Err f) h = tt

pub read_part-falls : (level : Level) (quoted : Bool) → LeavesEnds level.nested → AllFall (λ (p : Place). p.1) (read_part level quoted)
read_part-falls level quoted ends (indexes, s) = Falls-from_Turns indexes s _ (read_part-turns level quoted indexes s ends)

-- ## The parts of a word

pub read_parts-is : (level : Level) (quoted : Bool) (place : Place) → LeavesEnds level.nested → read_parts level quoted place ≡ and_then (read_part level quoted place) (read_parts level quoted)
unfolding read_parts
read_parts-is level quoted place ends = several-is (λ (p : Place). p.1) (read_part level quoted) (read_part-falls level quoted ends) place

pub read_parts-ends : (level : Level) (quoted : Bool) (indexes : ℕ) (s rest : List ℕ) → LeavesEnds level.nested → (read_parts level quoted (indexes, s)).ended ≡ Ok rest → EndsWith s rest
unfolding read_parts
read_parts-ends level quoted indexes s rest ends e = several-ends (λ (p : Place). p.1) (read_part level quoted) (read_part-falls level quoted ends) (suc (length s)) (indexes, s) rest e

-- a word that doesn't end at once leaves less
word_goes_on : (level : Level) (b : ℕ) (s rest : List ℕ) → LeavesEnds level.nested → word_ends level.inside (b ∷ s) ≡ false → read_part level false (zero, b ∷ s) ≡ Ok (over rest) → ⊥
word_goes_on level b s rest ends n e =
    let reads = substituted-reads level false zero b s ends (plain_in_word level.inside b s n) in
    let same : substituted level false zero (b ∷ s) ≡ Ok (over rest) = sym (ap (λ t. end_or (cond t (Some (over (b ∷ s))) None) (substituted level false zero (b ∷ s))) n) ∙ e in
    subst (Reads zero (b ∷ s)) same reads

pub bare_word-shorter : (level : Level) (b : ℕ) (s rest : List ℕ) → LeavesEnds level.nested → word_ends level.inside (b ∷ s) ≡ false → (read_parts level false (zero, b ∷ s)).ended ≡ Ok rest → length rest < length (b ∷ s)
unfolding read_parts
bare_word-shorter level b s rest ends n e =
    several-shorter (λ (p : Place). p.1) (read_part level false) (read_part-falls level false ends) (length (b ∷ s)) (zero, b ∷ s) rest (λ x. word_goes_on level b s x ends n) e
