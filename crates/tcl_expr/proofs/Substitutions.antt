-- Variables and scripts in brackets, part by part.
use Rattle.std.proofs.Common.{◌≡◌, ◌∙◌, sym, ap, subst, refl, ℕ, zero, suc, ◌≤◌, ◌<◌, true, List, length, Result, Ok, Err, arith}
use Rattle.tcl_parser.specs.declared.fault.Fault.{Fault}
use Rattle.tcl_parser.specs.declared.script.Part.{Part}
use Rattle.tcl_parser.specs.Several.{over, next as more}
use Rattle.tcl_parser.specs.Reading.{Place, PartTurn, level_at, read_part}
use Rattle.tcl_parser.proofs.PartLemmas.{Turns, read_part-turns}
use Rattle.tcl_parser.proofs.SkipLemmas.{level-ends}
use Rattle.tcl_expr.specs.Tokens.{part_read, after_parts, after_substitution}

parts_step : (n : ℕ) (place : Place) → after_parts (suc n) place ≡ part_read (read_part (level_at 0) true place) (after_parts n)
unfolding after_parts
parts_step n place = refl

-- how a text reads on: with so many turns left it reads as the whole
abbrev pub ReadsAs : ℕ → List ℕ → Result (List ℕ) Fault → Type 0
ReadsAs indexes s whole = (n : ℕ) × (length s < n) × (after_parts n (indexes, s) ≡ whole)

pub begins : (s : List ℕ) → ReadsAs 0 s (after_substitution s)
begins s = (suc (length s), omega arith, refl)

at_turn : (indexes : ℕ) (s : List ℕ) (whole : Result (List ℕ) Fault) (turn : PartTurn) → ReadsAs indexes s whole → read_part (level_at 0) true (indexes, s) ≡ turn → (n : ℕ) × (length s ≤ n) × (whole ≡ part_read turn (after_parts n))
at_turn indexes s whole turn (zero, l, h) e = absurd (omega arith)
at_turn indexes s whole turn (suc n, l, h) e = (n, omega arith, sym h ∙ parts_step n (indexes, s) ∙ ap (λ t. part_read t (after_parts n)) e)

pub turn_over : (indexes : ℕ) (s rest : List ℕ) (whole : Result (List ℕ) Fault) → ReadsAs indexes s whole → read_part (level_at 0) true (indexes, s) ≡ Ok (over rest) → whole ≡ Ok rest
turn_over indexes s rest whole h e = (at_turn indexes s whole (Ok (over rest)) h e).2

pub turn_fault : (indexes : ℕ) (s : List ℕ) (f : Fault) (whole : Result (List ℕ) Fault) → ReadsAs indexes s whole → read_part (level_at 0) true (indexes, s) ≡ Err f → whole ≡ Err f
turn_fault indexes s f whole h e = (at_turn indexes s whole (Err f) h e).2

pub turn_last : (indexes deeper : ℕ) (s rest : List ℕ) (p : Part) (whole : Result (List ℕ) Fault) → ReadsAs indexes s whole → read_part (level_at 0) true (indexes, s) ≡ Ok (more p (deeper, rest)) → deeper ≡ 0 → whole ≡ Ok rest
turn_last indexes zero s rest p whole h e z = (at_turn indexes s whole (Ok (more p (zero, rest))) h e).2
turn_last indexes (suc d) s rest p whole h e z = absurd (omega arith)

pub turn_more : (indexes deeper : ℕ) (s rest : List ℕ) (p : Part) (whole : Result (List ℕ) Fault) → ReadsAs indexes s whole → length rest < length s → read_part (level_at 0) true (indexes, s) ≡ Ok (more p (deeper, rest)) → (deeper ≡ 0 → Prim.⊥) → ReadsAs deeper rest whole
turn_more indexes zero s rest p whole h l e z = absurd (z refl)
turn_more indexes (suc d) s rest p whole h l e z = let t = at_turn indexes s whole (Ok (more p (suc d, rest))) h e in (t.0, omega (arith, t.1), sym t.2)

pub turn_ends : (indexes : ℕ) (s : List ℕ) (turn : PartTurn) → read_part (level_at 0) true (indexes, s) ≡ turn → Turns indexes s turn
turn_ends indexes s turn e = subst (Turns indexes s) e (read_part-turns (level_at 0) true indexes s (level-ends 0))
