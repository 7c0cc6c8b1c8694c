-- What follows a token is no longer than what the token begins.
use Rattle.std.proofs.Common.{◌≡◌, ap, refl, ℕ, zero, suc, ◌≤◌, ◌==◌, Bool, true, false, ◌&&◌, ◌||◌, cond, List, [], ◌∷◌, length, length-append, Option, Some, None, Result, Ok, Err, arith}
use Rattle.std.specs.Int.{is_in_range}
use Rattle.tcl_text.specs.declared.integer.Integers.{Integers}
use Rattle.tcl_text.specs.Numbers.{trim_start}
use Rattle.tcl_text.specs.Lists.{close_brace, none_open}
use Rattle.tcl_text.proofs.Counting.{close_sound}
use Rattle.tcl_parser.specs.declared.fault.Fault.{Fault}
use Rattle.tcl_parser.specs.declared.script.Part.{Part}
use Rattle.tcl_parser.specs.Several.{Several, over, next as more}
use Rattle.tcl_parser.specs.Characters.{dollar, quote, open_bracket, open_brace, is_name_character}
use Rattle.tcl_parser.specs.Reading.{Place, PartTurn, level_at, read_part, read_parts, joined_parts, before}
use Rattle.tcl_parser.proofs.EndLemmas.{EndsWith-length}
use Rattle.tcl_parser.proofs.PartLemmas.{Turns, read_parts-ends}
use Rattle.tcl_parser.proofs.SkipLemmas.{level-ends}
use Rattle.tcl_expr.specs.declared.token.Token.{Token}
use Rattle.tcl_expr.specs.declared.fault.ExprFault.{ExprFault}
use Rattle.tcl_expr.specs.Tokens.{TokenRead, after_word, word_or_number, followed, part_read, after_parts, after_substitution, substitution_read, quoted_read, quoted, braced_read, braced, pair, single, alone, together, sign, token_at, read, lexed, first_token, next_token}
use Rattle.tcl_expr.proofs.Words.{EndsWith-after_word, trim_start-length}
use Rattle.tcl_expr.proofs.Substitutions.{turn_ends}

-- what follows the token has so many bytes at most
abbrev pub Leaves : ℕ → TokenRead → Type 0
Leaves n (Ok p) = length p.1 ≤ n
Leaves n (Err e) = Unit {0}

leaves_cond : (n : ℕ) (b : Bool) (x y : TokenRead) → Leaves n x → Leaves n y → Leaves n (cond b x y)
leaves_cond n true x y h k = h
leaves_cond n false x y h k = k

leaves_followed : (n : ℕ) (r : Result Token ExprFault) (rest : List ℕ) → length rest ≤ n → Leaves n (followed r rest)
leaves_followed n (Ok t) rest h = h
leaves_followed n (Err e) rest h = tt

leaves_word : (n : ℕ) (style : Integers) (close digit : Bool) (w rest : List ℕ) → length rest ≤ n → Leaves n (word_or_number style close digit w rest)
leaves_word n style close true w rest h = leaves_followed n _ rest h
leaves_word n style close false w rest h = leaves_followed n _ rest h

-- ## Substitutions

abbrev pub AtMost : ℕ → Result (List ℕ) Fault → Type 0
AtMost n (Ok rest) = length rest ≤ n
AtMost n (Err f) = Unit {0}

less : (n m : ℕ) (r : Result (List ℕ) Fault) → m ≤ n → AtMost m r → AtMost n r
less n m (Ok rest) l h = omega arith
less n m (Err f) l h = tt

by_turn : (s : List ℕ) (indexes n : ℕ) (turn : PartTurn) → Turns indexes s turn → ((place : Place) → AtMost (length place.1) (after_parts n place)) → AtMost (length s) (part_read turn (after_parts n))
by_turn s indexes n (Ok (over rest)) h go = EndsWith-length s rest h
by_turn s indexes n (Ok (more p (zero, rest))) h go = EndsWith-length s rest h.0
by_turn s indexes n (Ok (more p (suc deeper, rest))) h go = less (length s) (length rest) (after_parts n (suc deeper, rest)) (EndsWith-length s rest h.0) (go (suc deeper, rest))
by_turn s indexes n (Err f) h go = tt

parts_leave : (n : ℕ) (place : Place) → AtMost (length place.1) (after_parts n place)
unfolding after_parts
parts_leave zero place = omega arith
parts_leave (suc n) (indexes, s) = by_turn s indexes n (read_part (level_at 0) true (indexes, s)) (turn_ends indexes s (read_part (level_at 0) true (indexes, s)) refl) (λ place. parts_leave n place)

leaves_read : (s : List ℕ) (r : Result (List ℕ) Fault) → AtMost (length s) r → Leaves (length s) (substitution_read s r)
leaves_read s (Ok rest) h = leaves_cond (length s) (length s == suc (length rest)) _ _ tt (leaves_followed (length s) _ rest h)
leaves_read s (Err f) h = tt

-- ## Quotes and braces

leaves_quoted : (s : List ℕ) (r : Several Part) → ((rest : List ℕ) → r.ended ≡ Ok rest → length rest ≤ length s) → (e : Result (List ℕ) Fault) → r.ended ≡ e → Leaves (length s) (quoted_read (joined_parts r))
leaves_quoted s r h (Ok rest) e = let n = h rest e in rw e n
leaves_quoted s r h (Err f) e = rw e tt

leaves_braced : (s : List ℕ) (r : Option (List ℕ × List ℕ)) → close_brace s none_open ≡ r → Leaves (length s) (braced_read r)
leaves_braced s (Some p) e = let c = close_sound s none_open p e in omega (arith, ap length c.whole, length-append p.0 (125 ∷ p.1))
leaves_braced s None e = tt

-- ## Signs

leaves_alone : (n : ℕ) (o : Option Token) (rest : List ℕ) → length rest ≤ n → Leaves n (alone o rest)
leaves_alone n (Some t) rest h = h
leaves_alone n None rest h = tt

leaves_together : (n : ℕ) (o : Option Token) (a b : ℕ) (rest : List ℕ) → length (b ∷ rest) ≤ n → Leaves n (together o a b rest)
leaves_together n (Some t) a b rest h = omega arith
leaves_together n None a b rest h = leaves_alone n (single a) (b ∷ rest) h

leaves_sign : (a : ℕ) (s : List ℕ) → Leaves (length s) (sign a s)
leaves_sign a [] = leaves_alone 0 (single a) [] (omega arith)
leaves_sign a (b ∷ s) = leaves_together (length (b ∷ s)) (pair a b) a b s (omega arith)

-- ## Tokens

longer : (n : ℕ) (r : TokenRead) → Leaves n r → Leaves (suc n) r
longer n (Ok p) h = omega arith
longer n (Err e) h = tt

leaves_token : (style : Integers) (close : Bool) (b : ℕ) (s : List ℕ) → Leaves (suc (length s)) (token_at style close b s)
leaves_token style close b s =
    leaves_cond (suc (length s)) (is_name_character b) _ _ (leaves_word (suc (length s)) style close (is_in_range 48 57 b) (before (b ∷ s) (after_word (b ∷ s))) (after_word (b ∷ s)) (EndsWith-length (b ∷ s) (after_word (b ∷ s)) (EndsWith-after_word (b ∷ s))))
    (leaves_cond (suc (length s)) ((b == dollar) || (b == open_bracket)) _ _ (leaves_read (b ∷ s) (after_substitution (b ∷ s)) (parts_leave (suc (length (b ∷ s))) (zero, b ∷ s)))
    (leaves_cond (suc (length s)) (b == quote) _ _ (longer (length s) (quoted s) (leaves_quoted s (read_parts (level_at 0) true (zero, s)) (λ rest e. EndsWith-length s rest (read_parts-ends (level_at 0) true zero s rest (level-ends 0) e)) _ refl))
    (leaves_cond (suc (length s)) (b == open_brace) _ _ (longer (length s) (braced s) (leaves_braced s (close_brace s none_open) refl))
    (longer (length s) (sign b s) (leaves_sign b s)))))

given : (n : ℕ) (r : TokenRead) (t : Token) (rest : List ℕ) → Leaves n r → lexed r ≡ Ok (read t rest) → length rest ≤ n
given n (Ok p) t rest h e = let same : p.1 ≡ rest = cc in omega (arith, h, ap length same)
given n (Err f) t rest h e = absurd (cc)

first_leaves : (style : Integers) (close : Bool) (s : List ℕ) (t : Token) (rest : List ℕ) → first_token style close s ≡ Ok (read t rest) → length rest ≤ length s
first_leaves style close [] t rest e = absurd (cc)
first_leaves style close (b ∷ s) t rest e = given (suc (length s)) (token_at style close b s) t rest (leaves_token style close b s) e

pub rest_is_shorter : (style : Integers) (minus : Bool) (s : List ℕ) (t : Token) (rest : List ℕ) → next_token style minus s ≡ Ok (read t rest) → length rest ≤ length s
rest_is_shorter style minus s t rest e = omega (arith, first_leaves style (minus && (length (trim_start s) == length s)) (trim_start s) t rest e, trim_start-length s)
