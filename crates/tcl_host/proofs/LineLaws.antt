-- There is one way to read a line, and it is the one that is taken.
use Rattle.std.proofs.Common.{◌≡◌, ◌≢◌, ℕ, ◌+◌, ◌<◌, Bool, true, false, not, cond, List, [], ◌∷◌, ◌++◌, length, Option, Some, refl, sym, ap, subst, ◌∙◌, arith, All, length-append}
use Rattle.std.proofs.Math.Seq.{take-append_seam}
use Rattle.std.proofs.lemmas.Bool.{eqb-true, eqb-false, false_from_ne_true}
use Rattle.std.proofs.lemmas.List.Elements.{All-nil, All-cons, All-head, All-tail}
use Rattle.std.specs.List.{position_or_len}
use Rattle.tcl_host.specs.Stores.{take_line, take_line_of, is_newline}
use Rattle.tcl_host.specs.Laws.{LineLaw, ReadsLine, no_line, whole_line, last_line}
use Rattle.tcl_host.specs.declared.memory.taken.Taken.{Taken}
use Rattle.tcl_host.proofs.TakenLemmas.{line_before, line_of_all}

-- no byte is a newline
abbrev HasNone : List ℕ → Type 0
HasNone line = All (λ byte. byte ≢ 10) line

-- a text has a first newline, or none
data Cut (rest : List ℕ) : Type 0 where
  found : (line after : List ℕ) → rest ≡ line ++ 10 ∷ after → HasNone line → Cut rest
  nowhere : HasNone rest → Cut rest

cut_more : (byte : ℕ) (rest : List ℕ) → byte ≢ 10 → Cut rest → Cut (byte ∷ rest)
cut_more byte rest ne (found line after e h) = found (byte ∷ line) after (ap (λ (l : List ℕ). byte ∷ l) e) (All-cons (λ b. b ≢ 10) byte line ne h)
cut_more byte rest ne (nowhere h) = nowhere (All-cons (λ b. b ≢ 10) byte rest ne h)

cut_at : (byte : ℕ) (rest : List ℕ) (b : Bool) → is_newline byte ≡ b → Cut rest → Cut (byte ∷ rest)
cut_at byte rest true e c = found [] rest (ap (λ (x : ℕ). x ∷ rest) (eqb-true byte 10 e)) (All-nil (λ b. b ≢ 10))
cut_at byte rest false e c = cut_more byte rest (eqb-false byte 10 e) c

cut : (rest : List ℕ) → Cut rest
cut [] = nowhere (All-nil (λ b. b ≢ 10))
cut (byte ∷ rest) = cut_at byte rest (is_newline byte) refl (cut rest)

not_newline : (byte : ℕ) → byte ≢ 10 → is_newline byte ≡ false
not_newline byte ne = false_from_ne_true _ (λ e. ne (eqb-true byte 10 e))

one_more : (byte n k : ℕ) → byte ≢ 10 → n ≡ k → cond (not (is_newline byte)) (1 + n) 0 ≡ 1 + k
one_more byte n k ne e = (λ i. cond (not (not_newline byte ne i)) (1 + e i) 0)

suc_length : (byte : ℕ) (line : List ℕ) → 1 + length line ≡ length (byte ∷ line)
suc_length byte line = omega arith

-- how many bytes stand before the first newline
before_newline : (line after : List ℕ) → HasNone line → position_or_len is_newline (line ++ 10 ∷ after) ≡ length line
before_newline [] after h = refl
before_newline (byte ∷ line) after h =
    one_more byte _ _ (All-head (λ b. b ≢ 10) byte line h) (before_newline line after (All-tail (λ b. b ≢ 10) byte line h)) ∙ suc_length byte line

before_end : (line : List ℕ) → HasNone line → position_or_len is_newline line ≡ length line
before_end [] h = refl
before_end (byte ∷ line) h =
    one_more byte _ _ (All-head (λ b. b ≢ 10) byte line h) (before_end line (All-tail (λ b. b ≢ 10) byte line h)) ∙ suc_length byte line

-- where something is left, the line is taken by the place of the newline
take_line-some : (rest : List ℕ) → 0 < length rest → take_line rest ≡ take_line_of (position_or_len is_newline rest) rest
take_line-some [] lt = absurd (omega arith)
take_line-some (byte ∷ rest) lt = refl

whole_taken : (line after : List ℕ) → HasNone line
    → take_line (line ++ 10 ∷ after) ≡ record { answer = Some line; count = length line + 1; ended = false }
whole_taken line after h =
    let long : length (line ++ 10 ∷ after) ≡ length line + length (10 ∷ after) = length-append line (10 ∷ after) in
    let lt : length line < length (line ++ 10 ∷ after) = omega (arith, long) in
    take_line-some (line ++ 10 ∷ after) (omega arith)
    ∙ line_before _ (length line) (line ++ 10 ∷ after) (before_newline line after h) lt
    ∙ (λ i. record { answer = Some (take-append_seam line (10 ∷ after) i); count = length line + 1; ended = false })

last_taken : (line : List ℕ) → HasNone line → 0 < length line → take_line line ≡ record { answer = Some line; count = length line; ended = true }
last_taken line h lt = take_line-some line lt ∙ line_of_all _ line (before_end line h)

is_read : (rest : List ℕ) → Cut rest → ReadsLine rest (take_line rest)
is_read rest (found line after e h) =
    subst (λ (r : List ℕ). ReadsLine r (take_line r)) (sym e)
    (subst (λ (t : Taken (Option (List ℕ))). ReadsLine (line ++ 10 ∷ after) t) (sym (whole_taken line after h)) (whole_line line after h))
is_read [] (nowhere h) = no_line
is_read (byte ∷ rest) (nowhere h) =
    let lt : 0 < length (byte ∷ rest) = omega arith in
    subst (λ (t : Taken (Option (List ℕ))). ReadsLine (byte ∷ rest) t) (sym (last_taken (byte ∷ rest) h lt)) (last_line (byte ∷ rest) h lt)

is_only : (rest : List ℕ) (taken : Taken (Option (List ℕ))) → ReadsLine rest taken → taken ≡ take_line rest
is_only _ _ no_line = refl
is_only _ _ (whole_line line after h) = sym (whole_taken line after h)
is_only _ _ (last_line line h lt) = sym (last_taken line h lt)

pub line_law : LineLaw
line_law rest = (is_read rest (cut rest), is_only rest)
