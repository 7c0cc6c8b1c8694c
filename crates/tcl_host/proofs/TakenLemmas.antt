-- What one read of a line takes, by the place of the first newline.
use Rattle.std.proofs.Common.{◌≡◌, ℕ, ◌+◌, ◌<◌, true, false, List, [], ◌∷◌, length, take, Some, None, sym, ap, ◌∙◌, arith, nat_lt}
use Rattle.std.proofs.lemmas.Bool.{false_from_ne_true, cond-true, cond-false, lt-ltb, le-ltb}
use Rattle.std.proofs.lemmas.List.Sums.{position_or_len_is}
use Rattle.std.specs.List.{position_or_len}
use Rattle.memchr.specs.Find.{IsFirstByte, is_byte}
use Rattle.tcl_host.specs.Stores.{take_line, take_line_of, is_newline}

-- the first newline stands after as many bytes
first_newline : (rest : List ℕ) (k : ℕ) → IsFirstByte (is_byte 10) rest (Some k) → position_or_len is_newline rest ≡ k
first_newline rest k h =
    position_or_len_is is_newline rest k 0 (omega (arith, h.0.high)) (λ j lt. false_from_ne_true _ (h.0.before j (omega arith) lt)) (λ _. h.1)

no_newline : (rest : List ℕ) → IsFirstByte (is_byte 10) rest None → position_or_len is_newline rest ≡ length rest
no_newline rest h =
    position_or_len_is is_newline rest (length rest) 0 (omega arith) (λ j lt. false_from_ne_true _ (h j (omega arith) lt)) (λ lt. absurd (omega arith))

-- a line that ends before the end
pub line_before : (n k : ℕ) (rest : List ℕ) → n ≡ k → k < length rest
    → take_line_of n rest ≡ record { answer = Some (take k rest); count = k + 1; ended = false }
line_before n k rest e lt =
    ap (λ (m : ℕ). take_line_of m rest) e ∙ cond-true (nat_lt k (length rest)) _ _ (lt-ltb k (length rest) lt)

-- all that is left
pub line_of_all : (n : ℕ) (rest : List ℕ) → n ≡ length rest
    → take_line_of n rest ≡ record { answer = Some rest; count = length rest; ended = true }
line_of_all n rest e =
    ap (λ (m : ℕ). take_line_of m rest) e ∙ cond-false (nat_lt (length rest) (length rest)) _ _ (le-ltb (length rest) (length rest) (omega arith))

pub take_line-found : (rest : List ℕ) (k : ℕ) → IsFirstByte (is_byte 10) rest (Some k)
    → take_line rest ≡ record { answer = Some (take k rest); count = k + 1; ended = false }
take_line-found [] k h = absurd (omega (arith, h.0.high))
take_line-found (b ∷ bs) k h = line_before _ k (b ∷ bs) (first_newline (b ∷ bs) k h) h.0.high

pub take_line-last : (rest : List ℕ) → 0 < length rest → IsFirstByte (is_byte 10) rest None
    → take_line rest ≡ record { answer = Some rest; count = length rest; ended = true }
take_line-last [] lt h = absurd (omega arith)
take_line-last (b ∷ bs) lt h = line_of_all _ (b ∷ bs) (no_newline (b ∷ bs) h)

-- the same of a line that is known to be those bytes
pub found_as : (rest : List ℕ) (k : ℕ) (line : List ℕ) → IsFirstByte (is_byte 10) rest (Some k) → line ≡ take k rest
    → record { answer = Some line; count = k + 1; ended = false } ≡ take_line rest
found_as rest k line h e = (λ i. record { answer = Some (e i); count = k + 1; ended = false }) ∙ sym (take_line-found rest k h)

pub last_as : (rest line : List ℕ) → 0 < length rest → IsFirstByte (is_byte 10) rest None → line ≡ rest
    → record { answer = Some line; count = length rest; ended = true } ≡ take_line rest
last_as rest line lt h e = (λ i. record { answer = Some (e i); count = length rest; ended = true }) ∙ sym (take_line-last rest lt h)
