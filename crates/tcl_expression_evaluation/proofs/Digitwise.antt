-- Bit operators digit by digit.
use Rattle.std.proofs.Common.{◌≡◌, ◌∙◌, ap, refl, ℕ, zero, suc, ◌+◌, ◌-◌, ◌%◌, ◌<◌, min, max, ℤ, pos, negsuc, bit_and, arith}
use Rattle.std.specs.Int.{bit_at}
use Rattle.std.proofs.lemmas.Nat.Bits.{bit_at_and, bit_at_or, bit_at_xor, bit_at-lt}
use Rattle.tcl_arithmetic.specs.Digits.{digit}
use Rattle.tcl_expression_evaluation.specs.WholeNumbers.{complement_of, without, and_of, or_of, xor_of, Digitwise}

-- what holds of 0 and 1 holds of two digits
two : (P : ℕ → ℕ → Type 0) → P 0 0 → P 0 1 → P 1 0 → P 1 1 → (x y : ℕ) → x < 2 → y < 2 → P x y
two P a b c d zero zero h k = a
two P a b c d zero (suc zero) h k = b
two P a b c d (suc zero) zero h k = c
two P a b c d (suc zero) (suc zero) h k = d
two P a b c d zero (suc (suc y)) h k = absurd (omega arith)
two P a b c d (suc zero) (suc (suc y)) h k = absurd (omega arith)
two P a b c d (suc (suc x)) y h k = absurd (omega arith)

digit-lt : (a : ℤ) (i : ℕ) → digit a i < 2
digit-lt (pos n) i = bit_at-lt n i
digit-lt (negsuc n) i = omega (arith, bit_at-lt n i)

complement : (a : ℤ) (i : ℕ) → digit (complement_of a) i ≡ 1 - digit a i
complement (pos n) i = refl
complement (negsuc n) i = omega (arith, bit_at-lt n i)

hasnt : (m n i : ℕ) → bit_at (without m n) i ≡ min (bit_at m i) (1 - bit_at n i)
hasnt m n i = bit_at_xor m (bit_and m n) i ∙ ap (λ (x : ℕ). (bit_at m i + x) % 2) (bit_at_and m n i)
    ∙ two (λ x y. (x + min x y) % 2 ≡ min x (1 - y)) refl refl refl refl (bit_at m i) (bit_at n i) (bit_at-lt m i) (bit_at-lt n i)

both : (a b : ℤ) (i : ℕ) → digit (and_of a b) i ≡ min (digit a i) (digit b i)
both (pos m) (pos n) i = bit_at_and m n i
both (pos m) (negsuc n) i = hasnt m n i
both (negsuc m) (pos n) i = hasnt n m i ∙ two (λ x y. min x (1 - y) ≡ min (1 - y) x) refl refl refl refl (bit_at n i) (bit_at m i) (bit_at-lt n i) (bit_at-lt m i)
both (negsuc m) (negsuc n) i = ap (λ (x : ℕ). 1 - x) (bit_at_or m n i)
    ∙ two (λ x y. 1 - max x y ≡ min (1 - x) (1 - y)) refl refl refl refl (bit_at m i) (bit_at n i) (bit_at-lt m i) (bit_at-lt n i)

either : (a b : ℤ) (i : ℕ) → digit (or_of a b) i ≡ max (digit a i) (digit b i)
either a b i = complement (and_of (complement_of a) (complement_of b)) i ∙ ap (λ (x : ℕ). 1 - x) (both (complement_of a) (complement_of b) i)
    ∙ ap (λ (x : ℕ). 1 - min x (digit (complement_of b) i)) (complement a i) ∙ ap (λ (y : ℕ). 1 - min (1 - digit a i) y) (complement b i)
    ∙ two (λ x y. 1 - min (1 - x) (1 - y) ≡ max x y) refl refl refl refl (digit a i) (digit b i) (digit-lt a i) (digit-lt b i)

one : (a b : ℤ) (i : ℕ) → digit (xor_of a b) i ≡ (digit a i + digit b i) % 2
one (pos m) (pos n) i = bit_at_xor m n i
one (pos m) (negsuc n) i = ap (λ (x : ℕ). 1 - x) (bit_at_xor m n i)
    ∙ two (λ x y. 1 - (x + y) % 2 ≡ (x + (1 - y)) % 2) refl refl refl refl (bit_at m i) (bit_at n i) (bit_at-lt m i) (bit_at-lt n i)
one (negsuc m) (pos n) i = ap (λ (x : ℕ). 1 - x) (bit_at_xor m n i)
    ∙ two (λ x y. 1 - (x + y) % 2 ≡ ((1 - x) + y) % 2) refl refl refl refl (bit_at m i) (bit_at n i) (bit_at-lt m i) (bit_at-lt n i)
one (negsuc m) (negsuc n) i = bit_at_xor m n i
    ∙ two (λ x y. (x + y) % 2 ≡ ((1 - x) + (1 - y)) % 2) refl refl refl refl (bit_at m i) (bit_at n i) (bit_at-lt m i) (bit_at-lt n i)

pub digitwise : Digitwise
digitwise a b i = record { complement = complement a i; both = both a b i; either = either a b i; one = one a b i }
