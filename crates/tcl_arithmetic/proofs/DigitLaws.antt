-- The digits of a number that fits 64 bits are those of its bits: from the highest on they are all the same.
use Rattle.std.proofs.Common.{◌≡◌, ◌∙◌, sym, ap, ℕ, zero, suc, ◌+◌, ◌-◌, ◌^◌, ◌<◌, ◌≤◌, ◌%◌, min, max, ℤ, pos, negsuc, FitsSigned, to_z, of_z, w64, bit_and, bit_or, arith, refl, inl, inr}
use Rattle.std.specs.Int.{bit_at}
use Rattle.std.specs.Int.RustNames.{bit_xor}
use Rattle.std.proofs.lemmas.Bool.{cases_lt}
use Rattle.std.proofs.lemmas.Int.{of_z-to_z}
use Rattle.std.proofs.lemmas.Nat.Bits.{bit_at_and, bit_at_or, bit_at_xor, bit_at_not, bit_at_above, bit_at-lt, same_from_bits}
use Rattle.std.proofs.Math.Nat.{two-pow-succ, pow-le-pow_right, lt_of_lt_of_le}
use Rattle.std.specs.Int.Bits.{and_lt}
use Rattle.std.proofs.lemmas.Nat.{or_lt, xor_lt}
use Rattle.std.proofs.Math.Facts.{sfits_to_z}
use Rattle.tcl_arithmetic.specs.Digits.{digit}

low : (a : ℤ) (i : ℕ) → FitsSigned w64 a → i < 64 → digit a i ≡ bit_at (of_z w64 a) i
low (pos n) i f small = refl
low (negsuc n) i f small = let fits : n < 2 ^ 64 = omega (arith, f.sfits) in
    let same : 2 ^ 64 - 1 - n ≡ of_z w64 (negsuc n) = omega arith in
    sym (bit_at_not w64 n i fits small) ∙ ap (λ (m : ℕ). bit_at m i) same

high : (a : ℤ) (i : ℕ) → FitsSigned w64 a → 63 ≤ i → digit a i ≡ digit a 63
high (pos n) i f big = bit_at_above n 63 i f.sfits big ∙ sym (bit_at_above n 63 63 f.sfits (omega arith))
high (negsuc n) i f big = ap (λ (d : ℕ). 1 - d) (bit_at_above n 63 i f.sfits big ∙ sym (bit_at_above n 63 63 f.sfits (omega arith)))

pub shown : (a : ℤ) (i : ℕ) → FitsSigned w64 a → (k : ℕ) × ((b : ℤ) → FitsSigned w64 b → digit b i ≡ bit_at (of_z w64 b) k)
shown a i f = elim (cases_lt i 64) [
  | inl small ↦ (i, λ b g. low b i g small)
  | inr big ↦ (63, λ b g. high b i g (omega arith) ∙ low b 63 g (omega arith))
]

pub written : (m i : ℕ) → m < 2 ^ 64 → (k : ℕ) → ((b : ℤ) → FitsSigned w64 b → digit b i ≡ bit_at (of_z w64 b) k) → digit (to_z w64 m) i ≡ bit_at m k
written m i small k h = h (to_z w64 m) (sfits_to_z {w = w64} {n = m} (record { fits = small })) ∙ ap (λ (n : ℕ). bit_at n k) (of_z-to_z w64 m small)

fits_bits : (a : ℤ) → FitsSigned w64 a → of_z w64 a < 2 ^ 64
fits_bits (pos n) f = omega (arith, f.sfits)
fits_bits (negsuc n) f = omega arith

pub and_digits : (a b : ℤ) (i : ℕ) → FitsSigned w64 a → FitsSigned w64 b → digit (to_z w64 (bit_and (of_z w64 a) (of_z w64 b))) i ≡ min (digit a i) (digit b i)
and_digits a b i f g = let s = shown a i f in
    written _ i (and_lt 64 _ _ (fits_bits a f) (fits_bits b g)) s.0 s.1 ∙ bit_at_and _ _ s.0
    ∙ ap (λ (x : ℕ). min x (bit_at (of_z w64 b) s.0)) (sym (s.1 a f)) ∙ ap (min (digit a i)) (sym (s.1 b g))

pub or_digits : (a b : ℤ) (i : ℕ) → FitsSigned w64 a → FitsSigned w64 b → digit (to_z w64 (bit_or (of_z w64 a) (of_z w64 b))) i ≡ max (digit a i) (digit b i)
or_digits a b i f g = let s = shown a i f in
    written _ i (or_lt 64 _ _ (fits_bits a f) (fits_bits b g)) s.0 s.1 ∙ bit_at_or _ _ s.0
    ∙ ap (λ (x : ℕ). max x (bit_at (of_z w64 b) s.0)) (sym (s.1 a f)) ∙ ap (max (digit a i)) (sym (s.1 b g))

pub xor_digits : (a b : ℤ) (i : ℕ) → FitsSigned w64 a → FitsSigned w64 b → digit (to_z w64 (bit_xor (of_z w64 a) (of_z w64 b))) i ≡ (digit a i + digit b i) % 2
xor_digits a b i f g = let s = shown a i f in
    written _ i (xor_lt 64 _ _ (fits_bits a f) (fits_bits b g)) s.0 s.1 ∙ bit_at_xor _ _ s.0
    ∙ ap (λ (x : ℕ). (x + bit_at (of_z w64 b) s.0) % 2) (sym (s.1 a f)) ∙ ap (λ (x : ℕ). (digit a i + x) % 2) (sym (s.1 b g))

same_bit : (x y : ℕ) → x < 2 → y < 2 → 1 - x ≡ 1 - y → x ≡ y
same_bit x y h k e = omega arith

below_power : (n m : ℕ) → n < 2 ^ (n + m)
below_power n m = lt_of_lt_of_le (lt_two_pow n) (pow-le-pow_right {n = 2} (omega arith) (omega arith))
  where
    lt_two_pow : (k : ℕ) → k < 2 ^ k
    lt_two_pow zero = omega arith
    lt_two_pow (suc k) = let ih = lt_two_pow k in let twice = two-pow-succ k in omega arith

apart : (n m : ℕ) → ((i : ℕ) → digit (pos n) i ≡ digit (negsuc m) i) → Prim.⊥
apart n m h = let here : bit_at n (n + m) ≡ 0 = bit_at_above n (n + m) (n + m) (below_power n m) (omega arith) in
    let small : m < 2 ^ (m + n) = below_power m n in
    let there : bit_at m (m + n) ≡ 0 = bit_at_above m (m + n) (m + n) small (omega arith) in
    let at : bit_at m (n + m) ≡ 0 = ap (bit_at m) (omega arith) ∙ there in
    let both : bit_at n (n + m) ≡ 1 - bit_at m (n + m) = h (n + m) in
    absurd (omega arith)

pub same_number : (a b : ℤ) → ((i : ℕ) → digit a i ≡ digit b i) → a ≡ b
same_number (pos n) (pos m) h = ap pos (same_from_bits n m h)
same_number (pos n) (negsuc m) h = absurd (apart n m h)
same_number (negsuc n) (pos m) h = absurd (apart m n (λ i. sym (h i)))
same_number (negsuc n) (negsuc m) h = ap negsuc (same_from_bits n m (λ i. same_bit (bit_at n i) (bit_at m i) (bit_at-lt n i) (bit_at-lt m i) (h i)))
