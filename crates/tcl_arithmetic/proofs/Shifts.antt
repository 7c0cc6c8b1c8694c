-- Shifts, as products and quotients with powers of two.
use Rattle.std.proofs.Common.{◌≡◌, ◌∙◌, sym, ap, refl, ℕ, zero, suc, ◌+◌, ◌-◌, ◌*◌, ◌/◌, ◌%◌, ◌^◌, ◌<◌, ◌≤◌, ℤ, pos, negsuc, ◌+ℤ◌, ◌*ℤ◌, ◌<ℤ◌, ◌≤ℤ◌, FitsSigned, w64, arith}
use Rattle.std.specs.Int.RustNames.{unsigned_abs}
use Rattle.std.specs.Int.Signed.{shr_z}
use Rattle.std.proofs.lemmas.Int.{ints, unsigned_abs-mul}
use Rattle.std.proofs.Math.Pow.{pow-lt}
use Rattle.std.proofs.Math.IntN.{neg_ℤ, pos-*ℤ-pos, negsuc-*ℤ-pos, zero-*ℤ}
use Rattle.std.proofs.Math.Nat.{pow-le-pow_right}
use Rattle.tcl_arithmetic.specs.Division.{IsDivision}

-- what is rounded down is the quotient
pub shifted : (a : ℤ) (m : ℕ) → 0 < m → (r : ℤ) × IsDivision a (pos m) (shr_z a m) r
shifted (pos a) m h = (
  pos (a % m),
  record {
    whole = let times : pos (a / m) *ℤ pos m ≡ pos (a / m * m) = pos-*ℤ-pos (a / m) m in
        let all : a / m * m + a % m ≡ a = omega arith in
        ap pos (sym all) ∙ ap (λ (x : ℤ). x +ℤ pos (a % m)) (sym times);
    rest = (omega (arith, ints), omega (arith, ints));
  },
)
shifted (negsuc a) m h = (
  pos (m - 1 - a % m),
  record {
    whole = let times : negsuc (a / m) *ℤ pos m ≡ neg_ℤ (pos (suc (a / m) * m)) = negsuc-*ℤ-pos (a / m) m in
        let small : a % m < m = omega arith in
        let split : suc (a / m) * m ≡ suc a + (m - 1 - a % m) = omega arith in
        let far : negsuc a ≡ neg_ℤ (pos (suc a + (m - 1 - a % m))) +ℤ pos (m - 1 - a % m) = omega (arith, ints) in
        far ∙ ap (λ (k : ℕ). neg_ℤ (pos k) +ℤ pos (m - 1 - a % m)) (sym split) ∙ ap (λ (x : ℤ). x +ℤ pos (m - 1 - a % m)) (sym times);
    rest = (omega (arith, ints), omega (arith, ints));
  },
)

-- past the last digit only the sign is left
pub far_up : (a n : ℕ) → a < 2 ^ 63 → 63 ≤ n → IsDivision (pos a) (pos (2 ^ n)) (pos 0) (pos a)
far_up a n h l = record {
  whole = let none : pos zero *ℤ pos (2 ^ n) ≡ pos 0 = zero-*ℤ (pos (2 ^ n)) in omega (arith, ints);
  rest = let big : 2 ^ 63 ≤ 2 ^ n = pow-le-pow_right {n = 2} (omega arith) l in (omega (arith, ints), omega (arith, ints));
}

pub far_down : (a n : ℕ) → a < 2 ^ 63 → 63 ≤ n → IsDivision (negsuc a) (pos (2 ^ n)) (negsuc 0) (pos (2 ^ n - suc a))
far_down a n h l = record {
  whole = let big : 2 ^ 63 ≤ 2 ^ n = pow-le-pow_right {n = 2} (omega arith) l in
      let once : negsuc 0 *ℤ pos (2 ^ n) ≡ neg_ℤ (pos (suc 0 * 2 ^ n)) = negsuc-*ℤ-pos 0 (2 ^ n) in
      let plain : suc 0 * 2 ^ n ≡ 2 ^ n = omega arith in
      let there : negsuc a ≡ neg_ℤ (pos (2 ^ n)) +ℤ pos (2 ^ n - suc a) = omega (arith, ints) in
      there ∙ ap (λ (k : ℕ). neg_ℤ (pos k) +ℤ pos (2 ^ n - suc a)) (sym plain) ∙ ap (λ (x : ℤ). x +ℤ pos (2 ^ n - suc a)) (sym once);
  rest = let big : 2 ^ 63 ≤ 2 ^ n = pow-le-pow_right {n = 2} (omega arith) l in (omega (arith, ints), omega (arith, ints));
}

pub below_zero : (a : ℤ) (n : ℕ) → FitsSigned w64 a → 63 ≤ n → a <ℤ pos 0 → (r : ℤ) × IsDivision a (pos (2 ^ n)) (negsuc 0) r
below_zero (pos a) n f l h = absurd (omega (arith, ints))
below_zero (negsuc a) n f l h = (pos (2 ^ n - suc a), far_down a n f.sfits l)

pub from_zero : (a : ℤ) (n : ℕ) → FitsSigned w64 a → 63 ≤ n → pos 0 ≤ℤ a → (r : ℤ) × IsDivision a (pos (2 ^ n)) (pos 0) r
from_zero (pos a) n f l h = (pos a, far_up a n f.sfits l)
from_zero (negsuc a) n f l h = absurd (omega (arith, ints))

abs_fits : (z : ℤ) → FitsSigned w64 z → unsigned_abs z ≤ 2 ^ 63
abs_fits (pos n) f = omega (arith, f.sfits)
abs_fits (negsuc n) f = omega (arith, f.sfits)

times_pos : (k m : ℕ) → 1 ≤ k → m ≤ k * m
times_pos zero m h = absurd (omega arith)
times_pos (suc k) m h = grind arith

-- of the numbers other than 0 only -1 can be moved to the last place
pub past : (a : ℤ) (n : ℕ) → (a ≡ pos 0 → Prim.⊥) → 63 ≤ n → (a ≡ negsuc 0 → n ≡ 63 → Prim.⊥) → FitsSigned w64 (a *ℤ pos (2 ^ n)) → Prim.⊥
past (pos zero) n h l k f = h refl
past (pos (suc a)) n h l k f = let big : 2 ^ 63 ≤ 2 ^ n = pow-le-pow_right {n = 2} (omega arith) l in
    let more = times_pos (suc a) (2 ^ n) (omega arith) in
    let is : pos (suc a) *ℤ pos (2 ^ n) ≡ pos (suc a * 2 ^ n) = pos-*ℤ-pos (suc a) (2 ^ n) in
    let least : FitsSigned w64 (pos (suc a * 2 ^ n)) = rw is at f in
    let bound = least.sfits in
    omega arith
past (negsuc zero) n h l k f = let beyond : 64 ≤ n = further n l (k refl) in
    let big : 2 ^ 64 ≤ 2 ^ n = pow-le-pow_right {n = 2} (omega arith) beyond in
    let size = unsigned_abs-mul (negsuc 0) (pos (2 ^ n)) in
    let bound = abs_fits (negsuc 0 *ℤ pos (2 ^ n)) f in
    omega arith
  where
    further : (n : ℕ) → 63 ≤ n → (n ≡ 63 → Prim.⊥) → 64 ≤ n
    further n l k = omega arith
past (negsuc (suc a)) n h l k f = let big : 2 ^ 63 ≤ 2 ^ n = pow-le-pow_right {n = 2} (omega arith) l in
    let size = unsigned_abs-mul (negsuc (suc a)) (pos (2 ^ n)) in
    let bound = abs_fits (negsuc (suc a) *ℤ pos (2 ^ n)) f in
    let more = times_pos (suc a) (2 ^ n) (omega arith) in
    let split : suc (suc a) * 2 ^ n ≡ suc a * 2 ^ n + 2 ^ n = omega arith in
    omega arith

pub small_power_of_two : (n : ℕ) → n < 63 → 2 ^ n < 2 ^ 63
small_power_of_two n h = pow-lt h
