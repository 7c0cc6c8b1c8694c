-- Powers as the code computes them.
use Rattle.std.proofs.Common.{◌≡◌, ◌∙◌, sym, ap, refl, subst, ℕ, zero, suc, ◌+◌, ◌*◌, ◌^◌, ◌%◌, ◌<◌, ◌≤◌, ℤ, pos, negsuc, ◌*ℤ◌, Bool, true, false, cond, nat_eq, FitsSigned, w64, arith, ◌⊎◌, inl, inr, Result, Ok, Err, IfOk}
use Rattle.std.specs.Int.{int_pow}
use Rattle.std.specs.Int.RustNames.{unsigned_abs}
use Rattle.std.proofs.lemmas.Int.{unsigned_abs-mul}
use Rattle.std.proofs.Math.IntN.{neg_ℤ, pos-*ℤ-pos, negsuc-*ℤ-pos, negsuc-*ℤ-negsuc, zero-*ℤ}
use Rattle.std.proofs.Math.Nat.{pow-succ', pow-zero, suc-mod, one-le-pow, pow-le-pow_left, pow-le-pow_right}
use Rattle.tcl_arithmetic.specs.Powers.{power, reduced}
use Rattle.std.proofs.lemmas.Bool.{cases_lt, lt-ltb, le-ltb}
use Rattle.tcl_arithmetic.specs.Results.{IsChecked}
use Rattle.tcl_arithmetic.specs.declared.ArithmeticFault.{ArithmeticFault}

pos_power : (a n : ℕ) → power (pos a) n ≡ pos (a ^ n)
unfolding power
pos_power a zero = ap pos (sym (pow-zero a))
pos_power a (suc n) = ap (λ (x : ℤ). pos a *ℤ x) (pos_power a n) ∙ pos-*ℤ-pos a (a ^ n) ∙ ap pos (sym (pow-succ' a n))

abbrev signed : Bool → ℕ → ℤ
signed even m = cond even (pos m) (neg_ℤ (pos m))

other : (a m : ℕ) (even : Bool) → 0 < m → negsuc a *ℤ signed even m ≡ signed (cond even false true) (suc a * m)
other a m true h = negsuc-*ℤ-pos a m
other a (suc m) false h = negsuc-*ℤ-negsuc a m
other a zero false h = absurd (omega arith)

parity : (n : ℕ) → nat_eq (suc n % 2) 0 ≡ cond (nat_eq (n % 2) 0) false true
parity n = let steps : suc n % 2 ≡ suc (n % 2) % 2 = suc-mod n 2 in
    let small : n % 2 < 2 = omega arith in
    elim (two (n % 2) small) [ inl e ↦ rw steps (rw e refl) | inr e ↦ rw steps (rw e refl) ]
  where
    two : (r : ℕ) → r < 2 → (r ≡ 0) ⊎ (r ≡ 1)
    two zero h = inl refl
    two (suc zero) h = inr refl
    two (suc (suc r)) h = absurd (omega arith)

neg_power : (a n : ℕ) → power (negsuc a) n ≡ signed (nat_eq (n % 2) 0) (suc a ^ n)
unfolding power
neg_power a zero = ap pos (sym (pow-zero (suc a)))
neg_power a (suc n) = ap (λ (x : ℤ). negsuc a *ℤ x) (neg_power a n) ∙ other a (suc a ^ n) (nat_eq (n % 2) 0) (one-le-pow n (suc a) (omega arith))
    ∙ ap (λ (e : Bool). signed e (suc a * suc a ^ n)) (sym (parity n)) ∙ ap (signed (nat_eq (suc n % 2) 0)) (sym (pow-succ' (suc a) n))

-- the power that the code is given
pub int_power : (a : ℤ) (n : ℕ) → int_pow a n ≡ power a n
int_power (pos a) n = sym (pos_power a n)
int_power (negsuc a) n = sym (neg_power a n)

sized : (a : ℤ) (n : ℕ) → unsigned_abs (power a n) ≡ unsigned_abs a ^ n
unfolding power
sized a zero = sym (pow-zero (unsigned_abs a))
sized a (suc n) = unsigned_abs-mul a (power a n) ∙ ap (λ (x : ℕ). unsigned_abs a * x) (sized a n) ∙ sym (pow-succ' (unsigned_abs a) n)

abs_fits : (z : ℤ) → FitsSigned w64 z → unsigned_abs z ≤ 2 ^ 63
abs_fits (pos n) f = omega (arith, f.sfits)
abs_fits (negsuc n) f = omega (arith, f.sfits)

-- a number other than 0, 1 and -1 has no 64th power that fits, and no later one
unfit : (a : ℤ) (n : ℕ) → 2 ≤ unsigned_abs a → 64 ≤ n → FitsSigned w64 (power a n) → Prim.⊥
unfit a n h l f = let least : 2 ^ 64 ≤ 2 ^ n = pow-le-pow_right {n = 2} (omega arith) l in
    let more : 2 ^ n ≤ unsigned_abs a ^ n = pow-le-pow_left h n in
    let most = abs_fits (power a n) f in
    let is = sized a n in
    omega arith

zero_power : (n : ℕ) → power (pos 0) (suc n) ≡ pos 0
unfolding power
zero_power n = zero-*ℤ (power (pos 0) n)

one_power : (n : ℕ) → power (pos 1) n ≡ pos 1
one_power n = pos_power 1 n ∙ ap pos (one n)
  where
    one : (k : ℕ) → 1 ^ k ≡ 1
    one zero = pow-zero 1
    one (suc k) = pow-succ' 1 k ∙ rw (one k) refl

minus_one_power : (m n : ℕ) → m % 2 ≡ n % 2 → power (negsuc 0) m ≡ power (negsuc 0) n
minus_one_power m n e = neg_power 0 m ∙ ap (λ (k : ℕ). signed (nat_eq k 0) (1 ^ m)) e ∙ ap (signed (nat_eq (n % 2) 0)) (one m ∙ sym (one n)) ∙ sym (neg_power 0 n)
  where
    one : (k : ℕ) → 1 ^ k ≡ 1
    one zero = pow-zero 1
    one (suc k) = pow-succ' 1 k ∙ rw (one k) refl

after_zero : (n : ℕ) → 0 < n → power (pos 0) n ≡ pos 0
after_zero zero h = absurd (omega arith)
after_zero (suc n) h = zero_power n

later : (a : ℤ) (m n : ℕ) → 64 ≤ m → 64 ≤ n → m % 2 ≡ n % 2 → (power a m ≡ power a n) ⊎ ((FitsSigned w64 (power a m) → Prim.⊥) × (FitsSigned w64 (power a n) → Prim.⊥))
later (pos zero) m n h k e = inl (after_zero m (omega arith) ∙ sym (after_zero n (omega arith)))
later (pos (suc zero)) m n h k e = inl (one_power m ∙ sym (one_power n))
later (pos (suc (suc a))) m n h k e = inr (unfit (pos (suc (suc a))) m (omega arith) h, unfit (pos (suc (suc a))) n (omega arith) k)
later (negsuc zero) m n h k e = inl (minus_one_power m n e)
later (negsuc (suc a)) m n h k e = inr (unfit (negsuc (suc a)) m (omega arith) h, unfit (negsuc (suc a)) n (omega arith) k)

carried : (x y : ℤ) (r : Result ℤ ArithmeticFault) → (x ≡ y) ⊎ ((FitsSigned w64 x → Prim.⊥) × (FitsSigned w64 y → Prim.⊥)) → IfOk r (λ p. FitsSigned w64 p) → IsChecked r x → IsChecked r y
carried x y r (inl e) f c = subst (IsChecked r) e c
carried x y (Ok p) (inr u) f c = absurd (u.0 (subst (FitsSigned w64) c f))
carried x y (Err e) (inr u) f c = (c.0, u.1)

-- the power by the reduced exponent is the power
pub reduced_power : (a : ℤ) (n : ℕ) (r : Result ℤ ArithmeticFault) → IfOk r (λ p. FitsSigned w64 p) → IsChecked r (power a (reduced n)) → IsChecked r (power a n)
reduced_power a n r f c = elim (cases_lt n 64) [
  | inl small ↦ subst (λ (m : ℕ). IsChecked r (power a m)) (at_small small) c
  | inr big ↦ carried (power a (64 + n % 2)) (power a n) r (later a (64 + n % 2) n (omega arith) big (even_stays n)) f (subst (λ (m : ℕ). IsChecked r (power a m)) (at_big big) c)
]
  where
    at_small : n < 64 → reduced n ≡ n
    at_small h = rw (lt-ltb n 64 h) refl

    at_big : 64 ≤ n → reduced n ≡ 64 + n % 2
    at_big h = rw (le-ltb n 64 h) refl

    even_stays : (k : ℕ) → (64 + k % 2) % 2 ≡ k % 2
    even_stays k = omega arith

pub checked_power : (b a : ℤ) (n : ℕ) (r : Result ℤ ArithmeticFault) → b ≡ a → IsChecked r (int_pow b n) → IsChecked r (power a n)
checked_power b a n r e c = subst (IsChecked r) (ap (λ (x : ℤ). int_pow x n) e ∙ int_power a n) c
