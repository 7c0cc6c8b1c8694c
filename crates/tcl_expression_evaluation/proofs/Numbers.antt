-- From what the operators on 64 bits ensure to the functions on unbounded numbers.
use Rattle.std.proofs.Common.{◌≡◌, ◌∙◌, sym, ap, subst, refl, ℕ, zero, suc, ◌^◌, ◌<◌, Bool, true, false, cond, ℤ, pos, negsuc, ◌+ℤ◌, ◌-ℤ◌, ◌*ℤ◌, ◌<ℤ◌, FitsSigned, w64, arith, Result, Ok, Err, IfOk, IfErr}
use Rattle.std.proofs.lemmas.Bool.Decides.{nat_tests}
use Rattle.std.proofs.lemmas.Int.{ints}
use Rattle.std.proofs.Math.IntN.{neg_ℤ}
use Rattle.std.proofs.Math.Nat.{two-pow-succ}
use Rattle.std.specs.Int.Signed.{shr_z}
use Rattle.tcl_text.specs.Numbers.{fits_64}
use Rattle.tcl_arithmetic.specs.declared.ArithmeticFault.{ArithmeticFault}
use Rattle.tcl_arithmetic.specs.declared.ArithmeticFault.TheVariants.{Overflow, DivideByZero, NegativeShift}
use Rattle.tcl_arithmetic.specs.Division.{IsDivision}
use Rattle.tcl_arithmetic.specs.Digits.{digit}
use Rattle.tcl_arithmetic.specs.Results.{IsChecked}
use Rattle.tcl_arithmetic.proofs.Shifts.{shifted}
use Rattle.tcl_arithmetic.proofs.Divisions.{one_division, opposite}
use Rattle.tcl_arithmetic.proofs.DigitLaws.{same_number}
use Rattle.tcl_expression_evaluation.specs.WholeNumbers.{floor, quotient_of, remainder_of, divided, shifted_right, Divides, checked, in_range}

-- ## Fitting 64 bits

pub fits : (n : ℤ) → FitsSigned w64 n → fits_64 n ≡ true
fits (pos n) h = let small : n < 2 ^ 63 = omega (arith, h.sfits) in grind (arith, nat_tests)
fits (negsuc n) h = let small : n < 2 ^ 63 = omega (arith, h.sfits) in grind (arith, nat_tests)

back : (n : ℤ) → fits_64 n ≡ true → FitsSigned w64 n
back (pos n) h = let small : n < 2 ^ 63 = grind (arith, nat_tests) in record { sfits = omega arith }
back (negsuc n) h = let small : n < 2 ^ 63 = grind (arith, nat_tests) in record { sfits = omega arith }

passes : (t : Bool) (n : ℤ) → t ≡ true → ◌≡◌ {A = Result ℤ ArithmeticFault} (cond t (Ok n) (Err Overflow)) (Ok n)
passes true n h = refl
passes false n h = absurd (cc)

stops : (t : Bool) (n : ℤ) → (t ≡ true → Prim.⊥) → ◌≡◌ {A = Result ℤ ArithmeticFault} (cond t (Ok n) (Err Overflow)) (Err Overflow)
stops true n h = absurd (h refl)
stops false n h = refl

pub passed : (n : ℤ) → FitsSigned w64 n → checked n ≡ Ok n
passed n h = passes (fits_64 n) n (fits n h)

pub stopped : (n : ℤ) → (FitsSigned w64 n → Prim.⊥) → checked n ≡ Err Overflow
stopped n h = stops (fits_64 n) n (λ e. h (back n e))

-- what fits, of a result
abbrev pub AllFit : Result ℤ ArithmeticFault → Type 0
AllFit r = IfOk r (λ n. FitsSigned w64 n)

pub checked_is : (r : Result ℤ ArithmeticFault) (z : ℤ) → AllFit r → IsChecked r z → r ≡ checked z
checked_is (Ok n) z f h = sym (passed n f) ∙ ap checked h
checked_is (Err e) z f h = ap Err h.0 ∙ sym (stopped z h.1)

-- ## Quotients

floor_is : (a : ℤ) (d : ℕ) → shr_z a d ≡ floor a d
floor_is (pos a) d = refl
floor_is (negsuc a) d = refl

left_over : (a b q r : ℤ) → IsDivision a b q r → r ≡ a -ℤ (q *ℤ b)
left_over a b q r d = let w : a ≡ (q *ℤ b) +ℤ r = d.whole in omega (arith, ints)

exact : (a b q r : ℤ) → IsDivision a b q r → IsDivision a b q (a -ℤ (q *ℤ b))
exact a b q r d = subst (IsDivision a b q) (left_over a b q r d) d

pub floors : (a : ℤ) (d : ℕ) → 0 < d → (r : ℤ) × IsDivision a (pos d) (floor a d) r
floors a d h = let s = shifted a d h in (s.0, subst (λ (q : ℤ). IsDivision a (pos d) q s.0) (floor_is a d) s.1)

pub divides : Divides
divides a (pos zero) h = absurd (h refl)
divides a (pos (suc b)) h = let d = floors a (suc b) (omega arith) in exact a (pos (suc b)) (floor a (suc b)) d.0 d.1
divides a (negsuc b) h = let d = floors (neg_ℤ a) (suc b) (omega arith) in
    exact a (negsuc b) (floor (neg_ℤ a) (suc b)) (neg_ℤ d.0) (opposite a (floor (neg_ℤ a) (suc b)) d.0 b d.1)

pub one_pair : (a b q r : ℤ) → (b ≡ pos 0 → Prim.⊥) → IsDivision a b q r → (q ≡ quotient_of a b) × (r ≡ remainder_of a b)
one_pair a b q r h d = let one = (one_division a b).1 h in
    let mine = one.3 q r d in
    let theirs = one.3 (quotient_of a b) (remainder_of a b) (divides a b h) in
    (mine.0 ∙ sym theirs.0, mine.1 ∙ sym theirs.1)

none_by_zero : (a q r : ℤ) → IsDivision a (pos 0) q r → Prim.⊥
none_by_zero a q r d = (one_division a (pos 0)).0 refl q r d

-- how the code's divisions end
abbrev pub IsQuotient : ℤ → ℤ → Result ℤ ArithmeticFault → Type 0
IsQuotient a b r = IfOk r (λ q. (s : ℤ) × IsDivision a b q s)

abbrev pub IsNoQuotient : ℤ → ℤ → Result ℤ ArithmeticFault → Type 0
IsNoQuotient a b r = IfErr r (λ e. (b ≡ pos 0 → Prim.⊥) → (e ≡ Overflow) × ((q s : ℤ) → IsDivision a b q s → FitsSigned w64 q → Prim.⊥))

some_quotient : (r : Result ℤ ArithmeticFault) (a b : ℤ) → (b ≡ pos 0 → Prim.⊥) → AllFit r → IsQuotient a b r → IsNoQuotient a b r → r ≡ checked (quotient_of a b)
some_quotient (Ok q) a b s f h n = sym (passed q f) ∙ ap checked (one_pair a b q h.0 s h.1).0
some_quotient (Err e) a b s f h n = let g = n s in ap Err g.0 ∙ sym (stopped (quotient_of a b) (g.1 (quotient_of a b) (remainder_of a b) (divides a b s)))

pub quotient_is : (r : Result ℤ ArithmeticFault) (a b : ℤ) → AllFit r → IsQuotient a b r → IsNoQuotient a b r → (b ≡ pos 0 → r ≡ Err DivideByZero) → r ≡ in_range (divided b (quotient_of a b))
quotient_is r a (pos zero) f h n z = z refl
quotient_is r a (pos (suc b)) f h n z = some_quotient r a (pos (suc b)) (λ e. absurd (omega (arith, ints))) f h n
quotient_is r a (negsuc b) f h n z = some_quotient r a (negsuc b) (λ e. absurd (omega (arith, ints))) f h n

abbrev pub IsRest : ℤ → ℤ → Result ℤ ArithmeticFault → Type 0
IsRest a b r = IfOk r (λ s. (q : ℤ) × IsDivision a b q s)

abbrev pub IsNoRest : ℤ → Result ℤ ArithmeticFault → Type 0
IsNoRest b r = IfErr r (λ e. (e ≡ DivideByZero) × (b ≡ pos 0))

some_rest : (r : Result ℤ ArithmeticFault) (a b : ℤ) → (b ≡ pos 0 → Prim.⊥) → AllFit r → IsRest a b r → IsNoRest b r → r ≡ checked (remainder_of a b)
some_rest (Ok r) a b s f h n = sym (passed r f) ∙ ap checked (one_pair a b h.0 r s h.1).1
some_rest (Err e) a b s f h n = absurd (s n.1)

pub rest_is : (r : Result ℤ ArithmeticFault) (a b : ℤ) → AllFit r → IsRest a b r → IsNoRest b r → r ≡ in_range (divided b (remainder_of a b))
rest_is (Ok r) a (pos zero) f h n = absurd (none_by_zero a h.0 r h.1)
rest_is (Err e) a (pos zero) f h n = ap Err n.0
rest_is r a (pos (suc b)) f h n = some_rest r a (pos (suc b)) (λ e. absurd (omega (arith, ints))) f h n
rest_is r a (negsuc b) f h n = some_rest r a (negsuc b) (λ e. absurd (omega (arith, ints))) f h n

abbrev pub IsHalved : ℤ → ℕ → Result ℤ ArithmeticFault → Type 0
IsHalved a n r = IfOk r (λ q. (s : ℤ) × IsDivision a (pos (2 ^ n)) q s)

abbrev pub IsNoShift : ℤ → Result ℤ ArithmeticFault → Type 0
IsNoShift places r = IfErr r (λ e. (e ≡ NegativeShift) × (places <ℤ pos 0))

some_power : (n : ℕ) → 0 < 2 ^ n
some_power zero = omega arith
some_power (suc n) = let ih = some_power n in let twice = two-pow-succ n in omega arith

pub shifted_is : (r : Result ℤ ArithmeticFault) (a places : ℤ) → AllFit r → ((n : ℕ) → places ≡ pos n → IsHalved a n r) → (places <ℤ pos 0 → r ≡ Err NegativeShift) → IsNoShift places r → r ≡ in_range (shifted_right a places)
shifted_is (Ok q) a (pos n) f h z s = let g = h n refl in
    sym (passed q f) ∙ ap checked (one_pair a (pos (2 ^ n)) q g.0 (λ e. let p : 0 < 2 ^ n = some_power n in absurd (omega (arith, ints))) g.1).0
shifted_is (Err e) a (pos n) f h z s = let below = s.1 in absurd (omega (arith, ints))
shifted_is r a (negsuc n) f h z s = z (omega (arith, ints))

-- ## Digits

pub same_digits : (r z : ℤ) → FitsSigned w64 r → ((i : ℕ) → digit r i ≡ digit z i) → ◌≡◌ {A = Result ℤ ArithmeticFault} (Ok r) (checked z)
same_digits r z f h = sym (passed r f) ∙ ap checked (same_number r z h)
