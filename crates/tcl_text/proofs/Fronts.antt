-- The longest front of a text that passes a test, and numbers at the head of a text.
use Rattle.std.proofs.Common.{not, IsCharBoundary, ◌≡◌, ℕ, zero, suc, ◌+◌, ◌*◌, ◌<◌, ◌≤◌, Bool, true, false, List, length, get_or, take, sym, ◌∙◌, subst, inl, inr, arith, le-leb, add-one, mul-le-mul_left}
use Rattle.std.specs.List.{prefix_len}
use Rattle.std.specs.Char.{is_digit, digit_value}
use Rattle.std.specs.Str.Parse.{digits_value}
use Rattle.std.proofs.lemmas.List.Sums.{prefix_len-le-length, prefix_len_passes, prefix_len_stops, prefix_len_is}
use Rattle.std.proofs.lemmas.Bool.Decides.{nat_tests}
use Rattle.std.proofs.lemmas.Bool.{lt-ltb, ltb-true, and_parts, and_from, cases_lt, cases_eq, cases_Bool, leb-true, false≢true}
use Rattle.std.proofs.lemmas.Int.Digits.{digits_value_more}
use Rattle.std.proofs.lemmas.Str.{IsCharBoundary-before_ascii, IsCharBoundary-end}
use Rattle.tcl_text.specs.Reading.{is_plain, stop_test}
use Rattle.tcl_text.specs.declared.list.UnitEnd.{UnitEnd}
use Rattle.tcl_text.specs.declared.list.UnitEnd.TheVariants.{White, Quote}
use Rattle.tcl_text.specs.Lists.{is_white}
use Rattle.tcl_text.specs.Backslash.{is_number, number_len, is_blank}

-- one more element passes
pub prefix_len_grows : (p : ℕ → Bool) (s : List ℕ) (n : ℕ) → n ≤ prefix_len p s → n < length s → p (get_or s n 0) ≡ true → n + 1 ≤ prefix_len p s
prefix_len_grows p s n h l e =
    elim (cases_lt n (prefix_len p s)) [
      | inl lt ↦ omega arith
      | inr le ↦
          let same : n ≡ prefix_len p s = omega arith in
          let stop = prefix_len_stops p s 0 (subst (λ k. k < length s) same l) in
          let here : p (get_or s n 0) ≡ false = subst (λ k. p (get_or s k 0) ≡ false) (sym same) stop in
          absurd (false≢true (sym here ∙ e))
    ]

-- no more element passes
pub prefix_len_ends : (p : ℕ → Bool) (s : List ℕ) (n : ℕ) → n ≤ prefix_len p s → (n < length s → p (get_or s n 0) ≡ false) → prefix_len p s ≡ n
prefix_len_ends p s n h e =
    prefix_len_is p s n 0 (omega (arith, prefix_len-le-length p s)) (λ k lt. prefix_len_passes p s k 0 (omega arith)) e

-- the digits at the head make a number that isn't too great
pub record Number (base greatest n : ℕ) (s : List ℕ) : Type 0 where
  pub digits : n ≤ prefix_len (λ b. is_digit b base) s
  pub small : digits_value base (take n s) ≤ greatest

pub number_parts : (base greatest n : ℕ) (s : List ℕ) → is_number base greatest n s ≡ true → Number base greatest n s
number_parts base greatest n s h =
    let p = and_parts _ _ h in
    record { digits = leb-true _ _ p.0; small = leb-true _ _ p.1 }

pub number_holds : (base greatest n : ℕ) (s : List ℕ) → Number base greatest n s → is_number base greatest n s ≡ true
number_holds base greatest n s h = and_from _ _ (le-leb _ _ h.digits) (le-leb _ _ h.small)

grows : (a base d : ℕ) → 1 ≤ base → a ≤ a * base + d
grows a base d h = omega (arith, mul-le-mul_left a h)

pub number_shorter : (base greatest n : ℕ) (s : List ℕ) → 1 ≤ base → Number base greatest (suc n) s → Number base greatest n s
number_shorter base greatest n s one h =
    let d = h.digits in
    let l : n < length s = omega (arith, prefix_len-le-length (λ b. is_digit b base) s) in
    let more = digits_value_more base s n l in
    let more : digits_value base (take (suc n) s) ≡ digits_value base (take n s) * base + digit_value (get_or s n 0) = subst (λ k. digits_value base (take k s) ≡ digits_value base (take n s) * base + digit_value (get_or s n 0)) (add-one n) more in
    let small = h.small in
    let up = grows (digits_value base (take n s)) base (digit_value (get_or s n 0)) one in
    record { digits = omega arith; small = omega arith }

pub number_down : (base greatest k n : ℕ) (s : List ℕ) → 1 ≤ base → n ≤ k → Number base greatest k s → Number base greatest n s
number_down base greatest zero n s one le h = subst (λ m. Number base greatest m s) (omega arith) h
number_down base greatest (suc k) n s one le h =
    elim (cases_eq n (suc k)) [
      | inl same ↦ subst (λ m. Number base greatest m s) (sym same) h
      | inr other ↦ number_down base greatest k n s one (omega arith) (number_shorter base greatest k s one h)
    ]

-- a number that can't be longer is as long as it can be
pub number_len_is : (base greatest width n : ℕ) (s : List ℕ) → 1 ≤ base → n ≤ width → Number base greatest n s → (n < width → Number base greatest (suc n) s → ⊥) → number_len width base greatest s ≡ n
unfolding number_len
number_len_is base greatest zero n s one le h stop = omega arith
number_len_is base greatest (suc width) n s one le h stop =
    elim (cases_eq n (suc width)) [
      | inl same ↦
          let holds : is_number base greatest (suc width) s ≡ true = number_holds base greatest (suc width) s (subst (λ m. Number base greatest m s) same h) in
          rw holds (sym same)
      | inr other ↦
          elim (cases_Bool (is_number base greatest (suc width) s)) [
            | inl holds ↦ absurd (stop (omega arith) (number_down base greatest (suc width) (suc n) s one (omega arith) (number_parts base greatest (suc width) s holds)))
            | inr fails ↦ rw fails (number_len_is base greatest width n s one (omega arith) h (λ l. stop (omega arith)))
          ]
    ]

pub number_len-le : (base greatest width : ℕ) (s : List ℕ) → (number_len width base greatest s ≤ width) × (number_len width base greatest s ≤ length s)
unfolding number_len
number_len-le base greatest zero s = (omega arith, omega arith)
number_len-le base greatest (suc width) s =
    elim (cases_Bool (is_number base greatest (suc width) s)) [
      | inl holds ↦
          let d = (number_parts base greatest (suc width) s holds).digits in
          rw holds (omega arith, omega (arith, prefix_len-le-length (λ b. is_digit b base) s))
      | inr fails ↦
          let h = number_len-le base greatest width s in
          rw fails (omega arith, h.1)
    ]

pub digit_is_ascii : (b base : ℕ) → base ≤ 16 → digit_value b < base → b < 128
digit_is_ascii b base small h = grind (arith, nat_tests)

-- a digit more
pub number_more : (base greatest n b value : ℕ) (s : List ℕ) → n < length s → get_or s n 0 ≡ b → n ≤ prefix_len (λ c. is_digit c base) s → digit_value b < base → value ≡ digits_value base (take n s) →
    (n + 1 ≤ prefix_len (λ c. is_digit c base) s) × (value * base + digit_value b ≡ digits_value base (take (n + 1) s))
number_more base greatest n b value s l at h d v =
    let holds : is_digit (get_or s n 0) base ≡ true = lt-ltb _ _ (subst (λ x. digit_value x < base) (sym at) d) in
    let more = digits_value_more base s n l in (
      prefix_len_grows (λ c. is_digit c base) s n h l holds,
      sym (more ∙ (λ i. sym v i * base + digit_value (at i))),
    )

-- no digit more
pub no_digit_more : (base greatest n b : ℕ) (s : List ℕ) → n < length s → get_or s n 0 ≡ b → (digit_value b < base → ⊥) → Number base greatest (suc n) s → ⊥
no_digit_more base greatest n b s l at never h =
    let holds = prefix_len_passes (λ c. is_digit c base) s n 0 (omega (arith, h.digits)) in
    never (subst (λ x. digit_value x < base) at (ltb-true _ _ holds))

pub too_great_more : (base greatest n b value : ℕ) (s : List ℕ) → n < length s → get_or s n 0 ≡ b → value ≡ digits_value base (take n s) → greatest < value * base + digit_value b → Number base greatest (suc n) s → ⊥
too_great_more base greatest n b value s l at v great h =
    let more = digits_value_more base s n l in
    let more : digits_value base (take (suc n) s) ≡ digits_value base (take n s) * base + digit_value (get_or s n 0) = subst (λ k. digits_value base (take k s) ≡ digits_value base (take n s) * base + digit_value (get_or s n 0)) (add-one n) more in
    let same : value * base + digit_value b ≡ digits_value base (take (suc n) s) = sym (more ∙ (λ i. sym v i * base + digit_value (at i))) in
    let small = h.small in
    omega arith

pub ends_more : (base greatest n : ℕ) (s : List ℕ) → length s ≤ n → Number base greatest (suc n) s → ⊥
ends_more base greatest n s l h = let d = h.digits in omega (arith, prefix_len-le-length (λ b. is_digit b base) s)

pub blank_is_ascii : (b : ℕ) → is_blank b ≡ true → b < 128
blank_is_ascii b h = grind (arith, nat_tests)

pub white_is_ascii : (b : ℕ) → is_white b ≡ true → b < 128
white_is_ascii b h = grind (arith, nat_tests)

stop_is_ascii : (stop : UnitEnd) (b : ℕ) → is_plain (stop_test stop) b ≡ false → b < 128
stop_is_ascii White b h = grind (arith, nat_tests)
stop_is_ascii Quote b h = grind (arith, nat_tests)

-- what isn't plain is ASCII, and a text may be cut before it
pub stop_boundary : (stop : UnitEnd) (s : List ℕ) → IsCharBoundary s (prefix_len (is_plain (stop_test stop)) s)
stop_boundary stop s =
    let p : ℕ → Bool = is_plain (stop_test stop) in
    let n : ℕ = prefix_len p s in
    elim (cases_lt n (length s)) [
      | inl low ↦ IsCharBoundary-before_ascii s n low (stop_is_ascii stop (get_or s n 0) (prefix_len_stops p s 0 low))
      | inr high ↦ subst (IsCharBoundary s) (let e : length s ≡ n = omega (arith, prefix_len-le-length p s) in e) (IsCharBoundary-end s)
    ]

dark_is_ascii : (b : ℕ) → not (is_white b) ≡ false → b < 128
dark_is_ascii b h = grind (arith, nat_tests)

pub dark_boundary : (s : List ℕ) → IsCharBoundary s (prefix_len (λ b. not (is_white b)) s)
dark_boundary s =
    let p : ℕ → Bool = λ b. not (is_white b) in
    let n : ℕ = prefix_len p s in
    elim (cases_lt n (length s)) [
      | inl low ↦ IsCharBoundary-before_ascii s n low (dark_is_ascii (get_or s n 0) (prefix_len_stops p s 0 low))
      | inr high ↦ subst (IsCharBoundary s) (let e : length s ≡ n = omega (arith, prefix_len-le-length p s) in e) (IsCharBoundary-end s)
    ]
