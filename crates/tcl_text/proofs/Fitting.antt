-- Numbers that fit in 64 bits.
use Rattle.std.proofs.Common.{◌≡◌, ℕ, ℤ, pos, negsuc, Bool, true, false, cond, ◌<◌, ◌≤◌, ◌^◌, ◌-ℤ◌, Option, Some, None, refl, subst, ◌∙◌, ap, arith, FitsSigned, w64, to_z, of_z}
use Rattle.std.specs.Prelude.{Result, Ok, Err}
use Rattle.std.proofs.lemmas.Bool.Decides.{nat_tests}
use Rattle.std.proofs.lemmas.Int.{ints, to_z-of_z}
use Rattle.tcl_text.specs.Numbers.{fits_64, in_64_bits}
use Rattle.tcl_text.specs.declared.integer.IntegerFault.{IntegerFault}
use Rattle.tcl_text.specs.declared.integer.IntegerFault.TheVariants.{TooLarge}

fits_signed : (z : ℤ) → fits_64 z ≡ true → FitsSigned w64 z
fits_signed (pos n) e = let small : n < 2 ^ 63 = grind (arith, nat_tests) in omega (arith, ints)
fits_signed (negsuc n) e = let small : n < 2 ^ 63 = grind (arith, nat_tests) in omega (arith, ints)

-- an integer that was read fits
pub read_fits : (o : Option ℤ) (n : ℤ) → in_64_bits o ≡ Ok n → FitsSigned w64 n
read_fits None n e = let clash : in_64_bits None ≡ Ok n = e in cc
read_fits (Some z) n e = by (fits_64 z) refl e
  where
    by : (b : Bool) → fits_64 z ≡ b → cond b (Ok z) (Err TooLarge) ≡ Ok n → FitsSigned w64 n
    by true f g = let plain : ◌≡◌ {A = Result ℤ IntegerFault} (Ok z) (Ok n) = g in let same : z ≡ n = cc in subst (FitsSigned w64) same (fits_signed z f)
    by false f g = let clash : ◌≡◌ {A = Result ℤ IntegerFault} (Err TooLarge) (Ok n) = g in cc

-- a number that was handed on
pub handed : (o : Option ℤ) (n : ℤ) → in_64_bits o ≡ Ok n → to_z w64 (of_z w64 n) ≡ n
handed o n e = to_z-of_z w64 n (read_fits o n e)

-- the last place of so many
pub fits_last : (n : ℕ) → n ≤ 16777216 → FitsSigned w64 (pos n -ℤ pos 1)
fits_last n h = omega (arith, ints)

pub last_place_of : (n : ℕ) → n ≤ 16777216 → to_z w64 (of_z w64 (to_z w64 n -ℤ pos 1)) ≡ pos n -ℤ pos 1
last_place_of n h =
    let plain : to_z w64 n ≡ pos n = omega (arith, ints) in
    ap (λ (z : ℤ). to_z w64 (of_z w64 (z -ℤ pos 1))) plain ∙ to_z-of_z w64 (pos n -ℤ pos 1) (fits_last n h)
