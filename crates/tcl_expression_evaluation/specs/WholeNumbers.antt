-- What operators make of whole numbers of any size.
use Rattle.std.specs.Prelude.{◌≡◌, ℕ, zero, suc, ◌+◌, ◌-◌, ◌/◌, ◌%◌, ◌^◌, min, max, ℤ, pos, negsuc}
use Rattle.std.specs.Prelude.{neg_ℤ, ◌+ℤ◌, ◌-ℤ◌, ◌*ℤ◌, cond, Result, Ok, Err, bit_and, bit_or}
use Rattle.std.specs.Prelude.{bit_xor}
use Rattle.tcl_arithmetic.specs.declared.ArithmeticFault.{ArithmeticFault}
use Rattle.tcl_arithmetic.specs.declared.ArithmeticFault.TheVariants.{Overflow, DivideByZero}
use Rattle.tcl_arithmetic.specs.declared.ArithmeticFault.TheVariants.{NegativeShift}
use Rattle.tcl_arithmetic.specs.declared.ArithmeticFault.TheVariants.{NegativeExponent}
use Rattle.tcl_arithmetic.specs.Division.{IsDivision}
use Rattle.tcl_arithmetic.specs.Digits.{digit}
use Rattle.tcl_arithmetic.specs.Powers.{power}
use Rattle.tcl_text.specs.Numbers.{fits_64}
use Rattle.tcl_expression_evaluation.specs.declared.kind.Arithmetic.{Arithmetic}
use Rattle.tcl_expression_evaluation.specs.declared.kind.Arithmetic.TheVariants.{Power, Multiply}
use Rattle.tcl_expression_evaluation.specs.declared.kind.Arithmetic.TheVariants.{Divide}
use Rattle.tcl_expression_evaluation.specs.declared.kind.Arithmetic.TheVariants.{Remainder, Add}
use Rattle.tcl_expression_evaluation.specs.declared.kind.Arithmetic.TheVariants.{Subtract}
use Rattle.tcl_expression_evaluation.specs.declared.kind.Arithmetic.TheVariants.{ShiftLeft}
use Rattle.tcl_expression_evaluation.specs.declared.kind.Arithmetic.TheVariants.{ShiftRight, BitAnd}
use Rattle.tcl_expression_evaluation.specs.declared.kind.Arithmetic.TheVariants.{BitXor, BitOr}

-- ## The one pair of a quotient and a remainder

-- a divided by a number above 0, rounded down: -1 - a is above -d - d * q and at most -1 - d * q,
-- where q is a / d
abbrev pub floor : ℤ → ℕ → ℤ
floor (pos a) d = pos (a / d)
floor (negsuc a) d = negsuc (a / d)

abbrev pub quotient_of : ℤ → ℤ → ℤ
quotient_of a (pos b) = floor a b
quotient_of a (negsuc b) = floor (neg_ℤ a) (suc b)

abbrev pub remainder_of : ℤ → ℤ → ℤ
remainder_of a b = a -ℤ (quotient_of a b *ℤ b)

-- a divisor other than zero
abbrev pub divided : ℤ → ℤ → Result ℤ ArithmeticFault
divided (pos zero) z = Err DivideByZero
divided (pos (suc b)) z = Ok z
divided (negsuc b) z = Ok z

-- What they mean: their pair is the one that divides.
abbrev pub Divides : Type 0
Divides = (a b : ℤ) → (b ≡ pos 0 → Prim.⊥) → IsDivision a b (quotient_of a b) (remainder_of a b)

-- ## Digits in two's complement, which don't end

abbrev pub complement_of : ℤ → ℤ
complement_of (pos n) = negsuc n
complement_of (negsuc n) = pos n

-- the digits of m that n hasn't
abbrev pub without : ℕ → ℕ → ℕ
without m n = bit_xor m (bit_and m n)

abbrev pub and_of : ℤ → ℤ → ℤ
and_of (pos m) (pos n) = pos (bit_and m n)
and_of (pos m) (negsuc n) = pos (without m n)
and_of (negsuc m) (pos n) = pos (without n m)
and_of (negsuc m) (negsuc n) = negsuc (bit_or m n)

abbrev pub or_of : ℤ → ℤ → ℤ
or_of a b = complement_of (and_of (complement_of a) (complement_of b))

abbrev pub xor_of : ℤ → ℤ → ℤ
xor_of (pos m) (pos n) = pos (bit_xor m n)
xor_of (pos m) (negsuc n) = negsuc (bit_xor m n)
xor_of (negsuc m) (pos n) = negsuc (bit_xor m n)
xor_of (negsuc m) (negsuc n) = pos (bit_xor m n)

-- What they mean, digit by digit.
pub record AreDigitwise (a b : ℤ) (i : ℕ) : Type 0 where
  pub complement : digit (complement_of a) i ≡ 1 - digit a i
  pub both : digit (and_of a b) i ≡ min (digit a i) (digit b i)
  pub either : digit (or_of a b) i ≡ max (digit a i) (digit b i)
  pub one : digit (xor_of a b) i ≡ (digit a i + digit b i) % 2

abbrev pub Digitwise : Type 0
Digitwise = (a b : ℤ) (i : ℕ) → AreDigitwise a b i

-- ## Operators

abbrev pub raised : ℤ → ℤ → Result ℤ ArithmeticFault
raised a (pos n) = Ok (power a n)
raised a (negsuc n) = Err NegativeExponent

abbrev pub shifted_left : ℤ → ℤ → Result ℤ ArithmeticFault
shifted_left a (pos n) = Ok (a *ℤ pos (2 ^ n))
shifted_left a (negsuc n) = Err NegativeShift

abbrev pub shifted_right : ℤ → ℤ → Result ℤ ArithmeticFault
shifted_right a (pos n) = Ok (floor a (2 ^ n))
shifted_right a (negsuc n) = Err NegativeShift

-- the number that an operator makes of two, where it makes one
abbrev pub computed : Arithmetic → ℤ → ℤ → Result ℤ ArithmeticFault
computed Power a b = raised a b
computed Multiply a b = Ok (a *ℤ b)
computed Divide a b = divided b (quotient_of a b)
computed Remainder a b = divided b (remainder_of a b)
computed Add a b = Ok (a +ℤ b)
computed Subtract a b = Ok (a -ℤ b)
computed ShiftLeft a b = shifted_left a b
computed ShiftRight a b = shifted_right a b
computed BitAnd a b = Ok (and_of a b)
computed BitXor a b = Ok (xor_of a b)
computed BitOr a b = Ok (or_of a b)

-- a number that has to fit 64 bits
abbrev pub checked : ℤ → Result ℤ ArithmeticFault
checked z = cond (fits_64 z) (Ok z) (Err Overflow)

abbrev pub in_range : Result ℤ ArithmeticFault → Result ℤ ArithmeticFault
in_range (Ok z) = checked z
in_range (Err fault) = Err fault
