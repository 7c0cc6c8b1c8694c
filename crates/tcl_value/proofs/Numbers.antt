-- How long the texts of numbers are.
use Rattle.std.proofs.Common.{◌≤◌, ℤ, pos, negsuc, suc, length, arith, FitsSigned, w64}
use Rattle.std.specs.Fmt.{signed_decimal}
use Rattle.std.proofs.lemmas.Fmt.{length-decimal-le}

pub digits_at_most : (z : ℤ) → FitsSigned w64 z → length (signed_decimal z) ≤ 21
digits_at_most (pos n) h = omega (arith, length-decimal-le 20 n (omega arith) (omega arith) (omega arith))
digits_at_most (negsuc n) h = omega (arith, length-decimal-le 20 (suc n) (omega arith) (omega arith) (omega arith))
