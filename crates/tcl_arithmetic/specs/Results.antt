-- Results that have to fit 64 bits.
use Rattle.std.specs.Prelude.{◌≡◌, ℤ, Result, Ok, Err, FitsSigned}
use Rattle.std.specs.Int.{w64}
use Rattle.tcl_arithmetic.specs.declared.ArithmeticFault.{ArithmeticFault}
use Rattle.tcl_arithmetic.specs.declared.ArithmeticFault.TheVariants.{Overflow}

-- the mathematical result z where that fits, and otherwise an overflow
abbrev pub IsChecked : Result ℤ ArithmeticFault → ℤ → Type 0
IsChecked (Ok n) z = n ≡ z
IsChecked (Err e) z = (e ≡ Overflow) × (FitsSigned w64 z → Prim.⊥)
