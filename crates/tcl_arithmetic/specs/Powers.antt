-- Powers, as products.
use Rattle.std.specs.Prelude.{ℕ, zero, suc, ◌+◌, ◌%◌, nat_lt, cond, ℤ, pos, ◌*ℤ◌}

-- n factors a, multiplied; of none the product is 1
unfoldable pub power : ℤ → ℕ → ℤ
power a zero = pos 1
power a (suc n) = a *ℤ power a n

-- an exponent that does as well, where 64 bits are to hold the power
abbrev pub reduced : ℕ → ℕ
reduced n = cond (nat_lt n 64) n (64 + n % 2)
