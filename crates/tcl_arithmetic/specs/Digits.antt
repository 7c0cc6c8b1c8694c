-- The digits of a whole number in two's complement, which don't end: those of a number from 0 up
-- end in zeros, and those of one below 0 in ones.
use Rattle.std.specs.Prelude.{◌≡◌, ℕ, ◌-◌, ℤ, pos, negsuc}
use Rattle.std.specs.Int.{bit_at}

-- the digit that counts for 2 ^ i: -1 - n has the other digit of n at each place
abbrev pub digit : ℤ → ℕ → ℕ
digit (pos n) i = bit_at n i
digit (negsuc n) i = 1 - bit_at n i

-- numbers of the same digits are the same
abbrev pub DigitsTell : Type 0
DigitsTell = (a b : ℤ) → ((i : ℕ) → digit a i ≡ digit b i) → a ≡ b
