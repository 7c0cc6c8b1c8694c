-- The one pair of a quotient and a remainder.
use Rattle.std.specs.Prelude.{◌≡◌, zero, suc, Bool, true, false, ℤ, pos, negsuc, ◌+ℤ◌, ◌*ℤ◌, ◌≤ℤ◌}
use Rattle.std.specs.Prelude.{◌<ℤ◌}

-- r is zero, or has the sign of the divisor and is smaller in size
abbrev pub IsRemainder : ℤ → ℤ → Type 0
IsRemainder (pos b) r = (pos 0 ≤ℤ r) × (r <ℤ pos b)
IsRemainder (negsuc b) r = (negsuc b <ℤ r) × (r ≤ℤ pos 0)

-- a is q times the divisor b, and r is left: no other pair is so
pub record IsDivision (a b q r : ℤ) : Type 0 where
  pub whole : a ≡ (q *ℤ b) +ℤ r
  pub rest : IsRemainder b r

-- a divisor other than zero divides in one way, and zero in none
abbrev pub OneDivision : Type 0
OneDivision = (a b : ℤ) → (b ≡ pos 0 → (q r : ℤ) → IsDivision a b q r → Prim.⊥)
    × ((b ≡ pos 0 → Prim.⊥) → (q : ℤ) × (r : ℤ) × IsDivision a b q r ×
    ((p s : ℤ) → IsDivision a b p s → (p ≡ q) × (s ≡ r)))

-- whether a rest is neither zero nor of the divisor's sign
abbrev pub is_across : ℤ → ℤ → Bool
is_across (pos b) (pos r) = false
is_across (pos b) (negsuc r) = true
is_across (negsuc b) (pos zero) = false
is_across (negsuc b) (pos (suc r)) = true
is_across (negsuc b) (negsuc r) = false
