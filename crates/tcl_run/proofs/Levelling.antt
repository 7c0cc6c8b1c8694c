-- What the levels come to that words name.
use Rattle.std.proofs.Common.{◌≡◌, ℕ, ℤ, pos, negsuc, Bool, true, false, ◌<◌, ◌≤◌, ◌-◌, ◌^◌, [], ◌∷◌, Option, Some, None, refl, sym, ap, arith}
use Rattle.std.proofs.lemmas.Bool.Decides.{nat_tests}
use Rattle.std.specs.Option.{option_map}
use Rattle.std.specs.Prelude.{Result, Ok, Err, cond, nat_le, ◌==◌}
use Rattle.tcl_core.specs.Paths.{Text}
use Rattle.tcl_language.specs.Variables.{level_at, level_up, level_of, where_true}
use Rattle.tcl_text.specs.Numbers.{fits_64, in_64_bits, integer_of}
use Rattle.tcl_text.specs.declared.integer.IntegerFault.{IntegerFault}
use Rattle.tcl_text.specs.declared.integer.IntegerFault.TheVariants.{TooLarge}
use Rattle.tcl_text.specs.declared.integer.Integers.{Integers}

too_far : (n current : ℕ) → current < 2 ^ 63 → fits_64 (pos n) ≡ false → nat_le n current ≡ false
too_far n current h f = let large : 2 ^ 63 ≤ n = grind (arith, nat_tests) in grind (arith, nat_tests)

-- no level has a number that takes more than 64 bits
pub level_none : (current : ℕ) (o : Option ℤ) (e : IntegerFault) → current < 2 ^ 63 → in_64_bits o ≡ Err e → None ≡ level_at current o
level_none current None e h f = refl
level_none current (Some (negsuc n)) e h f = refl
level_none current (Some (pos n)) e h f = by (fits_64 (pos n)) refl f
  where
    by : (b : Bool) → fits_64 (pos n) ≡ b → cond b (Ok (pos n)) (Err TooLarge) ≡ Err e → None ≡ where_true (nat_le n current) n
    by true g k = let clash : ◌≡◌ {A = Result ℤ IntegerFault} (Ok (pos n)) (Err e) = k in cc
    by false g k = ap (λ b. where_true b n) (sym (too_far n current h g))

-- so many levels up
up_where : (b : Bool) (current n : ℕ) → where_true b (current - n) ≡ option_map (λ m. current - m) (where_true b n)
up_where true current n = refl
up_where false current n = refl

pub up_is : (current : ℕ) (o : Option ℤ) → level_up current o ≡ option_map (λ m. current - m) (level_at current o)
up_is current None = refl
up_is current (Some (negsuc n)) = refl
up_is current (Some (pos n)) = up_where (nat_le n current) current n

-- a level that there is isn't above the one that runs
pub level_within : (current : ℕ) (o : Option ℤ) (n : ℕ) → Some n ≡ level_at current o → n ≤ current
level_within current None n e = let clash : Some n ≡ None = e in cc
level_within current (Some (negsuc m)) n e = let clash : Some n ≡ None = e in cc
level_within current (Some (pos m)) n e = by (nat_le m current) refl e
  where
    by : (b : Bool) → nat_le m current ≡ b → Some n ≡ where_true b m → n ≤ current
    by true f g = let same : n ≡ m = cc in grind (arith, nat_tests)
    by false f g = let clash : Some n ≡ None = g in cc

pub signed_is : (style : Integers) (current : ℕ) (word rest : Text) → word ≡ 35 ∷ rest → level_of style current word ≡ level_at current (integer_of style rest)
signed_is style current word rest e = ap (level_of style current) e

pub plain_is : (style : Integers) (current : ℕ) (word : Text) → ((rest : Text) → word ≡ 35 ∷ rest → ⊥) → level_of style current word ≡ level_up current (integer_of style word)
plain_is style current [] h = refl
plain_is style current (c ∷ cs) h = by (c == 35) refl
  where
    by : (b : Bool) → (c == 35) ≡ b → cond b (level_at current (integer_of style cs)) (level_up current (integer_of style (c ∷ cs))) ≡ level_up current (integer_of style (c ∷ cs))
    by true f = let same : c ≡ 35 = grind (arith, nat_tests) in absurd (h cs (ap (λ x. x ∷ cs) same))
    by false f = refl
