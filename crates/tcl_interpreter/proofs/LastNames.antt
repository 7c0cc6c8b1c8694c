-- The last names of a path.
use Rattle.std.proofs.Common.{◌≡◌, ℕ, zero, suc, ◌+◌, ◌-◌, ◌<◌, ◌≤◌, Bool, true, false, List, [], ◌∷◌, ◌++◌, length, length-drop, drop, take, take-append-drop, take_all, refl, sym, ◌∙◌, ap, subst, Option, Some, None, arith}
use Rattle.std.specs.Prelude.{nat_le}
use Rattle.std.proofs.lemmas.Bool.Decides.{nat_tests}
use Rattle.std.proofs.lemmas.Option.{same_Some}
use Rattle.tcl_core.specs.Paths.{falls, rise, shorter, together}
use Rattle.tcl_interpreter.specs.Paths.{Text, Path, ancestor}
use Rattle.tcl_interpreter.proofs.AliasLemmas.{way_leads}
use Rattle.tcl_interpreter.proofs.PathLemmas.{rise_is}

-- a path is what is so many levels above it, and its last names
all_of : (n : ℕ) (x : Text) (xs : Path) → length xs < n → falls n (x ∷ xs) ≡ x ∷ xs
all_of n x xs h = ap (λ (b : Bool). shorter b (falls n xs) (x ∷ xs)) (by (nat_le n (length xs)) refl)
  where
    by : (b : Bool) → nat_le n (length xs) ≡ b → b ≡ false
    by true e = absurd (grind (arith, nat_tests))
    by false e = refl

some_of : (n : ℕ) (x : Text) (xs : Path) → n ≤ length xs → falls n (x ∷ xs) ≡ falls n xs
some_of n x xs h = ap (λ (b : Bool). shorter b (falls n xs) (x ∷ xs)) (by (nat_le n (length xs)) refl)
  where
    by : (b : Bool) → nat_le n (length xs) ≡ b → b ≡ true
    by true e = refl
    by false e = absurd (grind (arith, nat_tests))

-- the last names are what stands behind the others
pub falls_behind : (n : ℕ) (a b : Path) → length b ≡ n → falls n (a ++ b) ≡ b
falls_behind n [] [] h = refl
falls_behind n [] (y ∷ ys) h = all_of n y ys (omega arith)
falls_behind n (x ∷ a) b h = some_of n x (a ++ b) (longer a b n h) ∙ falls_behind n a b h
  where
    longer : (a b : Path) (n : ℕ) → length b ≡ n → n ≤ length (a ++ b)
    longer [] b n h = omega arith
    longer (x ∷ a) b n h = let k = longer a b n h in omega arith

-- no more than there are
pub falls_all : (n : ℕ) (p : Path) → length p ≤ n → falls n p ≡ p
falls_all n [] h = refl
falls_all n (x ∷ xs) h = all_of n x xs (omega arith)

-- there are no more last names than were wanted
pub falls_length : (n : ℕ) (p : Path) → length (falls n p) ≤ n
falls_length n [] = omega arith
falls_length n (x ∷ xs) = by (nat_le n (length xs)) refl (falls_length n xs)
  where
    by : (b : Bool) → nat_le n (length xs) ≡ b → length (falls n xs) ≤ n → length (shorter b (falls n xs) (x ∷ xs)) ≤ n
    by true e h = h
    by false e h = grind (arith, nat_tests)

-- the last names are what is left behind the others
pub last_are : (p : Path) (count : ℕ) → count ≤ length p → take (length p - (length p - count)) (drop (length p - count) p) ≡ falls count p
last_are p count within =
    let k : ℕ = length p - count in
    let left : length (drop k p) ≡ length p - k = length-drop k p in
    let same : length (drop k p) ≡ count = omega arith in
    take_all (length p - k) (drop k p) (omega arith) ∙ sym (falls_behind count (take k p) (drop k p) same) ∙ ap (falls count) (take-append-drop k p)

-- a way without going up and coming down again by the same names leads to the same place
pub straight_leads : (at down : Path) (n t : ℕ) → n ≤ length at → t ≡ together (falls n at) down → t ≤ length (falls n at) → (b : Path) → rise n at ≡ Some b → (c : Path) × (rise (n - t) at ≡ Some c) × (c ++ drop t down ≡ b ++ down)
unfolding ancestor
straight_leads at down n t within is most b up =
    let k : ℕ = length at - n in
    let left : length (drop k at) ≡ length at - k = length-drop k at in
    let size : length (drop k at) ≡ n = omega arith in
    let split : take k at ++ drop k at ≡ at = take-append-drop k at in
    let names : falls n at ≡ drop k at = sym (ap (falls n) split) ∙ falls_behind n (take k at) (drop k at) size in
    let w = way_leads (drop k at) down (take k at) t (is ∙ ap (λ x. together x down) names) (subst (λ x. t ≤ length x) names most) in
    let above : b ≡ take k at = same_Some b (take (length at - n) at) (sym up ∙ rise_is n at within) in
    (w.0, ap (λ p. rise (n - t) p) (sym split) ∙ ap (λ m. rise (m - t) (take k at ++ drop k at)) (sym size) ∙ w.1, w.2 ∙ ap (λ x. x ++ down) (sym above))
