-- Division that rounds toward zero, and the one that rounds down; no other pair divides.
use Rattle.std.proofs.Common.{◌≡◌, ◌∙◌, sym, ap, refl, ℕ, zero, suc, ◌*◌, ◌<◌, ◌≤◌, ℤ, pos, negsuc, ◌+ℤ◌, ◌-ℤ◌, ◌*ℤ◌, ◌<ℤ◌, ◌≤ℤ◌, true, false, FitsSigned, to_z, of_z, w64, arith}
use Rattle.std.specs.Int.RustNames.{int_div, int_rem, unsigned_abs}
use Rattle.std.proofs.lemmas.Int.{ints, quot-rem, rem_below, to_z-of_z}
use Rattle.std.proofs.Math.IntN.{ℤ_ind, neg_ℤ, +ℤ_idr, -ℤ_one, pred_ℤ-*ℤ, suc_ℤ-*ℤ, +ℤ-suc_ℤ, +ℤ-pred_ℤ, +ℤ_one, pos-*ℤ-pos, negsuc-*ℤ-pos, *ℤ-negsuc, zero-*ℤ, *ℤ-one, neg_ℤ-neg_ℤ, neg_ℤ-+ℤ, one}
use Rattle.tcl_arithmetic.specs.Division.{IsDivision, IsRemainder, OneDivision, is_across}
use Rattle.std.specs.Int.Signed.{shr_z}
use Rattle.tcl_arithmetic.proofs.Shifts.{shifted}

-- the rest of a division that rounds toward zero is one that rounds down leaves, but where it is across
rest_stays : (b r : ℤ) → 0 < unsigned_abs b → unsigned_abs r < unsigned_abs b → is_across b r ≡ false → IsRemainder b r
rest_stays (pos b) (pos r) h l e = (omega (arith, ints), omega (arith, ints))
rest_stays (pos b) (negsuc r) h l e = cc
rest_stays (negsuc b) (pos zero) h l e = (omega (arith, ints), omega (arith, ints))
rest_stays (negsuc b) (pos (suc r)) h l e = cc
rest_stays (negsuc b) (negsuc r) h l e = (omega (arith, ints), omega (arith, ints))

rest_moves : (b r : ℤ) → 0 < unsigned_abs b → unsigned_abs r < unsigned_abs b → is_across b r ≡ true → IsRemainder b (r +ℤ b)
rest_moves (pos b) (pos r) h l e = cc
rest_moves (pos b) (negsuc r) h l e = (omega (arith, ints), omega (arith, ints))
rest_moves (negsuc b) (pos zero) h l e = cc
rest_moves (negsuc b) (pos (suc r)) h l e = (omega (arith, ints), omega (arith, ints))
rest_moves (negsuc b) (negsuc r) h l e = cc

some_size : (b : ℤ) → (b ≡ pos 0 → Prim.⊥) → 0 < unsigned_abs b
some_size (pos zero) h = absurd (h refl)
some_size (pos (suc b)) h = omega arith
some_size (negsuc b) h = omega arith

pub stays : (a b q r : ℤ) → (b ≡ pos 0 → Prim.⊥) → q ≡ int_div a b → r ≡ int_rem a b → is_across b r ≡ false → IsDivision a b q r
stays a b q r h e d s = record {
  whole = sym (ap (λ (x : ℤ). (x *ℤ b) +ℤ r) e ∙ ap (λ (x : ℤ). (int_div a b *ℤ b) +ℤ x) d ∙ quot-rem a b);
  rest = rest_stays b r (some_size b h) (let l : unsigned_abs (int_rem a b) < unsigned_abs b = rem_below a b (some_size b h) in rw d l) s;
}

pub moves : (a b q r : ℤ) → (b ≡ pos 0 → Prim.⊥) → q ≡ int_div a b → r ≡ int_rem a b → is_across b r ≡ true → IsDivision a b (q -ℤ pos 1) (r +ℤ b)
moves a b q r h e d s = record {
  whole = let one_less : (q -ℤ pos 1) *ℤ b ≡ q *ℤ b -ℤ b = ap (λ (x : ℤ). x *ℤ b) (-ℤ_one q) ∙ pred_ℤ-*ℤ q b in
      let all : q *ℤ b +ℤ r ≡ a = ap (λ (x : ℤ). (x *ℤ b) +ℤ r) e ∙ ap (λ (x : ℤ). (int_div a b *ℤ b) +ℤ x) d ∙ quot-rem a b in
      omega (arith, ints);
  rest = rest_moves b r (some_size b h) (let l : unsigned_abs (int_rem a b) < unsigned_abs b = rem_below a b (some_size b h) in rw d l) s;
}

-- as the code writes it
pub plain : (q : ℤ) → FitsSigned w64 q → to_z w64 (of_z w64 q) ≡ q
plain q f = to_z-of_z w64 q f

distrib : (q k b : ℤ) → (q +ℤ k) *ℤ b ≡ (q *ℤ b) +ℤ (k *ℤ b)
distrib q k b = ℤ_ind (λ (k : ℤ). (q +ℤ k) *ℤ b ≡ (q *ℤ b) +ℤ (k *ℤ b))
    (ap (λ (x : ℤ). x *ℤ b) (+ℤ_idr q) ∙ (let z : pos zero *ℤ b ≡ pos 0 = zero-*ℤ b in omega (arith, ints)))
    (λ n ih. let up : (q +ℤ (pos n +ℤ pos 1)) *ℤ b ≡ ((q +ℤ pos n) *ℤ b) +ℤ b = ap (λ (x : ℤ). (q +ℤ x) *ℤ b) (+ℤ_one (pos n)) ∙ ap (λ (x : ℤ). x *ℤ b) (+ℤ-suc_ℤ q (pos n)) ∙ suc_ℤ-*ℤ (q +ℤ pos n) b in
    let more : (pos n +ℤ pos 1) *ℤ b ≡ (pos n *ℤ b) +ℤ b = ap (λ (x : ℤ). x *ℤ b) (+ℤ_one (pos n)) ∙ suc_ℤ-*ℤ (pos n) b in omega (arith, ints))
    (λ n ih. let down : (q +ℤ (neg_ℤ (pos n) +ℤ neg_ℤ (pos 1))) *ℤ b ≡ ((q +ℤ neg_ℤ (pos n)) *ℤ b) -ℤ b = ap (λ (x : ℤ). (q +ℤ x) *ℤ b) (-ℤ_one (neg_ℤ (pos n))) ∙ ap (λ (x : ℤ). x *ℤ b) (+ℤ-pred_ℤ q (neg_ℤ (pos n))) ∙ pred_ℤ-*ℤ (q +ℤ neg_ℤ (pos n)) b in
    let less : (neg_ℤ (pos n) +ℤ neg_ℤ (pos 1)) *ℤ b ≡ (neg_ℤ (pos n) *ℤ b) -ℤ b = ap (λ (x : ℤ). x *ℤ b) (-ℤ_one (neg_ℤ (pos n))) ∙ pred_ℤ-*ℤ (neg_ℤ (pos n)) b in omega (arith, ints))
    k

-- dividing by minus one leaves nothing
pub by_minus_one : (a : ℤ) → IsDivision a (negsuc 0) (neg_ℤ a) (pos 0)
unfolding one
by_minus_one a = record {
  whole = let times : neg_ℤ a *ℤ negsuc 0 ≡ neg_ℤ (neg_ℤ a *ℤ pos 1) = *ℤ-negsuc (neg_ℤ a) 0 in
      let once : neg_ℤ a *ℤ pos 1 ≡ neg_ℤ a = *ℤ-one (neg_ℤ a) in
      let back : neg_ℤ (neg_ℤ a) ≡ a = neg_ℤ-neg_ℤ a in
      let undone : neg_ℤ (neg_ℤ a *ℤ pos 1) ≡ neg_ℤ (neg_ℤ a) = ap neg_ℤ once in
      omega (arith, ints);
  rest = (omega (arith, ints), omega (arith, ints));
}

-- the tests of the code
pub is_some : (b : ℤ) → (of_z w64 b ≡ 0 → Prim.⊥) → b ≡ pos 0 → Prim.⊥
is_some b h e = h (ap (of_z w64) e)

pub is_minus_one : (b : ℤ) → FitsSigned w64 b → of_z w64 b ≡ 18446744073709551615 → b ≡ negsuc 0
is_minus_one b f e = sym (plain b f) ∙ ap (to_z w64) e

-- ## There is one pair

floor : (a : ℤ) (b : ℕ) → 0 < b → (q : ℤ) × (r : ℤ) × IsDivision a (pos b) q r
floor a b h = let d = shifted a b h in (shr_z a b, d.0, d.1)

pub opposite : (a q r : ℤ) (b : ℕ) → IsDivision (neg_ℤ a) (pos (suc b)) q r → IsDivision a (negsuc b) q (neg_ℤ r)
opposite a q r b d = record {
  whole = let times : q *ℤ negsuc b ≡ neg_ℤ (q *ℤ pos (suc b)) = *ℤ-negsuc q b in
      let turned : neg_ℤ (neg_ℤ a) ≡ neg_ℤ ((q *ℤ pos (suc b)) +ℤ r) = ap neg_ℤ d.whole in
      sym (neg_ℤ-neg_ℤ a) ∙ turned ∙ neg_ℤ-+ℤ (q *ℤ pos (suc b)) r ∙ ap (λ (x : ℤ). x +ℤ neg_ℤ r) (sym times);
  rest = let least = d.rest.0 in let most = d.rest.1 in (omega (arith, ints), omega (arith, ints));
}

back : (a q r : ℤ) (b : ℕ) → IsDivision a (negsuc b) q r → IsDivision (neg_ℤ a) (pos (suc b)) q (neg_ℤ r)
back a q r b d = record {
  whole = let times : q *ℤ negsuc b ≡ neg_ℤ (q *ℤ pos (suc b)) = *ℤ-negsuc q b in
      ap neg_ℤ d.whole ∙ neg_ℤ-+ℤ (q *ℤ negsuc b) r ∙ ap (λ (x : ℤ). x +ℤ neg_ℤ r) (ap neg_ℤ times ∙ neg_ℤ-neg_ℤ (q *ℤ pos (suc b)));
  rest = let least = d.rest.0 in let most = d.rest.1 in (omega (arith, ints), omega (arith, ints));
}

at_least : (k b : ℕ) → b ≤ suc k * b
at_least k b = grind arith

-- a quotient that is k more leaves k divisors less, so k is 0
no_more : (k r s : ℤ) (b : ℕ) → r ≡ (k *ℤ pos b) +ℤ s → IsRemainder (pos b) r → IsRemainder (pos b) s → k ≡ pos 0
no_more (pos zero) r s b e h g = refl
no_more (pos (suc k)) r s b e h g = let times : pos (suc k) *ℤ pos b ≡ pos (suc k * b) = pos-*ℤ-pos (suc k) b in
    let least : b ≤ suc k * b = at_least k b in
    let most = h.1 in let from = g.0 in
    absurd (omega (arith, ints))
no_more (negsuc k) r s b e h g = let times : negsuc k *ℤ pos b ≡ neg_ℤ (pos (suc k * b)) = negsuc-*ℤ-pos k b in
    let least : b ≤ suc k * b = at_least k b in
    let from = h.0 in let most = g.1 in
    absurd (omega (arith, ints))

one_way : (a q r p s : ℤ) (b : ℕ) → IsDivision a (pos b) q r → IsDivision a (pos b) p s → (p ≡ q) × (s ≡ r)
one_way a q r p s b d f =
    let whole : (q *ℤ pos b) +ℤ r ≡ (p *ℤ pos b) +ℤ s = sym d.whole ∙ f.whole in
    let split : (q +ℤ (p -ℤ q)) *ℤ pos b ≡ (q *ℤ pos b) +ℤ ((p -ℤ q) *ℤ pos b) = distrib q (p -ℤ q) (pos b) in
    let is : q +ℤ (p -ℤ q) ≡ p = omega (arith, ints) in
    let same : (q +ℤ (p -ℤ q)) *ℤ pos b ≡ p *ℤ pos b = ap (λ (x : ℤ). x *ℤ pos b) is in
    let left : r ≡ ((p -ℤ q) *ℤ pos b) +ℤ s = omega (arith, ints) in
    let none : p -ℤ q ≡ pos 0 = no_more (p -ℤ q) r s b left d.rest f.rest in
    let nothing : (p -ℤ q) *ℤ pos b ≡ pos 0 = ap (λ (x : ℤ). x *ℤ pos b) none ∙ zero-*ℤ (pos b) in
    (omega (arith, ints), omega (arith, ints))

neg_one : (r s : ℤ) → neg_ℤ r ≡ neg_ℤ s → r ≡ s
neg_one r s e = sym (neg_ℤ-neg_ℤ r) ∙ ap neg_ℤ e ∙ neg_ℤ-neg_ℤ s

no_rest : (r : ℤ) → pos 0 ≤ℤ r → r <ℤ pos 0 → Prim.⊥
no_rest r h l = absurd (omega (arith, ints))

-- a divisor other than zero divides in one way, and zero in none
pub one_division : OneDivision
one_division a (pos zero) = (λ e q r d. no_rest r d.rest.0 d.rest.1, λ h. absurd (h refl))
one_division a (pos (suc b)) = (λ e. absurd (omega (arith, ints)), λ h. let d = floor a (suc b) (omega arith) in (d.0, d.1, d.2, λ p s f. one_way a d.0 d.1 p s (suc b) d.2 f))
one_division a (negsuc b) = (
  λ e. absurd (omega (arith, ints)),
  λ h. let d = floor (neg_ℤ a) (suc b) (omega arith) in (
    d.0,
    neg_ℤ d.1,
    opposite a d.0 d.1 b d.2,
    λ p s f. let same = one_way (neg_ℤ a) d.0 d.1 p (neg_ℤ s) (suc b) d.2 (back a p s b f) in
        (same.0, neg_one s (neg_ℤ d.1) (same.1 ∙ sym (neg_ℤ-neg_ℤ d.1))),
  ),
)
