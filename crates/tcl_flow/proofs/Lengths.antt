-- A message with a number in it is short.
use Rattle.tcl_core.specs.Endings.{Completion, settled, error}
use Rattle.tcl_flow.specs.declared.completion.Completion.{Completion as Made}
use Rattle.tcl_flow.specs.View.{completion_of}
use Rattle.std.proofs.Common.{◌≡◌, ◌∙◌, sym, Result, Ok, Err, IfOk, ap, refl, ℕ, zero, suc, pos, negsuc, ◌+◌, ◌≤◌, ℤ, List, ◌++◌, length, length-append, FitsSigned, w64, codes, arith}
use Rattle.std.specs.Fmt.{signed_decimal}
use Rattle.std.specs.Prelude.{MatchResult, IsErrOf}
use Rattle.std.proofs.Common.{subst}
use Rattle.tcl_value.specs.Limits.{IsWithin, IsPast}
use Rattle.tcl_value.specs.declared.value.ValueError.{ValueError}
use Rattle.tcl_value.specs.declared.value.ValueError.TheVariants.{TooLong}
use Rattle.std.proofs.lemmas.Fmt.{length_signed_le}

pub with_number : (front bytes : List ℕ) (n : ℤ) → FitsSigned w64 n → length front ≤ 50 → bytes ≡ front ++ signed_decimal n → length bytes ≤ 100
with_number front bytes n f l e =
    let long : length (signed_decimal n) ≤ 19 + 1 = length_signed_le 19 n (omega (arith, f.sfits)) f.sfits in
    let all : length bytes ≡ length front + length (signed_decimal n) = ap length e ∙ length-append front (signed_decimal n) in
    omega arith

-- a code past those that have names is a bad one
pub settled_other : (n : ℤ) (c : Completion) → (n ≡ pos 0 → Prim.⊥) → (n ≡ pos 1 → Prim.⊥) → (n ≡ pos 3 → Prim.⊥) → (n ≡ pos 4 → Prim.⊥) →
    settled n c ≡ error (codes "command returned bad code: " ++ signed_decimal n)
settled_other (pos zero) c a b d e = absurd (a refl)
settled_other (pos (suc zero)) c a b d e = absurd (b refl)
settled_other (pos (suc (suc zero))) c a b d e = refl
settled_other (pos (suc (suc (suc zero)))) c a b d e = absurd (d refl)
settled_other (pos (suc (suc (suc (suc zero))))) c a b d e = absurd (e refl)
settled_other (pos (suc (suc (suc (suc (suc n)))))) c a b d e = refl
settled_other (negsuc n) c a b d e = refl

pub made_error : (c : Made) (message : List ℕ) (n : ℤ) → (n ≡ pos 0 → Prim.⊥) → (n ≡ pos 1 → Prim.⊥) → (n ≡ pos 3 → Prim.⊥) → (n ≡ pos 4 → Prim.⊥) →
    message ≡ codes "command returned bad code: " ++ signed_decimal n → completion_of c ≡ error message → (of : Completion) → completion_of c ≡ settled n of
made_error c message n a b d f m h of = h ∙ ap error m ∙ sym (settled_other n of a b d f)

-- ## What a text gives

pub made_text : (r : Result (List ℕ) ValueError) (x y : List ℕ) → x ≡ y → MatchResult r (λ v. (v ≡ x) × IsWithin x) (λ e. (e ≡ TooLong) × IsPast x) → IfOk r (λ v. v ≡ y)
made_text (Ok v) x y is h = h.0 ∙ is
made_text (Err e) x y is h = tt

pub past_text : (r : Result (List ℕ) ValueError) (x y : List ℕ) → x ≡ y → MatchResult r (λ v. (v ≡ x) × IsWithin x) (λ e. (e ≡ TooLong) × IsPast x) → IsErrOf r TooLong → IsPast y
past_text (Ok v) x y is h e = absurd (cc)
past_text (Err f) x y is h e = subst IsPast is h.1
