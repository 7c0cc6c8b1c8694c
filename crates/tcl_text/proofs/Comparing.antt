-- Texts that are compared.
use Rattle.std.proofs.Common.{◌≡◌, ◌≢◌, ℕ, ◌-◌, ◌≤◌, Bool, true, false, List, [], ◌∷◌, ◌++◌, length, take, get_or, take_at, rules, ◌+◌, sym, ◌∙◌, ap, arith, length-append}
use Rattle.std.specs.Prelude.{IsTrue, ◌↔◌}
use Rattle.std.specs.Str.{bytes_eq}
use Rattle.std.proofs.lemmas.Slice.Eq.{bytes_eq-Decides}
use Rattle.std.proofs.lemmas.List.{take_more, append_cancel_left}
use Rattle.std.proofs.Math.Seq.{take-length}

-- a test tells whether two texts are equal
pub eq_means : (r : Bool) (xs ys : List ℕ) → r ≡ bytes_eq xs ys → IsTrue r ↔ (xs ≡ ys)
eq_means r xs ys e = search (rules, bytes_eq-Decides)

-- a test of a text tells the same of a text that is equal
pub means_same : {R : Type 0} (t x y : List ℕ) → R ↔ (t ≡ x) → y ≡ x → R ↔ (t ≡ y)
means_same t x y h e = (λ r. h.0 r ∙ sym e, λ s. h.1 (s ∙ e))

-- what is left of a text after a front that it must have
pub behind_means : {R : Type 0} (t front rest x y : List ℕ) → t ≡ front ++ rest → R ↔ (rest ≡ x) → y ≡ front ++ x → R ↔ (t ≡ y)
behind_means t front rest x y e h w = (λ r. e ∙ ap (λ z. front ++ z) (h.0 r) ∙ sym w, λ s. h.1 (append_cancel_left front rest x (sym e ∙ s ∙ w)))

pub never_means : (t front x y : List ℕ) → ((rest : List ℕ) → t ≢ front ++ rest) → y ≡ front ++ x → IsTrue false ↔ (t ≡ y)
never_means t front x y h w = (λ r. absurd (let e : false ≡ true = r in cc), λ s. absurd (h x (s ∙ w)))

parts : (s : List ℕ) (b : ℕ) → 1 ≤ length s → get_or s (length s - 1) 0 ≡ b → s ≡ take (length s - 1) s ++ b ∷ []
parts s b h e =
    let more : length s ≡ length s - 1 + 1 = omega arith in
    sym (take-length s) ∙ ap (λ n. take n s) more ∙ take_more s (length s - 1) 0 (omega arith) ∙ ap (λ x. take (length s - 1) s ++ x ∷ []) e

front : (s x : List ℕ) (b : ℕ) → s ≡ x ++ b ∷ [] → take (length s - 1) s ≡ x
front s x b e =
    let long : length x ≡ length s - 1 = omega (arith, ap length e, length-append x (b ∷ [])) in
    ap (take (length s - 1)) e ∙ take_at x (b ∷ []) (length s - 1) long

-- a text that ends in a close brace
pub closed_means : (r : Bool) (s x : List ℕ) → 1 ≤ length s → get_or s (length s - 1) 0 ≡ 125 → r ≡ bytes_eq (take (length s - 1) s) x → IsTrue r ↔ (s ≡ x ++ 125 ∷ [])
closed_means r s x h e f =
    let same = eq_means r (take (length s - 1) s) x f in
    (λ t. parts s 125 h e ∙ ap (λ z. z ++ 125 ∷ []) (same.0 t), λ p. same.1 (front s x 125 p))
