-- Words, so many times.
use Rattle.std.proofs.Common.{◌≡◌, ℕ, zero, suc, ◌+◌, ◌-◌, ◌<◌, ◌≤◌, Bool, true, false, [], ◌∷◌, ◌++◌, length, Ok, Err, refl, sym, ◌∙◌, ap, arith, length-append}
use Rattle.std.specs.Prelude.{◌==◌}
use Rattle.std.proofs.lemmas.Bool.{false≢true}
use Rattle.std.proofs.lemmas.Bool.Decides.{Decides-eqb}
use Rattle.std.proofs.lemmas.List.{append-nil}
use Rattle.tcl_words.specs.Faults.{too_long}
use Rattle.tcl_words.proofs.WordLemmas.{limited_past}
use Rattle.tcl_value.specs.Writing.{write}
use Rattle.tcl_value.specs.Texts.{weight_from}
use Rattle.tcl_value.proofs.Weights.{length-write}
use Rattle.tcl_lists.specs.Lists.{Texts, list_value, copies}

copies_of_none : (n : ℕ) → copies n [] ≡ []
copies_of_none zero = refl
copies_of_none (suc n) = copies_of_none n

pub copies_nothing : (n : ℕ) (words : Texts) (empty : Bool) → empty ≡ (length words == 0) → empty ≡ true → list_value (copies n words) ≡ Ok []
copies_nothing n [] empty e h = ap list_value (copies_of_none n)
copies_nothing n (w ∷ words) empty e h = let x : length (w ∷ words) ≡ 0 = (Decides-eqb (length (w ∷ words)) 0).0 (sym e ∙ h) in absurd (omega arith)

pub is_some : (words : Texts) (empty : Bool) → empty ≡ (length words == 0) → empty ≡ false → 0 < length words
is_some [] empty e h = absurd (false≢true (sym h ∙ e))
is_some (w ∷ words) empty e h = omega arith

weight_of_more : (first : Bool) (xs : Texts) → length xs ≤ weight_from first xs
weight_of_more first [] = omega arith
weight_of_more first (x ∷ xs) = omega (arith, weight_of_more false xs)

length-copies : (n : ℕ) (words : Texts) → 0 < length words → n ≤ length (copies n words)
length-copies zero words h = omega arith
length-copies (suc n) words h = omega (arith, length-append words (copies n words), length-copies n words h)

pub too_many : (n : ℕ) (words : Texts) → 0 < length words → 16777217 < n → list_value (copies n words) ≡ Err too_long
too_many n words h more = limited_past (write (copies n words)) (omega (arith, length-write (copies n words), weight_of_more true (copies n words), length-copies n words h))

pub copies_first : (n : ℕ) (words : Texts) → [] ++ copies (n - 0) words ≡ copies n words
copies_first n words = ap (λ k. copies k words) (let e : n - 0 ≡ n = omega arith in e)

pub copies_next : (n i : ℕ) (words made whole : Texts) → i < n → made ++ copies (n - i) words ≡ whole → made ++ (words ++ copies (n - (i + 1)) words) ≡ whole
copies_next n i words made whole h e =
    let left : n - i ≡ suc (n - (i + 1)) = omega arith in
    ap (λ k. made ++ copies k words) (sym left) ∙ e

pub copies_end : (n i : ℕ) (words made whole : Texts) → n ≤ i → made ++ copies (n - i) words ≡ whole → made ≡ whole
copies_end n i words made whole h e =
    let left : n - i ≡ 0 = omega arith in
    sym (append-nil made) ∙ (ap (λ k. made ++ copies k words) (sym left) ∙ e)
