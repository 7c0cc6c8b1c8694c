-- What the string commands rest on.
use Rattle.std.proofs.Common.{◌≡◌, ◌↔◌, ℕ, zero, suc, ◌+◌, ◌*◌, ◌/◌, ◌%◌, ◌<◌, ◌≤◌, Bool, true, false, List, [], ◌∷◌, length, refl, sym, ◌∙◌, ap, arith, length-append}
use Rattle.std.specs.Prelude.{◌==◌}
use Rattle.std.specs.declared.cmp.Ordering.{Ordering}
use Rattle.std.specs.declared.cmp.Ordering.TheVariants.{Less, Equal, Greater}
use Rattle.std.specs.Ordering.{is_eq}
use Rattle.std.specs.Str.{chars}
use Rattle.std.proofs.lemmas.Str.{chars-nil}
use Rattle.std.proofs.Math.Nat.{mul-le-mul_left}
use Rattle.tcl_characters.specs.Order.{order}
use Rattle.tcl_characters.specs.Texts.{text_of, copies}
use Rattle.tcl_characters.proofs.Orders.{order_self, order_equal}
use Rattle.tcl_text.proofs.Emptiness.{is_nothing}
use Rattle.tcl_strings.specs.Parts.{where_none}

-- ---- lengths

-- ---- equal texts

pub same_is : (same : Bool) (a b : List ℕ) → (same ≡ true) ↔ (a ≡ b) → same ≡ is_eq (order a b)
same_is true a b h = sym (ap is_eq (ap (order a) (sym (h.0 refl)) ∙ order_self a))
same_is false a b h = differs (order a b) refl
  where
    differs : (o : Ordering) → order a b ≡ o → false ≡ is_eq o
    differs Less e = refl
    differs Equal e = h.1 (order_equal a b e)
    differs Greater e = refl

-- ---- copies

pub length-copies : (n : ℕ) (text : List ℕ) → length (copies n text) ≡ n * length text
length-copies zero text = omega arith
length-copies (suc n) text = omega (arith, length-append text (copies n text), length-copies n text)

pub copies_nothing : (n : ℕ) → copies n [] ≡ []
copies_nothing zero = refl
copies_nothing (suc n) = copies_nothing n

-- more copies than fit the greatest length
pub too_many : (count size most : ℕ) → 0 < size → most ≡ 16777216 / size → most < count → 16777216 < count * size
too_many count size most some e h =
    let parts : size * (16777216 / size) + 16777216 % size ≡ 16777216 = omega arith in
    let rest : 16777216 % size < size = omega arith in
    let more : most + 1 ≤ count = omega arith in
    let grown = mul-le-mul_left size more in
    let at : size * (16777216 / size) ≡ size * most = ap (λ q. size * q) (sym e) in
    omega arith

pub few_enough : (count size most : ℕ) → 0 < size → most ≡ 16777216 / size → count ≤ most → count * size ≤ 16777216
few_enough count size most some e h =
    let parts : size * (16777216 / size) + 16777216 % size ≡ 16777216 = omega arith in
    let grown = mul-le-mul_left size h in
    let at : size * (16777216 / size) ≡ size * most = ap (λ q. size * q) (sym e) in
    omega arith

-- ---- trimmed at both ends

-- ---- one of two texts

pub where_empty : (cs text whole changed : List ℕ) → chars text ≡ cs → length text ≡ 0 → where_none cs whole changed ≡ whole
where_empty cs [] whole changed e h = ap (λ l. where_none l whole changed) (sym e ∙ chars-nil)
where_empty cs (b ∷ text) whole changed e h = absurd (omega arith)

pub where_filled : (cs text whole changed : List ℕ) → text ≡ text_of cs → 0 < length text → where_none cs whole changed ≡ changed
where_filled [] text whole changed e h = absurd (omega (arith, ap length e))
where_filled (c ∷ cs) text whole changed e h = refl

pub copies_of_empty : (n : ℕ) (text : List ℕ) (empty : Bool) → empty ≡ (length text == 0) → empty ≡ true → copies n text ≡ []
copies_of_empty n text empty e h = ap (copies n) (is_nothing text empty e h) ∙ copies_nothing n

pub no_bytes : (text : List ℕ) (empty : Bool) → empty ≡ (length text == 0) → empty ≡ true → length text ≡ 0
no_bytes text empty e h = ap length (is_nothing text empty e h)
