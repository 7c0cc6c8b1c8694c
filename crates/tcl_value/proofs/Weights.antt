-- What lists weigh.
use Rattle.std.proofs.lemmas.List.{length-map, take_more, length-take}
use Rattle.std.proofs.Common.{◌≡◌, ℕ, ◌+◌, ◌-◌, ◌*◌, ◌<◌, ◌≤◌, ◌^◌, suc, zero, Bool, true, false, List, [], ◌∷◌, ◌++◌, length, refl, sym, ◌∙◌, ap, subst, arith, length-append, set, get_or, take, ◌⊎◌, inl, inr}
use Rattle.std.specs.Prelude.{◌==◌}
use Rattle.std.specs.List.{AllZip}
use Rattle.std.proofs.lemmas.Bool.Decides.{nat_tests}
use Rattle.tcl_value.specs.Writing.{write_element, write_rest, write}
use Rattle.tcl_value.specs.Texts.{weight_from, weight, element_text, texts, IsElement, AreElements, IsSame}
use Rattle.tcl_value.specs.declared.element.Element.{Element}
use Rattle.tcl_value.specs.declared.element.Element.TheVariants.{Text, Grown, Number, List as Inner, Dict}
use Rattle.tcl_value.proofs.Numbers.{digits_at_most}
use Rattle.tcl_value.proofs.Written.{size_at_most}

-- how many bytes write an element
abbrev pub size : Bool → List ℕ → ℕ
size first x = length (write_element first x)

-- whether the element after these is the first
abbrev pub starts : Bool → List (List ℕ) → Bool
starts first [] = first
starts first (x ∷ xs) = false

pub weight-push : (first : Bool) (xs : List (List ℕ)) (y : List ℕ) → weight_from first (xs ++ y ∷ []) ≡ weight_from first xs + size (starts first xs) y + 1
weight-push first [] y = omega arith
weight-push first (x ∷ []) y = omega arith
weight-push first (x ∷ z ∷ xs) y = omega (arith, weight-push false (z ∷ xs) y)

-- whether the element at a place is the first
abbrev pub starts_at : Bool → ℕ → Bool
starts_at first zero = first
starts_at first (suc i) = false

pub weight-set : (first : Bool) (xs : List (List ℕ)) (i : ℕ) (y d : List ℕ) → i < length xs → weight_from first (set xs i y) + size (starts_at first i) (get_or xs i d) ≡ weight_from first xs + size (starts_at first i) y
weight-set first [] i y d h = absurd (omega arith)
weight-set first (x ∷ xs) zero y d h = omega arith
weight-set first (x ∷ xs) (suc zero) y d h = omega (arith, weight-set false xs zero y d (omega arith))
weight-set first (x ∷ xs) (suc (suc i)) y d h = omega (arith, weight-set false xs (suc i) y d (omega arith))

-- a text has a byte less than its list weighs
weight-rest : (xs : List (List ℕ)) → length (write_rest xs) ≡ weight_from false xs
weight-rest [] = refl
weight-rest (x ∷ xs) = omega (arith, length-append (write_element false x) (write_rest xs), weight-rest xs)

pub length-write : (xs : List (List ℕ)) → length (write xs) ≡ weight xs - 1
length-write [] = refl
length-write (x ∷ xs) = omega (arith, length-append (write_element true x) (write_rest xs), weight-rest xs)

-- no element is longer than a value
pub element_within : (x : Element) → IsElement x → length (element_text x) ≤ 16777216
element_within (Text text) h = h
element_within (Grown text) h = h
element_within (Number n) h = omega (arith, digits_at_most n h)
element_within (Inner items) h = h.0.within
element_within (Dict entries) h = h.within

pub size_within : (first : Bool) (x : Element) → IsElement x → size first (element_text x) ≤ 33554434
size_within first x h = omega (arith, element_within x h, size_at_most first (element_text x))

pub weight_at_most : (first : Bool) (xs : List Element) → AreElements xs → weight_from first (texts xs) ≤ length xs * 33554435
weight_at_most first [] h = omega arith
weight_at_most first (x ∷ xs) h = omega (arith, size_within first x h.0, weight_at_most false xs h.1)

-- one more element
pub texts-push : (xs : List Element) (y : Element) → texts (xs ++ y ∷ []) ≡ texts xs ++ element_text y ∷ []
texts-push [] y = refl
texts-push (x ∷ xs) y = ap (λ t. element_text x ∷ t) (texts-push xs y)

pub AreElements-push : (xs : List Element) (y : Element) → AreElements xs → IsElement y → AreElements (xs ++ y ∷ [])
AreElements-push [] y h k = (k, tt)
AreElements-push (x ∷ xs) y h k = (h.0, AreElements-push xs y h.1 k)

starts_test : (xs : List (List ℕ)) (n : ℕ) → n ≡ length xs → (n == 0) ≡ starts true xs
starts_test [] n h = grind (arith, nat_tests)
starts_test (x ∷ xs) n h = grind (arith, nat_tests)

pub pushed_weight : (xs now : List (List ℕ)) (y : List ℕ) (kept more n : ℕ) (first : Bool) → kept ≡ weight xs → xs ≡ now → first ≡ (n == 0) → n ≡ length xs → more ≡ size first y → kept + more + 1 ≡ weight (now ++ y ∷ [])
pushed_weight xs now y kept more n first k e f l m =
    let same = ap (λ b. size b y) (f ∙ starts_test xs n l) in
    let one = weight-push true xs y in
    let all = ap (λ t. weight (t ++ y ∷ [])) e in
    omega arith

-- an element in the place of another
pub texts-set : (xs : List Element) (i : ℕ) (y : Element) → texts (set xs i y) ≡ set (texts xs) i (element_text y)
texts-set [] i y = refl
texts-set (x ∷ xs) zero y = refl
texts-set (x ∷ xs) (suc i) y = ap (λ t. element_text x ∷ t) (texts-set xs i y)

pub texts-get : (xs : List Element) (i : ℕ) (d : Element) → element_text (get_or xs i d) ≡ get_or (texts xs) i (element_text d)
texts-get [] i d = refl
texts-get (x ∷ xs) zero d = refl
texts-get (x ∷ xs) (suc i) d = texts-get xs i d

pub AreElements-set : (xs : List Element) (i : ℕ) (y : Element) → AreElements xs → IsElement y → AreElements (set xs i y)
AreElements-set [] i y h k = tt
AreElements-set (x ∷ xs) zero y h k = (k, h.1)
AreElements-set (x ∷ xs) (suc i) y h k = (h.0, AreElements-set xs i y h.1 k)

pub AreElements-get : (xs : List Element) (i : ℕ) (d : Element) → AreElements xs → i < length xs → IsElement (get_or xs i d)
AreElements-get [] i d h k = absurd (omega arith)
AreElements-get (x ∷ xs) zero d h k = h.0
AreElements-get (x ∷ xs) (suc i) d h k = AreElements-get xs i d h.1 (omega arith)

pub starts_at_test : (i : ℕ) → (i == 0) ≡ starts_at true i
starts_at_test zero = refl
starts_at_test (suc i) = grind (arith, nat_tests)

pub set_weight : (xs now : List (List ℕ)) (i : ℕ) (y d : List ℕ) (kept less more : ℕ) (first : Bool) → kept ≡ weight xs → xs ≡ now → i < length xs → first ≡ (i == 0) → less ≡ size first d → d ≡ get_or xs i d → more ≡ size first y → kept + more ≡ weight (set now i y) + less
set_weight xs now i y d kept less more first k e h f l g m =
    let at = f ∙ starts_at_test i in
    let new = ap (λ b. size b y) at in
    let old = ap (λ b. size b d) at in
    let there = ap (size (starts_at true i)) g in
    let one = weight-set true xs i y d h in
    let all = ap (λ t. weight (set t i y)) e in
    omega arith

-- the length of a text by its weight
pub length-kept : (kept : ℕ) (xs now : List (List ℕ)) → kept ≡ weight xs → xs ≡ now → length (write now) ≡ kept - 1
length-kept kept xs now k e = length-write now ∙ ap (λ t. weight t - 1) (sym e) ∙ ap (λ n. n - 1) (sym k)

-- what a list weighs is far below 2 ^ 128
pub kept_few : (kept n cap : ℕ) (xs : List Element) → kept ≡ weight (texts xs) → AreElements xs → n ≡ length xs → n ≤ cap → cap < 2 ^ 63 → kept < 2 ^ 90
kept_few kept n cap xs k h l m s = omega (arith, weight_at_most true xs h)

pub length-texts : (xs : List Element) → length (texts xs) ≡ length xs
length-texts xs = length-map xs element_text

-- elements and their clones
pub same_all : (xs ys : List Element) → AllZip IsSame xs ys → (texts ys ≡ texts xs) × (AreElements xs → AreElements ys)
same_all [] [] h = (refl, λ s. s)
same_all [] (y ∷ ys) h = elim h [ ]
same_all (x ∷ xs) [] h = elim h [ ]
same_all (x ∷ xs) (y ∷ ys) h =
    let rest = same_all xs ys h.1 in
    (ap (λ t. t ∷ texts ys) h.0.text ∙ ap (λ t. element_text x ∷ t) rest.0, λ s. (h.0.keeps s.0, rest.1 s.1))

pub same_elements : {V L : Type 0} (items : V → List Element) (x y : V) → (y ≡ x) ⊎ (AllZip IsSame (items x) (items y) × L) → (texts (items y) ≡ texts (items x)) × (AreElements (items x) → AreElements (items y))
same_elements items x y (inl e) = (ap (λ v. texts (items v)) e, λ s. subst (λ v. AreElements (items v)) (sym e) s)
same_elements items x y (inr z) = same_all (items x) (items y) z.0

starts_take : (xs : List (List ℕ)) (i : ℕ) → length xs ≡ i → starts true xs ≡ (i == 0)
starts_take [] i h = grind (arith, nat_tests)
starts_take (x ∷ xs) i h = grind (arith, nat_tests)

-- what the first elements weigh, and one more
pub take_weight : (xs : List (List ℕ)) (i : ℕ) (x : List ℕ) (kept more : ℕ) → i < length xs → x ≡ get_or xs i x → kept ≡ weight (take i xs) → more ≡ size (i == 0) x → kept + (more + 1) ≡ weight (take (i + 1) xs)
take_weight xs i x kept more h e k m =
    let len : length (take i xs) ≡ i = length-take i xs ∙ omega arith in
    let all : take (i + 1) xs ≡ take i xs ++ x ∷ [] = take_more xs i x h ∙ ap (λ y. take i xs ++ y ∷ []) (sym e) in
    let one = weight-push true (take i xs) x in
    let at = ap (λ b. size b x) (starts_take (take i xs) i len) in
    let same = ap weight all in
    omega arith
