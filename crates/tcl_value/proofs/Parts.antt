-- What parts of lists weigh.
use Rattle.std.proofs.Common.{◌≡◌, ℕ, ◌+◌, ◌-◌, ◌<◌, ◌≤◌, ◌^◌, suc, zero, Bool, true, false, List, [], ◌∷◌, ◌++◌, length, refl, sym, ◌∙◌, ap, subst, arith, get_or, take, drop}
use Rattle.std.specs.Prelude.{◌==◌}
use Rattle.std.specs.List.{AppendsClones}
use Rattle.std.proofs.lemmas.List.{drop-take, length-drop, length-take}
use Rattle.tcl_value.specs.Texts.{weight_from, weight, element_text, texts, AreElements, IsSame}
use Rattle.tcl_value.specs.declared.element.Element.{Element}
use Rattle.tcl_value.proofs.Weights.{size, starts_at, starts_at_test, weight_at_most, texts-get, same_all}
use Rattle.tcl_value.proofs.Extended.{texts-append, AreElements-append}

pub AreElements-take : (i : ℕ) (xs : List Element) → AreElements xs → AreElements (take i xs)
AreElements-take zero xs h = tt
AreElements-take (suc i) [] h = tt
AreElements-take (suc i) (x ∷ xs) h = (h.0, AreElements-take i xs h.1)

pub AreElements-drop : (i : ℕ) (xs : List Element) → AreElements xs → AreElements (drop i xs)
AreElements-drop zero xs h = h
AreElements-drop (suc i) [] h = tt
AreElements-drop (suc i) (x ∷ xs) h = AreElements-drop i xs h.1

pub texts-take : (i : ℕ) (xs : List Element) → texts (take i xs) ≡ take i (texts xs)
texts-take zero xs = refl
texts-take (suc i) [] = refl
texts-take (suc i) (x ∷ xs) = ap (λ t. element_text x ∷ t) (texts-take i xs)

pub texts-drop : (i : ℕ) (xs : List Element) → texts (drop i xs) ≡ drop i (texts xs)
texts-drop zero xs = refl
texts-drop (suc i) [] = refl
texts-drop (suc i) (x ∷ xs) = texts-drop i xs

-- a part of a list as a slice
pub AreElements-part : (xs : List Element) (i n : ℕ) → AreElements xs → AreElements (take n (drop i xs))
AreElements-part xs i n h = AreElements-take n (drop i xs) (AreElements-drop i xs h)

pub texts-part : (xs ys : List Element) (now : List (List ℕ)) (i j : ℕ) → ys ≡ xs → texts xs ≡ now → i ≤ j → texts (take (j - i) (drop i ys)) ≡ drop i (take j now)
texts-part xs ys now i j e v h =
    let end : i + (j - i) ≡ j = omega arith in
    ap (λ z. texts (take (j - i) (drop i z))) e ∙ texts-take (j - i) (drop i xs) ∙ ap (take (j - i)) (texts-drop i xs) ∙ sym (drop-take i (j - i) (texts xs))
    ∙ ap (λ k. drop i (take k (texts xs))) end ∙ ap (λ t. drop i (take j t)) v

all_taken : (n : ℕ) (ts : List (List ℕ)) → length ts ≤ n → take n ts ≡ ts
all_taken zero [] h = refl
all_taken zero (x ∷ ts) h = absurd (omega arith)
all_taken (suc n) [] h = refl
all_taken (suc n) (x ∷ ts) h = ap (λ t. x ∷ t) (all_taken n ts (omega arith))

pub texts-behind : (xs ys : List Element) (j n : ℕ) → ys ≡ xs → length (texts xs) ≤ n → texts (take (n - j) (drop j ys)) ≡ drop j (texts xs)
texts-behind xs ys j n e h =
    ap (λ z. texts (take (n - j) (drop j z))) e ∙ texts-take (n - j) (drop j xs) ∙ ap (take (n - j)) (texts-drop j xs) ∙ all_taken (n - j) (drop j (texts xs)) (omega (arith, length-drop j (texts xs)))

-- a list that is cut in two
cut : (ts : List (List ℕ)) (i : ℕ) → weight_from false ts ≡ weight_from false (take i ts) + weight_from false (drop i ts)
cut ts zero = omega arith
cut [] (suc i) = omega arith
cut (x ∷ ts) (suc i) = omega (arith, cut ts i)

-- a part, what is left out of it, and its first element at either place
between : (first lead : Bool) (ts : List (List ℕ)) (i j : ℕ) (x : List ℕ) → i < j → j ≤ length ts → x ≡ get_or ts i x → weight_from first ts + size lead x ≡ weight_from first (take i ts) + weight_from lead (drop i (take j ts)) + weight_from false (drop j ts) + size (starts_at first i) x
between first lead [] i j x a b h = absurd (omega arith)
between first lead (y ∷ ts) i zero x a b h = absurd (omega arith)
between first lead (y ∷ ts) zero (suc j) x a b h =
    let new = ap (size lead) h in
    let old = ap (size first) h in
    omega (arith, cut ts j)
between first lead (y ∷ ts) (suc zero) (suc j) x a b h = omega (arith, between false lead ts zero j x (omega arith) (omega arith) h)
between first lead (y ∷ ts) (suc (suc i)) (suc j) x a b h = omega (arith, between false lead ts (suc i) j x (omega arith) (omega arith) h)

pub rest_weight : (xs : List Element) (now : List (List ℕ)) (i j : ℕ) (x : Element) (first at : Bool) (kept before behind less more : ℕ) → kept ≡ weight (texts xs) → texts xs ≡ now → i < j → j ≤ length now → x ≡ get_or xs i x → at ≡ (i == 0) → before ≡ weight (take i (texts xs)) → behind ≡ weight_from false (drop j (texts xs)) → less ≡ size at (element_text x) → more ≡ size first (element_text x) → kept + more ≡ before + weight_from first (drop i (take j now)) + behind + less
rest_weight xs now i j x first at kept before behind less more k v a b h s p q l m =
    let long = ap length v in
    let text : element_text x ≡ get_or (texts xs) i (element_text x) = ap element_text h ∙ texts-get xs i x in
    let same = ap (λ c. size c (element_text x)) (s ∙ starts_at_test i) in
    let all = between true first (texts xs) i j (element_text x) a (omega arith) text in
    let part = ap (λ t. weight_from first (drop i (take j t))) v in
    omega arith

-- a part weighs at most what all weighs, and its first element
pub part_at_most : (xs : List Element) (now : List (List ℕ)) (i j : ℕ) (x : Element) (kept more : ℕ) → kept ≡ weight (texts xs) → texts xs ≡ now → i < j → j ≤ length now → x ≡ get_or xs i x → more ≡ size true (element_text x) → weight_from true (drop i (take j now)) ≤ kept + more
part_at_most xs now i j x kept more k v a b h m =
    omega (arith, rest_weight xs now i j x true (i == 0) kept _ _ _ more k v a b h refl refl refl refl m)

-- what a list weighs is far below 2 ^ 90
pub kept_fewer : (kept n cap : ℕ) (xs : List Element) → kept ≡ weight (texts xs) → AreElements xs → n ≡ length xs → n ≤ cap → cap < 2 ^ 63 → kept < 2 ^ 89
kept_fewer kept n cap xs k h l m s = omega (arith, weight_at_most true xs h)

-- clones behind a list
pub clones_behind : (xs new part : List Element) → AppendsClones IsSame xs new part → (texts new ≡ texts xs ++ texts part) × (AreElements xs → AreElements part → AreElements new)
clones_behind xs new part (ys, e, z) =
    let same = same_all part ys z in
    (ap texts e ∙ texts-append xs ys ∙ ap (λ t. texts xs ++ t) same.0, λ h k. subst AreElements (sym e) (AreElements-append xs ys h (same.1 k)))

-- ## Elements that are kept

take_front : {A : Type 0} (n : ℕ) (xs ys : List A) → length xs ≡ n → take n (xs ++ ys) ≡ xs
take_front zero [] ys h = refl
take_front zero (x ∷ xs) ys h = absurd (omega arith)
take_front (suc n) [] ys h = absurd (omega arith)
take_front {A = A} (suc n) (x ∷ xs) ys h = ap (λ (zs : List A). x ∷ zs) (take_front n xs ys (omega arith))

-- what stands behind the others is turned to the front, and they go
pub kept_part : (xs : List Element) (i j : ℕ) → i ≤ j → j ≤ length xs → take (j - i) (drop i (take j xs) ++ take i (take j xs)) ≡ drop i (take j xs)
kept_part xs i j h k = take_front (j - i) (drop i (take j xs)) (take i (take j xs)) (omega (arith, length-drop i (take j xs), length-take j xs))

pub texts-kept : (xs : List Element) (now : List (List ℕ)) (i j : ℕ) → texts xs ≡ now → texts (drop i (take j xs)) ≡ drop i (take j now)
texts-kept xs now i j v = texts-drop i (take j xs) ∙ ap (drop i) (texts-take j xs ∙ ap (take j) v)
