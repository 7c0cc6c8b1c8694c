-- Lists with several elements more.
use Rattle.std.proofs.Common.{◌≡◌, ℕ, ◌+◌, ◌<◌, Bool, true, false, List, [], ◌∷◌, ◌++◌, length, refl, sym, ◌∙◌, ap, subst, arith, get_or, take, Result, Ok, Err, OnOk, IfErr}
use Rattle.std.specs.Prelude.{◌==◌, ◌&&◌}
use Rattle.std.proofs.lemmas.Bool.Decides.{nat_tests}
use Rattle.std.proofs.lemmas.List.{take_more, length-take}
use Rattle.tcl_value.specs.Limits.{IsWithin, IsPast}
use Rattle.tcl_value.specs.Writing.{write}
use Rattle.tcl_value.specs.Reading.{list_of}
use Rattle.tcl_value.specs.Changes.{AtList, Refuses}
use Rattle.tcl_value.specs.declared.value.ChangeError.{ChangeError}
use Rattle.tcl_value.specs.Texts.{weight_from, weight, element_text, texts, AreElements}
use Rattle.tcl_value.specs.declared.element.Element.{Element}
use Rattle.tcl_value.proofs.Weights.{size, starts, weight-push}

starts_later : (xs : List (List ℕ)) → starts false xs ≡ false
starts_later [] = refl
starts_later (x ∷ xs) = refl

weight-append : (first : Bool) (xs ys : List (List ℕ)) → weight_from first (xs ++ ys) ≡ weight_from first xs + weight_from (starts first xs) ys
weight-append first [] ys = omega arith
weight-append first (x ∷ xs) ys = let rest = ap (λ b. weight_from b ys) (starts_later xs) in omega (arith, weight-append false xs ys)

pub texts-append : (xs ys : List Element) → texts (xs ++ ys) ≡ texts xs ++ texts ys
texts-append [] ys = refl
texts-append (x ∷ xs) ys = ap (λ t. element_text x ∷ t) (texts-append xs ys)

pub AreElements-append : (xs ys : List Element) → AreElements xs → AreElements ys → AreElements (xs ++ ys)
AreElements-append [] ys h k = k
AreElements-append (x ∷ xs) ys h k = (h.0, AreElements-append xs ys h.1 k)

starts_empty : (xs : List (List ℕ)) (n : ℕ) → n ≡ length xs → (n == 0) ≡ starts true xs
starts_empty [] n h = grind (arith, nat_tests)
starts_empty (x ∷ xs) n h = grind (arith, nat_tests)

pub extended_weight : (xs now ys : List (List ℕ)) (kept more n : ℕ) (first : Bool) → kept ≡ weight xs → xs ≡ now → first ≡ (n == 0) → n ≡ length xs → more ≡ weight_from first ys → kept + more ≡ weight (now ++ ys)
extended_weight xs now ys kept more n first k e f l m =
    let same = ap (λ b. weight_from b ys) (f ∙ starts_empty xs n l) in
    let one = weight-append true xs ys in
    let all = ap (λ t. weight (t ++ ys)) e in
    omega arith

starts_first : (first : Bool) (xs : List (List ℕ)) (i : ℕ) → length xs ≡ i → starts first xs ≡ (first && (i == 0))
starts_first true [] i h = grind (arith, nat_tests)
starts_first true (x ∷ xs) i h = grind (arith, nat_tests)
starts_first false [] i h = refl
starts_first false (x ∷ xs) i h = refl

pub take_weight_from : (first : Bool) (xs : List (List ℕ)) (i : ℕ) (x : List ℕ) (kept more : ℕ) → i < length xs → x ≡ get_or xs i x → kept ≡ weight_from first (take i xs) → more ≡ size (first && (i == 0)) x → kept + (more + 1) ≡ weight_from first (take (i + 1) xs)
take_weight_from first xs i x kept more h e k m =
    let len : length (take i xs) ≡ i = length-take i xs ∙ omega arith in
    let all : take (i + 1) xs ≡ take i xs ++ x ∷ [] = take_more xs i x h ∙ ap (λ y. take i xs ++ y ∷ []) (sym e) in
    let one = weight-push first (take i xs) x in
    let at = ap (λ b. size b x) (starts_first first (take i xs) i len) in
    let same = ap (weight_from first) all in
    omega arith

pub extended_at : {U : Type 0} (r : Result U ChangeError) (old : List ℕ) (xs new vs ts : List (List ℕ)) → list_of old ≡ Ok xs → ts ≡ vs → OnOk r (new ≡ xs ++ ts) → OnOk r (IsWithin (write new)) → OnOk r (AtList (list_of old) (λ list. (write new ≡ write (list ++ vs)) × IsWithin (write (list ++ vs))))
extended_at (Ok x) old xs new vs ts e q p w =
    let same = p ∙ ap (λ z. xs ++ z) q in
    subst (λ r. AtList r (λ list. (write new ≡ write (list ++ vs)) × IsWithin (write (list ++ vs)))) (sym e) (ap write same, subst (λ l. IsWithin (write l)) same w)
extended_at (Err x) old xs new vs ts e q p w = tt

pub extension_refused_at : {U : Type 0} (r : Result U ChangeError) (old : List ℕ) (xs vs ts : List (List ℕ)) → list_of old ≡ Ok xs → ts ≡ vs → IfErr r (λ e. Refuses e (Ok xs) (λ list. IsPast (write (list ++ ts))) (λ _. ⊥)) → IfErr r (λ e. Refuses e (list_of old) (λ list. IsPast (write (list ++ vs))) (λ _. ⊥))
extension_refused_at r old xs vs ts e q h =
    subst (λ (f : List (List ℕ)). IfErr r (λ x. Refuses x (list_of old) (λ list. IsPast (write (list ++ f))) (λ _. ⊥))) q (subst (λ l. IfErr r (λ x. Refuses x l (λ list. IsPast (write (list ++ ts))) (λ _. ⊥))) (sym e) h)
