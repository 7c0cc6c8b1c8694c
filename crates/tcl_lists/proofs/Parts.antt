-- Parts of lists.
use Rattle.std.proofs.Common.{◌≡◌, ℕ, ◌+◌, ◌-◌, ◌<◌, List, [], ◌∷◌, ◌++◌, length, take, drop, reverse, get_or, sym, ◌∙◌, ap, arith, append_assoc}
use Rattle.std.proofs.lemmas.List.{take-append-drop, drop_more, get_or-reverse, length-reverse, take_more}
use Rattle.tcl_lists.specs.Lists.{Texts}

regroup : (m d q rest : Texts) (x : List ℕ) → m ++ ((d ++ (x ∷ q)) ++ rest) ≡ ((m ++ d) ++ x ∷ []) ++ (q ++ rest)
regroup m d q rest x = simp append_assoc

-- words, one of them, and what is left of them
pub words_split : (l m made rest : Texts) (i : ℕ) (x : List ℕ) → made ≡ m ++ take i l → i < length l → x ≡ get_or l i x → m ++ (l ++ rest) ≡ (made ++ x ∷ []) ++ (drop (i + 1) l ++ rest)
words_split l m made rest i x e h is =
    let q = drop (i + 1) l in
    let here : drop i l ≡ x ∷ q = drop_more l i x h ∙ ap (λ t. t ∷ q) (sym is) in
    let whole : l ≡ take i l ++ (x ∷ q) = sym (take-append-drop i l) ∙ ap (λ t. take i l ++ t) here in
    ap (λ t. m ++ (t ++ rest)) whole ∙ (regroup m (take i l) q rest x ∙ ap (λ t. (t ++ x ∷ []) ++ (q ++ rest)) (sym e))

-- one more element of a list from behind
pub reverse_more : (l made : Texts) (i n : ℕ) → made ≡ take i (reverse l) → n ≡ length l → i < n → made ++ get_or l (n - 1 - i) [] ∷ [] ≡ take (i + 1) (reverse l)
reverse_more l made i n e h b =
    let inside : i < length (reverse l) = omega (arith, length-reverse l) in
    let last : get_or (reverse l) i [] ≡ get_or l (n - 1 - i) [] = get_or-reverse l i [] (omega arith) ∙ ap (λ k. get_or l (k - 1 - i) []) (sym h) in
    sym (take_more (reverse l) i [] inside ∙ (ap (λ x. take i (reverse l) ++ x ∷ []) last ∙ ap (λ t. t ++ get_or l (n - 1 - i) [] ∷ []) (sym e)))

-- a list is any front of it and the rest
pub take_and_drop : (l front : Texts) (i : ℕ) → front ≡ take i l → l ≡ front ++ drop i l
take_and_drop l front i e = sym (take-append-drop i l) ∙ ap (λ t. t ++ drop i l) (sym e)
