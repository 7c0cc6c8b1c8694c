-- Lists that are written an element at a time.
use Rattle.std.proofs.Common.{◌≡◌, ℕ, ◌+◌, ◌-◌, ◌*◌, ◌<◌, ◌≤◌, suc, zero, Bool, true, false, List, [], ◌∷◌, ◌++◌, length, refl, sym, ◌∙◌, ap, subst, arith, append_assoc, get_or, take, ◌⊎◌, inl, inr}
use Rattle.std.specs.Prelude.{◌==◌}
use Rattle.std.proofs.lemmas.Bool.Decides.{nat_tests}
use Rattle.std.proofs.lemmas.List.{take_more, length-take}
use Rattle.tcl_value.specs.Writing.{write_element, write_rest, write}
use Rattle.tcl_value.proofs.Lasts.{last_cons}
use Rattle.tcl_value.specs.Limits.{IsWithin}
use Rattle.tcl_value.specs.Texts.{AllWithin, flat, pairs, element_text, texts, AreElements, IsElement}
use Rattle.tcl_value.specs.declared.element.Element.{Element}
use Rattle.tcl_value.specs.declared.element.Element.TheVariants.{Text}
use Rattle.tcl_value.proofs.Weights.{starts, texts-push, AreElements-push}

-- what stands before the next element
abbrev pub separator : List (List ℕ) → List ℕ
separator [] = []
separator (x ∷ xs) = 32 ∷ []

write_rest-push : (xs : List (List ℕ)) (y : List ℕ) → write_rest (xs ++ y ∷ []) ≡ write_rest xs ++ (32 ∷ write_element false y)
write_rest-push [] y = ap (λ l. 32 ∷ l) (append_nil (write_element false y))
  where
    append_nil : (l : List ℕ) → l ++ [] ≡ l
    append_nil [] = refl
    append_nil (x ∷ l) = ap (λ m. x ∷ m) (append_nil l)
write_rest-push (x ∷ xs) y = ap (λ l. 32 ∷ (write_element false x ++ l)) (write_rest-push xs y) ∙ ap (λ l. 32 ∷ l) (sym (append_assoc (write_element false x) (write_rest xs) (32 ∷ write_element false y)))

pub write-push : (xs : List (List ℕ)) (y : List ℕ) → write (xs ++ y ∷ []) ≡ (write xs ++ separator xs) ++ write_element (starts true xs) y
write-push [] y = append_nil (write_element true y)
  where
    append_nil : (l : List ℕ) → l ++ [] ≡ l
    append_nil [] = refl
    append_nil (x ∷ l) = ap (λ m. x ∷ m) (append_nil l)
write-push (x ∷ xs) y =
    ap (λ l. write_element true x ++ l) (write_rest-push xs y)
    ∙ sym (append_assoc (write_element true x) (write_rest xs) (32 ∷ write_element false y))
    ∙ sym (append_assoc (write_element true x ++ write_rest xs) (32 ∷ []) (write_element false y))

pub starts_take : (xs : List (List ℕ)) (i : ℕ) → length xs ≡ i → starts true xs ≡ (i == 0)
starts_take [] i h = grind (arith, nat_tests)
starts_take (x ∷ xs) i h = grind (arith, nat_tests)

pub take_write : (xs : List (List ℕ)) (i : ℕ) (x start out mid now : List ℕ) → i < length xs → x ≡ get_or xs i x → out ≡ start ++ write (take i xs) → ((0 < i) × (mid ≡ out ++ 32 ∷ [])) ⊎ ((i ≤ 0) × (mid ≡ out)) → now ≡ mid ++ write_element (i == 0) x → now ≡ start ++ write (take (i + 1) xs)
take_write xs i x start out mid now h e o m n =
    let len : length (take i xs) ≡ i = length-take i xs ∙ omega arith in
    let more : take (i + 1) xs ≡ take i xs ++ x ∷ [] = take_more xs i x h ∙ ap (λ y. take i xs ++ y ∷ []) (sym e) in
    n
    ∙ ap (λ l. l ++ write_element (i == 0) x) (between (take i xs) i start out mid len o m)
    ∙ append_assoc start (write (take i xs) ++ separator (take i xs)) (write_element (i == 0) x)
    ∙ ap (λ b. start ++ ((write (take i xs) ++ separator (take i xs)) ++ write_element b x)) (sym (starts_take (take i xs) i len))
    ∙ ap (λ l. start ++ l) (sym (write-push (take i xs) x) ∙ ap write (sym more))
  where
    between : (ys : List (List ℕ)) (i : ℕ) (start out mid : List ℕ) → length ys ≡ i → out ≡ start ++ write ys → ((0 < i) × (mid ≡ out ++ 32 ∷ [])) ⊎ ((i ≤ 0) × (mid ≡ out)) → mid ≡ start ++ (write ys ++ separator ys)
    between [] i start out mid l o (inl k) = absurd (omega (arith, k.0))
    between [] i start out mid l o (inr k) = k.1 ∙ o
    between (y ∷ ys) i start out mid l o (inl k) = k.1 ∙ ap (λ t. t ++ 32 ∷ []) o ∙ append_assoc start (write (y ∷ ys)) (32 ∷ [])
    between (y ∷ ys) i start out mid l o (inr k) = absurd (omega (arith, k.0))

-- dicts, an entry at a time
pub flat-push : (es : List (List ℕ × List ℕ)) (k v : List ℕ) → flat (es ++ (k, v) ∷ []) ≡ (flat es ++ k ∷ []) ++ v ∷ []
flat-push [] k v = refl
flat-push (e ∷ es) k v = ap (λ l. e.0 ∷ e.1 ∷ l) (flat-push es k v)

pub length-pairs : (ks vs : List (List ℕ)) → length ks ≡ length vs → length (pairs ks vs) ≡ length vs
length-pairs [] vs h = h
length-pairs (k ∷ ks) [] h = refl
length-pairs (k ∷ ks) (v ∷ vs) h = omega (arith, length-pairs ks vs (omega arith))

pub pairs-get : (ks vs : List (List ℕ)) (i : ℕ) (k v : List ℕ) → length ks ≡ length vs → i < length vs → get_or (pairs ks vs) i (k, v) ≡ (get_or ks i k, get_or vs i v)
pairs-get [] vs i k v h l = absurd (omega arith)
pairs-get (x ∷ ks) [] i k v h l = absurd (omega arith)
pairs-get (x ∷ ks) (y ∷ vs) zero k v h l = refl
pairs-get (x ∷ ks) (y ∷ vs) (suc i) k v h l = pairs-get ks vs i k v (omega arith) (omega arith)

flat_starts : (es : List (List ℕ × List ℕ)) (i : ℕ) → length es ≡ i → starts true (flat es) ≡ (i == 0)
flat_starts [] i h = grind (arith, nat_tests)
flat_starts (e ∷ es) i h = grind (arith, nat_tests)

starts-push : (first : Bool) (xs : List (List ℕ)) (y : List ℕ) → starts first (xs ++ y ∷ []) ≡ false
starts-push first [] y = refl
starts-push first (x ∷ xs) y = refl

separator-push : (xs : List (List ℕ)) (y : List ℕ) → separator (xs ++ y ∷ []) ≡ 32 ∷ []
separator-push [] y = refl
separator-push (x ∷ xs) y = refl

pub take_entry : (ks vs : List (List ℕ)) (i : ℕ) (k v start out mid now : List ℕ) → length ks ≡ length vs → i < length vs → k ≡ get_or ks i k → v ≡ get_or vs i v → out ≡ start ++ write (flat (take i (pairs ks vs))) → ((0 < i) × (mid ≡ out ++ 32 ∷ [])) ⊎ ((i ≤ 0) × (mid ≡ out)) → now ≡ ((mid ++ write_element (i == 0) k) ++ 32 ∷ []) ++ write_element false v → now ≡ start ++ write (flat (take (i + 1) (pairs ks vs)))
take_entry ks vs i k v start out mid now same h ke ve o m n =
    let all = length-pairs ks vs same in
    let es = take i (pairs ks vs) in
    let len : length (take i (pairs ks vs)) ≡ i = length-take i (pairs ks vs) ∙ omega arith in
    let here : get_or (pairs ks vs) i (k, v) ≡ (k, v) = pairs-get ks vs i k v same h ∙ ap (λ x. (x, get_or vs i v)) (sym ke) ∙ ap (λ y. (k, y)) (sym ve) in
    let more : take (i + 1) (pairs ks vs) ≡ take i (pairs ks vs) ++ (k, v) ∷ [] = take_more (pairs ks vs) i (k, v) (omega arith) ∙ ap (λ y. take i (pairs ks vs) ++ y ∷ []) here in
    n ∙ joined (take i (pairs ks vs)) i k v start out mid len o m ∙ ap (λ e. start ++ write (flat e)) (sym more)
  where
    first : (es : List (List ℕ × List ℕ)) (i : ℕ) (start out mid : List ℕ) → length es ≡ i → out ≡ start ++ write (flat es) → ((0 < i) × (mid ≡ out ++ 32 ∷ [])) ⊎ ((i ≤ 0) × (mid ≡ out)) → mid ≡ start ++ (write (flat es) ++ separator (flat es))
    first [] i start out mid l o (inl k) = absurd (omega (arith, k.0))
    first [] i start out mid l o (inr k) = k.1 ∙ o
    first (e ∷ es) i start out mid l o (inl k) = k.1 ∙ ap (λ t. t ++ 32 ∷ []) o ∙ append_assoc start (write (flat (e ∷ es))) (32 ∷ [])
    first (e ∷ es) i start out mid l o (inr k) = absurd (omega (arith, k.0))

    key_written : (es : List (List ℕ × List ℕ)) (i : ℕ) (k start out mid : List ℕ) → length es ≡ i → out ≡ start ++ write (flat es) → ((0 < i) × (mid ≡ out ++ 32 ∷ [])) ⊎ ((i ≤ 0) × (mid ≡ out)) → mid ++ write_element (i == 0) k ≡ start ++ write (flat es ++ k ∷ [])
    key_written es i k start out mid l o m =
        ap (λ t. t ++ write_element (i == 0) k) (first es i start out mid l o m)
        ∙ append_assoc start (write (flat es) ++ separator (flat es)) (write_element (i == 0) k)
        ∙ ap (λ b. start ++ ((write (flat es) ++ separator (flat es)) ++ write_element b k)) (sym (flat_starts es i l))
        ∙ ap (λ t. start ++ t) (sym (write-push (flat es) k))

    joined : (es : List (List ℕ × List ℕ)) (i : ℕ) (k v start out mid : List ℕ) → length es ≡ i → out ≡ start ++ write (flat es) → ((0 < i) × (mid ≡ out ++ 32 ∷ [])) ⊎ ((i ≤ 0) × (mid ≡ out)) → ((mid ++ write_element (i == 0) k) ++ 32 ∷ []) ++ write_element false v ≡ start ++ write (flat (es ++ (k, v) ∷ []))
    joined es i k v start out mid l o m =
        ap (λ t. (t ++ 32 ∷ []) ++ write_element false v) (key_written es i k start out mid l o m)
        ∙ ap (λ t. t ++ write_element false v) (append_assoc start (write (flat es ++ k ∷ [])) (32 ∷ []))
        ∙ append_assoc start (write (flat es ++ k ∷ []) ++ 32 ∷ []) (write_element false v)
        ∙ ap (λ t. start ++ ((write (flat es ++ k ∷ []) ++ t) ++ write_element false v)) (sym (separator-push (flat es) k))
        ∙ ap (λ b. start ++ ((write (flat es ++ k ∷ []) ++ separator (flat es ++ k ∷ [])) ++ write_element b v)) (sym (starts-push true (flat es) k))
        ∙ ap (λ t. start ++ t) (sym (write-push (flat es ++ k ∷ []) v) ∙ ap write (sym (flat-push es k v)))

-- the first entries, and one more
pub take_flat : (ks vs : List (List ℕ)) (i : ℕ) (k v : List ℕ) → length ks ≡ length vs → i < length vs → k ≡ get_or ks i k → v ≡ get_or vs i v → flat (take (i + 1) (pairs ks vs)) ≡ (flat (take i (pairs ks vs)) ++ k ∷ []) ++ v ∷ []
take_flat ks vs i k v same h ke ve =
    let all = length-pairs ks vs same in
    let here : get_or (pairs ks vs) i (k, v) ≡ (k, v) = pairs-get ks vs i k v same h ∙ ap (λ x. (x, get_or vs i v)) (sym ke) ∙ ap (λ y. (k, y)) (sym ve) in
    ap flat (take_more (pairs ks vs) i (k, v) (omega arith) ∙ ap (λ y. take i (pairs ks vs) ++ y ∷ []) here) ∙ flat-push (take i (pairs ks vs)) k v

-- texts that are within the limit
pub AllWithin-get : (xs : List (List ℕ)) (i : ℕ) (d : List ℕ) → AllWithin xs → i < length xs → IsWithin (get_or xs i d)
AllWithin-get [] i d h k = absurd (omega arith)
AllWithin-get (x ∷ xs) zero d h k = h.0
AllWithin-get (x ∷ xs) (suc i) d h k = AllWithin-get xs i d h.1 (omega arith)

-- elements with one text more, and with another element behind it
pub one_more : (es e1 : List Element) (k t : List ℕ) (before : List (List ℕ)) → e1 ≡ es ++ Text k ∷ [] → k ≡ t → texts es ≡ before → texts e1 ≡ before ++ t ∷ []
one_more es e1 k t before e s b = ap texts e ∙ texts-push es (Text k) ∙ ap (λ x. texts es ++ x ∷ []) s ∙ ap (λ xs. xs ++ t ∷ []) b

pub two_more : (es e1 e2 : List Element) (k t u : List ℕ) (v : Element) (before : List (List ℕ)) → e1 ≡ es ++ Text k ∷ [] → k ≡ t → e2 ≡ e1 ++ v ∷ [] → element_text v ≡ u → texts es ≡ before → texts e2 ≡ (before ++ t ∷ []) ++ u ∷ []
two_more es e1 e2 k t u v before e s f r b =
    ap texts f ∙ texts-push e1 v ∙ ap (λ x. texts e1 ++ x ∷ []) r ∙ ap (λ xs. xs ++ u ∷ []) (one_more es e1 k t before e s b)

pub one_more_element : (es e1 : List Element) (k : List ℕ) → e1 ≡ es ++ Text k ∷ [] → AreElements es → IsWithin k → AreElements e1
one_more_element es e1 k e h w = subst AreElements (sym e) (AreElements-push es (Text k) h w)

pub two_more_elements : (es e1 e2 : List Element) (k : List ℕ) (v : Element) → e1 ≡ es ++ Text k ∷ [] → e2 ≡ e1 ++ v ∷ [] → AreElements es → IsWithin k → IsElement v → AreElements e2
two_more_elements es e1 e2 k v e f h w i = subst AreElements (sym f) (AreElements-push e1 v (one_more_element es e1 k e h w) i)

pub length-flat : (es : List (List ℕ × List ℕ)) → length (flat es) ≡ 2 * length es
length-flat [] = refl
length-flat (e ∷ es) = omega (arith, length-flat es)

-- the last value of a dict is the last of its list
pub flat_last : (ks vs : List (List ℕ)) (v : List ℕ) → length ks ≡ length vs → 1 ≤ length vs → v ≡ get_or vs (length vs - 1) v → v ≡ get_or (flat (pairs ks vs)) (length (flat (pairs ks vs)) - 1) v
flat_last ks [] v h m e = absurd (omega arith)
flat_last [] (y ∷ vs) v h m e = absurd (omega arith)
flat_last (k ∷ []) (y ∷ []) v h m e = e
flat_last (k ∷ []) (y ∷ z ∷ vs) v h m e = absurd (omega arith)
flat_last (k ∷ l ∷ ks) (y ∷ []) v h m e = absurd (omega arith)
flat_last (k ∷ l ∷ ks) (y ∷ z ∷ vs) v h m e = flat_last (l ∷ ks) (z ∷ vs) v (omega arith) (omega arith) (e ∙ last_cons y z vs v) ∙ sym (last_cons k y (l ∷ z ∷ flat (pairs ks vs)) v ∙ last_cons y l (z ∷ flat (pairs ks vs)) v)
