-- Elements at places, as changes of lists put them there.
use Rattle.std.proofs.Common.{arith, refl, ap, sym, subst, ◌∙◌, ◌≡◌, ℕ, zero, suc, ◌<◌, ◌≤◌, List, [], ◌∷◌, ◌++◌, length, set, get_or, take, drop, ◌-◌, Ok, Err, IfOk, IfErr}
use Rattle.std.proofs.lemmas.List.{take_all}
use Rattle.std.specs.declared.result.Result.{Result}
use Rattle.tcl_value.specs.Limits.{IsWithin, IsPast}
use Rattle.tcl_value.specs.Writing.{write}
use Rattle.tcl_value.specs.Reading.{list_of}
use Rattle.tcl_value.specs.Changes.{AtList, Refuses as RefusesChange}
use Rattle.tcl_value.specs.declared.value.ChangeError.{ChangeError}
use Rattle.tcl_value.specs.declared.value.ChangeError.TheVariants.{Memory as NoMemory, TooLong, List as NoList, NoElement}
use Rattle.tcl_lists.specs.Nested.{Texts, Outcome, next, list_or, list_in, element_at, with_element, RefusesText}
use Rattle.tcl_lists.specs.Errors.{of_change}
use Rattle.tcl_lists.specs.declared.fault.NestedError.{NestedError}

pub placed_inside : (n : ℕ) (x : List ℕ) (l : Texts) → n < length l → with_element n x l ≡ set l n x
placed_inside n x [] h = absurd (omega arith)
placed_inside zero x (y ∷ l) h = refl
placed_inside (suc n) x (y ∷ l) h = ap (λ m. y ∷ m) (placed_inside n x l (omega arith))

pub placed_behind : (n : ℕ) (x : List ℕ) (l : Texts) → length l ≤ n → with_element n x l ≡ l ++ x ∷ []
placed_behind n x [] h = refl
placed_behind zero x (y ∷ l) h = absurd (omega arith)
placed_behind (suc n) x (y ∷ l) h = ap (λ m. y ∷ m) (placed_behind n x l (omega arith))

pub element_inside : (n : ℕ) (l : Texts) (d : List ℕ) → n < length l → get_or l n d ≡ element_at n l
element_inside n [] d h = absurd (omega arith)
element_inside zero (y ∷ l) d h = refl
element_inside (suc n) (y ∷ l) d h = element_inside n l d (omega arith)

pub element_behind : (n : ℕ) (l : Texts) → length l ≤ n → [] ≡ element_at n l
element_behind n [] h = refl
element_behind zero (y ∷ l) h = absurd (omega arith)
element_behind (suc n) (y ∷ l) h = element_behind n l (omega arith)

pub inside_found : {E : Type 0} (r : Result (List ℕ) E) (n : ℕ) (l : Texts) → n < length l → IfOk r (λ v. v ≡ get_or l n v) → IfOk r (λ v. v ≡ element_at n l)
inside_found (Ok v) n l h e = e ∙ element_inside n l v h
inside_found (Err f) n l h e = tt

pub set_past : {R : Type 0} (n : ℕ) (x : List ℕ) (l : Texts) → n < length l → (R → IsPast (write (set l n x))) → R → IsPast (write (with_element n x l))
set_past n x l h past r = subst (λ (z : Texts). IsPast (write z)) (sym (placed_inside n x l h)) (past r)

pub push_past : {R : Type 0} (n : ℕ) (x : List ℕ) (l : Texts) → length l ≤ n → (R → IsPast (write (l ++ x ∷ []))) → R → IsPast (write (with_element n x l))
push_past n x l h past r = subst (λ (z : Texts). IsPast (write z)) (sym (placed_behind n x l h)) (past r)

pub made_of : {E : Type 0} (r : Result (List ℕ) E) (n : ℕ) (x : List ℕ) (l m : Texts) → m ≡ with_element n x l → IfOk r (λ v. (v ≡ write m) × IsWithin (write m)) → IfOk r (λ v. v ≡ write (with_element n x l))
made_of (Ok v) n x l m e h = h.0 ∙ ap write e
made_of (Err f) n x l m e h = tt

-- a list in a value, changed at a place
pub set_done : (t new : List ℕ) (l : Texts) (n : ℕ) (x : List ℕ) → list_of t ≡ Ok l → AtList (list_of t) (λ list. (n < length list) × (new ≡ write (set list n x)) × IsWithin (write (set list n x))) → next {Y = List ℕ} (list_in t) (λ m. Ok (write (with_element n x m))) ≡ Ok new
set_done t new l n x e h =
    let k : (n < length l) × (new ≡ write (set l n x)) × IsWithin (write (set l n x)) = subst (λ r. AtList r (λ list. (n < length list) × (new ≡ write (set list n x)) × IsWithin (write (set list n x)))) e h in
    ap (λ r. next {Y = List ℕ} (list_or r) (λ m. Ok (write (with_element n x m)))) e ∙ ap (λ z. Ok (write z)) (placed_inside n x l k.0) ∙ ap (λ z. Ok z) (sym k.1)

pub push_done : (t new : List ℕ) (l : Texts) (n : ℕ) (x : List ℕ) → list_of t ≡ Ok l → length l ≤ n → AtList (list_of t) (λ list. (new ≡ write (list ++ x ∷ [])) × IsWithin (write (list ++ x ∷ []))) → next {Y = List ℕ} (list_in t) (λ m. Ok (write (with_element n x m))) ≡ Ok new
push_done t new l n x e far h =
    let k : (new ≡ write (l ++ x ∷ [])) × IsWithin (write (l ++ x ∷ [])) = subst (λ r. AtList r (λ list. (new ≡ write (list ++ x ∷ [])) × IsWithin (write (list ++ x ∷ [])))) e h in
    ap (λ r. next {Y = List ℕ} (list_or r) (λ m. Ok (write (with_element n x m)))) e ∙ ap (λ z. Ok (write z)) (placed_behind n x l far) ∙ ap (λ z. Ok z) (sym k.0)

set_refused_in : (e : ChangeError) (l : Texts) (n : ℕ) (x : List ℕ) → n < length l → RefusesChange e (Ok l) (λ list. IsPast (write (set list n x))) (λ list. length list ≤ n) → RefusesText (of_change e) (Ok (write (with_element n x l)))
set_refused_in NoMemory l n x h k = tt
set_refused_in TooLong l n x h k = subst (λ (z : Texts). IsPast (write z)) (sym (placed_inside n x l h)) k
set_refused_in (NoList f) l n x h k = absurd (cc)
set_refused_in NoElement l n x h k = absurd (omega (arith, h, k))

pub set_refused : (e : ChangeError) (t : List ℕ) (l : Texts) (n : ℕ) (x : List ℕ) → list_of t ≡ Ok l → n < length l → RefusesChange e (list_of t) (λ list. IsPast (write (set list n x))) (λ list. length list ≤ n) → RefusesText (of_change e) (next {Y = List ℕ} (list_in t) (λ m. Ok (write (with_element n x m))))
set_refused e t l n x same h k =
    subst (λ r. RefusesText (of_change e) (next {Y = List ℕ} (list_or r) (λ m. Ok (write (with_element n x m))))) (sym same)
    (set_refused_in e l n x h (subst (λ r. RefusesChange e r (λ list. IsPast (write (set list n x))) (λ list. length list ≤ n)) same k))

push_refused_in : (e : ChangeError) (l : Texts) (n : ℕ) (x : List ℕ) → length l ≤ n → RefusesChange e (Ok l) (λ list. IsPast (write (list ++ x ∷ []))) (λ _. ⊥) → RefusesText (of_change e) (Ok (write (with_element n x l)))
push_refused_in NoMemory l n x h k = tt
push_refused_in TooLong l n x h k = subst (λ (z : Texts). IsPast (write z)) (sym (placed_behind n x l h)) k
push_refused_in (NoList f) l n x h k = absurd (cc)
push_refused_in NoElement l n x h k = absurd k

pub push_refused : (e : ChangeError) (t : List ℕ) (l : Texts) (n : ℕ) (x : List ℕ) → list_of t ≡ Ok l → length l ≤ n → RefusesChange e (list_of t) (λ list. IsPast (write (list ++ x ∷ []))) (λ _. ⊥) → RefusesText (of_change e) (next {Y = List ℕ} (list_in t) (λ m. Ok (write (with_element n x m))))
push_refused e t l n x same h k =
    subst (λ r. RefusesText (of_change e) (next {Y = List ℕ} (list_or r) (λ m. Ok (write (with_element n x m))))) (sym same)
    (push_refused_in e l n x h (subst (λ r. RefusesChange e r (λ list. IsPast (write (list ++ x ∷ []))) (λ _. ⊥)) same k))

-- what a `?` gives on
pub given_on : {U : Type 0} (r : Result U NestedError) (y : NestedError) (o : Outcome) → r ≡ Err y → RefusesText y o → IfErr r (λ e. RefusesText e o)
given_on r y o e h = subst (λ z. IfErr z (λ e. RefusesText e o)) (sym e) h

pub kept_on : (y e : NestedError) (t own : List ℕ) (n : ℕ) (x : List ℕ) → y ≡ e → t ≡ own → RefusesText e (next {Y = List ℕ} (list_in t) (λ m. Ok (write (with_element n x m)))) → RefusesText y (next {Y = List ℕ} (list_in own) (λ m. Ok (write (with_element n x m))))
kept_on y e t own n x same kept h =
    subst (λ z. RefusesText z (next {Y = List ℕ} (list_in own) (λ m. Ok (write (with_element n x m))))) (sym same)
    (subst (λ (z : List ℕ). RefusesText e (next {Y = List ℕ} (list_in z) (λ m. Ok (write (with_element n x m))))) kept h)

-- what stands behind the first of some texts
pub first_and_rest : (xs : Texts) (x : List ℕ) → 1 ≤ length xs → x ≡ get_or xs 0 x → xs ≡ x ∷ take (length xs - 1) (drop 1 xs)
first_and_rest [] x h e = absurd (omega arith)
first_and_rest (y ∷ xs) x h e = ap (λ z. z ∷ xs) (sym e) ∙ ap (λ r. x ∷ r) (sym (take_all (length (y ∷ xs) - 1) xs (omega arith)))
