-- Texts that are compared an element at a time.
use Rattle.std.proofs.Common.{◌≡◌, ◌≢◌, ℕ, ◌+◌, ◌<◌, suc, Bool, true, false, List, [], ◌∷◌, ◌++◌, length, refl, sym, ◌∙◌, ap, arith, get_or, drop, drop-cons, add-one}
use Rattle.std.specs.Prelude.{◌==◌, IsTrue, ◌↔◌}
use Rattle.std.proofs.lemmas.Bool.Decides.{nat_tests}
use Rattle.std.proofs.lemmas.List.{append_cancel_left}
use Rattle.tcl_value.specs.Writing.{write_element, write_rest, write, placed, write_from}
use Rattle.tcl_value.specs.Texts.{flat, pairs}
use Rattle.tcl_value.proofs.Writes.{pairs-get, length-pairs}

write_from-rest : (xs : List (List ℕ)) → write_from false xs ≡ write_rest xs
write_from-rest [] = refl
write_from-rest (x ∷ xs) = ap (λ l. 32 ∷ (write_element false x ++ l)) (write_from-rest xs)

pub write_from-all : (xs : List (List ℕ)) → write_from true xs ≡ write xs
write_from-all [] = refl
write_from-all (x ∷ xs) = ap (λ l. write_element true x ++ l) (write_from-rest xs)

-- what is told of a text is told of one that is equal
pub told : {R : Type 0} (t x y : List ℕ) → R ↔ (t ≡ x) → x ≡ y → R ↔ (t ≡ y)
told t x y h e = (λ r. h.0 r ∙ e, λ s. h.1 (s ∙ sym e))

pub told_from : (t x y : List ℕ) → x ≡ y → (t ≡ x) ↔ (t ≡ y)
told_from t x y e = (λ s. s ∙ e, λ s. s ∙ sym e)

-- a front that both have is left out
pub behind : {R : Type 0} (rest front after x all : List ℕ) → R ↔ (rest ≡ all) → all ≡ front ++ x → rest ≡ front ++ after → R ↔ (after ≡ x)
behind rest front after x all h w e =
    (λ r. append_cancel_left front after x (sym e ∙ h.0 r ∙ w), λ s. h.1 (e ∙ ap (λ z. front ++ z) s ∙ sym w))

-- a front that one of them lacks
pub never : {R : Type 0} (rest front x all : List ℕ) → R ↔ (rest ≡ all) → all ≡ front ++ x → ((more : List ℕ) → rest ≢ front ++ more) → IsTrue false ↔ R
never rest front x all h w n = (λ r. absurd (let e : false ≡ true = r in cc), λ r. absurd (n x (h.0 r ∙ w)))

pub turned : {R : Type 0} (t x y : List ℕ) → R ↔ (t ≡ x) → x ≡ y → R ↔ (t ≡ y)
turned t x y h e = (λ r. h.0 r ∙ e, λ s. h.1 (s ∙ sym e))

more_is_later : (i : ℕ) → (i + 1 == 0) ≡ false
more_is_later i = grind (arith, nat_tests)

-- the elements from a place on begin with that at the place
pub from_item : (xs : List (List ℕ)) (i : ℕ) (x : List ℕ) → i < length xs → x ≡ get_or xs i x → write_from (i == 0) (drop i xs) ≡ placed (i == 0) x ++ write_from (i + 1 == 0) (drop (i + 1) xs)
from_item xs i x h e =
    let cons : drop i xs ≡ x ∷ drop (i + 1) xs = rw (add-one, drop-cons xs i x) (ap (λ y. y ∷ drop (suc i) xs) (sym e)) in
    ap (write_from (i == 0)) cons
    ∙ ap (λ b. placed (i == 0) x ++ write_from b (drop (i + 1) xs)) (sym (more_is_later i))

-- and those of a dict with a key and its value
from_drop : (es : List (List ℕ × List ℕ)) (i : ℕ) (k v : List ℕ) → i < length es → (k, v) ≡ get_or es i (k, v) → flat (drop i es) ≡ k ∷ v ∷ flat (drop (i + 1) es)
from_drop es i k v h e =
    let cons : drop i es ≡ (k, v) ∷ drop (i + 1) es = rw (add-one, drop-cons es i (k, v)) (ap (λ y. y ∷ drop (suc i) es) (sym e)) in
    ap flat cons

pub from_entry : (ks vs : List (List ℕ)) (i : ℕ) (k v : List ℕ) → length ks ≡ length vs → i < length vs → k ≡ get_or ks i k → v ≡ get_or vs i v → write_from (i == 0) (flat (drop i (pairs ks vs))) ≡ placed (i == 0) k ++ (placed false v ++ write_from (i + 1 == 0) (flat (drop (i + 1) (pairs ks vs))))
from_entry ks vs i k v same h ke ve =
    let here : (k, v) ≡ get_or (pairs ks vs) i (k, v) = ap (λ x. (x, v)) ke ∙ ap (λ y. (get_or ks i k, y)) ve ∙ sym (pairs-get ks vs i k v same h) in
    let all = length-pairs ks vs same in
    ap (write_from (i == 0)) (from_drop (pairs ks vs) i k v (omega arith) here)
    ∙ ap (λ b. placed (i == 0) k ++ (placed false v ++ write_from b (flat (drop (i + 1) (pairs ks vs))))) (sym (more_is_later i))

emptied : (r : Bool) (rest : List ℕ) → r ≡ (length rest == 0) → IsTrue r ↔ (rest ≡ [])
emptied r [] e = (λ _. refl, λ _. e)
emptied r (x ∷ rest) e =
    let some : (length (x ∷ rest) == 0) ≡ false = grind (arith, nat_tests) in
    (λ t. absurd (let n : false ≡ true = sym some ∙ sym e ∙ t in cc), λ h. absurd (cc))

pub ended : {R : Type 0} (r : Bool) (rest : List ℕ) → r ≡ (length rest == 0) → R ↔ (rest ≡ []) → IsTrue r ↔ R
ended r rest e h = (λ t. h.1 ((emptied r rest e).0 t), λ p. (emptied r rest e).1 (h.0 p))
