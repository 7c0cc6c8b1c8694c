-- Dicts by the places of their keys.
use Rattle.std.proofs.Common.{◌≡◌, ℕ, ◌+◌, ◌<◌, ◌≤◌, suc, zero, Bool, true, false, cond, not, ◌||◌, List, [], ◌∷◌, ◌++◌, length, refl, sym, ap, arith, get_or, set, Option, Some, None, IsTrue}
use Rattle.std.specs.Prelude.{◌==◌, nat_lt, position, remove}
use Rattle.std.specs.Str.{bytes_eq}
use Rattle.std.specs.List.{list_any, position_or_len}
use Rattle.std.specs.Cmp.Lexicographic.{bytes_decides}
use Rattle.std.proofs.lemmas.Bool.Decides.{nat_tests}
use Rattle.tcl_value.specs.Texts.{flat, pairs, weight_from, weight, AreDistinct}
use Rattle.tcl_value.specs.Dicts.{Pairs, put, without, value_of, place_of, value_set, entry_dropped}
use Rattle.tcl_value.proofs.Weights.{size, starts, weight-push}
use Rattle.tcl_value.proofs.Writes.{flat-push}

-- a key that is there
pub put_found : (es : Pairs) (k v : List ℕ) → place_of es k < length es → put es k v ≡ value_set es (place_of es k) v
put_found [] k v h = absurd (omega arith)
put_found (e ∷ es) k v h = by_test (bytes_eq k e.0) (put_found es k v) h
  where
    by_test : (t : Bool) → (place_of es k < length es → put es k v ≡ value_set es (place_of es k) v) → cond t 0 (suc (place_of es k)) < suc (length es) → cond t ((e.0, v) ∷ es) (e ∷ put es k v) ≡ value_set (e ∷ es) (cond t 0 (suc (place_of es k))) v
    by_test true later m = refl
    by_test false later m = ap (λ l. e ∷ l) (later (omega arith))

-- a key that isn't there
pub put_new : (es : Pairs) (k v : List ℕ) → length es ≤ place_of es k → put es k v ≡ es ++ (k, v) ∷ []
put_new [] k v h = refl
put_new (e ∷ es) k v h = by_test (bytes_eq k e.0) (put_new es k v) h
  where
    by_test : (t : Bool) → (length es ≤ place_of es k → put es k v ≡ es ++ (k, v) ∷ []) → suc (length es) ≤ cond t 0 (suc (place_of es k)) → cond t ((e.0, v) ∷ es) (e ∷ put es k v) ≡ e ∷ (es ++ (k, v) ∷ [])
    by_test true later m = absurd (omega arith)
    by_test false later m = ap (λ l. e ∷ l) (later (omega arith))

pub value_found : (es : Pairs) (k : List ℕ) (d : List ℕ × List ℕ) → place_of es k < length es → value_of es k ≡ Some (get_or es (place_of es k) d).1
value_found [] k d h = absurd (omega arith)
value_found (e ∷ es) k d h = by_test (bytes_eq k e.0) (value_found es k d) h
  where
    by_test : (t : Bool) → (place_of es k < length es → value_of es k ≡ Some (get_or es (place_of es k) d).1) → cond t 0 (suc (place_of es k)) < suc (length es) → cond t (Some e.1) (value_of es k) ≡ Some (get_or (e ∷ es) (cond t 0 (suc (place_of es k))) d).1
    by_test true later m = refl
    by_test false later m = later (omega arith)

pub value_none : (es : Pairs) (k : List ℕ) → length es ≤ place_of es k → value_of es k ≡ None
value_none [] k h = refl
value_none (e ∷ es) k h = by_test (bytes_eq k e.0) (value_none es k) h
  where
    by_test : (t : Bool) → (length es ≤ place_of es k → value_of es k ≡ None) → suc (length es) ≤ cond t 0 (suc (place_of es k)) → cond t (Some e.1) (value_of es k) ≡ None
    by_test true later m = absurd (omega arith)
    by_test false later m = later (omega arith)

pub without_found : (es : Pairs) (k : List ℕ) → place_of es k < length es → without es k ≡ entry_dropped es (place_of es k)
without_found [] k h = absurd (omega arith)
without_found (e ∷ es) k h = by_test (bytes_eq k e.0) (without_found es k) h
  where
    by_test : (t : Bool) → (place_of es k < length es → without es k ≡ entry_dropped es (place_of es k)) → cond t 0 (suc (place_of es k)) < suc (length es) → cond t es (e ∷ without es k) ≡ entry_dropped (e ∷ es) (cond t 0 (suc (place_of es k)))
    by_test true later m = refl
    by_test false later m = ap (λ l. e ∷ l) (later (omega arith))

pub without_none : (es : Pairs) (k : List ℕ) → length es ≤ place_of es k → without es k ≡ es
without_none [] k h = refl
without_none (e ∷ es) k h = by_test (bytes_eq k e.0) (without_none es k) h
  where
    by_test : (t : Bool) → (length es ≤ place_of es k → without es k ≡ es) → suc (length es) ≤ cond t 0 (suc (place_of es k)) → cond t es (e ∷ without es k) ≡ e ∷ es
    by_test true later m = absurd (omega arith)
    by_test false later m = ap (λ l. e ∷ l) (later (omega arith))

-- the place of a key among the keys
pub place_is : (ks vs : List (List ℕ)) (k : List ℕ) → length ks ≡ length vs → place_of (pairs ks vs) k ≡ position_or_len (bytes_eq k) ks
place_is [] vs k h = refl
place_is (x ∷ ks) [] k h = absurd (omega arith)
place_is (x ∷ ks) (y ∷ vs) k h = by_test (bytes_eq k x) (place_is ks vs k (omega arith))
  where
    by_test : (t : Bool) → place_of (pairs ks vs) k ≡ position_or_len (bytes_eq k) ks → cond t 0 (suc (place_of (pairs ks vs) k)) ≡ cond (not t) (1 + position_or_len (bytes_eq k) ks) 0
    by_test true e = refl
    by_test false e = omega arith

place_at_most : (ks : List (List ℕ)) (k : List ℕ) → position_or_len (bytes_eq k) ks ≤ length ks
place_at_most [] k = omega arith
place_at_most (x ∷ ks) k = by_test (bytes_eq k x) (place_at_most ks k)
  where
    by_test : (t : Bool) → position_or_len (bytes_eq k) ks ≤ length ks → cond (not t) (1 + position_or_len (bytes_eq k) ks) 0 ≤ suc (length ks)
    by_test true e = omega arith
    by_test false e = omega arith

pub position_some : (ks : List (List ℕ)) (k : List ℕ) (i : ℕ) → Some i ≡ position (bytes_eq k) ks → (position_or_len (bytes_eq k) ks ≡ i) × (i < length ks)
position_some ks k i h = by_test (nat_lt (position_or_len (bytes_eq k) ks) (length ks)) refl h
  where
    by_test : (t : Bool) → nat_lt (position_or_len (bytes_eq k) ks) (length ks) ≡ t → Some i ≡ cond t (Some (position_or_len (bytes_eq k) ks)) None → (position_or_len (bytes_eq k) ks ≡ i) × (i < length ks)
    by_test true e f =
        let same : i ≡ position_or_len (bytes_eq k) ks = cc in
        let less : position_or_len (bytes_eq k) ks < length ks = grind (arith, nat_tests) in
        (sym same, omega arith)
    by_test false e f = absurd (cc)

abbrev none_at : Option ℕ
none_at = None

pub position_none : (ks : List (List ℕ)) (k : List ℕ) → none_at ≡ position (bytes_eq k) ks → position_or_len (bytes_eq k) ks ≡ length ks
position_none ks k h = by_test (nat_lt (position_or_len (bytes_eq k) ks) (length ks)) refl h
  where
    by_test : (t : Bool) → nat_lt (position_or_len (bytes_eq k) ks) (length ks) ≡ t → none_at ≡ cond t (Some (position_or_len (bytes_eq k) ks)) None → position_or_len (bytes_eq k) ks ≡ length ks
    by_test true e f = absurd (cc)
    by_test false e f =
        let most = place_at_most ks k in
        let more : length ks ≤ position_or_len (bytes_eq k) ks = grind (arith, nat_tests) in
        omega arith

-- a key that isn't there is equal to none
pub absent : (ks : List (List ℕ)) (k : List ℕ) → position_or_len (bytes_eq k) ks ≡ length ks → list_any (bytes_eq k) ks ≡ false
absent [] k h = refl
absent (x ∷ ks) k h = by_test (bytes_eq k x) (absent ks k) h
  where
    by_test : (t : Bool) → (position_or_len (bytes_eq k) ks ≡ length ks → list_any (bytes_eq k) ks ≡ false) → cond (not t) (1 + position_or_len (bytes_eq k) ks) 0 ≡ suc (length ks) → (t || list_any (bytes_eq k) ks) ≡ false
    by_test true later m = absurd (omega arith)
    by_test false later m = later (omega arith)

-- keys and values apart
pub pairs_set : (ks vs : List (List ℕ)) (i : ℕ) (v : List ℕ) → length ks ≡ length vs → pairs ks (set vs i v) ≡ value_set (pairs ks vs) i v
pairs_set [] vs i v h = refl
pairs_set (k ∷ ks) [] i v h = absurd (omega arith)
pairs_set (k ∷ ks) (x ∷ vs) zero v h = refl
pairs_set (k ∷ ks) (x ∷ vs) (suc i) v h = ap (λ l. (k, x) ∷ l) (pairs_set ks vs i v (omega arith))

pub pairs_push : (ks vs : List (List ℕ)) (k v : List ℕ) → length ks ≡ length vs → pairs (ks ++ k ∷ []) (vs ++ v ∷ []) ≡ pairs ks vs ++ (k, v) ∷ []
pairs_push [] [] k v h = refl
pairs_push [] (y ∷ vs) k v h = absurd (omega arith)
pairs_push (x ∷ ks) [] k v h = absurd (omega arith)
pairs_push (x ∷ ks) (y ∷ vs) k v h = ap (λ l. (x, y) ∷ l) (pairs_push ks vs k v (omega arith))

pub pairs_get : (ks vs : List (List ℕ)) (i : ℕ) (d : List ℕ × List ℕ) → length ks ≡ length vs → get_or (pairs ks vs) i d ≡ (get_or ks i d.0, get_or vs i d.1)
pairs_get [] [] i d h = refl
pairs_get [] (y ∷ vs) i d h = absurd (omega arith)
pairs_get (k ∷ ks) [] i d h = absurd (omega arith)
pairs_get (k ∷ ks) (x ∷ vs) zero d h = refl
pairs_get (k ∷ ks) (x ∷ vs) (suc i) d h = pairs_get ks vs i d (omega arith)

pub pairs_drop : (ks vs : List (List ℕ)) (i : ℕ) → length ks ≡ length vs → pairs (remove ks i) (remove vs i) ≡ entry_dropped (pairs ks vs) i
pairs_drop [] [] zero h = refl
pairs_drop [] [] (suc i) h = refl
pairs_drop [] (y ∷ vs) i h = absurd (omega arith)
pairs_drop (k ∷ ks) [] i h = absurd (omega arith)
pairs_drop (k ∷ ks) (x ∷ vs) zero h = refl
pairs_drop (k ∷ ks) (x ∷ vs) (suc i) h = ap (λ l. (k, x) ∷ l) (pairs_drop ks vs i (omega arith))

pub length-value_set : (es : Pairs) (i : ℕ) (v : List ℕ) → length (value_set es i v) ≡ length es
length-value_set [] i v = refl
length-value_set (e ∷ es) zero v = refl
length-value_set (e ∷ es) (suc i) v = ap suc (length-value_set es i v)

-- what dicts weigh
pub weight-value_set : (first : Bool) (es : Pairs) (i : ℕ) (v : List ℕ) (d : List ℕ × List ℕ) → i < length es → weight_from first (flat (value_set es i v)) + size false (get_or es i d).1 ≡ weight_from first (flat es) + size false v
weight-value_set first [] i v d h = absurd (omega arith)
weight-value_set first (e ∷ es) zero v d h = omega arith
weight-value_set first (e ∷ es) (suc i) v d h = omega (arith, weight-value_set false es i v d (omega arith))

flat_starts : (es : Pairs) (b : Bool) → b ≡ (length es == 0) → starts true (flat es) ≡ b
flat_starts [] b h = grind (arith, nat_tests)
flat_starts (e ∷ es) b h = grind (arith, nat_tests)

starts_after : (xs : List (List ℕ)) (y : List ℕ) → starts true (xs ++ y ∷ []) ≡ false
starts_after [] y = refl
starts_after (x ∷ xs) y = refl

pub weight-entry : (es : Pairs) (k v : List ℕ) (b : Bool) → b ≡ (length es == 0) → weight (flat (es ++ (k, v) ∷ [])) ≡ weight (flat es) + size b k + 1 + size false v + 1
weight-entry es k v b h =
    let all = ap weight (flat-push es k v) in
    let two = weight-push true (flat es ++ k ∷ []) v in
    let one = weight-push true (flat es) k in
    let first = ap (λ t. size t k) (flat_starts es b h) in
    let second = ap (λ t. size t v) (starts_after (flat es) k) in
    omega arith

-- distinct keys
same_test : (a b : Bool) → (IsTrue a → IsTrue b) → b ≡ false → a ≡ false
same_test true b f h = absurd (let t : IsTrue b = f refl in cc)
same_test false b f h = refl

pub turned : (x y : List ℕ) → bytes_eq x y ≡ false → bytes_eq y x ≡ false
turned x y h = same_test (bytes_eq y x) (bytes_eq x y) (λ t. (bytes_decides x y).1 (sym ((bytes_decides y x).0 t))) h

neither : (a b : Bool) → (a || b) ≡ false → (a ≡ false) × (b ≡ false)
neither true b h = absurd (cc)
neither false b h = (refl, h)

or_false : (a b : Bool) → a ≡ false → b ≡ false → (a || b) ≡ false
or_false true b h g = absurd (cc)
or_false false b h g = g

any-push : (x : List ℕ) (ks : List (List ℕ)) (k : List ℕ) → list_any (bytes_eq x) ks ≡ false → bytes_eq x k ≡ false → list_any (bytes_eq x) (ks ++ k ∷ []) ≡ false
any-push x [] k h e = or_false (bytes_eq x k) false e refl
any-push x (y ∷ ks) k h e = let parts = neither (bytes_eq x y) (list_any (bytes_eq x) ks) h in or_false (bytes_eq x y) (list_any (bytes_eq x) (ks ++ k ∷ [])) parts.0 (any-push x ks k parts.1 e)

pub AreDistinct-push : (ks : List (List ℕ)) (k : List ℕ) → AreDistinct ks → list_any (bytes_eq k) ks ≡ false → AreDistinct (ks ++ k ∷ [])
AreDistinct-push [] k h e = (refl, tt)
AreDistinct-push (x ∷ ks) k h e =
    let parts = neither (bytes_eq k x) (list_any (bytes_eq k) ks) e in
    (any-push x ks k h.0 (turned k x parts.0), AreDistinct-push ks k h.1 parts.1)

any-drop : (x : List ℕ) (ks : List (List ℕ)) (i : ℕ) → list_any (bytes_eq x) ks ≡ false → list_any (bytes_eq x) (remove ks i) ≡ false
any-drop x [] zero h = refl
any-drop x [] (suc i) h = refl
any-drop x (y ∷ ks) zero h = (neither (bytes_eq x y) (list_any (bytes_eq x) ks) h).1
any-drop x (y ∷ ks) (suc i) h = let parts = neither (bytes_eq x y) (list_any (bytes_eq x) ks) h in or_false (bytes_eq x y) _ parts.0 (any-drop x ks i parts.1)

pub AreDistinct-drop : (ks : List (List ℕ)) (i : ℕ) → AreDistinct ks → AreDistinct (remove ks i)
AreDistinct-drop [] zero h = tt
AreDistinct-drop [] (suc i) h = tt
AreDistinct-drop (x ∷ ks) zero h = h.1
AreDistinct-drop (x ∷ ks) (suc i) h = (any-drop x ks i h.0, AreDistinct-drop ks i h.1)
