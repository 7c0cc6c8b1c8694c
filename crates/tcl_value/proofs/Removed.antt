-- Dicts that lose an entry, dicts within the limit, and dicts that are read from lists.
use Rattle.std.proofs.Common.{◌≡◌, ℕ, ◌+◌, ◌*◌, ◌<◌, ◌≤◌, suc, zero, Bool, true, false, cond, List, [], ◌∷◌, ◌++◌, length, refl, sym, ◌∙◌, ap, subst, arith, get_or, take, Some, None, Result, Ok, Err, OnOk, append_assoc, IfOk, IsTrue, ◌⊎◌, inl, inr}
use Rattle.std.specs.Prelude.{◌==◌, ◌||◌, remove}
use Rattle.std.proofs.lemmas.Bool.Decides.{nat_tests}
use Rattle.std.specs.Str.{bytes_eq}
use Rattle.std.specs.List.{list_any}
use Rattle.tcl_value.specs.Limits.{IsWithin, IsPast}
use Rattle.tcl_value.specs.Writing.{write}
use Rattle.tcl_value.specs.Texts.{flat, pairs, weight_from, weight, element_text, texts, AreElements, AllWithin, AreDistinct, IsEntries}
use Rattle.tcl_value.specs.Dicts.{Pairs, put, put_all, without, value_of, place_of, entry_dropped}
use Rattle.tcl_value.specs.declared.element.Element.{Element}
use Rattle.tcl_value.specs.declared.value.ValueError.{ValueError}
use Rattle.tcl_value.proofs.Weights.{size, length-write}
use Rattle.tcl_value.proofs.Puts.{put_new, value_found, value_none, without_found, without_none, pairs_drop, AreDistinct-drop, turned}
use Rattle.tcl_value.proofs.Entered.{text_many}

-- the limit by weight
pub light_within : (xs : List (List ℕ)) → weight xs ≤ 16777217 → IsWithin (write xs)
light_within xs h = omega (arith, length-write xs)

pub heavy_past : {R : Type 0} (xs : List (List ℕ)) → (R → 16777217 < weight xs) × (16777217 < weight xs → R) → (R → IsPast (write xs)) × (IsPast (write xs) → R)
heavy_past xs h = ((λ r. omega (arith, h.0 r, length-write xs)), (λ p. h.1 (omega (arith, length-write xs))))

pub light_within_at : {U : Type 0} (r : Result U ValueError) (xs : List (List ℕ)) → OnOk r (weight xs ≤ 16777217) → OnOk r (IsWithin (write xs))
light_within_at (Ok x) xs h = light_within xs h
light_within_at (Err x) xs h = tt

pub within_at : {E : Type 0} (r : Result (List ℕ) E) (t : List ℕ) → IfOk r (λ made. made ≡ t) → IsWithin t → IfOk r IsWithin
within_at (Ok x) t h w = subst IsWithin (sym h) w
within_at (Err x) t h w = tt

-- a text is within the limit or past it
pub past_unless : (b : Bool) (t : List ℕ) → (IsTrue b → IsWithin t) × (IsWithin t → IsTrue b) → b ≡ false → IsPast t
past_unless b t h n = let two : (16777216 < length t) ⊎ (length t ≤ 16777216) = grind arith in elim two [ inl p ↦ p | inr q ↦ absurd (let is : b ≡ true = h.1 q in cc) ]

-- the value of a key that is found
abbrev text_at : Pairs → List ℕ → ℕ → List ℕ
text_at es v n = (get_or es n ([], v)).1

pub value_at_place : (es : Pairs) (k v : List ℕ) (i : ℕ) → (place_of es k ≡ i) × (i < length es) → v ≡ (get_or es i ([], v)).1 → Some v ≡ value_of es k
value_at_place es k v i f g = ap (λ t. Some t) (g ∙ ap (λ (n : ℕ). text_at es v n) (sym f.0)) ∙ sym (value_found es k ([], v) (omega (arith, f.0, f.1)))

-- what an entry takes
pub later_dropped : (es : Pairs) (i : ℕ) (k v : List ℕ) → i < length es → 0 < i → k ≡ (get_or es i (k, [])).0 → v ≡ (get_or es i ([], v)).1 → weight (flat es) ≡ size false k + size false v + 2 + weight (flat (entry_dropped es i))
later_dropped [] i k v h p e f = absurd (omega arith)
later_dropped (x ∷ es) zero k v h p e f = absurd (omega arith)
later_dropped (x ∷ es) (suc i) k v h p e f = omega (arith, rest es i (omega arith) e f)
  where
    rest : (es : Pairs) (i : ℕ) → i < length es → k ≡ (get_or es i (k, [])).0 → v ≡ (get_or es i ([], v)).1 → weight_from false (flat es) ≡ size false k + size false v + 2 + weight_from false (flat (entry_dropped es i))
    rest [] i h e f = absurd (omega arith)
    rest (y ∷ es) zero h e f = omega (arith, ap (size false) e, ap (size false) f)
    rest (y ∷ es) (suc i) h e f = omega (arith, rest es i (omega arith) e f)

pub alone_dropped : (es : Pairs) (i : ℕ) (k v : List ℕ) → i < length es → length es ≡ 1 → k ≡ (get_or es i (k, [])).0 → v ≡ (get_or es i ([], v)).1 → weight (flat es) ≡ size true k + size false v + 2 + weight (flat (entry_dropped es i))
alone_dropped [] i k v h p e f = absurd (omega arith)
alone_dropped (x ∷ []) zero k v h p e f = omega (arith, ap (size true) e, ap (size false) f)
alone_dropped (x ∷ []) (suc i) k v h p e f = absurd (omega arith)
alone_dropped (x ∷ y ∷ es) i k v h p e f = absurd (omega arith)

pub first_dropped : (es : Pairs) (i : ℕ) (k v n : List ℕ) → i ≡ 0 → 1 < length es → k ≡ (get_or es i (k, [])).0 → v ≡ (get_or es i ([], v)).1 → n ≡ (get_or es 1 (n, [])).0 → weight (flat es) + size true n ≡ size true k + size false v + 2 + size false n + weight (flat (entry_dropped es i))
first_dropped [] i k v n z h e f g = absurd (omega arith)
first_dropped (x ∷ []) i k v n z h e f g = absurd (omega arith)
first_dropped (x ∷ y ∷ es) (suc i) k v n z h e f g = absurd (omega arith)
first_dropped (x ∷ y ∷ es) zero k v n z h e f g = omega (arith, ap (size true) e, ap (size false) f, ap (size true) g, ap (size false) g)

-- what an entry takes is within what all take
pub dropped_within : (es : Pairs) (i : ℕ) (k v : List ℕ) (b : Bool) → i < length es → b ≡ (i == 0) → k ≡ (get_or es i (k, [])).0 → v ≡ (get_or es i ([], v)).1 → size b k + size false v + 2 ≤ weight (flat es)
dropped_within [] i k v b h t e f = absurd (omega arith)
dropped_within (x ∷ es) zero k v b h t e f = omega (arith, ap (λ c. size c k) t, ap (size true) e, ap (size false) f)
dropped_within (x ∷ es) (suc i) k v b h t e f = omega (arith, ap (λ c. size c k) (t ∙ never i), later_dropped (x ∷ es) (suc i) k v h (omega arith) e f)
  where
    never : (i : ℕ) → (suc i == 0) ≡ false
    never i = grind (arith, nat_tests)

-- elements that lose one
texts-remove : (xs : List Element) (i : ℕ) → texts (remove xs i) ≡ remove (texts xs) i
texts-remove [] zero = refl
texts-remove [] (suc i) = refl
texts-remove (x ∷ xs) zero = refl
texts-remove (x ∷ xs) (suc i) = ap (λ l. element_text x ∷ l) (texts-remove xs i)

AreElements-remove : (xs : List Element) (i : ℕ) → AreElements xs → AreElements (remove xs i)
AreElements-remove [] zero h = tt
AreElements-remove [] (suc i) h = tt
AreElements-remove (x ∷ xs) zero h = h.1
AreElements-remove (x ∷ xs) (suc i) h = (h.0, AreElements-remove xs i h.1)

AllWithin-remove : (xs : List (List ℕ)) (i : ℕ) → AllWithin xs → AllWithin (remove xs i)
AllWithin-remove [] zero h = tt
AllWithin-remove [] (suc i) h = tt
AllWithin-remove (x ∷ xs) zero h = h.1
AllWithin-remove (x ∷ xs) (suc i) h = (h.0, AllWithin-remove xs i h.1)

length-remove : {A : Type 0} (xs : List A) (i : ℕ) → i < length xs → length (remove xs i) + 1 ≡ length xs
length-remove [] i h = absurd (omega arith)
length-remove (x ∷ xs) zero h = omega arith
length-remove (x ∷ xs) (suc i) h = omega (arith, length-remove xs i (omega arith))

pub entries_dropped : (ks : List (List ℕ)) (xs : List Element) (es : Pairs) (i : ℕ) → length ks ≡ length xs → pairs ks (texts xs) ≡ es → pairs (remove ks i) (texts (remove xs i)) ≡ entry_dropped es i
entries_dropped ks xs es i h e = ap (λ t. pairs (remove ks i) t) (texts-remove xs i) ∙ pairs_drop ks (texts xs) i (text_many ks xs h) ∙ ap (λ z. entry_dropped z i) e

pub IsEntries-dropped : (ks : List (List ℕ)) (xs : List Element) (es : Pairs) (i kept now : ℕ) → IsEntries kept ks (texts xs) xs → pairs ks (texts xs) ≡ es → i < length xs → now ≡ weight (flat (entry_dropped es i)) → IsEntries now (remove ks i) (texts (remove xs i)) (remove xs i)
IsEntries-dropped ks xs es i kept now h e l n = record {
  keys = AllWithin-remove ks i h.keys;
  distinct = AreDistinct-drop ks i h.distinct;
  elements = AreElements-remove xs i h.elements;
  same = omega (arith, length-remove ks i (omega (arith, h.same)), length-remove xs i l, h.same);
  weighs = n ∙ ap (λ z. weight (flat z)) (sym (entries_dropped ks xs es i h.same e));
}

pub without_found_at : {U : Type 0} (r : Result U ValueError) (es new : Pairs) (k : List ℕ) (i : ℕ) → (place_of es k ≡ i) × (i < length es) → OnOk r (new ≡ entry_dropped es i) → OnOk r (new ≡ without es k)
without_found_at (Ok x) es new k i f h = h ∙ ap (λ n. entry_dropped es n) (sym f.0) ∙ sym (without_found es k (omega (arith, f.0, f.1)))
without_found_at (Err x) es new k i f h = tt

pub dropped_refused : {R : Type 0} (es : Pairs) (k : List ℕ) (i : ℕ) → (place_of es k ≡ i) × (i < length es) → (R → 16777217 < weight (flat (entry_dropped es i))) × (16777217 < weight (flat (entry_dropped es i)) → R) → (R → IsPast (write (flat (without es k)))) × (IsPast (write (flat (without es k))) → R)
dropped_refused {R} es k i f h = subst (λ (z : Pairs). (R → IsPast (write (flat z))) × (IsPast (write (flat z)) → R)) (ap (λ n. entry_dropped es n) (sym f.0) ∙ sym (without_found es k (omega (arith, f.0, f.1)))) (heavy_past (flat (entry_dropped es i)) h)

pub without_absent : (es : Pairs) (k : List ℕ) → place_of es k ≡ length es → without es k ≡ es
without_absent es k f = without_none es k (omega (arith, f))

pub value_absent : (es : Pairs) (k : List ℕ) → place_of es k ≡ length es → None ≡ value_of es k
value_absent es k f = sym (value_none es k (omega (arith, f)))

-- entries that are put one after another
abbrev pub double : ℕ → ℕ
double zero = 0
double (suc n) = suc (suc (double n))

pub double_is : (n : ℕ) → double n ≡ 2 * n
double_is zero = refl
double_is (suc n) = omega (arith, double_is n)

put_take_from : (es : Pairs) (xs : List (List ℕ)) (n : ℕ) (k v : List ℕ) → double n + 1 < length xs → k ≡ get_or xs (double n) k → v ≡ get_or xs (suc (double n)) v → put_all es (take (double (suc n)) xs) ≡ put (put_all es (take (double n) xs)) k v
put_take_from es [] n k v h e f = absurd (omega arith)
put_take_from es (x ∷ []) n k v h e f = absurd (omega arith)
put_take_from es (x ∷ y ∷ xs) zero k v h e f = ap (λ z. put es z y) (sym e) ∙ ap (λ z. put es k z) (sym f)
put_take_from es (x ∷ y ∷ xs) (suc n) k v h e f = put_take_from (put es x y) xs n k v (omega arith) e f

pub put_take : (now before : Pairs) (xs : List (List ℕ)) (n : ℕ) (k v : List ℕ) → 2 * n + 1 < length xs → k ≡ get_or xs (2 * n) k → v ≡ get_or xs (2 * n + 1) v → before ≡ put_all [] (take (2 * n) xs) → now ≡ put before k v → now ≡ put_all [] (take (2 * (n + 1)) xs)
put_take now before xs n k v h e f b w =
    let d = double_is n in
    let next : suc (double n) ≡ 2 * n + 1 = omega arith in
    let more : double (suc n) ≡ 2 * (n + 1) = omega (arith, double_is (suc n)) in
    w ∙ ap (λ z. put z k v) (b ∙ ap (λ z. put_all [] (take z xs)) (sym d))
    ∙ sym (put_take_from [] xs n k v (omega arith) (e ∙ ap (λ z. get_or xs z k) (sym d)) (f ∙ ap (λ z. get_or xs z v) (sym next)))
    ∙ ap (λ z. put_all [] (take z xs)) more

put_whole_from : (es : Pairs) (xs : List (List ℕ)) (n : ℕ) → double n ≤ length xs → length xs ≤ double n + 1 → put_all es (take (double n) xs) ≡ put_all es xs
put_whole_from es [] zero h k = refl
put_whole_from es [] (suc n) h k = absurd (omega arith)
put_whole_from es (x ∷ []) zero h k = refl
put_whole_from es (x ∷ []) (suc n) h k = absurd (omega arith)
put_whole_from es (x ∷ y ∷ xs) zero h k = absurd (omega arith)
put_whole_from es (x ∷ y ∷ xs) (suc n) h k = put_whole_from (put es x y) xs n (omega arith) (omega arith)

pub put_whole : (now : Pairs) (xs : List (List ℕ)) (n : ℕ) → 2 * n ≤ length xs → length xs ≤ 2 * n + 1 → now ≡ put_all [] (take (2 * n) xs) → now ≡ put_all [] xs
put_whole now xs n h k b = b ∙ ap (λ z. put_all [] (take z xs)) (sym (double_is n)) ∙ put_whole_from [] xs n (omega (arith, double_is n)) (omega (arith, double_is n))

-- distinct keys are put one behind another
abbrev AllNew : Pairs → List (List ℕ) → Type 0
AllNew es [] = Unit {0}
AllNew es (k ∷ ks) = (length es ≤ place_of es k) × AllNew es ks

one_unless : (t : Bool) → t ≡ false → suc zero ≤ cond t zero (suc zero)
one_unless true e = absurd (cc)
one_unless false e = omega arith

place-push : (es : Pairs) (x k v : List ℕ) → length es ≤ place_of es x → bytes_eq x k ≡ false → length (es ++ (k, v) ∷ []) ≤ place_of (es ++ (k, v) ∷ []) x
place-push [] x k v h e = one_unless (bytes_eq x k) e
place-push (y ∷ es) x k v h e = by_test (bytes_eq x y.0) (λ l. place-push es x k v l e) h
  where
    by_test : (t : Bool) → (length es ≤ place_of es x → length (es ++ (k, v) ∷ []) ≤ place_of (es ++ (k, v) ∷ []) x) → suc (length es) ≤ cond t 0 (suc (place_of es x)) → suc (length (es ++ (k, v) ∷ [])) ≤ cond t 0 (suc (place_of (es ++ (k, v) ∷ []) x))
    by_test true later m = absurd (omega arith)
    by_test false later m = omega (arith, later (omega arith))

parts : (a b : Bool) → (a || b) ≡ false → (a ≡ false) × (b ≡ false)
parts true b h = absurd (cc)
parts false b h = (refl, h)

AllNew-push : (es : Pairs) (ks : List (List ℕ)) (k v : List ℕ) → AllNew es ks → list_any (bytes_eq k) ks ≡ false → AllNew (es ++ (k, v) ∷ []) ks
AllNew-push es [] k v h e = tt
AllNew-push es (x ∷ ks) k v h e =
    let two = parts (bytes_eq k x) (list_any (bytes_eq k) ks) e in
    (place-push es x k v h.0 (turned k x two.0), AllNew-push es ks k v h.1 two.1)

put_apart : (es : Pairs) (ks vs : List (List ℕ)) → length ks ≡ length vs → AreDistinct ks → AllNew es ks → put_all es (flat (pairs ks vs)) ≡ es ++ pairs ks vs
put_apart es [] [] h d n = sym (append_nil es)
  where
    append_nil : (l : Pairs) → l ++ [] ≡ l
    append_nil [] = refl
    append_nil (x ∷ l) = ap (λ m. x ∷ m) (append_nil l)
put_apart es [] (v ∷ vs) h d n = absurd (omega arith)
put_apart es (k ∷ ks) [] h d n = absurd (omega arith)
put_apart es (k ∷ ks) (v ∷ vs) h d n =
    ap (λ z. put_all z (flat (pairs ks vs))) (put_new es k v n.0)
    ∙ put_apart (es ++ (k, v) ∷ []) ks vs (omega arith) d.1 (AllNew-push es ks k v n.1 d.0)
    ∙ append_assoc es ((k, v) ∷ []) (pairs ks vs)

all_new : (ks : List (List ℕ)) → AllNew [] ks
all_new [] = tt
all_new (k ∷ ks) = (omega arith, all_new ks)

pub put_back : (ks : List (List ℕ)) (xs : List Element) (es : Pairs) → length ks ≡ length xs → AreDistinct ks → pairs ks (texts xs) ≡ es → put_all [] (flat es) ≡ es
put_back ks xs es h d e = subst (λ (z : Pairs). put_all [] (flat z) ≡ z) e (put_apart [] ks (texts xs) (text_many ks xs h) d (all_new ks))

pub distinct_back : (ks vs : List (List ℕ)) → length ks ≡ length vs → AreDistinct ks → put_all [] (flat (pairs ks vs)) ≡ pairs ks vs
distinct_back ks vs h d = put_apart [] ks vs h d (all_new ks)
