-- Dicts whose values are elements.
use Rattle.std.proofs.Common.{◌≡◌, ℕ, ◌+◌, ◌*◌, ◌<◌, ◌≤◌, ◌^◌, suc, zero, Bool, true, false, List, [], ◌∷◌, ◌++◌, length, refl, sym, ◌∙◌, ap, arith, get_or, set, Option, Some, None, Result, Ok, Err, OnOk}
use Rattle.std.specs.Prelude.{◌==◌, position, MatchOption}
use Rattle.std.specs.Str.{bytes_eq}
use Rattle.std.specs.List.{list_any, position_or_len}
use Rattle.tcl_value.specs.Limits.{IsWithin}
use Rattle.tcl_value.specs.Texts.{flat, pairs, weight_from, weight, element_text, texts, IsElement, AreElements, AllWithin, IsEntries}
use Rattle.tcl_value.specs.Dicts.{Pairs, put, place_of, value_set}
use Rattle.tcl_value.specs.declared.value.ValueError.{ValueError}
use Rattle.tcl_value.specs.declared.element.Element.{Element}
use Rattle.tcl_value.proofs.Written.{size_at_most}
use Rattle.tcl_value.proofs.Weights.{size, size_within, length-texts, texts-get, texts-set, texts-push, AreElements-set, AreElements-push}
use Rattle.tcl_value.proofs.Writes.{length-pairs}
use Rattle.tcl_value.proofs.Puts.{put_found, put_new, place_is, position_some, position_none, absent, pairs_get, pairs_set, pairs_push, weight-value_set, weight-entry, AreDistinct-push}

-- as many keys as values
pub text_many : (ks : List (List ℕ)) (xs : List Element) → length ks ≡ length xs → length ks ≡ length (texts xs)
text_many ks xs h = h ∙ sym (length-texts xs)

pub entry_many : (ks : List (List ℕ)) (xs : List Element) (es : Pairs) → length ks ≡ length xs → pairs ks (texts xs) ≡ es → length xs ≡ length es
entry_many ks xs es h e = omega (arith, length-pairs ks (texts xs) (text_many ks xs h), length-texts xs, ap length e)

-- where a key stands
found_place : (ks : List (List ℕ)) (xs : List Element) (es : Pairs) (k : List ℕ) → length ks ≡ length xs → pairs ks (texts xs) ≡ es → place_of es k ≡ position_or_len (bytes_eq k) ks
found_place ks xs es k h e = ap (λ z. place_of z k) (sym e) ∙ place_is ks (texts xs) k (text_many ks xs h)

pub find_is : (ks : List (List ℕ)) (xs : List Element) (es : Pairs) (k : List ℕ) (r : Option ℕ) → length ks ≡ length xs → pairs ks (texts xs) ≡ es → r ≡ position (bytes_eq k) ks → MatchOption r (place_of es k ≡ length es) (λ i. (place_of es k ≡ i) × (i < length es))
find_is ks xs es k None h e r = omega (arith, found_place ks xs es k h e, position_none ks k r, entry_many ks xs es h e)
find_is ks xs es k (Some i) h e r =
    let at = position_some ks k i r in
    (found_place ks xs es k h e ∙ at.0, omega (arith, at.1, entry_many ks xs es h e))

-- no key is equal to one that isn't there
pub key_absent : (ks : List (List ℕ)) (xs : List Element) (es : Pairs) (k : List ℕ) → length ks ≡ length xs → pairs ks (texts xs) ≡ es → place_of es k ≡ length es → list_any (bytes_eq k) ks ≡ false
key_absent ks xs es k h e n = absent ks k (omega (arith, found_place ks xs es k h e, entry_many ks xs es h e))

-- the entry at a place
abbrev key_of : List ℕ × List ℕ → List ℕ
key_of e = e.0

abbrev text_of : List ℕ × List ℕ → List ℕ
text_of e = e.1

pub key_at : (ks : List (List ℕ)) (xs : List Element) (es : Pairs) (i : ℕ) (k : List ℕ) → length ks ≡ length xs → pairs ks (texts xs) ≡ es → k ≡ get_or ks i k → k ≡ (get_or es i (k, [])).0
key_at ks xs es i k h e g = g ∙ sym (ap key_of (pairs_get ks (texts xs) i (k, []) (text_many ks xs h))) ∙ ap (λ (z : Pairs). key_of (get_or z i (k, []))) e

pub value_at : (ks : List (List ℕ)) (xs : List Element) (es : Pairs) (i : ℕ) (x : Element) → length ks ≡ length xs → pairs ks (texts xs) ≡ es → x ≡ get_or xs i x → element_text x ≡ (get_or es i ([], element_text x)).1
value_at ks xs es i x h e g =
    ap element_text g ∙ texts-get xs i x
    ∙ sym (ap text_of (pairs_get ks (texts xs) i ([], element_text x) (text_many ks xs h)))
    ∙ ap (λ (z : Pairs). text_of (get_or z i ([], element_text x))) e

-- what entries weigh is far below 2 ^ 128
key_size : (first : Bool) (k : List ℕ) → IsWithin k → size first k ≤ 33554434
key_size first k h = omega (arith, size_at_most first k)

entries_light : (first : Bool) (ks : List (List ℕ)) (xs : List Element) → AllWithin ks → AreElements xs → length ks ≡ length xs → weight_from first (flat (pairs ks (texts xs))) ≤ length xs * 67108870
entries_light first [] xs h w s = omega arith
entries_light first (k ∷ ks) [] h w s = absurd (omega arith)
entries_light first (k ∷ ks) (x ∷ xs) h w s = omega (arith, key_size first k h.0, size_within false x w.0, entries_light false ks xs h.1 w.1 (omega arith))

pub entries_few : (kept n cap : ℕ) (ks : List (List ℕ)) (xs : List Element) → IsEntries kept ks (texts xs) xs → n ≡ length xs → n ≤ cap → cap < 2 ^ 63 → kept < 2 ^ 91
entries_few kept n cap ks xs h l m s = omega (arith, h.weighs, entries_light true ks xs h.keys h.elements h.same)

-- a value in the place of another
pub set_entry_weight : (ks : List (List ℕ)) (xs : List Element) (es : Pairs) (i : ℕ) (x : Element) (v : List ℕ) (kept less more : ℕ) → length ks ≡ length xs → pairs ks (texts xs) ≡ es → kept ≡ weight (flat (pairs ks (texts xs))) → i < length es → x ≡ get_or xs i x → less ≡ size false (element_text x) → more ≡ size false v → kept + more ≡ weight (flat (value_set es i v)) + less
set_entry_weight ks xs es i x v kept less more h e k l g s m =
    let one = weight-value_set true es i v ([], element_text x) l in
    let old = ap (size false) (value_at ks xs es i x h e g) in
    let all = ap (λ z. weight (flat z)) e in
    omega arith

pub entries_set : (ks : List (List ℕ)) (xs : List Element) (es : Pairs) (i : ℕ) (y : Element) → length ks ≡ length xs → pairs ks (texts xs) ≡ es → pairs ks (texts (set xs i y)) ≡ value_set es i (element_text y)
entries_set ks xs es i y h e = ap (λ t. pairs ks t) (texts-set xs i y) ∙ pairs_set ks (texts xs) i (element_text y) (text_many ks xs h) ∙ ap (λ z. value_set z i (element_text y)) e

length-set : {A : Type 0} (xs : List A) (i : ℕ) (y : A) → length (set xs i y) ≡ length xs
length-set [] i y = refl
length-set (x ∷ xs) zero y = refl
length-set (x ∷ xs) (suc i) y = ap suc (length-set xs i y)

pub IsEntries-set : (ks : List (List ℕ)) (xs : List Element) (es : Pairs) (i : ℕ) (y : Element) (kept now : ℕ) → IsEntries kept ks (texts xs) xs → pairs ks (texts xs) ≡ es → IsElement y → now ≡ weight (flat (value_set es i (element_text y))) → IsEntries now ks (texts (set xs i y)) (set xs i y)
IsEntries-set ks xs es i y kept now h e w n = record {
  keys = h.keys;
  distinct = h.distinct;
  elements = AreElements-set xs i y h.elements w;
  same = h.same ∙ sym (length-set xs i y);
  weighs = n ∙ ap (λ z. weight (flat z)) (sym (entries_set ks xs es i y h.same e));
}

-- a key that gets a value
pub put_found_at : {U : Type 0} (r : Result U ValueError) (es new : Pairs) (k v : List ℕ) (i : ℕ) → (place_of es k ≡ i) × (i < length es) → OnOk r (new ≡ value_set es i v) → OnOk r (new ≡ put es k v)
put_found_at (Ok x) es new k v i f h = h ∙ ap (λ n. value_set es n v) (sym f.0) ∙ sym (put_found es k v (omega (arith, f.0, f.1)))
put_found_at (Err x) es new k v i f h = tt

pub put_new_at : {U : Type 0} (r : Result U ValueError) (es new : Pairs) (k v : List ℕ) → place_of es k ≡ length es → OnOk r (new ≡ es ++ (k, v) ∷ []) → OnOk r (new ≡ put es k v)
put_new_at (Ok x) es new k v f h = h ∙ sym (put_new es k v (omega (arith, f)))
put_new_at (Err x) es new k v f h = tt

pub found_refused : {R : Type 0} (es : Pairs) (k v : List ℕ) (i most : ℕ) → (place_of es k ≡ i) × (i < length es) → (R → most < weight (flat (value_set es i v))) × (most < weight (flat (value_set es i v)) → R) → (R → most < weight (flat (put es k v))) × (most < weight (flat (put es k v)) → R)
found_refused es k v i most f h =
    let same = ap (λ z. weight (flat z)) (put_found es k v (omega (arith, f.0, f.1)) ∙ ap (λ n. value_set es n v) f.0) in
    ((λ r. omega (arith, h.0 r)), (λ l. h.1 (omega arith)))

pub new_refused : {R : Type 0} (es : Pairs) (k v : List ℕ) (most : ℕ) → place_of es k ≡ length es → (R → most < weight (flat (es ++ (k, v) ∷ []))) × (most < weight (flat (es ++ (k, v) ∷ [])) → R) → (R → most < weight (flat (put es k v))) × (most < weight (flat (put es k v)) → R)
new_refused es k v most f h =
    let same = ap (λ z. weight (flat z)) (put_new es k v (omega (arith, f))) in
    ((λ r. omega (arith, h.0 r)), (λ l. h.1 (omega arith)))

-- one more entry
pub add_entry_weight : (es : Pairs) (k v : List ℕ) (b : Bool) (n kept more value : ℕ) → kept ≡ weight (flat es) → b ≡ (n == 0) → n ≡ length es → more ≡ size b k → value ≡ size false v → kept + (more + value) + 2 ≡ weight (flat (es ++ (k, v) ∷ []))
add_entry_weight es k v b n kept more value h f l m w = let one = weight-entry es k v b (f ∙ ap (λ x. x == 0) l) in omega arith

pub entries_add : (ks : List (List ℕ)) (xs : List Element) (es : Pairs) (k : List ℕ) (y : Element) → length ks ≡ length xs → pairs ks (texts xs) ≡ es → pairs (ks ++ k ∷ []) (texts (xs ++ y ∷ [])) ≡ es ++ (k, element_text y) ∷ []
entries_add ks xs es k y h e = ap (λ t. pairs (ks ++ k ∷ []) t) (texts-push xs y) ∙ pairs_push ks (texts xs) k (element_text y) (text_many ks xs h) ∙ ap (λ z. z ++ (k, element_text y) ∷ []) e

AllWithin-push : (ks : List (List ℕ)) (k : List ℕ) → AllWithin ks → IsWithin k → AllWithin (ks ++ k ∷ [])
AllWithin-push [] k h w = (w, tt)
AllWithin-push (x ∷ ks) k h w = (h.0, AllWithin-push ks k h.1 w)

length-push : {A : Type 0} (xs : List A) (y : A) → length (xs ++ y ∷ []) ≡ length xs + 1
length-push [] y = omega arith
length-push (x ∷ xs) y = omega (arith, length-push xs y)

pub IsEntries-add : (ks : List (List ℕ)) (xs : List Element) (es : Pairs) (k : List ℕ) (y : Element) (kept now : ℕ) → IsEntries kept ks (texts xs) xs → pairs ks (texts xs) ≡ es → IsWithin k → list_any (bytes_eq k) ks ≡ false → IsElement y → now ≡ weight (flat (es ++ (k, element_text y) ∷ [])) → IsEntries now (ks ++ k ∷ []) (texts (xs ++ y ∷ [])) (xs ++ y ∷ [])
IsEntries-add ks xs es k y kept now h e w a i n = record {
  keys = AllWithin-push ks k h.keys w;
  distinct = AreDistinct-push ks k h.distinct a;
  elements = AreElements-push xs y h.elements i;
  same = length-push ks k ∙ ap (λ z. z + 1) h.same ∙ sym (length-push xs y);
  weighs = n ∙ ap (λ z. weight (flat z)) (sym (entries_add ks xs es k y h.same e));
}
