-- Elements are no longer than their lists, and lists with equal texts are equal.
use Rattle.std.proofs.Common.{◌≡◌, ℕ, ◌+◌, ◌*◌, ◌<◌, ◌≤◌, suc, zero, true, false, List, [], ◌∷◌, length, refl, sym, ◌∙◌, ap, arith, get_or, drop, drop-cons, add-one, length-append, Ok, not, rules}
use Rattle.std.specs.Prelude.{◌/◌, ◌%◌, ◌↔◌}
use Rattle.std.specs.Str.{bytes_eq}
use Rattle.std.proofs.lemmas.Slice.Eq.{bytes_eq-Decides}
use Rattle.tcl_value.specs.Writing.{write_element, write, write_from}
use Rattle.tcl_value.specs.Texts.{flat, element_text, IsElement}
use Rattle.tcl_value.specs.declared.element.Element.{Element}
use Rattle.tcl_value.specs.declared.element.Element.TheVariants.{Text, Grown, Number, List as Inner, Dict}
use Rattle.tcl_value.specs.declared.entries.Entries.TheDeep.{deep-Element}
use Rattle.tcl_value.proofs.Laws.{list_of-write}
use Rattle.tcl_value.proofs.Writes.{length-flat}
use Rattle.tcl_value.proofs.Same.{write_from-all}
use Rattle.tcl_value.specs.Reading.{list_of}

-- what is written of an element is no shorter than all that stands in it
deep_written : (x : Element) → IsElement x → deep-Element x ≤ length (write_element false (element_text x))
deep_written (Text t) h = omega arith
deep_written (Grown t) h = omega arith
deep_written (Number m) h = omega arith
deep_written (Inner l) h = omega (arith, ap length (h.0.braced false), length-append (write l.value) (125 ∷ []))
deep_written (Dict l) h = omega (arith, ap length (h.braced false), length-append (write (flat l.value)) (125 ∷ []))

deep_first : (x : Element) → IsElement x → deep-Element x ≤ length (write_element true (element_text x))
deep_first (Text t) h = omega arith
deep_first (Grown t) h = omega arith
deep_first (Number m) h = omega arith
deep_first (Inner l) h = omega (arith, ap length (h.0.braced true), length-append (write l.value) (125 ∷ []))
deep_first (Dict l) h = omega (arith, ap length (h.braced true), length-append (write (flat l.value)) (125 ∷ []))

rest_holds : (xs : List (List ℕ)) (i : ℕ) (d : List ℕ) → i < length xs → length (write_element false (get_or xs i d)) ≤ length (write_from false xs)
rest_holds [] i d h = absurd (omega arith)
rest_holds (x ∷ xs) zero d h = omega (arith, length-append (write_element false x) (write_from false xs))
rest_holds (x ∷ xs) (suc i) d h = omega (arith, length-append (write_element false x) (write_from false xs), rest_holds xs i d (omega arith))

-- an element that is one of a list
pub deep_within : (xs : List (List ℕ)) (i : ℕ) (x : Element) → IsElement x → i < length xs → element_text x ≡ get_or xs i (element_text x) → deep-Element x ≤ length (write xs)
deep_within [] i x e h s = absurd (omega arith)
deep_within (y ∷ ys) zero x e h s = omega (arith, deep_first x e, ap (λ z. length (write_element true z)) s, length-append (write_element true y) (write_from false ys), ap length (write_from-all (y ∷ ys)))
deep_within (y ∷ ys) (suc i) x e h s = omega (arith, deep_written x e, ap (λ z. length (write_element false z)) s, rest_holds ys i (element_text x) (omega arith), length-append (write_element true y) (write_from false ys), ap length (write_from-all (y ∷ ys)))

pub get_value : (es : List (List ℕ × List ℕ)) (i : ℕ) (d : List ℕ) → get_or (flat es) (2 * i + 1) d ≡ (get_or es i ([], d)).1
get_value [] i d = refl
get_value (e ∷ es) zero d = refl
get_value (e ∷ es) (suc i) d =
    let twice : 2 * suc i + 1 ≡ suc (suc (2 * i + 1)) = omega arith in
    ap (λ n. get_or (e.0 ∷ e.1 ∷ flat es) n d) twice ∙ get_value es i d

pub deep_value : (es : List (List ℕ × List ℕ)) (i : ℕ) (x : Element) → IsElement x → i < length es → element_text x ≡ (get_or es i ([], element_text x)).1 → deep-Element x ≤ length (write (flat es))
deep_value es i x e h s = deep_within (flat es) (2 * i + 1) x e (omega (arith, length-flat es)) (s ∙ sym (get_value es i (element_text x)))

-- lists from a place on, where the elements at the place are equal
pub drop_step : {A : Type 0} {R : Type 0} (xs ys : List A) (i : ℕ) (x y : A) → i < length xs → i < length ys → x ≡ get_or xs i x → y ≡ get_or ys i y → x ≡ y → R ↔ (drop i xs ≡ drop i ys) → R ↔ (drop (i + 1) xs ≡ drop (i + 1) ys)
drop_step xs ys i x y h k a b e r =
    let one : drop i xs ≡ x ∷ drop (i + 1) xs = rw (add-one, drop-cons xs i x) (ap (λ z. z ∷ drop (suc i) xs) (sym a)) in
    let two : drop i ys ≡ y ∷ drop (i + 1) ys = rw (add-one, drop-cons ys i y) (ap (λ z. z ∷ drop (suc i) ys) (sym b)) in (
      λ p. let q : x ∷ drop (i + 1) xs ≡ y ∷ drop (i + 1) ys = sym one ∙ r.0 p ∙ two in cc,
      λ p. r.1 (one ∙ ap (λ z. z ∷ drop (i + 1) xs) e ∙ ap (λ z. y ∷ z) p ∙ sym two),
    )

-- texts of lists
pub write_same : {R : Type 0} (xs ys : List (List ℕ)) → R ↔ (xs ≡ ys) → R ↔ (write xs ≡ write ys)
write_same xs ys h =
    (λ r. ap write (h.0 r), λ e. h.1 (let o : Ok xs ≡ Ok ys = sym (list_of-write xs) ∙ ap list_of e ∙ list_of-write ys in cc))

flat_back : (xs ys : List (List ℕ × List ℕ)) → flat xs ≡ flat ys → xs ≡ ys
flat_back [] [] h = refl
flat_back [] (y ∷ ys) h = absurd (cc)
flat_back (x ∷ xs) [] h = absurd (cc)
flat_back (x ∷ xs) (y ∷ ys) h =
    let a : x.0 ≡ y.0 = cc in
    let b : x.1 ≡ y.1 = cc in
    let c : flat xs ≡ flat ys = cc in
    ap (λ z. (z, x.1) ∷ xs) a ∙ ap (λ z. (y.0, z) ∷ xs) b ∙ ap (λ z. y ∷ z) (flat_back xs ys c)

pub flat_same : {R : Type 0} (xs ys : List (List ℕ × List ℕ)) → R ↔ (xs ≡ ys) → R ↔ (flat xs ≡ flat ys)
flat_same xs ys h = (λ r. ap flat (h.0 r), λ e. h.1 (flat_back xs ys e))

pub turned : {R A : Type 0} (x y : A) → R ↔ (x ≡ y) → R ↔ (y ≡ x)
turned x y h = (λ r. sym (h.0 r), λ e. h.1 (sym e))

pub between : {R A : Type 0} (a b x y : A) → R ↔ (a ≡ b) → x ≡ a → y ≡ b → R ↔ (x ≡ y)
between a b x y h p q = (λ r. p ∙ h.0 r ∙ sym q, λ e. h.1 (sym p ∙ e ∙ q))

-- a list that is a dict's
pub pairs_count : (xs : List (List ℕ)) (es : List (List ℕ × List ℕ)) (n : ℕ) → n ≡ length xs → xs ≡ flat es → (n % 2 ≡ 0) × (n / 2 ≡ length es)
pairs_count xs es n a e =
    let d : n ≡ 2 * length es = omega (arith, a, ap length e, length-flat es) in
    (omega arith, omega arith)

-- an entry by its key and its value
entry_here : (es : List (List ℕ × List ℕ)) (i : ℕ) (k v : List ℕ) → i < length es → k ≡ (get_or es i (k, [])).0 → v ≡ (get_or es i ([], v)).1 → (k, v) ≡ get_or es i (k, v)
entry_here [] i k v h a b = absurd (omega arith)
entry_here (e ∷ es) zero k v h a b = ap (λ x. (x, v)) a ∙ ap (λ y. (e.0, y)) b
entry_here (e ∷ es) (suc i) k v h a b = entry_here es i k v (omega arith) a b

keys_equal : (a b : List ℕ) → false ≡ not (bytes_eq a b) → a ≡ b
keys_equal a b e = search (rules, bytes_eq-Decides)

pub entries_step : {R : Type 0} (es ds : List (List ℕ × List ℕ)) (i : ℕ) (k v l w : List ℕ) → i < length es → i < length ds → k ≡ (get_or es i (k, [])).0 → v ≡ (get_or es i ([], v)).1 → l ≡ (get_or ds i (l, [])).0 → w ≡ (get_or ds i ([], w)).1 → false ≡ not (bytes_eq k l) → v ≡ w → R ↔ (drop i es ≡ drop i ds) → R ↔ (drop (i + 1) es ≡ drop (i + 1) ds)
entries_step es ds i k v l w h g a b c d n e r =
    drop_step es ds i (k, v) (l, w) h g (entry_here es i k v h a b) (entry_here ds i l w g c d) (ap (λ x. (x, v)) (keys_equal k l n) ∙ ap (λ y. (l, y)) e) r
