-- Changes inside lists that stand in one another.
use Rattle.std.proofs.Common.{◌≡◌, ℕ, ◌+◌, ◌-◌, ◌<◌, ◌≤◌, zero, suc, Bool, true, false, List, [], ◌∷◌, ◌++◌, length, refl, sym, ◌∙◌, ap, subst, arith, get_or, get_or-set_same, set, length-append, Option, Some, Result, Ok, Err, OnOk}
use Rattle.std.proofs.lemmas.List.{length-set}
use Rattle.std.specs.Prelude.{◌==◌}
use Rattle.std.specs.Prelude.{is_ok, option_map}
use Rattle.std.specs.Bool.{OnTrue, OnFalse}
use Rattle.tcl_value.specs.Writing.{write_element, write}
use Rattle.tcl_value.specs.Texts.{element_text, texts, weight, weight_from, IsElement, IsInner, IsItems, ends_in_backslash}
use Rattle.tcl_value.specs.Inside.{element_at, with_element, at_list, element_put, ListPut, InnerChange}
use Rattle.tcl_value.specs.declared.value.ValueError.{ValueError}
use Rattle.tcl_value.specs.declared.element.Element.{Element}
use Rattle.tcl_value.proofs.Laws.{list_of-write}
use Rattle.tcl_value.proofs.Longer.{written_longer}
use Rattle.tcl_value.proofs.Weights.{size, starts_at, starts_at_test, length-write, length-texts, texts-set, texts-get, AreElements-set, weight-set}
use Rattle.tcl_value.proofs.Inner.{there, ends_set, ends_push, inner_of}

pub placed_inside : (n : ℕ) (x : List ℕ) (l : List (List ℕ)) → n < length l → with_element n x l ≡ set l n x
placed_inside n x [] h = absurd (omega arith)
placed_inside zero x (y ∷ l) h = refl
placed_inside (suc n) x (y ∷ l) h = ap (λ m. y ∷ m) (placed_inside n x l (omega arith))

pub placed_behind : (n : ℕ) (x : List ℕ) (l : List (List ℕ)) → length l ≤ n → with_element n x l ≡ l ++ x ∷ []
placed_behind n x [] h = refl
placed_behind zero x (y ∷ l) h = absurd (omega arith)
placed_behind (suc n) x (y ∷ l) h = ap (λ m. y ∷ m) (placed_behind n x l (omega arith))

pub element_inside : (n : ℕ) (l : List (List ℕ)) (d : List ℕ) → n < length l → get_or l n d ≡ element_at n l
element_inside n [] d h = absurd (omega arith)
element_inside zero (y ∷ l) d h = refl
element_inside (suc n) (y ∷ l) d h = element_inside n l d (omega arith)

-- a text one level up
pub put_up : (n : ℕ) (path : List ℕ) (new x : List ℕ) (l : List (List ℕ)) → element_put path new (element_at n l) ≡ Some x → element_put (n ∷ path) new (write l) ≡ Some (write (with_element n x l))
put_up n path new x l h =
    ap (λ r. at_list r (λ m. option_map (λ z. write (with_element n z m)) (element_put path new (element_at n m)))) (list_of-write l)
    ∙ ap (λ r. option_map (λ z. write (with_element n z l)) r) h

pub lighter : (xs now : List (List ℕ)) (room : ℕ) → weight now ≤ weight xs + room → length (write now) ≤ length (write xs) + room
lighter xs now room h = omega (arith, h, length-write xs, length-write now)

-- an element that was set or pushed
set_one : (xs now : List (List ℕ)) (i : ℕ) (y : List ℕ) (room : ℕ) → i < length xs → ends_in_backslash y ≡ false → now ≡ set xs i y → weight now ≤ weight xs + room → ListPut (i ∷ []) y room xs now
set_one xs now i y room h f s w = record {
  changed = put_up i [] y y xs refl ∙ ap (λ z. Some (write z)) (placed_inside i y xs h ∙ sym s);
  ends = λ e. ap (λ z. ends_in_backslash (write z)) s ∙ ends_set xs i y h e f;
  several = omega (arith, ap length s, length-set xs i y);
  light = lighter xs now room w;
}

push_one : (xs now : List (List ℕ)) (i : ℕ) (y : List ℕ) (room : ℕ) → length xs ≤ i → ends_in_backslash y ≡ false → now ≡ xs ++ y ∷ [] → weight now ≤ weight xs + room → ListPut (i ∷ []) y room xs now
push_one xs now i y room h f s w = record {
  changed = put_up i [] y y xs refl ∙ ap (λ z. Some (write z)) (placed_behind i y xs h ∙ sym s);
  ends = λ e. ap (λ z. ends_in_backslash (write z)) s ∙ ends_push xs y ∙ f;
  several = omega (arith, ap length s, length-append xs (y ∷ []));
  light = lighter xs now room w;
}

pub by_weight : (ts xs now : List (List ℕ)) (kept room most : ℕ) → kept ≡ weight ts → ts ≡ xs → most ≡ kept + room → weight now ≤ most → weight now ≤ weight xs + room
by_weight ts xs now kept room most k e m h = omega (arith, k, ap weight e, m, h)

pub set_done : {U : Type 0} (r : Result U ValueError) (b : Bool) (ts xs now : List (List ℕ)) (i : ℕ) (y : List ℕ) (kept room most : ℕ) → b ≡ is_ok r → kept ≡ weight ts → ts ≡ xs → most ≡ kept + room → i < length xs → ends_in_backslash y ≡ false → OnOk r (now ≡ set xs i y) → OnOk r (weight now ≤ most) → OnTrue b (ListPut (i ∷ []) y room xs now)
set_done (Ok x) b ts xs now i y kept room most e k v m h f s w = subst (λ z. OnTrue z (ListPut (i ∷ []) y room xs now)) (sym e) (set_one xs now i y room h f s (by_weight ts xs now kept room most k v m w))
set_done (Err x) b ts xs now i y kept room most e k v m h f s w = subst (λ z. OnTrue z (ListPut (i ∷ []) y room xs now)) (sym e) tt

pub push_done : {U : Type 0} (r : Result U ValueError) (b : Bool) (ts xs now : List (List ℕ)) (i : ℕ) (y : List ℕ) (kept room most : ℕ) → b ≡ is_ok r → kept ≡ weight ts → ts ≡ xs → most ≡ kept + room → length xs ≤ i → ends_in_backslash y ≡ false → OnOk r (now ≡ xs ++ y ∷ []) → OnOk r (weight now ≤ most) → OnTrue b (ListPut (i ∷ []) y room xs now)
push_done (Ok x) b ts xs now i y kept room most e k v m h f s w = subst (λ z. OnTrue z (ListPut (i ∷ []) y room xs now)) (sym e) (push_one xs now i y room h f s (by_weight ts xs now kept room most k v m w))
push_done (Err x) b ts xs now i y kept room most e k v m h f s w = subst (λ z. OnTrue z (ListPut (i ∷ []) y room xs now)) (sym e) tt

-- an element of a list is no longer than the list's text
part_light : (first : Bool) (xs : List (List ℕ)) (i : ℕ) (d : List ℕ) → i < length xs → length (get_or xs i d) + 1 ≤ weight_from first xs
part_light first [] i d h = absurd (omega arith)
part_light first (x ∷ xs) zero d h = omega (arith, written_longer first x)
part_light first (x ∷ xs) (suc i) d h = omega (arith, part_light false xs i d (omega arith))

pub part_within : (xs : List (List ℕ)) (i : ℕ) (d : List ℕ) (room most : ℕ) → i < length xs → length (write xs) + room ≤ most → length (get_or xs i d) + room ≤ most
part_within xs i d room most h k = omega (arith, part_light true xs i d h, length-write xs, k)

-- an element in the place of one with its text
set_there : (xs : List (List ℕ)) (i : ℕ) (y d : List ℕ) → y ≡ get_or xs i d → set xs i y ≡ xs
set_there [] i y d e = refl
set_there (x ∷ xs) zero y d e = ap (λ z. z ∷ xs) e
set_there (x ∷ xs) (suc i) y d e = ap (λ z. x ∷ z) (set_there xs i y d e)

pub texts_kept : (xs : List Element) (i : ℕ) (x y : Element) → x ≡ get_or xs i x → element_text y ≡ element_text x → texts (set xs i y) ≡ texts xs
texts_kept xs i x y e s = texts-set xs i y ∙ set_there (texts xs) i (element_text y) (element_text x) (s ∙ ap element_text e ∙ texts-get xs i x)

pub items_kept : (kept : ℕ) (xs : List Element) (i : ℕ) (x y : Element) → IsItems kept (texts xs) xs → x ≡ get_or xs i x → element_text y ≡ element_text x → IsElement y → IsItems kept (texts (set xs i y)) (set xs i y)
items_kept kept xs i x y h e s w = record {
  elements = AreElements-set xs i y h.elements w;
  weighs = h.weighs ∙ ap weight (sym (texts_kept xs i x y e s));
}

-- what a list weighs when one of its elements was changed
pub changed_weight : (xs : List Element) (i : ℕ) (x y : Element) (kept less more : ℕ) (first : Bool) → kept ≡ weight (texts xs) → i < length xs → first ≡ (i == 0) → x ≡ get_or xs i x → less ≡ size first (element_text x) → more ≡ size first (element_text y) → kept + more ≡ weight (texts (set xs i y)) + less
changed_weight xs i x y kept less more first k h f g l m =
    let at = f ∙ starts_at_test i in
    let new = ap (λ b. size b (element_text y)) at in
    let old = ap (λ b. size b (element_text x)) at in
    let placed = ap (size (starts_at true i)) (ap element_text g ∙ texts-get xs i x) in
    let one = weight-set true (texts xs) i (element_text y) (element_text x) (omega (arith, h, length-texts xs)) in
    let all = ap weight (texts-set xs i y) in
    omega arith

-- an element was changed inside
pub put_inside : (xs : List (List ℕ)) (i : ℕ) (path : List ℕ) (new x y : List ℕ) (room : ℕ) → i < length xs → x ≡ get_or xs i x → InnerChange (element_put path new x) room x y → ListPut (i ∷ path) new room xs (set xs i y)
put_inside xs i path new x y room h e p =
    let at : x ≡ element_at i xs = e ∙ element_inside i xs x h in
    let old = ap (λ z. length (write_element (starts_at true i) z)) e in
    record {
      changed = put_up i path new y xs (ap (element_put path new) (sym at) ∙ p.changed) ∙ ap (λ z. Some (write z)) (placed_inside i y xs h);
      ends = λ f. ends_set xs i y h f p.ends;
      several = omega (arith, length-set xs i y);
      light = lighter xs (set xs i y) room (omega (arith, weight-set true xs i y x h, p.light (starts_at true i)));
    }

pub put_true : (b : Bool) (xs now : List (List ℕ)) (path : List ℕ) (new : List ℕ) (room : ℕ) → b ≡ true → OnTrue b (ListPut path new room xs now) → ListPut path new room xs now
put_true b xs now path new room e h = subst (λ z. OnTrue z (ListPut path new room xs now)) e h

-- an inner list that was changed
pub braced_light : (x y : List ℕ) (room : ℕ) → IsInner x → IsInner y → length y ≤ length x + room → (first : Bool) → length (write_element first y) ≤ length (write_element first x) + room
braced_light x y room h k w first = omega (arith, w, ap length (h.braced first), ap length (k.braced first), length-append x (125 ∷ []), length-append y (125 ∷ []))

pub inner_after : (xs now : List (List ℕ)) (path : List ℕ) (new : List ℕ) (room : ℕ) → IsInner (write xs) → 2 ≤ length xs → length (write xs) + room ≤ 16777216 → ListPut path new room xs now → IsInner (write now)
inner_after xs now path new room h many w p = inner_of now (omega (arith, p.several, many)) (p.ends h.ends) (omega (arith, p.light, w))

pub inner_put : (b : Bool) (xs now : List (List ℕ)) (path : List ℕ) (new : List ℕ) (room : ℕ) → IsInner (write xs) → 2 ≤ length xs → length (write xs) + room ≤ 16777216 → OnTrue b (ListPut path new room xs now) → OnTrue b (InnerChange (element_put path new (write xs)) room (write xs) (write now))
inner_put true xs now path new room h many w p =
    let inner = inner_after xs now path new room h many w p in
    record { changed = p.changed; ends = inner.ends; light = braced_light (write xs) (write now) room h inner p.light }
inner_put false xs now path new room h many w p = tt

pub inner_stays : (b : Bool) (xs now : List (List ℕ)) (path : List ℕ) (new : List ℕ) (room : ℕ) → IsInner (write xs) → 2 ≤ length xs → length (write xs) + room ≤ 16777216 → OnTrue b (ListPut path new room xs now) → OnFalse b (now ≡ xs) → IsInner (write now) × (2 ≤ length now)
inner_stays true xs now path new room h many w p q = (inner_after xs now path new room h many w p, omega (arith, p.several, many))
inner_stays false xs now path new room h many w p q = (subst (λ (z : List (List ℕ)). IsInner (write z)) (sym q) h, omega (arith, ap length q, many))

pub text_kept : (b : Bool) (x y : List ℕ) → b ≡ false → OnFalse b (y ≡ x) → y ≡ x
text_kept b x y e h = subst (λ z. OnFalse z (y ≡ x)) e h

pub change_true : (b : Bool) (after : Option (List ℕ)) (room : ℕ) (x y : List ℕ) → b ≡ true → OnTrue b (InnerChange after room x y) → InnerChange after room x y
change_true b after room x y e h = subst (λ z. OnTrue z (InnerChange after room x y)) e h

-- a list whose element was changed
pub items_changed : (kept now : ℕ) (xs : List Element) (i : ℕ) (y : Element) (less more : ℕ) → IsItems kept (texts xs) xs → IsElement y → now ≡ (kept + more) - less → kept + more ≡ weight (texts (set xs i y)) + less → IsItems now (texts (set xs i y)) (set xs i y)
items_changed kept now xs i y less more h w n k = record {
  elements = AreElements-set xs i y h.elements w;
  weighs = omega (arith, n, k);
}

-- the same, where the element is looked at before, to be changed, and after
pub deeper_weight : (xs : List Element) (i : ℕ) (a x y b : Element) (kept less more : ℕ) (first : Bool) → kept ≡ weight (texts xs) → i < length xs → first ≡ (i == 0) → a ≡ get_or xs i a → x ≡ get_or xs i x → b ≡ get_or (set xs i y) i b → less ≡ size first (element_text a) → more ≡ size first (element_text b) → kept + more ≡ weight (texts (set xs i y)) + less
deeper_weight xs i a x y b kept less more first k h f e g n l m =
    changed_weight xs i x y kept less more first k h f g
    (l ∙ ap (λ z. size first (element_text z)) (e ∙ there xs i a x h ∙ sym g))
    (m ∙ ap (λ z. size first (element_text z)) (n ∙ get_or-set_same xs i y b h))
