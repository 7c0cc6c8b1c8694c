-- Changes inside dicts that stand in one another, and of what stands at the end of a path of keys.
use Rattle.std.proofs.Common.{◌≡◌, ℕ, ◌+◌, ◌-◌, ◌*◌, ◌<◌, ◌≤◌, zero, suc, Bool, true, false, List, [], ◌∷◌, ◌++◌, length, refl, sym, ◌∙◌, ap, subst, arith, get_or, set, length-append, ◌⊎◌, inl, inr, Option, Some, Result, Ok, Err, OnOk}
use Rattle.std.specs.Prelude.{is_ok, option_map}
use Rattle.std.specs.Bool.{OnTrue, OnFalse}
use Rattle.tcl_text.specs.Lists.{list_of}
use Rattle.tcl_value.specs.Limits.{IsWithin}
use Rattle.tcl_value.specs.Writing.{write_element, write}
use Rattle.tcl_value.specs.Texts.{element_text, texts, flat, pairs, weight, IsElement, IsInner, IsEntries, ends_in_backslash}
use Rattle.tcl_value.specs.Dicts.{Pairs, put, put_all, without, value_of, place_of, value_set, entry_dropped}
use Rattle.tcl_value.specs.Inside.{at_list, at_dict, value_or_empty, changed_by, entry_changed, text_without, IsChange, InnerChange, DictChange}
use Rattle.tcl_value.specs.declared.value.ValueError.{ValueError}
use Rattle.tcl_value.specs.declared.element.Element.{Element}
use Rattle.tcl_value.specs.declared.element.Change.{Change}
use Rattle.tcl_value.specs.declared.element.Change.TheVariants.{Value, Without}
use Rattle.tcl_value.proofs.Laws.{list_of-write}
use Rattle.tcl_value.proofs.Dicted.{dict_of-write}
use Rattle.tcl_value.proofs.Weights.{size}
use Rattle.tcl_value.proofs.Writes.{length-flat}
use Rattle.tcl_value.proofs.Puts.{put_found, put_new, value_found, without_found, without_none, weight-value_set}
use Rattle.tcl_value.proofs.Falling.{get_value}
use Rattle.tcl_value.proofs.Entered.{set_entry_weight, entries_set, IsEntries-set, value_at}
use Rattle.tcl_value.proofs.Inner.{there, ends_set, ends_push, ends_append, ends_append_list, ends_write, inner_of, inner_empty}
use Rattle.tcl_value.proofs.Inside.{lighter, braced_light, part_within}

abbrev pub text_of : List ℕ × List ℕ → List ℕ
text_of e = e.1

-- the list of a dict's keys and values
flat-set : (es : Pairs) (i : ℕ) (v : List ℕ) → flat (value_set es i v) ≡ set (flat es) (2 * i + 1) v
flat-set [] i v = refl
flat-set (e ∷ es) zero v = refl
flat-set (e ∷ es) (suc i) v =
    let twice : 2 * suc i + 1 ≡ suc (suc (2 * i + 1)) = omega arith in
    ap (λ z. e.0 ∷ e.1 ∷ z) (flat-set es i v) ∙ ap (λ n. set (e.0 ∷ e.1 ∷ flat es) n v) (sym twice)

flat-push : (es : Pairs) (k v : List ℕ) → flat (es ++ (k, v) ∷ []) ≡ (flat es ++ k ∷ []) ++ v ∷ []
flat-push [] k v = refl
flat-push (e ∷ es) k v = ap (λ z. e.0 ∷ e.1 ∷ z) (flat-push es k v)

ends_value : (es : Pairs) (i : ℕ) (v : List ℕ) → i < length es → ends_in_backslash (write (flat es)) ≡ false → ends_in_backslash v ≡ false → ends_in_backslash (write (flat (value_set es i v))) ≡ false
ends_value es i v h e f = ap (λ z. ends_in_backslash (write z)) (flat-set es i v) ∙ ends_set (flat es) (2 * i + 1) v (omega (arith, length-flat es)) e f

ends_put : (es : Pairs) (k v : List ℕ) → ends_in_backslash (write (flat es)) ≡ false → ends_in_backslash v ≡ false → ends_in_backslash (write (flat (put es k v))) ≡ false
ends_put es k v e f =
    let two : (place_of es k < length es) ⊎ (length es ≤ place_of es k) = grind arith in
    elim two [
      | inl h ↦ ap (λ z. ends_in_backslash (write (flat z))) (put_found es k v h) ∙ ends_value es (place_of es k) v h e f
      | inr h ↦ ap (λ z. ends_in_backslash (write (flat z))) (put_new es k v h) ∙ ap (λ z. ends_in_backslash (write z)) (flat-push es k v) ∙ ends_push (flat es ++ k ∷ []) v ∙ f
    ]

-- a text one level up
entry_up : (k : List ℕ) (path : List (List ℕ)) (change : Change) (v x : List ℕ) (es : Pairs) → put_all [] (flat es) ≡ es → value_or_empty (value_of es k) ≡ v → entry_changed path change v ≡ Some x → entry_changed (k ∷ path) change (write (flat es)) ≡ Some (write (flat (put es k x)))
entry_up k path change v x es h e f =
    ap (λ r. at_dict r (λ m. option_map (λ z. write (flat (put m k z))) (entry_changed path change (value_or_empty (value_of m k))))) (dict_of-write es h)
    ∙ ap (λ t. option_map (λ z. write (flat (put es k z))) (entry_changed path change t)) e
    ∙ ap (λ r. option_map (λ z. write (flat (put es k z))) r) f

by_weight : (kept room most : ℕ) (own : List (List ℕ)) (es now : Pairs) → kept ≡ weight own → own ≡ flat es → most ≡ kept + room → weight (flat now) ≤ most → weight (flat now) ≤ weight (flat es) + room
by_weight kept room most own es now k e m h = omega (arith, k, ap weight e, m, h)

-- a key that got a value
key_put : (k : List ℕ) (change : Change) (v : List ℕ) (room : ℕ) (es now : Pairs) → put_all [] (flat es) ≡ es → changed_by change (value_or_empty (value_of es k)) ≡ Some v → ends_in_backslash v ≡ false → now ≡ put es k v → weight (flat now) ≤ weight (flat es) + room → DictChange (k ∷ []) change room es now
key_put k change v room es now h f g s w = record {
  changed = entry_up k [] change (value_or_empty (value_of es k)) v es h refl f ∙ ap (λ z. Some (write (flat z))) (sym s);
  ends = λ e. ap (λ z. ends_in_backslash (write (flat z))) s ∙ ends_put es k v e g;
  light = lighter (flat es) (flat now) room w;
}

pub key_done : {U : Type 0} (r : Result U ValueError) (b : Bool) (k : List ℕ) (change : Change) (value : Element) (kept room most : ℕ) (own : List (List ℕ)) (es now : Pairs) → b ≡ is_ok r → put_all [] (flat es) ≡ es → change ≡ Value value → IsChange change → kept ≡ weight own → own ≡ flat es → most ≡ kept + room → OnOk r (now ≡ put es k (element_text value)) → OnOk r (weight (flat now) ≤ most) → OnTrue b (DictChange (k ∷ []) change room es now)
key_done (Ok u) b k change value kept room most own es now e h c i n o m s w =
    let is : IsChange (Value value) = subst IsChange c i in
    subst (λ z. OnTrue z (DictChange (k ∷ []) change room es now)) (sym e)
    (subst (λ z. DictChange (k ∷ []) z room es now) (sym c)
    (key_put k (Value value) (element_text value) room es now h refl is.1 s (by_weight kept room most own es now n o m w)))
key_done (Err u) b k change value kept room most own es now e h c i n o m s w = subst (λ z. OnTrue z (DictChange (k ∷ []) change room es now)) (sym e) tt

-- a key that was removed
without_text : (es : Pairs) (k : List ℕ) → 1 ≤ length es → text_without es k ≡ Some (write (flat (without es k)))
without_text [] k h = absurd (omega arith)
without_text (e ∷ es) k h = refl

key_lost : (k : List ℕ) (room : ℕ) (es now : Pairs) → put_all [] (flat es) ≡ es → 1 ≤ length es → now ≡ without es k → (ends_in_backslash (write (flat es)) ≡ false → ends_in_backslash (write (flat now)) ≡ false) → weight (flat now) ≤ weight (flat es) + room → DictChange [] (Without k) room es now
key_lost k room es now h some s e w = record {
  changed = ap (λ r. at_dict r (λ m. text_without m k)) (dict_of-write es h) ∙ without_text es k some ∙ ap (λ z. Some (write (flat z))) (sym s);
  ends = e;
  light = lighter (flat es) (flat now) room w;
}

pub lost_done : {U : Type 0} (r : Result U ValueError) (b : Bool) (k : List ℕ) (change : Change) (kept room most i : ℕ) (own : List (List ℕ)) (es now : Pairs) → b ≡ is_ok r → put_all [] (flat es) ≡ es → change ≡ Without k → kept ≡ weight own → own ≡ flat es → most ≡ kept + room → (place_of es k ≡ i) × (i < length es) → ends_in_backslash (write (flat (entry_dropped es i))) ≡ false → OnOk r (now ≡ entry_dropped es i) → OnOk r (weight (flat now) ≤ most) → OnTrue b (DictChange [] change room es now)
lost_done (Ok u) b k change kept room most i own es now e h c n o m f g s w =
    let same : now ≡ without es k = s ∙ ap (entry_dropped es) (sym f.0) ∙ sym (without_found es k (omega (arith, f.0, f.1))) in
    subst (λ z. OnTrue z (DictChange [] change room es now)) (sym e)
    (subst (λ z. DictChange [] z room es now) (sym c)
    (key_lost k room es now h (omega (arith, f.1)) same (λ _. ap (λ z. ends_in_backslash (write (flat z))) s ∙ g) (by_weight kept room most own es now n o m w)))
lost_done (Err u) b k change kept room most i own es now e h c n o m f g s w = subst (λ z. OnTrue z (DictChange [] change room es now)) (sym e) tt

-- a key that isn't there to be removed
pub lost_none : (b : Bool) (k : List ℕ) (change : Change) (room : ℕ) (es : Pairs) → put_all [] (flat es) ≡ es → change ≡ Without k → place_of es k ≡ length es → (b ≡ true → 1 ≤ length es) → OnTrue b (DictChange [] change room es es)
lost_none true k change room es h c f some =
    subst (λ z. DictChange [] z room es es) (sym c) (key_lost k room es es h (some refl) (sym (without_none es k (omega (arith, f)))) (λ g. g) (omega arith))
lost_none false k change room es h c f some = tt

-- how the text of a dict ends without an entry
ends_flat : (es : Pairs) (d : List ℕ) → 1 ≤ length es → ends_in_backslash (write (flat es)) ≡ ends_in_backslash (get_or es (length es - 1) ([], d)).1
ends_flat es d h =
    let last : length (flat es) - 1 ≡ 2 * (length es - 1) + 1 = omega (arith, length-flat es) in
    ends_write (flat es) d (omega (arith, length-flat es)) ∙ ap (λ n. ends_in_backslash (get_or (flat es) n d)) last ∙ ap ends_in_backslash (get_value es (length es - 1) d)

length-dropped : (es : Pairs) (i : ℕ) → i < length es → length (entry_dropped es i) + 1 ≡ length es
length-dropped [] i h = absurd (omega arith)
length-dropped (e ∷ es) zero h = omega arith
length-dropped (e ∷ es) (suc i) h = omega (arith, length-dropped es i (omega arith))

before_dropped : (es : Pairs) (i j : ℕ) (d : List ℕ × List ℕ) → j < i → get_or (entry_dropped es i) j d ≡ get_or es j d
before_dropped [] i j d h = refl
before_dropped (e ∷ es) zero j d h = absurd (omega arith)
before_dropped (e ∷ es) (suc i) zero d h = refl
before_dropped (e ∷ es) (suc i) (suc j) d h = before_dropped es i j d (omega arith)

behind_dropped : (es : Pairs) (i j : ℕ) (d : List ℕ × List ℕ) → i ≤ j → get_or (entry_dropped es i) j d ≡ get_or es (suc j) d
behind_dropped [] i j d h = refl
behind_dropped (e ∷ es) zero j d h = refl
behind_dropped (e ∷ es) (suc i) zero d h = absurd (omega arith)
behind_dropped (e ∷ es) (suc i) (suc j) d h = behind_dropped es i j d (omega arith)

pub ends_last : (es : Pairs) (i : ℕ) (v : List ℕ) → suc i < length es → v ≡ (get_or es (length es - 1) ([], v)).1 → ends_in_backslash v ≡ ends_in_backslash (write (flat (entry_dropped es i)))
ends_last es i v h e =
    let left = entry_dropped es i in
    let many = length-dropped es i (omega arith) in
    let at : suc (length left - 1) ≡ length es - 1 = omega (arith, many, h) in
    ap ends_in_backslash (e ∙ ap (λ n. text_of (get_or es n ([], v))) (sym at) ∙ sym (ap text_of (behind_dropped es i (length left - 1) ([], v) (omega (arith, many, h))))) ∙ sym (ends_flat left v (omega (arith, many, h)))

pub ends_before : (es : Pairs) (i : ℕ) (v : List ℕ) → suc i ≡ length es → 0 < i → v ≡ (get_or es (i - 1) ([], v)).1 → ends_in_backslash v ≡ ends_in_backslash (write (flat (entry_dropped es i)))
ends_before es i v h p e =
    let left = entry_dropped es i in
    let many = length-dropped es i (omega arith) in
    let at : length left - 1 ≡ i - 1 = omega (arith, many, h) in
    ap ends_in_backslash (e ∙ ap (λ n. text_of (get_or es n ([], v))) (sym at) ∙ sym (ap text_of (before_dropped es i (length left - 1) ([], v) (omega (arith, many, h, p))))) ∙ sym (ends_flat left v (omega (arith, many, h, p)))

pub ends_alone : (es : Pairs) (i : ℕ) → i < length es → length es ≡ 1 → false ≡ ends_in_backslash (write (flat (entry_dropped es i)))
ends_alone [] i h e = absurd (omega arith)
ends_alone (x ∷ []) zero h e = refl
ends_alone (x ∷ []) (suc i) h e = absurd (omega arith)
ends_alone (x ∷ y ∷ es) i h e = absurd (omega arith)

-- a value that was changed inside
pub change_inside : (k : List ℕ) (path : List (List ℕ)) (change : Change) (x y : List ℕ) (room i : ℕ) (es : Pairs) → put_all [] (flat es) ≡ es → (place_of es k ≡ i) × (i < length es) → x ≡ (get_or es i ([], x)).1 → InnerChange (entry_changed path change x) room x y → DictChange (k ∷ path) change room es (value_set es i y)
change_inside k path change x y room i es h f e p =
    let here : place_of es k < length es = omega (arith, f.0, f.1) in
    let found : value_of es k ≡ Some x = value_found es k ([], x) here ∙ ap (λ n. Some (get_or es n ([], x)).1) f.0 ∙ ap (λ z. Some z) (sym e) in
    let old = ap (size false) e in
    record {
      changed = entry_up k path change x y es h (ap value_or_empty found) p.changed ∙ ap (λ z. Some (write (flat z))) (put_found es k y here ∙ ap (λ n. value_set es n y) f.0);
      ends = λ g. ends_value es i y f.1 g p.ends;
      light = lighter (flat es) (flat (value_set es i y)) room (omega (arith, weight-value_set true es i y ([], x) f.1, p.light false));
    }

pub value_within : (es : Pairs) (i : ℕ) (x : List ℕ) (room most : ℕ) → i < length es → x ≡ (get_or es i ([], x)).1 → length (write (flat es)) + room ≤ most → length x + room ≤ most
value_within es i x room most h e k =
    let part = part_within (flat es) (2 * i + 1) x room most (omega (arith, h, length-flat es)) k in
    let same = ap length (e ∙ sym (get_value es i x)) in
    omega (arith, part, same)

-- a value in the place of one with its text
set_there : (es : Pairs) (i : ℕ) (v : List ℕ) (d : List ℕ × List ℕ) → i < length es → v ≡ (get_or es i d).1 → value_set es i v ≡ es
set_there [] i v d h e = refl
set_there (x ∷ es) zero v d h e = ap (λ z. (x.0, z) ∷ es) e
set_there (x ∷ es) (suc i) v d h e = ap (λ z. x ∷ z) (set_there es i v d (omega arith) e)

pub entries_kept : (ks : List (List ℕ)) (xs : List Element) (es : Pairs) (i : ℕ) (x y : Element) → length ks ≡ length xs → pairs ks (texts xs) ≡ es → i < length es → x ≡ get_or xs i x → element_text y ≡ element_text x → pairs ks (texts (set xs i y)) ≡ es
entries_kept ks xs es i x y h e l g s = entries_set ks xs es i y h e ∙ ap (value_set es i) s ∙ set_there es i (element_text x) ([], element_text x) l (value_at ks xs es i x h e g)

pub dict_kept : (kept : ℕ) (ks : List (List ℕ)) (xs : List Element) (es : Pairs) (i : ℕ) (x y : Element) → IsEntries kept ks (texts xs) xs → pairs ks (texts xs) ≡ es → i < length es → x ≡ get_or xs i x → element_text y ≡ element_text x → IsElement y → IsEntries kept ks (texts (set xs i y)) (set xs i y)
dict_kept kept ks xs es i x y h e l g s w =
    IsEntries-set ks xs es i y kept kept h e w (h.weighs ∙ ap (λ z. weight (flat z)) (e ∙ sym (ap (value_set es i) s ∙ set_there es i (element_text x) ([], element_text x) l (value_at ks xs es i x h.same e g))))

-- what stands inside, changed
inner_flat : (es : Pairs) → ends_in_backslash (write (flat es)) ≡ false → IsWithin (write (flat es)) → IsInner (write (flat es))
inner_flat [] e w = inner_empty
inner_flat (x ∷ es) e w = inner_of (flat (x ∷ es)) (omega arith) e w

pub inner_dict : (old now : Pairs) (path : List (List ℕ)) (change : Change) (room : ℕ) → IsInner (write (flat old)) → length (write (flat old)) + room ≤ 16777216 → DictChange path change room old now → IsInner (write (flat now))
inner_dict old now path change room h w p = inner_flat now (p.ends h.ends) (omega (arith, p.light, w))

pub inner_change : (b : Bool) (old now : Pairs) (path : List (List ℕ)) (change : Change) (room : ℕ) → IsInner (write (flat old)) → length (write (flat old)) + room ≤ 16777216 → OnTrue b (DictChange path change room old now) → OnTrue b (InnerChange (entry_changed path change (write (flat old))) room (write (flat old)) (write (flat now)))
inner_change true old now path change room h w p =
    let inner = inner_dict old now path change room h w p in
    record { changed = p.changed; ends = inner.ends; light = braced_light (write (flat old)) (write (flat now)) room h inner p.light }
inner_change false old now path change room h w p = tt

pub inner_stays : (b : Bool) (old now : Pairs) (path : List (List ℕ)) (change : Change) (room : ℕ) → IsInner (write (flat old)) → length (write (flat old)) + room ≤ 16777216 → OnTrue b (DictChange path change room old now) → OnFalse b (now ≡ old) → IsInner (write (flat now))
inner_stays true old now path change room h w p q = inner_dict old now path change room h w p
inner_stays false old now path change room h w p q = subst (λ (z : Pairs). IsInner (write (flat z))) (sym q) h

-- elements behind those of a list
inner_extended : (xs now : List (List ℕ)) (ys : List (List ℕ)) (room : ℕ) → IsInner (write xs) → 2 ≤ length xs → length (write xs) + room ≤ 16777216 → 1 ≤ length ys → ends_in_backslash (write ys) ≡ false → (now ≡ xs ++ ys) × (length (write now) ≤ length (write xs) + room) → IsInner (write now) × (2 ≤ length now)
inner_extended xs now ys room h many w some ends p =
    let long : 2 ≤ length now = omega (arith, ap length p.0, length-append xs ys, many) in
    (inner_of now long (ap (λ z. ends_in_backslash (write z)) p.0 ∙ ends_append_list xs ys some ∙ ends) (omega (arith, p.1, w)), long)

pub extended_stays : (b : Bool) (change : Change) (elements : List Element) (xs now : List (List ℕ)) (room : ℕ) → IsInner (write xs) × (2 ≤ length xs) → length (write xs) + room ≤ 16777216 → (1 ≤ length elements) × (ends_in_backslash (write (texts elements)) ≡ false) → length (texts elements) ≡ length elements → OnTrue b ((now ≡ xs ++ texts elements) × (length (write now) ≤ length (write xs) + room)) → OnFalse b (now ≡ xs) → IsInner (write now) × (2 ≤ length now)
extended_stays true change elements xs now room h w c l p q = inner_extended xs now (texts elements) room h.0 h.1 w (omega (arith, c.0, l)) c.1 p
extended_stays false change elements xs now room h w c l p q = (subst (λ (z : List (List ℕ)). IsInner (write z)) (sym q) h.0, omega (arith, ap length q, h.1))

pub extended_change : (b : Bool) (elements : List Element) (after : Option (List ℕ)) (xs now : List (List ℕ)) (room : ℕ) → at_list (list_of (write xs)) (λ l. Some (write (l ++ texts elements))) ≡ after → IsInner (write xs) × (2 ≤ length xs) → length (write xs) + room ≤ 16777216 → (1 ≤ length elements) × (ends_in_backslash (write (texts elements)) ≡ false) → length (texts elements) ≡ length elements → OnTrue b ((now ≡ xs ++ texts elements) × (length (write now) ≤ length (write xs) + room)) → OnTrue b (InnerChange after room (write xs) (write now))
extended_change true elements after xs now room a h w c l p =
    let inner = inner_extended xs now (texts elements) room h.0 h.1 w (omega (arith, c.0, l)) c.1 p in
    record {
      changed = sym a ∙ ap (λ r. at_list r (λ l. Some (write (l ++ texts elements)))) (list_of-write xs) ∙ ap (λ z. Some (write z)) (sym p.0);
      ends = inner.0.ends;
      light = braced_light (write xs) (write now) room h.0 inner.0 p.1;
    }
extended_change false elements after xs now room a h w c l p = tt

pub unchanged_text : (b : Bool) (xs now : List (List ℕ)) → OnFalse b (now ≡ xs) → OnFalse b (write now ≡ write xs)
unchanged_text true xs now h = tt
unchanged_text false xs now h = ap write h

-- a text behind a text
pub appended_change : (b : Bool) (after : Option (List ℕ)) (t now more : List ℕ) (room : ℕ) → Some (t ++ more) ≡ after → (1 ≤ length more) × (ends_in_backslash more ≡ false) → OnTrue b (now ≡ t ++ more) → OnTrue b ((first : Bool) → length (write_element first now) ≤ length (write_element first t) + room) → OnTrue b (InnerChange after room t now)
appended_change true after t now more room a c s w = record {
  changed = sym a ∙ ap (λ z. Some z) (sym s);
  ends = ap ends_in_backslash s ∙ ends_append t more (omega (arith, c.0)) ∙ c.1;
  light = w;
}
appended_change false after t now more room a c s w = tt

pub appended_within : (b : Bool) (t now more : List ℕ) (room : ℕ) → length t + room ≤ 16777216 → length more ≤ room → OnTrue b (now ≡ t ++ more) → OnFalse b (now ≡ t) → IsWithin now
appended_within true t now more room w k s f = omega (arith, w, k, ap length s, length-append t more)
appended_within false t now more room w k s f = omega (arith, w, ap length f)

pub extended_done : {U : Type 0} (r : Result U ValueError) (b : Bool) (kept room most : ℕ) (ts xs ys now : List (List ℕ)) → b ≡ is_ok r → kept ≡ weight ts → ts ≡ xs → most ≡ kept + room → OnOk r (now ≡ xs ++ ys) → OnOk r (weight now ≤ most) → OnTrue b ((now ≡ xs ++ ys) × (length (write now) ≤ length (write xs) + room))
extended_done (Ok u) b kept room most ts xs ys now e k v m s w = subst (λ z. OnTrue z ((now ≡ xs ++ ys) × (length (write now) ≤ length (write xs) + room))) (sym e) (s, lighter xs now room (omega (arith, k, ap weight v, m, w)))
extended_done (Err u) b kept room most ts xs ys now e k v m s w = subst (λ z. OnTrue z ((now ≡ xs ++ ys) × (length (write now) ≤ length (write xs) + room))) (sym e) tt

same_value : (es : Pairs) (i : ℕ) (a b : List ℕ) → i < length es → a ≡ (get_or es i ([], a)).1 → b ≡ (get_or es i ([], b)).1 → a ≡ b
same_value es i a b h e f = e ∙ ap text_of (there es i ([], a) ([], b) h) ∙ sym f

-- what a dict weighs when one of its values was changed
pub entry_weight : (ks : List (List ℕ)) (xs : List Element) (es : Pairs) (i : ℕ) (a : List ℕ) (x : Element) (v : List ℕ) (kept less more : ℕ) → IsEntries kept ks (texts xs) xs → pairs ks (texts xs) ≡ es → i < length es → a ≡ (get_or es i ([], a)).1 → x ≡ get_or xs i x → less ≡ size false a → more ≡ size false v → kept + more ≡ weight (flat (value_set es i v)) + less
entry_weight ks xs es i a x v kept less more h e l f g s m =
    set_entry_weight ks xs es i x v kept less more h.same e h.weighs l g (s ∙ ap (size false) (same_value es i a (element_text x) l f (value_at ks xs es i x h.same e g))) m

pub entries_changed : (ks : List (List ℕ)) (xs : List Element) (es : Pairs) (i : ℕ) (y : Element) (kept now less more : ℕ) → IsEntries kept ks (texts xs) xs → pairs ks (texts xs) ≡ es → IsElement y → now ≡ (kept + more) - less → kept + more ≡ weight (flat (value_set es i (element_text y))) + less → IsEntries now ks (texts (set xs i y)) (set xs i y)
entries_changed ks xs es i y kept now less more h e w n k = IsEntries-set ks xs es i y kept now h e w (omega (arith, n, k))
