-- Changes in place, at places that indexes name and at keys.
use Rattle.std.proofs.Common.{refl, ap, sym, subst, ◌∙◌, ◌≡◌, ℕ, Bool, true, false, List, [], ◌∷◌, ◌++◌, Ok, Err, Option, Some, None}
use Rattle.std.specs.Prelude.{option_map, is_ok, is_err, if◌then◌else◌}
use Rattle.std.specs.Bool.{OnTrue}
use Rattle.std.specs.declared.result.Result.{Result}
use Rattle.tcl_text.specs.declared.integer.Integers.{Integers}
use Rattle.tcl_text.specs.declared.list.ListFault.{ListFault}
use Rattle.tcl_text.specs.Lists.{list_of}
use Rattle.tcl_value.specs.declared.dict_fault.DictFault.{DictFault}
use Rattle.tcl_value.specs.Writing.{write}
use Rattle.tcl_value.specs.Texts.{flat}
use Rattle.tcl_value.specs.Dicts.{Pairs, put, without, value_of, dict_of}
use Rattle.tcl_value.specs.Changes.{AtList}
use Rattle.tcl_value.specs.Inside.{at_list, at_dict, element_put, entry_made, text_without, key_dropped, element_at, with_element, value_or_empty}
use Rattle.tcl_lists.specs.Nested.{Texts, Outcome, next, dict_or, place_in, element_changed, value_changed, known, key_removed}
use Rattle.tcl_lists.specs.Steps.{above, Leads}
use Rattle.tcl_lists.specs.declared.step.Step.TheVariants.{Element}
use Rattle.tcl_value.proofs.Dicted.{dict_of-write}
use Rattle.tcl_lists.proofs.Levels.{element_down}

append_nil : (l : List ℕ) → l ++ [] ≡ l
append_nil [] = refl
append_nil (x ∷ l) = ap (λ m. x ∷ m) (append_nil l)

append_one : (l : List ℕ) (n : ℕ) (m : List ℕ) → (l ++ n ∷ []) ++ m ≡ l ++ n ∷ m
append_one [] n m = refl
append_one (x ∷ l) n m = ap (λ k. x ∷ k) (append_one l n m)

pub same_some : (x y : List ℕ) → ◌≡◌ {A = Option (List ℕ)} (Some x) (Some y) → x ≡ y
same_some x y e = cc

pub leads_none : (style : Integers) (path : Texts) (before : List ℕ) (text : List ℕ) → path ≡ [] → Leads style path before before text
leads_none style path before text e = ([], sym (append_nil before), λ new now p. ap (λ z. element_changed style z new text) e ∙ ap (λ z. Ok z) (same_some new now p))

put_down : (o : Option (List ℕ)) (l : Texts) (n : ℕ) (now : List ℕ) → option_map (λ x. write (with_element n x l)) o ≡ Some now → (x : List ℕ) × (o ≡ Some x) × (write (with_element n x l) ≡ now)
put_down (Some x) l n now e = (x, refl, same_some (write (with_element n x l)) now e)
put_down None l n now e = absurd (cc)

leads_at : (style : Integers) (i : List ℕ) (path : Texts) (more : List ℕ) (n : ℕ) (text inner : List ℕ) (r : Result Texts ListFault) → list_of text ≡ r → AtList r (λ l. (place_in style l i ≡ Ok n) × (inner ≡ element_at n l)) → ((new now : List ℕ) → element_put more new inner ≡ Some now → element_changed style path new inner ≡ Ok now) → (new now : List ℕ) → element_put (n ∷ more) new text ≡ Some now → element_changed style (i ∷ path) new text ≡ Ok now
leads_at style i path more n text inner (Ok l) same is f new now p =
    let d = put_down (element_put more new (element_at n l)) l n now (sym (ap (λ z. at_list z (λ m. option_map (λ x. write (with_element n x m)) (element_put more new (element_at n m)))) same) ∙ p) in
    element_down style i path new text inner l n same is.0 is.1
    ∙ ap (λ z. next z (λ x. Ok (above (Element l n) x))) (f new d.0 (ap (element_put more new) is.1 ∙ d.1))
    ∙ ap (λ z. Ok z) d.2
leads_at style i path more n text inner (Err fault) same is f new now p = absurd is

pub leads_more : (style : Integers) (i : List ℕ) (path : Texts) (n : ℕ) (text inner before mid after : List ℕ) → AtList (list_of text) (λ l. (place_in style l i ≡ Ok n) × (inner ≡ element_at n l)) → mid ≡ before ++ n ∷ [] → Leads style path mid after inner → Leads style (i ∷ path) before after text
leads_more style i path n text inner before mid after is m h =
    (n ∷ h.0, h.1 ∙ ap (λ z. z ++ h.0) m ∙ append_one before n h.0, leads_at style i path h.0 n text inner (list_of text) refl is h.2)

pub placed_at : (b : Bool) (style : Integers) (path : Texts) (places given : List ℕ) (new text mid now : List ℕ) → Leads style path [] places text → given ≡ places → mid ≡ text → OnTrue b (element_put given new mid ≡ Some now) → OnTrue b (element_changed style path new text ≡ Ok now)
placed_at true style path places given new text mid now h g m p = h.2 new now (ap (λ z. element_put z new text) (sym h.1 ∙ sym g) ∙ ap (element_put given new) (sym m) ∙ p)
placed_at false style path places given new text mid now h g m p = tt

-- a change at a path of keys
made_up : (o : Option (List ℕ)) (c : Outcome) (es : Pairs) (k now : List ℕ) → ((x : List ℕ) → o ≡ Some x → c ≡ Ok x) → option_map (λ x. write (flat (put es k x))) o ≡ Some now → next {Y = List ℕ} c (λ x. Ok (write (flat (put es k x)))) ≡ Ok now
made_up (Some x) c es k now f e = ap (λ z. next {Y = List ℕ} z (λ x. Ok (write (flat (put es k x))))) (f x refl) ∙ ap (λ z. Ok z) (same_some (write (flat (put es k x))) now e)
made_up None c es k now f e = absurd (cc)

made_in : (k : List ℕ) (path : Texts) (new now : List ℕ) (r : Result Pairs DictFault) → ((text x : List ℕ) → entry_made path (λ _. Some new) text ≡ Some x → value_changed path new text ≡ Ok x) → at_dict r (λ es. option_map (λ x. write (flat (put es k x))) (entry_made path (λ _. Some new) (value_or_empty (value_of es k)))) ≡ Some now → next {Y = List ℕ} (dict_or r) (λ es. next {Y = List ℕ} (value_changed path new (value_or_empty (value_of es k))) (λ x. Ok (write (flat (put es k x))))) ≡ Ok now
made_in k path new now (Ok es) f e = made_up (entry_made path (λ _. Some new) (value_or_empty (value_of es k))) (value_changed path new (value_or_empty (value_of es k))) es k now (f (value_or_empty (value_of es k))) e
made_in k path new now (Err fault) f e = absurd (cc)

pub made_changed : (path : Texts) (new text now : List ℕ) → entry_made path (λ _. Some new) text ≡ Some now → value_changed path new text ≡ Ok now
made_changed [] new text now e = ap (λ z. Ok z) (same_some new now e)
made_changed (k ∷ path) new text now e = made_in k path new now (dict_of text) (made_changed path new) e

pub made_true : (b : Bool) (path : Texts) (new text now : List ℕ) → OnTrue b (entry_made path (λ _. Some new) text ≡ Some now) → OnTrue b (value_changed path new text ≡ Ok now)
made_true true path new text now h = made_changed path new text now h
made_true false path new text now h = tt

-- a removal at a path of keys, each of which is there
nowhere : (path : Texts) (key : List ℕ) → entry_made path (key_dropped key) [] ≡ None
nowhere [] key = ap (λ r. at_dict r (λ es. text_without es key)) (dict_of-write [] refl)
nowhere (k ∷ path) key =
    ap (λ r. at_dict r (λ es. option_map (λ x. write (flat (put es k x))) (entry_made path (key_dropped key) (value_or_empty (value_of es k))))) (dict_of-write [] refl)
    ∙ ap (λ o. option_map (λ x. write (flat (put [] k x))) o) (nowhere path key)

dropped_in : (key now : List ℕ) (r : Result Pairs DictFault) → at_dict r (λ es. text_without es key) ≡ Some now → next {Y = List ℕ} (dict_or r) (λ es. Ok (write (flat (without es key)))) ≡ Ok now
dropped_in key now (Ok []) e = absurd (cc)
dropped_in key now (Ok (x ∷ es)) e = ap (λ z. Ok z) (same_some (write (flat (without (x ∷ es) key))) now e)
dropped_in key now (Err fault) e = absurd (cc)

led_on : (k : List ℕ) (path : Texts) (key now : List ℕ) (es : Pairs) (found : Option (List ℕ)) → ((text x : List ℕ) → entry_made path (key_dropped key) text ≡ Some x → key_removed path key text ≡ Ok x) → option_map (λ x. write (flat (put es k x))) (entry_made path (key_dropped key) (value_or_empty found)) ≡ Some now → next {Y = List ℕ} (known k found) (λ inner. next {Y = List ℕ} (key_removed path key inner) (λ x. Ok (write (flat (put es k x))))) ≡ Ok now
led_on k path key now es (Some v) f e = made_up (entry_made path (key_dropped key) v) (key_removed path key v) es k now (f v) e
led_on k path key now es None f e = absurd (let none = ap (λ o. option_map (λ x. write (flat (put es k x))) o) (nowhere path key) in cc)

led_in : (k : List ℕ) (path : Texts) (key now : List ℕ) (r : Result Pairs DictFault) → ((text x : List ℕ) → entry_made path (key_dropped key) text ≡ Some x → key_removed path key text ≡ Ok x) → at_dict r (λ es. option_map (λ x. write (flat (put es k x))) (entry_made path (key_dropped key) (value_or_empty (value_of es k)))) ≡ Some now → next {Y = List ℕ} (dict_or r) (λ es. next {Y = List ℕ} (known k (value_of es k)) (λ inner. next {Y = List ℕ} (key_removed path key inner) (λ x. Ok (write (flat (put es k x)))))) ≡ Ok now
led_in k path key now (Ok es) f e = led_on k path key now es (value_of es k) f e
led_in k path key now (Err fault) f e = absurd (cc)

entry_led : (path : Texts) (key text now : List ℕ) → entry_made path (key_dropped key) text ≡ Some now → key_removed path key text ≡ Ok now
entry_led [] key text now e = dropped_in key now (dict_of text) e
entry_led (k ∷ path) key text now e = led_in k path key now (dict_of text) (entry_led path key) e

pub led_true : (b : Bool) (path : Texts) (key text now : List ℕ) → OnTrue b (entry_made path (key_dropped key) text ≡ Some now) → OnTrue b (key_removed path key text ≡ Ok now)
led_true true path key text now h = entry_led path key text now h
led_true false path key text now h = tt

pub placed_found : (f b : Bool) (style : Integers) (path : Texts) (before places given : List ℕ) (new text mid now : List ℕ) → f ≡ true → before ≡ [] → OnTrue f (Leads style path before places text) → given ≡ places → mid ≡ text → OnTrue b (element_put given new mid ≡ Some now) → OnTrue b (element_changed style path new text ≡ Ok now)
placed_found f b style path before places given new text mid now e z h g m p =
    placed_at b style path places given new text mid now (subst (λ (y : List ℕ). Leads style path y places text) z (subst (λ y. OnTrue y (Leads style path before places text)) e h)) g m p

pub pushed : {U E : Type 0} (r : Result U E) (b : Bool) (new more old : List ℕ) → b ≡ is_err r → b ≡ false → new ≡ (if is_ok r then more else old) → new ≡ more
pushed (Ok x) b new more old e f h = h
pushed (Err x) b new more old e f h = absurd (let same : true ≡ false = sym e ∙ f in cc)

pub leads_true : (b : Bool) (style : Integers) (whole : Texts) (i : List ℕ) (path : Texts) (n : ℕ) (text inner before mid after : List ℕ) → whole ≡ i ∷ path → AtList (list_of text) (λ l. (place_in style l i ≡ Ok n) × (inner ≡ element_at n l)) → mid ≡ before ++ n ∷ [] → OnTrue b (Leads style path mid after inner) → OnTrue b (Leads style whole before after text)
leads_true true style whole i path n text inner before mid after w is m h = subst (λ (z : Texts). Leads style z before after text) (sym w) (leads_more style i path n text inner before mid after is m h)
leads_true false style whole i path n text inner before mid after w is m h = tt
