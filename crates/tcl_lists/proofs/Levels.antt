-- Levels of a path, and what is refused below them.
use Rattle.std.proofs.Common.{arith, refl, ap, sym, subst, ◌∙◌, ◌≡◌, ℕ, ◌≤◌, List, [], ◌∷◌, ◌++◌, length, Ok, Err}
use Rattle.std.specs.declared.result.Result.{Result}
use Rattle.tcl_text.specs.declared.integer.Integers.{Integers}
use Rattle.tcl_value.specs.Reading.{list_of}
use Rattle.std.specs.declared.option.Option.{Option}
use Rattle.tcl_text.specs.declared.list.ListFault.{ListFault}
use Rattle.tcl_value.specs.Limits.{IsPast}
use Rattle.tcl_value.specs.Writing.{write}
use Rattle.tcl_value.specs.Texts.{flat}
use Rattle.tcl_value.specs.Dicts.{Pairs, without, value_of, dict_of}
use Rattle.tcl_value.specs.Changes.{AtList}
use Rattle.tcl_value.specs.DictChanges.{AtDict, RefusesEntry}
use Rattle.tcl_value.specs.declared.dict_fault.DictFault.{DictFault}
use Rattle.tcl_value.specs.declared.dict_fault.EntryError.{EntryError}
use Rattle.tcl_value.specs.declared.dict_fault.EntryError.TheVariants.{Memory as NoMemory, TooLong as LongEntry, Fault as Faulty}
use Rattle.tcl_lists.specs.Errors.{of_entry}
use Rattle.tcl_lists.specs.declared.fault.NestedFault.TheVariants.{Dict as NoDict}
use Rattle.tcl_lists.specs.Nested.{Texts, Outcome, next, list_or, list_in, dict_or, place_in, element_at, element_changed, value_or_empty, value_changed, known, key_removed, Refuses, RefusesText}
use Rattle.tcl_lists.specs.Steps.{above, above_all, raised}
use Rattle.tcl_lists.specs.declared.fault.NestedFault.{NestedFault}
use Rattle.tcl_lists.specs.declared.fault.NestedError.{NestedError}
use Rattle.tcl_lists.specs.declared.fault.NestedError.TheVariants.{Memory, TooLong, Fault}
use Rattle.tcl_lists.specs.declared.step.Step.{Step}
use Rattle.tcl_lists.specs.declared.step.Step.TheVariants.{Element, Entry}
use Rattle.tcl_lists.proofs.NestedLengths.{element_longer, value_longer}

-- a level more inside
pub above_all-push : (ss : List Step) (s : Step) (x : List ℕ) → above_all (ss ++ s ∷ []) x ≡ above_all ss (above s x)
above_all-push [] s x = refl
above_all-push (t ∷ ss) s x = ap (above t) (above_all-push ss s x)

above_longer : (s : Step) (x : List ℕ) → length x ≤ length (above s x)
above_longer (Element l n) x = element_longer n x l
above_longer (Entry es k) x = value_longer es k x

pub above_all_longer : (ss : List Step) (x : List ℕ) → length x ≤ length (above_all ss x)
above_all_longer [] x = omega arith
above_all_longer (s ∷ ss) x = omega (arith, above_all_longer ss x, above_longer s (above_all ss x))

raised-push : (ss : List Step) (s : Step) (o : Outcome) → raised (ss ++ s ∷ []) o ≡ raised ss (next o (λ x. Ok (above s x)))
raised-push ss s (Ok x) = ap (λ y. Ok y) (above_all-push ss s x)
raised-push ss s (Err f) = refl

-- what is refused inside is refused above
pub refused_above : (e : NestedError) (ss : List Step) (o : Outcome) → RefusesText e o → RefusesText e (raised ss o)
refused_above Memory ss o h = tt
refused_above TooLong ss (Ok x) h = omega (arith, h, above_all_longer ss x)
refused_above TooLong ss (Err f) h = h
refused_above (Fault f) ss o h = ap (raised ss) h

pub refused_next : {X : Type 0} (e : NestedError) (r : Result X NestedFault) (k : X → Outcome) → Refuses e r → RefusesText e (next r k)
refused_next Memory r k h = tt
refused_next TooLong r k h = absurd h
refused_next (Fault f) (Ok x) k h = absurd (cc)
refused_next (Fault f) (Err g) k h = cc

refused_deep : (e : NestedError) (r : Result Texts NestedFault) (p : Texts → Result ℕ NestedFault) (k : Texts → ℕ → Outcome) → Refuses e (next r p) → RefusesText e (next r (λ l. next (p l) (k l)))
refused_deep e (Ok l) p k h = refused_next e (p l) (k l) h
refused_deep Memory (Err g) p k h = tt
refused_deep TooLong (Err g) p k h = absurd h
refused_deep (Fault f) (Err g) p k h = cc

-- an index that is refused
pub element_refused : (e : NestedError) (style : Integers) (i : List ℕ) (path : Texts) (new text : List ℕ) → Refuses e (next (list_in text) (λ l. place_in style l i)) → RefusesText e (element_changed style (i ∷ path) new text)
element_refused e style i path new text h =
    refused_deep e (list_in text) (λ l. place_in style l i) (λ l n. next (element_changed style path new (element_at n l)) (λ x. Ok (above (Element l n) x))) h

-- one level down a list
pub element_down : (style : Integers) (i : List ℕ) (path : Texts) (new text inner : List ℕ) (l : Texts) (n : ℕ) → list_of text ≡ Ok l → place_in style l i ≡ Ok n → inner ≡ element_at n l → element_changed style (i ∷ path) new text ≡ next (element_changed style path new inner) (λ x. Ok (above (Element l n) x))
element_down style i path new text inner l n e p q =
    ap (λ r. next (list_or r) (λ m. next (place_in style m i) (λ k. next (element_changed style path new (element_at k m)) (λ x. Ok (above (Element m k) x))))) e
    ∙ ap (λ r. next r (λ k. next (element_changed style path new (element_at k l)) (λ x. Ok (above (Element l k) x)))) p
    ∙ ap (λ t. next (element_changed style path new t) (λ x. Ok (above (Element l n) x))) (sym q)

-- one level down a dict
pub value_down : (k : List ℕ) (path : Texts) (new text inner : List ℕ) (es : Pairs) → dict_of text ≡ Ok es → inner ≡ value_or_empty (value_of es k) → value_changed (k ∷ path) new text ≡ next (value_changed path new inner) (λ x. Ok (above (Entry es k) x))
value_down k path new text inner es e q =
    ap (λ r. next (dict_or r) (λ ds. next (value_changed path new (value_or_empty (value_of ds k))) (λ x. Ok (above (Entry ds k) x)))) e
    ∙ ap (λ t. next (value_changed path new t) (λ x. Ok (above (Entry es k) x))) (sym q)

pub key_down : (k : List ℕ) (path : Texts) (key text inner : List ℕ) (es : Pairs) → dict_of text ≡ Ok es → known k (value_of es k) ≡ Ok inner → key_removed (k ∷ path) key text ≡ next (key_removed path key inner) (λ x. Ok (above (Entry es k) x))
key_down k path key text inner es e q =
    ap (λ r. next (dict_or r) (λ ds. next (known k (value_of ds k)) (λ v. next (key_removed path key v) (λ x. Ok (above (Entry ds k) x))))) e
    ∙ ap (λ r. next r (λ v. next (key_removed path key v) (λ x. Ok (above (Entry es k) x)))) q

-- one level more of a walk down
pub further : (all here inner : Outcome) (ss more : List Step) (s : Step) → all ≡ raised ss here → here ≡ next inner (λ x. Ok (above s x)) → more ≡ ss ++ s ∷ [] → all ≡ raised more inner
further all here inner ss more s h e m = h ∙ ap (raised ss) e ∙ sym (raised-push ss s inner) ∙ ap (λ z. raised z inner) (sym m)

pub grown : (ss : List Step) (x : List ℕ) → IsPast x → IsPast (above_all ss x)
grown ss x h = omega (arith, h, above_all_longer ss x)

-- what is refused inside one level is refused above it
pub refused_once : (e : NestedError) (s : Step) (o : Outcome) → RefusesText e o → RefusesText e (next o (λ x. Ok (above s x)))
refused_once Memory s o h = tt
refused_once TooLong s (Ok x) h = omega (arith, h, above_longer s x)
refused_once TooLong s (Err f) h = h
refused_once (Fault f) s o h = ap (λ z. next z (λ x. Ok (above s x))) h

-- a refusal below the first level of a list
pub element_below : (e : NestedError) (style : Integers) (i : List ℕ) (path : Texts) (new text inner : List ℕ) (n : ℕ) (r : Result Texts ListFault) → list_of text ≡ r → AtList r (λ l. (place_in style l i ≡ Ok n) × (inner ≡ element_at n l)) → RefusesText e (element_changed style path new inner) → RefusesText e (element_changed style (i ∷ path) new text)
element_below e style i path new text inner n (Ok l) same found h =
    subst (RefusesText e) (sym (element_down style i path new text inner l n same found.0 found.1)) (refused_once e (Element l n) (element_changed style path new inner) h)
element_below e style i path new text inner n (Err f) same found h = absurd found

-- a refusal below the first level of a dict
pub value_below : (e : NestedError) (k : List ℕ) (path : Texts) (new text inner : List ℕ) (found : Option (List ℕ)) (r : Result Pairs DictFault) → dict_of text ≡ r → AtDict r (λ es. found ≡ value_of es k) → inner ≡ value_or_empty found → RefusesText e (value_changed path new inner) → RefusesText e (value_changed (k ∷ path) new text)
value_below e k path new text inner found (Ok es) same is q h =
    subst (RefusesText e) (sym (value_down k path new text inner es same (q ∙ ap value_or_empty is))) (refused_once e (Entry es k) (value_changed path new inner) h)
value_below e k path new text inner found (Err f) same is q h = absurd is

pub key_below : (e : NestedError) (k : List ℕ) (path : Texts) (key text inner : List ℕ) (found : Option (List ℕ)) (r : Result Pairs DictFault) → dict_of text ≡ r → AtDict r (λ es. found ≡ value_of es k) → known k found ≡ Ok inner → RefusesText e (key_removed path key inner) → RefusesText e (key_removed (k ∷ path) key text)
key_below e k path key text inner found (Ok es) same is q h =
    subst (RefusesText e) (sym (key_down k path key text inner es same (sym (ap (known k) is) ∙ q))) (refused_once e (Entry es k) (key_removed path key inner) h)
key_below e k path key text inner found (Err f) same is q h = absurd is

-- a key on the way that is missing
pub key_missing : (e : NestedError) (k : List ℕ) (path : Texts) (key text : List ℕ) (found : Option (List ℕ)) (r : Result Pairs DictFault) → dict_of text ≡ r → AtDict r (λ es. found ≡ value_of es k) → Refuses e (known k found) → RefusesText e (key_removed (k ∷ path) key text)
key_missing e k path key text found (Ok es) same is h =
    subst (λ z. RefusesText e (next (dict_or z) (λ ds. next (known k (value_of ds k)) (λ v. next (key_removed path key v) (λ x. Ok (above (Entry ds k) x)))))) (sym same)
    (refused_next e (known k (value_of es k)) (λ v. next (key_removed path key v) (λ x. Ok (above (Entry es k) x))) (subst (λ z. Refuses e (known k z)) is h))
key_missing e k path key text found (Err f) same is h = absurd is

-- a change of a dict that is refused
entry_refused_in : (e : EntryError) (r : Result Pairs DictFault) (change : Pairs → List ℕ) → RefusesEntry e r (λ es. IsPast (change es)) → RefusesText (of_entry e) (next {Y = List ℕ} (dict_or r) (λ es. Ok (change es)))
entry_refused_in NoMemory r change h = tt
entry_refused_in LongEntry (Ok es) change h = h
entry_refused_in LongEntry (Err f) change h = absurd h
entry_refused_in (Faulty f) (Ok es) change h = absurd (cc)
entry_refused_in (Faulty f) (Err g) change h = let same : g ≡ f = cc in ap (λ z. Err (NoDict z)) same

pub removal_refused : (e : EntryError) (t key own : List ℕ) → key ≡ own → RefusesEntry e (dict_of t) (λ es. IsPast (write (flat (without es key)))) → RefusesText (of_entry e) (key_removed [] own t)
removal_refused e t key own same h =
    entry_refused_in e (dict_of t) (λ es. write (flat (without es own))) (subst (λ (k : List ℕ). RefusesEntry e (dict_of t) (λ es. IsPast (write (flat (without es k))))) same h)
