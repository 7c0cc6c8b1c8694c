-- Changes of a key's value in place.
use Rattle.std.proofs.Common.{arith, refl, ap, subst, ◌∙◌, ◌≡◌, ℕ, Bool, true, false, List, [], ◌∷◌, ◌++◌, length, Ok, Err, Option, Some, None}
use Rattle.std.specs.Prelude.{option_map}
use Rattle.std.specs.Bool.{OnTrue}
use Rattle.std.specs.declared.result.Result.{Result}
use Rattle.tcl_text.specs.Lists.{list_of}
use Rattle.tcl_text.specs.declared.list.ListFault.{ListFault}
use Rattle.tcl_words.specs.Outcomes.{Outcome, next}
use Rattle.tcl_words.specs.Words.{list_or}
use Rattle.tcl_words.proofs.WordLemmas.{limited_within}
use Rattle.tcl_value.specs.Limits.{IsWithin}
use Rattle.tcl_value.specs.Writing.{write}
use Rattle.tcl_value.specs.Texts.{flat}
use Rattle.tcl_value.specs.Dicts.{Pairs, put, value_of, dict_of}
use Rattle.tcl_value.specs.Inside.{at_list, at_dict, value_or_empty, entry_made, elements_added}
use Rattle.tcl_value.specs.declared.dict_fault.DictFault.{DictFault}
use Rattle.tcl_lists.proofs.NestedLengths.{value_longer}
use Rattle.tcl_lists.proofs.NestedPlaces.{same_some}
use Rattle.tcl_lists.specs.Lists.{Texts, list_value}
use Rattle.tcl_dicts.specs.Dicts.{dict_or, dict_value}
use Rattle.tcl_dicts.specs.Changing.{lengthened, lappend_of, put_of, joined, appended, append_of}

made_up : (o : Option (List ℕ)) (es : Pairs) (k now : List ℕ) → option_map (λ x. write (flat (put es k x))) o ≡ Some now → (x : List ℕ) × (o ≡ Some x) × (write (flat (put es k x)) ≡ now)
made_up (Some x) es k now e = (x, refl, same_some (write (flat (put es k x))) now e)
made_up None es k now e = absurd (cc)

made_in : (make : List ℕ → Option (List ℕ)) (change : Option (List ℕ) → Outcome) (k text now : List ℕ) (r : Result Pairs DictFault) → dict_of text ≡ r → ((found : Option (List ℕ)) (x : List ℕ) → make (value_or_empty found) ≡ Some x → IsWithin x → change found ≡ Ok x) → at_dict r (λ es. option_map (λ x. write (flat (put es k x))) (make (value_or_empty (value_of es k)))) ≡ Some now → IsWithin now → next (next (dict_or r) (λ es. Ok (value_of es k))) (λ found. next (change found) (λ v. put_of text k v)) ≡ Ok now
made_in make change k text now (Ok es) same f e w =
    let d = made_up (make (value_or_empty (value_of es k))) es k now e in
    let long = ap length d.2 in
    let inner : IsWithin d.0 = omega (arith, w, value_longer es k d.0) in
    ap (λ z. next z (λ v. put_of text k v)) (f (value_of es k) d.0 d.1 inner)
    ∙ ap (λ z. next (dict_or z) (λ ds. dict_value (put ds k d.0))) same
    ∙ limited_within (write (flat (put es k d.0))) (omega (arith, w))
    ∙ ap (λ z. Ok z) d.2
made_in make change k text now (Err fault) same f e w = absurd (cc)

longer_at : (words : Texts) (x : List ℕ) (r : Result Texts ListFault) → at_list r (λ l. Some (write (l ++ words))) ≡ Some x → IsWithin x → next (list_or r) (λ l. list_value (l ++ words)) ≡ Ok x
longer_at words x (Ok l) e w = let same = same_some (write (l ++ words)) x e in limited_within (write (l ++ words)) (omega (arith, w, ap length same)) ∙ ap (λ z. Ok z) same
longer_at words x (Err fault) e w = absurd (cc)

pub longer_made : (b : Bool) (words : Texts) (k text now : List ℕ) → IsWithin now → OnTrue b (entry_made (k ∷ []) (elements_added words) text ≡ Some now) → OnTrue b (lappend_of text k words ≡ Ok now)
longer_made true words k text now w e = made_in (elements_added words) (lengthened words) k text now (dict_of text) refl (λ found x h v. longer_at words x (list_of (value_or_empty found)) h v) e w
longer_made false words k text now w e = tt

-- a text behind the value of a key
text_at : (words : Texts) (found : Option (List ℕ)) (x : List ℕ) → ◌≡◌ {A = Option (List ℕ)} (Some (value_or_empty found ++ joined words)) (Some x) → IsWithin x → appended words found ≡ Ok x
text_at words found x e w = let same = same_some (value_or_empty found ++ joined words) x e in limited_within (value_or_empty found ++ joined words) (omega (arith, w, ap length same)) ∙ ap (λ z. Ok z) same

appended_one : (words : Texts) (k text now : List ℕ) → IsWithin now → entry_made (k ∷ []) (λ x. Some (x ++ joined words)) text ≡ Some now → append_of text k words ≡ Ok now
appended_one words k text now w e = made_in (λ x. Some (x ++ joined words)) (appended words) k text now (dict_of text) refl (λ found x h v. text_at words found x h v) e w

pub appended_made : (b : Bool) (words : Texts) (more k text now : List ℕ) → more ≡ joined words → IsWithin now → OnTrue b (entry_made (k ∷ []) (λ x. Some (x ++ more)) text ≡ Some now) → OnTrue b (append_of text k words ≡ Ok now)
appended_made true words more k text now m w e = appended_one words k text now w (subst (λ (z : List ℕ). entry_made (k ∷ []) (λ x. Some (x ++ z)) text ≡ Some now) m e)
appended_made false words more k text now m w e = tt
