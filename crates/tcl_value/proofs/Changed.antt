-- Changes of a list that a value keeps.
use Rattle.std.proofs.Common.{refl, ◌≡◌, ℕ, List, [], ◌∷◌, ◌++◌, Result, Ok, Err, sym, ◌∙◌, ap, subst, length, set, ◌<◌, ◌≤◌, arith, ◌⊎◌, inl, inr, Global, OnOk, IfErr, Bool}
use Rattle.std.specs.Prelude.{is_ok}
use Rattle.std.specs.Bool.{OnTrue}
use Rattle.std.specs.declared.rc.Rc.{Rc}
use Rattle.tcl_text.specs.declared.integer.Integers.{Integers}
use Rattle.tcl_text.specs.declared.integer.IntegerFault.TheVariants.{NotInteger}
use Rattle.tcl_text.specs.Numbers.{in_64_bits}
use Rattle.tcl_value.specs.Limits.{IsWithin, IsPast}
use Rattle.tcl_value.specs.Writing.{write}
use Rattle.tcl_value.specs.Reading.{list_of, int_of}
use Rattle.tcl_value.specs.Texts.{flat}
use Rattle.tcl_value.specs.Changes.{AtList, Refuses}
use Rattle.tcl_value.specs.Forms.{form_text, IsForm}
use Rattle.tcl_value.specs.declared.value.ChangeError.{ChangeError}
use Rattle.tcl_value.specs.declared.value.Form.{Form}
use Rattle.tcl_value.proofs.Numbers.{digits_at_most}
use Rattle.tcl_value.specs.declared.value.Form.TheVariants.{Empty, Text, Number, List as Items, Dict as Entries, Read}
use Rattle.tcl_value.specs.declared.items.Items.{Items as Listed}
use Rattle.tcl_value.specs.declared.entries.Entries.{Entries as Paired}
use Rattle.tcl_value.proofs.Laws.{write-no_integer}

pub pushed_at : {U : Type 0} (r : Result U ChangeError) (old : List ℕ) (xs new : List (List ℕ)) (v t : List ℕ) → list_of old ≡ Ok xs → t ≡ v → OnOk r (new ≡ xs ++ t ∷ []) → OnOk r (IsWithin (write new)) → OnOk r (AtList (list_of old) (λ list. (write new ≡ write (list ++ v ∷ [])) × IsWithin (write (list ++ v ∷ []))))
pushed_at (Ok x) old xs new v t e q p w =
    let same = p ∙ ap (λ z. xs ++ z ∷ []) q in
    subst (λ r. AtList r (λ list. (write new ≡ write (list ++ v ∷ [])) × IsWithin (write (list ++ v ∷ [])))) (sym e) (ap write same, subst (λ l. IsWithin (write l)) same w)
pushed_at (Err x) old xs new v t e q p w = tt

pub refused_at : {U : Type 0} (r : Result U ChangeError) (old : List ℕ) (xs : List (List ℕ)) (v t : List ℕ) → list_of old ≡ Ok xs → t ≡ v → IfErr r (λ e. Refuses e (Ok xs) (λ list. IsPast (write (list ++ t ∷ []))) (λ _. ⊥)) → IfErr r (λ e. Refuses e (list_of old) (λ list. IsPast (write (list ++ v ∷ []))) (λ _. ⊥))
refused_at r old xs v t e q h =
    subst (λ (f : List ℕ). IfErr r (λ x. Refuses x (list_of old) (λ list. IsPast (write (list ++ f ∷ []))) (λ _. ⊥))) q (subst (λ l. IfErr r (λ x. Refuses x l (λ list. IsPast (write (list ++ t ∷ []))) (λ _. ⊥))) (sym e) h)

-- a list of two elements or more is no integer
several : (style : Integers) (xs : List (List ℕ)) → 2 ≤ length xs → Err NotInteger ≡ int_of style (write xs)
several style [] h = absurd (omega arith)
several style (x ∷ []) h = absurd (omega arith)
several style (x ∷ y ∷ xs) h = sym (ap in_64_bits (write-no_integer x y xs style))

entries_several : (style : Integers) (es : List (List ℕ × List ℕ)) → Err NotInteger ≡ int_of style (write (flat es))
entries_several style [] = refl
entries_several style (e ∷ es) = sym (ap in_64_bits (write-no_integer e.0 e.1 (flat es) style))

pub no_number : (f : Form) (style : Integers) → IsForm f → (f ≡ Empty) ⊎ (((items : Rc Listed Global) × (f ≡ Items items)) ⊎ ((entries : Rc Paired Global) × (f ≡ Entries entries))) → Err NotInteger ≡ int_of style (form_text f)
no_number f style h (inl e) = ap (λ g. int_of style (form_text g)) (sym e)
no_number f style h (inr (inl k)) = let form : IsForm (Items k.0) = subst IsForm k.1 h in several style k.0.value form.1 ∙ ap (λ g. int_of style (form_text g)) (sym k.1)
no_number f style h (inr (inr k)) = entries_several style k.0.value ∙ ap (λ g. int_of style (form_text g)) (sym k.1)

-- no value is longer than a value may be
pub form_within : (f : Form) → IsForm f → IsWithin (form_text f)
form_within Empty h = omega arith
form_within (Text text) h = h
form_within (Number n) h = omega (arith, digits_at_most n h)
form_within (Items items) h = h.0
form_within (Entries entries) h = h
form_within (Read read) h = h

pub set_at : {U : Type 0} (r : Result U ChangeError) (old : List ℕ) (xs new : List (List ℕ)) (i : ℕ) (v t : List ℕ) → list_of old ≡ Ok xs → t ≡ v → OnOk r ((i < length xs) × (new ≡ set xs i t)) → OnOk r (IsWithin (write new)) → OnOk r (AtList (list_of old) (λ list. (i < length list) × (write new ≡ write (set list i v)) × IsWithin (write (set list i v))))
set_at (Ok x) old xs new i v t e q p w =
    let same = p.1 ∙ ap (λ z. set xs i z) q in
    subst (λ r. AtList r (λ list. (i < length list) × (write new ≡ write (set list i v)) × IsWithin (write (set list i v)))) (sym e) (p.0, ap write same, subst (λ l. IsWithin (write l)) same w)
set_at (Err x) old xs new i v t e q p w = tt

-- a test on what a call returned tells what holds where it succeeded
pub told_done : {U E : Type 0} (P : Type 0) (r : Result U E) (done : Bool) → done ≡ is_ok r → OnOk r P → OnTrue done P
told_done P (Ok x) done e h = subst (λ b. OnTrue b P) (sym e) h
told_done P (Err x) done e h = subst (λ b. OnTrue b P) (sym e) tt

pub set_refused_at : {U : Type 0} (r : Result U ChangeError) (old : List ℕ) (xs : List (List ℕ)) (i : ℕ) (v t : List ℕ) → list_of old ≡ Ok xs → t ≡ v → IfErr r (λ e. Refuses e (Ok xs) (λ list. IsPast (write (set list i t))) (λ list. length list ≤ i)) → IfErr r (λ e. Refuses e (list_of old) (λ list. IsPast (write (set list i v))) (λ list. length list ≤ i))
set_refused_at r old xs i v t e q h =
    subst (λ (f : List ℕ). IfErr r (λ x. Refuses x (list_of old) (λ list. IsPast (write (set list i f))) (λ list. length list ≤ i))) q (subst (λ l. IfErr r (λ x. Refuses x l (λ list. IsPast (write (set list i t))) (λ list. length list ≤ i))) (sym e) h)
