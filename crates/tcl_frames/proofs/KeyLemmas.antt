-- Changes of an element by its key.
use Rattle.std.proofs.Common.{◌≡◌, ℕ, Some, None, Ok, refl, sym, ◌∙◌, ap, subst}
use Rattle.tcl_frames.specs.Names.{Text, Name, name_of}
use Rattle.tcl_frames.specs.Variables.{Part, merge, part_of}
use Rattle.tcl_frames.specs.Variables.Part.{whole, element, nested}
use Rattle.tcl_frames.specs.Faults.{Refuses, IsRefusal}
use Rattle.tcl_frames.specs.declared.frame.Change.{Change}
use Rattle.tcl_frames.specs.declared.frame.Change.TheVariants.{Assign, SetElements, Unset, UnsetElements}
use Rattle.tcl_frames.specs.declared.fault.FrameError.{FrameError}
use Rattle.tcl_frames.specs.declared.fault.FrameFault.TheVariants.{BadName}
use Rattle.tcl_frames.specs.Places.{Levels, Spot, current, level_of, bound, end_of}
use Rattle.tcl_frames.specs.Chain.{place_named, by_place}
use Rattle.tcl_frames.specs.Changes.{change_levels}
use Rattle.tcl_frames.specs.Access.{elements_of}
use Rattle.tcl_frames.specs.VariableArrays.{element_name}
use Rattle.tcl_frames.specs.Keys.{change_key}
use Rattle.tcl_frames.specs.Reached.{start, over}
use Rattle.tcl_frames.specs.Sound.{AreFit}
use Rattle.tcl_frames.proofs.SoundLemmas.{end_no_link}
use Rattle.tcl_frames.proofs.StepLemmas.{place_good, end_over, assigned_plain, extended_plain, left_plain, fit_bound, fit_left, fit_emptied, at_name_fit}

levels_fit : (c : Change) (fs gs : Levels) → AreFit 0 fs → (p : Spot) (r : Part) (x : Text) → change_levels c fs (over (end_of fs p) r) x ≡ Ok gs → AreFit 0 gs
levels_fit (Assign t) fs gs fit p r x e =
    let q = end_of fs p in
    fit_bound fs gs fit (over q r) (end_no_link fs fit p) _ (λ v. assigned_plain (merge q.part r) (bound fs q.level q.name) t x v) e
levels_fit (SetElements ps) fs gs fit p r x e =
    let q = end_of fs p in
    fit_bound fs gs fit (over q r) (end_no_link fs fit p) _ (λ v. extended_plain (merge q.part r) (bound fs q.level q.name) ps.items x v) e
levels_fit Unset fs gs fit p r x e =
    let q = end_of fs p in
    fit_left fs gs fit (over q r) (end_no_link fs fit p) _ (λ v. left_plain (merge q.part r) (bound fs q.level q.name) x v) e
levels_fit (UnsetElements g) fs gs fit p r x e =
    let q = end_of fs p in
    fit_emptied fs gs fit (over q r) (end_no_link fs fit p) (elements_of (merge q.part r) (bound fs q.level q.name)) g e

pub change_key_fit : (c : Change) (fs gs : Levels) (x k : Text) → AreFit 0 fs → change_key c fs x k ≡ Ok gs → AreFit 0 gs
change_key_fit c fs gs x k fit e = at_name_fit fs gs x _ (λ p h. levels_fit c fs gs fit p (element k) (element_name x k) h) e

pub change_key_bad : (e : FrameError) (c : Change) (fs : Levels) (x k : Text) → place_named fs x ≡ None → IsRefusal e (BadName x) → Refuses e (change_key c fs x k)
change_key_bad e c fs x k none h = subst (λ o. Refuses e (by_place o x (λ p. change_levels c fs (over p (element k)) (element_name x k)))) (sym none) h

under_key : (r : Part) (k : Text) → merge (merge r whole) (element k) ≡ merge r (element k)
under_key whole k = refl
under_key (element j) k = refl
under_key nested k = refl

two_keys : (r : Part) (j k : Text) → merge (merge r (element j)) (element k) ≡ nested
two_keys whole j k = refl
two_keys (element i) j k = refl
two_keys nested j k = refl

keyed : (c : Change) (fs : Levels) (x k : Text) (w : Name) (n : ℕ) → name_of x ≡ Some w → n ≡ level_of w.is_global (current fs) → change_key c fs x k ≡ change_levels c fs (over (over (end_of fs (start n w.base)) (part_of w.key)) (element k)) (element_name x k)
keyed c fs x k w n e is = ap (λ o. by_place o x (λ p. change_levels c fs (over p (element k)) (element_name x k))) (place_good fs x w n e is)

-- the name is no element's
pub key_of_whole : (c : Change) (fs : Levels) (x k : Text) (w : Name) (n : ℕ) → name_of x ≡ Some w → n ≡ level_of w.is_global (current fs) → w.key ≡ None → change_key c fs x k ≡ change_levels c fs (end_of fs (over (start n w.base) (element k))) (element_name x k)
key_of_whole c fs x k w n e is no_key =
    let q = end_of fs (start n w.base) in
    keyed c fs x k w n e is
    ∙ ap (λ o. change_levels c fs (over (over q (part_of o)) (element k)) (element_name x k)) no_key
    ∙ ap (λ r. change_levels c fs (record { level = q.level; name = q.name; part = r }) (element_name x k)) (under_key q.part k)
    ∙ ap (λ (p : Spot). change_levels c fs p (element_name x k)) (sym (end_over fs (start n w.base) (element k)))

nested_by : (c : Change) (fs : Levels) (n m : ℕ) (a b : Text) (x : Text) → change_levels c fs (record { level = n; name = a; part = nested }) x ≡ change_levels c fs (record { level = m; name = b; part = nested }) x
nested_by (Assign t) fs n m a b x = refl
nested_by (SetElements ps) fs n m a b x = refl
nested_by Unset fs n m a b x = refl
nested_by (UnsetElements g) fs n m a b x = refl

-- the name is an element's, which has no elements
pub key_of_element : (c : Change) (fs : Levels) (x k : Text) (w : Name) (n : ℕ) (j : Text) → name_of x ≡ Some w → n ≡ level_of w.is_global (current fs) → w.key ≡ Some j → change_key c fs x k ≡ change_levels c fs (over (start n w.base) nested) (element_name x k)
key_of_element c fs x k w n j e is key =
    let q = end_of fs (start n w.base) in
    keyed c fs x k w n e is
    ∙ ap (λ o. change_levels c fs (over (over q (part_of o)) (element k)) (element_name x k)) key
    ∙ ap (λ r. change_levels c fs (record { level = q.level; name = q.name; part = r }) (element_name x k)) (two_keys q.part j k)
    ∙ nested_by c fs q.level n q.name w.base (element_name x k)

-- the same as the code has it
pub key_coded : (c : Change) (fs : Levels) (x k : Text) (w : Name) (n : ℕ) (s told : Text) → name_of x ≡ Some w → n ≡ level_of w.is_global (current fs) → w.key ≡ None → s ≡ k → told ≡ element_name x k → change_key c fs x k ≡ change_levels c fs (end_of fs (over (start n w.base) (element s))) told
key_coded c fs x k w n s told e is no_key same is_told =
    key_of_whole c fs x k w n e is no_key
    ∙ ap (λ j. change_levels c fs (end_of fs (over (start n w.base) (element j))) (element_name x k)) (sym same)
    ∙ ap (λ t. change_levels c fs (end_of fs (over (start n w.base) (element s))) t) (sym is_told)

pub nested_coded : (c : Change) (fs : Levels) (x k : Text) (w : Name) (n : ℕ) (j told : Text) → name_of x ≡ Some w → n ≡ level_of w.is_global (current fs) → w.key ≡ Some j → told ≡ element_name x k → change_key c fs x k ≡ change_levels c fs (over (start n w.base) nested) told
nested_coded c fs x k w n j told e is key is_told =
    key_of_element c fs x k w n j e is key ∙ ap (λ t. change_levels c fs (over (start n w.base) nested) t) (sym is_told)
