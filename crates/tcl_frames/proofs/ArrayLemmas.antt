-- The elements of arrays, as they are listed.
use Rattle.std.proofs.Common.{◌≡◌, ℕ, suc, ◌+◌, ◌≤◌, Bool, true, false, cond, List, [], ◌∷◌, ◌++◌, length, drop, slice_get, Option, Some, None, is_some, Result, Ok, Err, refl, sym, ◌∙◌, ap, arith, append_assoc, append-nil}
use Rattle.std.specs.Borrow.{Bor}
use Rattle.std.specs.Map.{keys_of}
use Rattle.std.specs.Option.{option_copied}
use Rattle.tcl_frames.specs.Names.{Text}
use Rattle.tcl_frames.specs.VariableArrays.{Elements, is_taken, taken}
use Rattle.tcl_frames.specs.Faults.{Refuses}
use Rattle.tcl_frames.specs.declared.fault.FrameError.{FrameError}
use Rattle.tcl_frames.specs.declared.fault.FrameFault.{FrameFault}
use Rattle.tcl_text.proofs.Items.{drop_at}
use Rattle.tcl_frames.specs.Arrays.{of_elements, is_found, element_if}
use Rattle.tcl_frames.specs.Chain.{kept_if}
use Rattle.tcl_frames.proofs.NamesLemmas.{drop_over, kept_append}

keys_case : (b : Bool) (e : Text × Text) (es : Elements) → keys_of (cond b (e ∷ es) es) ≡ kept_if b e.0 (keys_of es)
keys_case true e es = refl
keys_case false e es = refl

elements_case : (b : Bool) (e : Text × Text) (es : Elements) → cond b (e ∷ es) es ≡ element_if b e ++ es
elements_case true e es = refl
elements_case false e es = refl

pub key_step : (g : Option Text) (es : Elements) (i : ℕ) (e : Text × Text) (b : Bool) (old new : List Text) → slice_get es i ≡ Some e → b ≡ is_taken g e.0 → new ≡ old ++ kept_if b e.0 []
    → new ++ keys_of (taken g (drop (i + 1) es)) ≡ old ++ keys_of (taken g (drop i es))
key_step g es i e b old new at is made =
    let next : i + 1 ≡ suc i = omega arith in
    let rest = drop (suc i) es in
    ap (λ m. m ++ keys_of (taken g (drop (i + 1) es))) made
    ∙ append_assoc old (kept_if b e.0 []) (keys_of (taken g (drop (i + 1) es)))
    ∙ ap (λ r. old ++ r) (sym (kept_append b e.0 (keys_of (taken g (drop (i + 1) es)))))
    ∙ ap (λ k. old ++ kept_if b e.0 (keys_of (taken g (drop k es)))) next
    ∙ ap (λ c. old ++ kept_if c e.0 (keys_of (taken g rest))) is
    ∙ ap (λ r. old ++ r) (sym (ap (λ m. keys_of (taken g m)) (drop_at es i e at) ∙ keys_case (is_taken g e.0) e (taken g rest)))

pub key_end : (g : Option Text) (es : Elements) (i : ℕ) (keys : List Text) → length es ≤ i → keys ++ keys_of (taken g (drop i es)) ≡ keys
key_end g es i keys l = ap (λ m. keys ++ keys_of (taken g m)) (drop_over es i l) ∙ append-nil keys

pub element_step : (g : Option Text) (es : Elements) (i : ℕ) (e : Text × Text) (b : Bool) (old new : Elements) → slice_get es i ≡ Some e → b ≡ is_taken g e.0 → new ≡ old ++ element_if b e
    → new ++ taken g (drop (i + 1) es) ≡ old ++ taken g (drop i es)
element_step g es i e b old new at is made =
    let next : i + 1 ≡ suc i = omega arith in
    let rest = drop (suc i) es in
    ap (λ m. m ++ taken g (drop (i + 1) es)) made
    ∙ append_assoc old (element_if b e) (taken g (drop (i + 1) es))
    ∙ ap (λ k. old ++ (element_if b e ++ taken g (drop k es))) next
    ∙ ap (λ c. old ++ (element_if c e ++ taken g rest)) is
    ∙ ap (λ r. old ++ r) (sym (ap (taken g) (drop_at es i e at) ∙ elements_case (is_taken g e.0) e (taken g rest)))

pub element_end : (g : Option Text) (es : Elements) (i : ℕ) (made : Elements) → length es ≤ i → made ++ taken g (drop i es) ≡ made
element_end g es i made l = ap (λ m. made ++ taken g m) (drop_over es i l) ∙ append-nil made

-- what is refused of the array is refused of its elements
pub elements_refused : {A : Type 0} (e : FrameError) (f : Elements → A) (r : Result (Option Elements) FrameFault) → Refuses e r → Refuses e (of_elements f r)
elements_refused e f (Ok None) h = h
elements_refused e f (Ok (Some es)) h = h
elements_refused e f (Err g) h = h

pub found_refused : (e : FrameError) (r : Result (Option Elements) FrameFault) → Refuses e r → Refuses e (is_found r)
found_refused e (Ok o) h = h
found_refused e (Err g) h = h

-- the answer of what was found
pub of_some : {A : Type 0} (f : Elements → A) (r : Result (Option Elements) FrameFault) (o : Option (Bor Elements)) (es : Bor Elements) → r ≡ Ok (option_copied o) → o ≡ Some es → of_elements f r ≡ Ok (f es.now)
of_some f r o es h e = ap (of_elements f) h ∙ ap (λ p. of_elements f (Ok (option_copied p))) e

pub of_none : {A : Type 0} (f : Elements → A) (r : Result (Option Elements) FrameFault) (o : Option (Bor Elements)) → r ≡ Ok (option_copied o) → o ≡ None → of_elements f r ≡ Ok (f [])
of_none f r o h e = ap (of_elements f) h ∙ ap (λ p. of_elements f (Ok (option_copied p))) e

copied_some : (o : Option (Bor Elements)) → is_some (option_copied o) ≡ is_some o
copied_some None = refl
copied_some (Some es) = refl

pub found_is : (r : Result (Option Elements) FrameFault) (o : Option (Bor Elements)) → r ≡ Ok (option_copied o) → is_found r ≡ Ok (is_some o)
found_is r o h = ap is_found h ∙ ap (λ b. Ok b) (copied_some o)
