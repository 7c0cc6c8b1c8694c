-- What a text spells, as a relation and as a function.
use Rattle.std.proofs.Common.{◌≡◌, ℕ, zero, suc, ◌-◌, ◌≤◌, ◌<◌, Bool, true, false, ◌⊎◌, List, [], ◌∷◌, ◌++◌, length, drop, refl, sym, ◌∙◌, ap, subst, inl, inr, arith, append-nil, drop_at, Result, Ok, Err, length-append}
use Rattle.std.proofs.lemmas.Bool.{cases_Bool, and_parts, and_from}
use Rattle.tcl_text.specs.declared.list.ListFault.{ListFault}
use Rattle.tcl_text.specs.declared.list.ListFault.TheVariants.{UnmatchedBrace, UnmatchedQuote, AfterBrace, AfterQuote}
use Rattle.tcl_text.specs.Lists.{is_white, IsWhite, Units, none, byte, sequence, Elem, braced, quoted, bare, Breaks, Begins, Spells, FaultAfter, HasFault, element_at, with_element, next_element, elements, list_of, Decided, OneList, OneFault, NeverBoth, GivesList, GivesFault}
use Rattle.tcl_text.proofs.Elements.{Found, Tells, element_tells, element_from, element_breaks}

pub elements_skip : (s : List ℕ) (k : ℕ) → elements s k ≡ elements (drop k s) 0
unfolding elements
elements_skip [] zero = refl
elements_skip [] (suc k) = refl
elements_skip (b ∷ s) zero = refl
elements_skip (b ∷ s) (suc k) = elements_skip s k

elements_nil : elements [] 0 ≡ Ok []
unfolding elements
elements_nil = refl

elements_past : (b : ℕ) (s : List ℕ) → is_white b ≡ true → elements (b ∷ s) 0 ≡ elements s 0
unfolding elements
elements_past b s h = rw h refl

elements_next : (b : ℕ) (s : List ℕ) → is_white b ≡ false → elements (b ∷ s) 0 ≡ next_element (element_at (b ∷ s)) (λ rest. elements s (length s - length rest))
unfolding elements
elements_next b s h = rw h refl

pub elements_white : (w s : List ℕ) → IsWhite w → elements (w ++ s) 0 ≡ elements s 0
elements_white [] s h = refl
elements_white (b ∷ w) s h = let parts = and_parts _ _ h in elements_past b (w ++ s) parts.0 ∙ elements_white w s parts.1

left_over : (elem : List ℕ) (b : ℕ) (s rest : List ℕ) → b ∷ s ≡ elem ++ rest → length rest < suc (length s) → elements s (length s - length rest) ≡ elements rest 0
left_over [] b s rest whole l = absurd (let e = ap length whole in omega arith)
left_over (c ∷ t) b s rest whole l =
    let same : s ≡ t ++ rest = let e : b ∷ s ≡ c ∷ (t ++ rest) = whole in cc in
    let len : length t ≡ length s - length rest = omega (arith, ap length same, length-append t rest) in
    elements_skip s (length s - length rest) ∙ ap (λ z. elements z 0) (ap (drop (length s - length rest)) same ∙ drop_at t rest (length s - length rest) len)

-- after one element
pub elements_found : (b : ℕ) (s x rest elem : List ℕ) → is_white b ≡ false → element_at (b ∷ s) ≡ Ok (x, rest) → b ∷ s ≡ elem ++ rest → length rest < suc (length s) → elements (b ∷ s) 0 ≡ with_element x (elements rest 0)
elements_found b s x rest elem dark e whole l =
    elements_next b s dark ∙ ap (λ r. next_element r (λ z. elements s (length s - length z))) e ∙ ap (with_element x) (left_over elem b s rest whole l)

pub elements_next_is : (b : ℕ) (s : List ℕ) (f : ListFault) → is_white b ≡ false → element_at (b ∷ s) ≡ Err f → elements (b ∷ s) 0 ≡ Err f
elements_next_is b s f dark e = elements_next b s dark ∙ ap (λ r. next_element r (λ z. elements s (length s - length z))) e

units_head : (stop : ℕ → Bool) (after x u : List ℕ) (b : ℕ) (t : List ℕ) → stop 92 ≡ false → Units stop after x u → u ≡ b ∷ t → stop b ≡ false
units_head stop after x u b t slash none e = absurd cc
units_head stop after x u b t slash (byte c y s n h r) e = let same : c ≡ b = let f : c ∷ s ≡ b ∷ t = e in cc in subst (λ z. stop z ≡ false) same h
units_head stop after x u b t slash (sequence own y s m w split taken means r) e = let same : 92 ≡ b = let f : 92 ∷ w ≡ b ∷ t = e in cc in subst (λ z. stop z ≡ false) same slash

-- no element begins with white space
pub elem_head : (x elem after : List ℕ) → Elem x elem after → (b : ℕ) × (t : List ℕ) × (elem ≡ b ∷ t) × (is_white b ≡ false)
elem_head x elem after (braced whole h) = (123, x ++ 125 ∷ [], whole, refl)
elem_head x elem after (quoted t whole h) = (34, t ++ 34 ∷ [], whole, refl)
elem_head x elem after (bare b t whole n m are) = (b, t, whole, units_head is_white after x (b ∷ t) b t refl are refl)

breaks_head : (f : ListFault) (s : List ℕ) → Breaks f s → (b : ℕ) × (t : List ℕ) × (s ≡ b ∷ t) × (is_white b ≡ false)
breaks_head UnmatchedBrace s h = (123, h.0, h.1, refl)
breaks_head UnmatchedQuote s h = (34, h.0, h.1, refl)
breaks_head (AfterBrace y) s h = (123, h.0 ++ 125 ∷ h.1, h.2, refl)
breaks_head (AfterQuote y) s h = (34, h.1 ++ 34 ∷ h.2, h.3, refl)

-- after white space and one element
elements_begun : (x s : List ℕ) (Goes : List ℕ → Type 0) (h : Begins x s Goes) → elements s 0 ≡ with_element x (elements h.rest 0)
elements_begun x s Goes h =
    let head = elem_head x h.elem h.rest h.is_elem in
    let split : h.elem ++ h.rest ≡ head.0 ∷ (head.1 ++ h.rest) = ap (λ z. z ++ h.rest) head.2 in
    let found : element_at (head.0 ∷ (head.1 ++ h.rest)) ≡ Ok (x, h.rest) = ap element_at (sym split) ∙ element_from x h.elem h.rest h.is_elem h.is_end in
    ap (λ z. elements z 0) h.whole ∙ elements_white h.white (h.elem ++ h.rest) h.is_white ∙ ap (λ z. elements z 0) split
    ∙ elements_found head.0 (head.1 ++ h.rest) x h.rest h.elem head.3 found (sym split) (omega (arith, length-append head.1 h.rest))

pub list_from : (l : List (List ℕ)) (s : List ℕ) → Spells l s → list_of s ≡ Ok l
list_from [] s h = ap (λ z. elements z 0) (sym (append-nil s)) ∙ elements_white s [] h ∙ elements_nil
list_from (x ∷ l) s h = elements_begun x s (Spells l) h ∙ ap (with_element x) (list_from l h.rest h.goes)

pub fault_from : (l : List (List ℕ)) (f : ListFault) (s : List ℕ) → FaultAfter l f s → list_of s ≡ Err f
fault_from [] f s h =
    let head = breaks_head f h.1 h.4 in
    let next = elements_next head.0 head.1 head.3 in
    let broken : element_at (head.0 ∷ head.1) ≡ Err f = ap element_at (sym head.2) ∙ element_breaks f h.1 h.4 in
    ap (λ z. elements z 0) h.2 ∙ elements_white h.0 h.1 h.3 ∙ ap (λ z. elements z 0) head.2 ∙ next ∙ ap (λ r. next_element r (λ z. elements head.1 (length head.1 - length z))) broken
fault_from (x ∷ l) f s h = elements_begun x s (FaultAfter l f) h ∙ ap (with_element x) (fault_from l f h.rest h.goes)

-- what an answer says of a whole text
abbrev pub Outcome : List ℕ → Result (List (List ℕ)) ListFault → Type 0
Outcome s (Ok l) = Spells l s
Outcome s (Err f) = HasFault s f

begins_past : (b : ℕ) (x s : List ℕ) (Goes : List ℕ → Type 0) → is_white b ≡ true → Begins x s Goes → Begins x (b ∷ s) Goes
begins_past b x s Goes w h =
    record { white = b ∷ h.white; elem = h.elem; rest = h.rest; whole = ap (λ z. b ∷ z) h.whole; is_white = and_from _ _ w h.is_white; is_elem = h.is_elem; is_end = h.is_end; goes = h.goes }

past_white : (b : ℕ) (s : List ℕ) (r : Result (List (List ℕ)) ListFault) → is_white b ≡ true → Outcome s r → Outcome (b ∷ s) r
past_white b s (Ok []) w h = and_from _ _ w h
past_white b s (Ok (x ∷ l)) w h = begins_past b x s (Spells l) w h
past_white b s (Err f) w h = past_fault h.0 h.1
  where
    past_fault : (l : List (List ℕ)) → FaultAfter l f s → HasFault (b ∷ s) f
    past_fault [] k = ([], (b ∷ k.0, k.1, ap (λ z. b ∷ z) k.2, and_from _ _ w k.3, k.4))
    past_fault (x ∷ l) k = (x ∷ l, begins_past b x s (FaultAfter l f) w k)

begins_with : (s : List ℕ) (p : List ℕ × List ℕ) (Goes : List ℕ → Type 0) → Found s p → Goes p.1 → Begins p.0 s Goes
begins_with s p Goes found h =
    record { white = []; elem = found.elem; rest = p.1; whole = found.whole; is_white = refl; is_elem = found.is_elem; is_end = found.end; goes = h }

past_element : (s : List ℕ) (p : List ℕ × List ℕ) (r : Result (List (List ℕ)) ListFault) → Found s p → Outcome p.1 r → Outcome s (with_element p.0 r)
past_element s p (Ok l) found h = begins_with s p (Spells l) found h
past_element s p (Err f) found h = (p.0 ∷ h.0, begins_with s p (FaultAfter h.0 f) found h.1)

next_outcome : (b : ℕ) (s : List ℕ) (r : Result (List ℕ × List ℕ) ListFault) → is_white b ≡ false → element_at (b ∷ s) ≡ r → Tells (b ∷ s) r →
    ((t : List ℕ) → length t ≤ length s → Outcome t (elements t 0)) → Outcome (b ∷ s) (elements (b ∷ s) 0)
next_outcome b s (Ok p) dark e found ih =
    let is = elements_found b s p.0 p.1 found.elem dark e found.whole found.shorter in
    subst (Outcome (b ∷ s)) (sym is) (past_element (b ∷ s) p (elements p.1 0) found (ih p.1 (let l = found.shorter in omega arith)))
next_outcome b s (Err f) dark e breaks ih =
    let is = elements_next b s dark ∙ ap (λ r. next_element r (λ z. elements s (length s - length z))) e in
    subst (Outcome (b ∷ s)) (sym is) ([], ([], b ∷ s, refl, refl, breaks))

outcome_within : (n : ℕ) (s : List ℕ) → length s ≤ n → Outcome s (elements s 0)
outcome_within n [] l = subst (Outcome []) (sym elements_nil) refl
outcome_within zero (b ∷ s) l = absurd (omega arith)
outcome_within (suc n) (b ∷ s) l =
    elim (cases_Bool (is_white b)) [
      | inl light ↦ subst (Outcome (b ∷ s)) (sym (elements_past b s light)) (past_white b s (elements s 0) light (outcome_within n s (omega arith)))
      | inr dark ↦ next_outcome b s (element_at (b ∷ s)) dark refl (element_tells b s dark) (λ t k. outcome_within n t (omega arith))
    ]

pub outcome : (s : List ℕ) → Outcome s (list_of s)
outcome s = outcome_within (length s) s (omega arith)

pub list_outcome : (l : List (List ℕ)) (s : List ℕ) → list_of s ≡ Ok l → Spells l s
list_outcome l s e = subst (Outcome s) e (outcome s)

pub fault_outcome : (f : ListFault) (s : List ℕ) → list_of s ≡ Err f → HasFault s f
fault_outcome f s e = subst (Outcome s) e (outcome s)

decided_by : (s : List ℕ) (r : Result (List (List ℕ)) ListFault) → Outcome s r → ((l : List (List ℕ)) × Spells l s) ⊎ ((f : ListFault) × HasFault s f)
decided_by s (Ok l) h = inl (l, h)
decided_by s (Err f) h = inr (f, h)

pub decided : Decided
decided s = decided_by s (list_of s) (outcome s)

pub one_list : OneList
one_list l m s h k = let e : Ok l ≡ Ok m = sym (list_from l s h) ∙ list_from m s k in cc

pub one_fault : OneFault
one_fault f g s h k = let e : Err f ≡ Err g = sym (fault_from h.0 f s h.1) ∙ fault_from k.0 g s k.1 in cc

pub never_both : NeverBoth
never_both l f s h k = let e : Ok l ≡ Err f = sym (list_from l s h) ∙ fault_from k.0 f s k.1 in cc

pub gives_list : GivesList
gives_list l s = (list_outcome l s, list_from l s)

pub gives_fault : GivesFault
gives_fault f s = (fault_outcome f s, λ h. fault_from h.0 f s h.1)
