-- The steps of reading a list.
use Rattle.std.proofs.Common.{Option, ne_eqb, ◌≡◌, ◌≢◌, ◌==◌, ℕ, suc, ◌<◌, Bool, true, false, not, ◌&&◌, List, [], ◌∷◌, ◌++◌, length, take, drop, refl, sym, ◌∙◌, ap, subst, inl, inr, arith, append_assoc, append-nil, Result, Ok, Err, one-add, take-append-drop, length-drop}
use Rattle.std.specs.List.{prefix_len, list_all}
use Rattle.std.proofs.lemmas.Bool.{cases_Bool, and_from, not-true, true≢false}
use Rattle.std.proofs.lemmas.Bool.Decides.{nat_tests}
use Rattle.tcl_text.specs.Backslash.{escape, escape_rest}
use Rattle.tcl_text.specs.declared.list.ListFault.{ListFault}
use Rattle.tcl_text.specs.declared.list.ListFault.TheVariants.{UnmatchedQuote}
use Rattle.tcl_text.specs.declared.list.UnitEnd.{UnitEnd}
use Rattle.tcl_text.specs.declared.list.UnitEnd.TheVariants.{White, Quote}
use Rattle.tcl_text.specs.Lists.{is_white, is_quote, stops, units, with_meaning, element_at, with_element, elements, list_of, none_open, close_brace, after_brace, after_quote}
use Rattle.std.proofs.Common.{IfOk, IfErr}
use Rattle.tcl_text.specs.declared.list.ListError.{ListError}
use Rattle.tcl_text.specs.declared.list.ListError.TheVariants.{Memory, Fault}
use Rattle.tcl_text.specs.Lists.{Spells, HasFault}
use Rattle.tcl_text.specs.Reading.{is_plain, stop_test, Gives, Fails, IfFault}
use Rattle.tcl_text.proofs.Runs.{Run, units_sound, units_plain, units_sequence, units_stopped}
use Rattle.tcl_text.proofs.Elements.{Found, Tells, element_tells}
use Rattle.tcl_text.proofs.Spellings.{elements_white, elements_found, elements_next_is, list_outcome, fault_outcome}

-- what stands behind the longest front that passes
pub front_stops : (p : ℕ → Bool) (s : List ℕ) → stops (λ b. not (p b)) (drop (prefix_len p s) s) ≡ true
front_stops p [] = refl
front_stops p (b ∷ s) =
    elim (cases_Bool (p b)) [
      | inl holds ↦ rw (holds, one-add) (front_stops p s)
      | inr fails ↦ rw fails (ap not fails)
    ]

front_all : (p : ℕ → Bool) (s : List ℕ) → list_all p (take (prefix_len p s) s) ≡ true
front_all p [] = refl
front_all p (b ∷ s) =
    elim (cases_Bool (p b)) [
      | inl holds ↦ rw (holds, one-add) (and_from _ _ holds (front_all p s))
      | inr fails ↦ rw fails refl
    ]

-- reading goes on behind white space
pub list_past_white : (s : List ℕ) → list_of (drop (prefix_len is_white s) s) ≡ list_of s
list_past_white s = sym (elements_white (take (prefix_len is_white s) s) (drop (prefix_len is_white s) s) (front_all is_white s)) ∙ ap (λ z. elements z 0) (take-append-drop (prefix_len is_white s) s)

slash_goes_on : (stop : UnitEnd) → stop_test stop 92 ≡ false
slash_goes_on White = refl
slash_goes_on Quote = refl

-- a text at the end of a run, or at a backslash
abbrev pub AtSeam : UnitEnd → List ℕ → Type 0
AtSeam stop s = stops (λ b. not (is_plain (stop_test stop) b)) s ≡ true

seam_byte : (t : Bool) (b : ℕ) → not (not (b == 92) && not t) ≡ true → b ≢ 92 → t ≡ true
seam_byte true b h n = refl
seam_byte false b h n = absurd (grind (arith, nat_tests))

pub seam_ends : (stop : UnitEnd) (s : List ℕ) → AtSeam stop s → ((after : List ℕ) → s ≢ 92 ∷ after) → stops (stop_test stop) s ≡ true
seam_ends stop [] h n = refl
seam_ends stop (b ∷ s) h n = seam_byte (stop_test stop b) b h (λ e. n s (ap (λ z. z ∷ s) e))

pub units_at_end : (stop : UnitEnd) (s : List ℕ) → AtSeam stop s → ((after : List ℕ) → s ≢ 92 ∷ after) → units (stop_test stop) s 0 ≡ ([], s)
units_at_end stop s h n = units_stopped (stop_test stop) s (seam_ends stop s h n)

-- a run whose front is plain, up to its end
pub units_begin : (stop : UnitEnd) (s plain rest : List ℕ) → plain ≡ take (prefix_len (is_plain (stop_test stop)) s) s → rest ≡ drop (prefix_len (is_plain (stop_test stop)) s) s →
    (AtSeam stop rest) × (with_meaning plain (units (stop_test stop) rest 0) ≡ units (stop_test stop) s 0)
units_begin stop s plain rest p r = (
  subst (AtSeam stop) (sym r) (front_stops (is_plain (stop_test stop)) s),
  (λ i. with_meaning (p i) (units (stop_test stop) (r i) 0)) ∙ sym (units_plain (stop_test stop) s),
)

-- a sequence and the plain text behind it
pub units_on : (stop : UnitEnd) (text rest after behind plain left meaning own : List ℕ) → with_meaning meaning (units (stop_test stop) rest 0) ≡ units (stop_test stop) text 0 → rest ≡ 92 ∷ after →
    own ≡ (escape after).meaning → behind ≡ escape_rest after → plain ≡ take (prefix_len (is_plain (stop_test stop)) behind) behind → left ≡ drop (prefix_len (is_plain (stop_test stop)) behind) behind →
    with_meaning ((meaning ++ own) ++ plain) (units (stop_test stop) left 0) ≡ units (stop_test stop) text 0
units_on stop text rest after behind plain left meaning own whole slash o b p l =
    let step = units_begin stop behind plain left p l in
    let f : ℕ → Bool = stop_test stop in
    let joined : with_meaning ((meaning ++ own) ++ plain) (units f left 0) ≡ with_meaning meaning (with_meaning own (with_meaning plain (units f left 0))) =
    (λ i. (append_assoc (meaning ++ own) plain (units f left 0).0 i, (units f left 0).1)) ∙ (λ i. (append_assoc meaning own (plain ++ (units f left 0).0) i, (units f left 0).1)) in
    let inner : with_meaning own (units f behind 0) ≡ units f rest 0 = (λ i. with_meaning (o i) (units f (b i) 0)) ∙ sym (units_sequence f after (slash_goes_on stop)) ∙ ap (λ z. units f z 0) (sym slash) in
    joined ∙ ap (λ z. with_meaning meaning (with_meaning own z)) step.1 ∙ ap (with_meaning meaning) inner ∙ whole

pub on_shorter : (stop : UnitEnd) (rest after behind left : List ℕ) → rest ≡ 92 ∷ after → behind ≡ escape_rest after → left ≡ drop (prefix_len (is_plain (stop_test stop)) behind) behind → length left < length rest
on_shorter stop rest after behind left slash b l =
    let x = ap length slash in
    let y = ap length b in
    let z = ap length l in
    omega (arith, length-drop (escape after).taken after, length-drop (prefix_len (is_plain (stop_test stop)) behind) behind)

pub units_done : (stop : UnitEnd) (text rest meaning : List ℕ) → with_meaning meaning (units (stop_test stop) rest 0) ≡ units (stop_test stop) text 0 → AtSeam stop rest → ((after : List ℕ) → rest ≢ 92 ∷ after) →
    units (stop_test stop) text 0 ≡ (meaning, rest)
units_done stop text rest meaning whole seam n =
    sym whole ∙ ap (with_meaning meaning) (units_at_end stop rest seam n) ∙ (λ i. (append-nil meaning i, rest))

-- what has been read, and what the rest gives
abbrev pub with_front : List (List ℕ) → Result (List (List ℕ)) ListFault → Result (List (List ℕ)) ListFault
with_front front (Ok l) = Ok (front ++ l)
with_front front (Err f) = Err f

front_more : (front : List (List ℕ)) (x : List ℕ) (r : Result (List (List ℕ)) ListFault) → with_front (front ++ x ∷ []) r ≡ with_front front (with_element x r)
front_more front x (Ok l) = ap Ok (append_assoc front (x ∷ []) l)
front_more front x (Err f) = refl

abbrev pub IsDark : List ℕ → Type 0
IsDark s = stops (λ b. not (is_white b)) s ≡ true

pub front_nil : (r : Result (List (List ℕ)) ListFault) → with_front [] r ≡ r
front_nil (Ok l) = refl
front_nil (Err f) = refl

-- one element more
pub record Step (text rest x after : List ℕ) (front : List (List ℕ)) : Type 0 where
  pub goes : with_front (front ++ x ∷ []) (list_of after) ≡ list_of text
  pub shorter : length after < length rest

pub list_step : (text rest x after : List ℕ) (front : List (List ℕ)) → with_front front (list_of rest) ≡ list_of text → IsDark rest → 0 < length rest → element_at rest ≡ Ok (x, after) → Step text rest x after front
list_step text [] x after front whole dark some e = absurd (omega arith)
list_step text (b ∷ s) x after front whole dark some e =
    let found : Found (b ∷ s) (x, after) = subst (Tells (b ∷ s)) e (element_tells b s (not-true _ dark)) in
    let is = elements_found b s x after found.elem (not-true _ dark) e found.whole found.shorter in
    record { goes = front_more front x (list_of after) ∙ ap (with_front front) (sym is) ∙ whole; shorter = found.shorter }

pub list_broken : (text rest : List ℕ) (f : ListFault) (front : List (List ℕ)) → with_front front (list_of rest) ≡ list_of text → IsDark rest → 0 < length rest → element_at rest ≡ Err f → list_of text ≡ Err f
list_broken text [] f front whole dark some e = absurd (omega arith)
list_broken text (b ∷ s) f front whole dark some e =
    sym whole ∙ ap (with_front front) (elements_next_is b s f (not-true _ dark) e)

pub list_done : (text rest : List ℕ) (front : List (List ℕ)) → with_front front (list_of rest) ≡ list_of text → rest ≡ [] → list_of text ≡ Ok front
unfolding elements
list_done text rest front whole nil = sym whole ∙ ap (λ z. with_front front (list_of z)) nil ∙ ap Ok (append-nil front)

-- an element in braces, in quotes, and bare
pub braced_read : (text s : List ℕ) (r : Option (List ℕ × List ℕ)) → text ≡ 123 ∷ s → close_brace s none_open ≡ r → element_at text ≡ after_brace r
unfolding element_at
braced_read text s r whole e = ap element_at whole ∙ ap after_brace e

pub quoted_read : (text s x rest : List ℕ) → text ≡ 34 ∷ s → units is_quote s 0 ≡ (x, rest) → element_at text ≡ after_quote x rest
unfolding element_at
quoted_read text s x rest whole e = ap element_at whole ∙ ap (λ (p : List ℕ × List ℕ). after_quote p.0 p.1) e

pub quote_missing : (s x rest : List ℕ) → units is_quote s 0 ≡ (x, rest) → ((after : List ℕ) → rest ≢ 34 ∷ after) → after_quote x rest ≡ Err UnmatchedQuote
quote_missing s x [] e never = refl
quote_missing s x (q ∷ rest) e never =
    let run : Run is_quote s (x, q ∷ rest) = subst (Run is_quote s) e (units_sound is_quote s refl) in
    let is : q ≡ 34 = let h = run.end in grind (arith, nat_tests) in
    absurd (never rest (ap (λ z. z ∷ rest) is))

pub bare_read : (text : List ℕ) (p : List ℕ × List ℕ) → ((s : List ℕ) → text ≢ 123 ∷ s) → ((s : List ℕ) → text ≢ 34 ∷ s) → units is_white text 0 ≡ p → element_at text ≡ Ok p
unfolding element_at units
bare_read [] p n m e = ap Ok e
bare_read (b ∷ s) p n m e =
    let f : (b == 123) ≡ false = ne_eqb b 123 (λ h. n s (ap (λ z. z ∷ s) h)) in
    let g : (b == 34) ≡ false = ne_eqb b 34 (λ h. m s (ap (λ z. z ∷ s) h)) in
    rw f (rw g (ap Ok e))

pub not_nil : (s : List ℕ) → false ≡ (length s == 0) → 0 < length s
not_nil [] h = absurd (true≢false (sym h))
not_nil (b ∷ s) h = omega arith

pub is_nil : (s : List ℕ) → true ≡ (length s == 0) → s ≡ []
is_nil [] h = refl
is_nil (b ∷ s) h = absurd (let e : true ≡ false = h ∙ ne_eqb (suc (length s)) 0 (λ k. omega arith) in true≢false e)

pub white_dark : (s rest : List ℕ) → rest ≡ drop (prefix_len is_white s) s → IsDark rest
white_dark s rest e = subst IsDark (sym e) (front_stops is_white s)

pub white_same : (s rest : List ℕ) → rest ≡ drop (prefix_len is_white s) s → list_of rest ≡ list_of s
white_same s rest e = ap (λ z. list_of z) e ∙ list_past_white s

-- a fault of an element is the text's
pub fails_on : (e : ListError) (text rest : List ℕ) (front : List (List ℕ)) → with_front front (list_of rest) ≡ list_of text → IsDark rest → 0 < length rest → Fails e (element_at rest) → Fails e (list_of text)
fails_on Memory text rest front whole dark some h = tt
fails_on (Fault f) text rest front whole dark some h = list_broken text rest f front whole dark some h

-- what a function gives says what the relations say
pub spells_from : {X : Type 0} (view : X → List (List ℕ)) (r : Result X ListError) (s : List ℕ) → Gives view r (list_of s) → IfOk r (λ v. Spells (view v) s)
spells_from view (Ok v) s h = list_outcome (view v) s h
spells_from view (Err e) s h = tt

fault_of : (e : ListError) (s : List ℕ) → Fails e (list_of s) → IfFault e (HasFault s)
fault_of Memory s h = tt
fault_of (Fault f) s h = fault_outcome f s h

pub faults_from : {X : Type 0} (view : X → List (List ℕ)) (r : Result X ListError) (s : List ℕ) → Gives view r (list_of s) → IfErr r (λ e. IfFault e (HasFault s))
faults_from view (Ok v) s h = tt
faults_from view (Err e) s h = fault_of e s h
