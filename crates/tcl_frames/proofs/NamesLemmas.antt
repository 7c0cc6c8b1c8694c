-- Listing names.
use Rattle.std.proofs.Common.{◌≡◌, ℕ, zero, suc, pred, ◌+◌, ◌-◌, ◌<◌, ◌≤◌, ◌==◌, Bool, true, false, cond, List, [], ◌∷◌, ◌++◌, length, drop, slice_get, Some, None, refl, sym, ◌∙◌, ap, arith, append_assoc, append-nil}
use Rattle.std.proofs.lemmas.Bool.Decides.{nat_tests}
use Rattle.tcl_frames.specs.Names.{Text}
use Rattle.tcl_frames.specs.Variables.{Frame, Variables}
use Rattle.tcl_text.proofs.Items.{drop_at}
use Rattle.tcl_frames.specs.Places.{Levels, current, end_of}
use Rattle.tcl_frames.specs.Chain.{holds, kept_if, names_held, names_own, is_own, variables_at, names_of}
use Rattle.tcl_frames.specs.Reached.{start}
use Rattle.tcl_frames.specs.declared.variable.Variable.{Variable}
use Rattle.tcl_frames.specs.declared.scope.Scope.TheVariants.{Visible, Global, Local}

pub kept_append : (b : Bool) (x : Text) (xs : List Text) → kept_if b x xs ≡ kept_if b x [] ++ xs
kept_append true x xs = refl
kept_append false x xs = refl

held_cons : (fs : Levels) (n : ℕ) (e : Text × Variable) (es : Variables) → names_held fs n (e ∷ es) ≡ kept_if (holds fs (end_of fs (start n e.0))) e.0 (names_held fs n es)
unfolding names_held
held_cons fs n e es = refl

held_nil : (fs : Levels) (n : ℕ) → names_held fs n [] ≡ []
unfolding names_held
held_nil fs n = refl

own_cons : (e : Text × Variable) (es : Variables) → names_own (e ∷ es) ≡ kept_if (is_own e.1) e.0 (names_own es)
unfolding names_own
own_cons e es = refl

own_nil : names_own [] ≡ []
unfolding names_own
own_nil = refl

pub held_step : (fs : Levels) (n : ℕ) (es : Variables) (i : ℕ) (e : Text × Variable) (b : Bool) (old new : List Text) → slice_get es i ≡ Some e → b ≡ holds fs (end_of fs (start n e.0)) → new ≡ old ++ kept_if b e.0 []
    → new ++ names_held fs n (drop (i + 1) es) ≡ old ++ names_held fs n (drop i es)
held_step fs n es i e b old new at is made =
    let next : i + 1 ≡ suc i = omega arith in
    ap (λ m. m ++ names_held fs n (drop (i + 1) es)) made
    ∙ append_assoc old (kept_if b e.0 []) (names_held fs n (drop (i + 1) es))
    ∙ ap (λ r. old ++ r) (sym (kept_append b e.0 (names_held fs n (drop (i + 1) es))))
    ∙ ap (λ k. old ++ kept_if b e.0 (names_held fs n (drop k es))) next
    ∙ ap (λ c. old ++ kept_if c e.0 (names_held fs n (drop (suc i) es))) is
    ∙ ap (λ r. old ++ r) (sym (ap (names_held fs n) (drop_at es i e at) ∙ held_cons fs n e (drop (suc i) es)))

pub own_step : (es : Variables) (i : ℕ) (e : Text × Variable) (b : Bool) (old new : List Text) → slice_get es i ≡ Some e → b ≡ is_own e.1 → new ≡ old ++ kept_if b e.0 []
    → new ++ names_own (drop (i + 1) es) ≡ old ++ names_own (drop i es)
own_step es i e b old new at is made =
    let next : i + 1 ≡ suc i = omega arith in
    ap (λ m. m ++ names_own (drop (i + 1) es)) made
    ∙ append_assoc old (kept_if b e.0 []) (names_own (drop (i + 1) es))
    ∙ ap (λ r. old ++ r) (sym (kept_append b e.0 (names_own (drop (i + 1) es))))
    ∙ ap (λ k. old ++ kept_if b e.0 (names_own (drop k es))) next
    ∙ ap (λ c. old ++ kept_if c e.0 (names_own (drop (suc i) es))) is
    ∙ ap (λ r. old ++ r) (sym (ap names_own (drop_at es i e at) ∙ own_cons e (drop (suc i) es)))

pub drop_over : {A : Type 0} (xs : List A) (i : ℕ) → length xs ≤ i → drop i xs ≡ []
drop_over [] zero l = refl
drop_over [] (suc i) l = refl
drop_over (x ∷ xs) zero l = absurd (omega arith)
drop_over (x ∷ xs) (suc i) l = drop_over xs i (omega arith)

pub held_end : (fs : Levels) (n : ℕ) (es : Variables) (i : ℕ) (names : List Text) → length es ≤ i → names ++ names_held fs n (drop i es) ≡ names
held_end fs n es i names l = ap (λ r. names ++ r) (ap (names_held fs n) (drop_over es i l) ∙ held_nil fs n) ∙ append-nil names

pub own_end : (es : Variables) (i : ℕ) (names : List Text) → length es ≤ i → names ++ names_own (drop i es) ≡ names
own_end es i names l = ap (λ r. names ++ r) (ap names_own (drop_over es i l) ∙ own_nil) ∙ append-nil names

pub variables_there : (fs : Levels) (n : ℕ) (f : Frame) → slice_get fs n ≡ Some f → variables_at fs n ≡ f.variables
unfolding variables_at
variables_there [] n f e = absurd (cc)
variables_there (g ∷ fs) zero f e = let same : g ≡ f = cc in ap (λ (h : Frame). h.variables) same
variables_there (g ∷ fs) (suc n) f e = variables_there fs n f e

pub variables_nowhere : (fs : Levels) (n : ℕ) → slice_get fs n ≡ None → variables_at fs n ≡ []
unfolding variables_at
variables_nowhere [] n e = refl
variables_nowhere (g ∷ fs) zero e = absurd (cc)
variables_nowhere (g ∷ fs) (suc n) e = variables_nowhere fs n e

pub held_nowhere : (fs : Levels) (n : ℕ) → slice_get fs n ≡ None → names_held fs n (variables_at fs n) ≡ []
held_nowhere fs n e = ap (names_held fs n) (variables_nowhere fs n e) ∙ held_nil fs n

first_level : (fs : Levels) → length fs < 2 → (current fs == 0) ≡ true
first_level [] l = refl
first_level (f ∷ []) l = refl
first_level (f ∷ g ∷ fs) l = absurd (omega arith)

later_level : (fs : Levels) → 2 ≤ length fs → (current fs == 0) ≡ false
later_level [] l = absurd (omega arith)
later_level (f ∷ []) l = absurd (omega arith)
later_level (f ∷ g ∷ fs) l = grind (arith, nat_tests)

pub local_first : (fs : Levels) → length fs < 2 → names_of Local fs ≡ []
unfolding names_of
local_first fs l = ap (λ b. cond b [] (names_own (variables_at fs (current fs)))) (first_level fs l)

pub local_later : (fs : Levels) (f : Frame) → 2 ≤ length fs → slice_get fs (length fs - 1) ≡ Some f → names_of Local fs ≡ names_own f.variables
unfolding names_of
local_later fs f l at =
    ap (λ b. cond b [] (names_own (variables_at fs (current fs)))) (later_level fs l)
    ∙ ap (λ n. names_own (variables_at fs n)) (sym (less (length fs)))
    ∙ ap names_own (variables_there fs (length fs - 1) f at)
  where
    less : (n : ℕ) → n - 1 ≡ pred n
    less zero = refl
    less (suc n) = omega arith

pub visible_is : (fs : Levels) (n : ℕ) → n ≡ current fs → names_held fs n (variables_at fs n) ≡ names_of Visible fs
unfolding names_of
visible_is fs n e = ap (λ m. names_held fs m (variables_at fs m)) e

pub global_is : (fs : Levels) → names_held fs 0 (variables_at fs 0) ≡ names_of Global fs
unfolding names_of
global_is fs = refl
