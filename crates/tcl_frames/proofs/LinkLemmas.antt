-- Making links.
use Rattle.std.proofs.Common.{◌≡◌, ℕ, zero, suc, pred, ◌+◌, ◌-◌, ◌<◌, ◌≤◌, ◌==◌, ◌&&◌, ◌⊎◌, inl, inr, Bool, true, false, cond, length, slice_get, slice_set, Option, Some, None, Result, Ok, Err, refl, sym, ◌∙◌, ap, subst, arith, true≢false}
use Rattle.std.specs.Prelude.{nat_le}
use Rattle.std.proofs.lemmas.Bool.Decides.{nat_tests}
use Rattle.std.specs.Str.{bytes_eq}
use Rattle.indexmap.specs.IndexMap.{insert_entry}
use Rattle.tcl_frames.specs.Names.{Text, Name, name_of, is_plain}
use Rattle.tcl_frames.specs.Variables.{Frame, Part, merge, part_of}
use Rattle.tcl_frames.specs.Places.{Levels, Spot, current, level_of, spot_of, bound, under, end_of, is_at}
use Rattle.tcl_frames.specs.Variables.Part.{whole, element, nested}
use Rattle.tcl_frames.specs.Chain.{bind, link_over, link_to_end, link_from, link_by_name, linked}
use Rattle.tcl_frames.specs.Reached.{start, over, may_link}
use Rattle.tcl_frames.specs.Rebinding.{with_variable}
use Rattle.tcl_frames.specs.Faults.{Refuses}
use Rattle.tcl_frames.specs.declared.fault.FrameError.TheVariants.{Fault}
use Rattle.tcl_frames.specs.Sound.{AreFit}
use Rattle.tcl_frames.specs.declared.variable.LinkTarget.{LinkTarget}
use Rattle.tcl_frames.specs.declared.variable.Variable.{Variable}
use Rattle.tcl_frames.specs.declared.variable.Variable.TheVariants.{Scalar, Array, Link}
use Rattle.tcl_frames.specs.declared.fault.Verb.TheVariants.{Read}
use Rattle.tcl_frames.specs.declared.fault.FrameFault.{FrameFault}
use Rattle.tcl_frames.specs.declared.fault.FrameFault.TheVariants.{NotArray, BadLevel, Exists, Itself, BadName}
use Rattle.tcl_frames.proofs.SoundLemmas.{IsNoLink, IsFree, end_no_link, fit_linked, bound_at}
use Rattle.tcl_frames.proofs.StepLemmas.{link_level, fit_level, end_low, level_low}

abbrev pub spot : ℕ → Text → Part → Spot
spot n x r = record { level = n; name = x; part = r }

-- ## The definition, case by case

pub over_free : (fs : Levels) (o : Option Variable) (local : Text) (q : LinkTarget) → may_link o ≡ true → link_over fs o local q ≡ Ok (bind fs (current fs) local (Link q))
over_free fs None local q h = refl
over_free fs (Some (Scalar t)) local q h = absurd (true≢false (sym h))
over_free fs (Some (Array es)) local q h = absurd (true≢false (sym h))
over_free fs (Some (Link p)) local q h = refl

pub over_held : (fs : Levels) (o : Option Variable) (local : Text) (q : LinkTarget) → may_link o ≡ false → link_over fs o local q ≡ Err (Exists local)
over_held fs None local q h = absurd (true≢false h)
over_held fs (Some (Scalar t)) local q h = refl
over_held fs (Some (Array es)) local q h = refl
over_held fs (Some (Link p)) local q h = absurd (true≢false h)

past : (m n : ℕ) → n ≤ m → nat_le n m ≡ true
past m n h = grind (arith, nat_tests)

not_past : (m n : ℕ) → m < n → nat_le n m ≡ false
not_past m n h = grind (arith, nat_tests)

pub linked_past : (fs : Levels) (n : ℕ) (other local : Text) → length fs ≤ n → linked fs n other local ≡ Err (BadLevel n)
unfolding linked
linked_past fs n other local h = ap (λ b. cond b (Err (BadLevel n)) (link_by_name fs n (name_of other) (is_plain local) other local)) (past n (length fs) h)

pub linked_at : (fs : Levels) (n : ℕ) (other local : Text) → n < length fs → linked fs n other local ≡ link_by_name fs n (name_of other) (is_plain local) other local
unfolding linked
linked_at fs n other local h = ap (λ b. cond b (Err (BadLevel n)) (link_by_name fs n (name_of other) (is_plain local) other local)) (not_past n (length fs) h)

pub linked_bad_other : (fs : Levels) (n : ℕ) (other local : Text) → n < length fs → name_of other ≡ None → linked fs n other local ≡ Err (BadName other)
linked_bad_other fs n other local h e = linked_at fs n other local h ∙ ap (λ w. link_by_name fs n w (is_plain local) other local) e

pub linked_bad_local : (fs : Levels) (n : ℕ) (other local : Text) (w : Name) → n < length fs → name_of other ≡ Some w → is_plain local ≡ false → linked fs n other local ≡ Err (BadName local)
linked_bad_local fs n other local w h e p = linked_at fs n other local h ∙ ap (λ w. link_by_name fs n w (is_plain local) other local) e ∙ ap (λ b. link_by_name fs n (Some w) b other local) p

pub linked_good : (fs : Levels) (n : ℕ) (other local : Text) (w : Name) (b : Bool) → n < length fs → name_of other ≡ Some w → is_plain local ≡ true → b ≡ is_at (current fs) local (end_of fs (over (start (level_of w.is_global n) w.base) (part_of w.key)))
    → linked fs n other local ≡ link_from fs b other local (end_of fs (over (start (level_of w.is_global n) w.base) (part_of w.key)))
linked_good fs n other local w b h e p is =
    linked_at fs n other local h ∙ ap (λ w. link_by_name fs n w (is_plain local) other local) e ∙ ap (λ c. link_by_name fs n (Some w) c other local) p
    ∙ ap (λ c. link_from fs c other local (end_of fs (spot_of n w))) (sym is)

pub from_true : (fs : Levels) (b : Bool) (other local : Text) (p : Spot) → b ≡ true → link_from fs b other local p ≡ Err Itself
from_true fs b other local p e = ap (λ c. link_from fs c other local p) e

pub from_nested : (fs : Levels) (b : Bool) (other local : Text) (p : Spot) → b ≡ false → p.part ≡ nested → link_from fs b other local p ≡ Err (NotArray Read other)
from_nested fs b other local p e n = ap (λ c. link_from fs c other local p) e ∙ ap (link_to_end fs other local p.level p.name) n

to_place : (fs : Levels) (other local : Text) (n : ℕ) (x : Text) (k : Option Text) → link_to_end fs other local n x (merge (part_of k) whole) ≡ link_over fs (bound fs (current fs) local) local (record { level = n; name = x; key = k })
to_place fs other local n x None = refl
to_place fs other local n x (Some k) = refl

pub from_place : (fs : Levels) (b : Bool) (other local : Text) (p : Spot) (q : LinkTarget) → b ≡ false → p ≡ under q whole → link_from fs b other local p ≡ link_over fs (bound fs (current fs) local) local q
from_place fs b other local p q e is = ap (λ c. link_from fs c other local p) e ∙ ap (λ (s : Spot). link_to_end fs other local s.level s.name s.part) is ∙ to_place fs other local q.level q.name q.key

-- ## A link keeps the chain sound

free_of : (o : Option Variable) → may_link o ≡ true → IsFree o
free_of None h = tt
free_of (Some (Scalar t)) h = absurd (true≢false (sym h))
free_of (Some (Array es)) h = absurd (true≢false (sym h))
free_of (Some (Link q)) h = tt

not_there : (m n : ℕ) (b : Bool) → (m == n) && b ≡ false → m ≡ n → b ≡ false
not_there m n true h e = let t : (m == n) ≡ true = grind (arith, nat_tests) in absurd (true≢false (sym (ap (λ c. c && true) t) ∙ h))
not_there m n false h e = refl

pub bind_link_fit : (fs : Levels) → AreFit 0 fs → (local : Text) (q : LinkTarget) → IsFree (bound fs (current fs) local) → q.level ≤ current fs → is_at (current fs) local (under q whole) ≡ false → IsNoLink (bound fs q.level q.name)
    → AreFit 0 (bind fs (current fs) local (Link q))
unfolding bind
bind_link_fit fs fit local q free low apart end =
    fit_level 0 fs (current fs) (λ es. insert_entry bytes_eq es local (Link q)) fit
    (λ f at here.
    let zero_n : 0 + current fs ≡ current fs = omega arith in
    fit_linked (0 + current fs) f local q (subst IsFree (bound_at fs (current fs) local f at) free) (omega arith)
    (λ e. let same : q.level ≡ current fs = omega arith in (
      not_there q.level (current fs) (bytes_eq local q.name) apart same,
      subst IsNoLink (ap (λ n. bound fs n q.name) same ∙ bound_at fs (current fs) q.name f at) end,
    ))
    here)

ok_levels : (a gs : Levels) → AreFit 0 a → ◌≡◌ {A = Result Levels FrameFault} (Ok a) (Ok gs) → AreFit 0 gs
ok_levels a gs h e = let same : a ≡ gs = cc in subst (AreFit 0) same h

over_fit : (fs gs : Levels) → AreFit 0 fs → (o : Option Variable) (local : Text) (q : LinkTarget) → bound fs (current fs) local ≡ o → q.level ≤ current fs → is_at (current fs) local (under q whole) ≡ false → IsNoLink (bound fs q.level q.name)
    → link_over fs o local q ≡ Ok gs → AreFit 0 gs
over_fit fs gs fit None local q is low apart end e = ok_levels _ gs (bind_link_fit fs fit local q (subst IsFree (sym is) tt) low apart end) e
over_fit fs gs fit (Some (Scalar t)) local q is low apart end e = absurd (cc)
over_fit fs gs fit (Some (Array es)) local q is low apart end e = absurd (cc)
over_fit fs gs fit (Some (Link p)) local q is low apart end e = ok_levels _ gs (bind_link_fit fs fit local q (subst IsFree (sym is) tt) low apart end) e

to_end_fit : (fs gs : Levels) → AreFit 0 fs → (other local : Text) (n : ℕ) (x : Text) (r : Part) → n ≤ current fs → is_at (current fs) local (spot n x whole) ≡ false → IsNoLink (bound fs n x) → link_to_end fs other local n x r ≡ Ok gs → AreFit 0 gs
to_end_fit fs gs fit other local n x whole low apart end e = over_fit fs gs fit _ local (record { level = n; name = x; key = None }) refl low apart end e
to_end_fit fs gs fit other local n x (element k) low apart end e = over_fit fs gs fit _ local (record { level = n; name = x; key = Some k }) refl low apart end e
to_end_fit fs gs fit other local n x nested low apart end e = absurd (cc)

from_fit : (fs gs : Levels) → AreFit 0 fs → (b : Bool) (other local : Text) (p : Spot) → is_at (current fs) local (end_of fs p) ≡ b → p.level ≤ current fs → link_from fs b other local (end_of fs p) ≡ Ok gs → AreFit 0 gs
from_fit fs gs fit true other local p is low e = absurd (cc)
from_fit fs gs fit false other local p is low e =
    let lower = end_low fs fit p in
    to_end_fit fs gs fit other local (end_of fs p).level (end_of fs p).name (end_of fs p).part (omega (arith, lower, low)) is (end_no_link fs fit p) e

by_link_fit : (fs gs : Levels) → AreFit 0 fs → (n : ℕ) (w : Option Name) (b : Bool) (other local : Text) → n ≤ current fs → link_by_name fs n w b other local ≡ Ok gs → AreFit 0 gs
by_link_fit fs gs fit n None b other local low e = absurd (cc)
by_link_fit fs gs fit n (Some w) false other local low e = absurd (cc)
by_link_fit fs gs fit n (Some w) true other local low e = from_fit fs gs fit _ other local (spot_of n w) refl (let l = level_low w.is_global n in omega (arith, l)) e

pub below_pred : (n m : ℕ) → n < m → n ≤ pred m
below_pred n zero l = absurd (omega arith)
below_pred n (suc m) l = omega arith

pub less_one : (n : ℕ) → n - 1 ≡ pred n
less_one zero = refl
less_one (suc n) = omega arith

level_cases : (m n : ℕ) → (m ≤ n) ⊎ (n < m)
level_cases m n = grind arith

pub linked_fit : (fs gs : Levels) (n : ℕ) (other local : Text) → AreFit 0 fs → linked fs n other local ≡ Ok gs → AreFit 0 gs
linked_fit fs gs n other local fit e =
    elim (level_cases (length fs) n) [
      | inl l ↦ absurd (err_ok (BadLevel n) gs (sym (linked_past fs n other local l) ∙ e))
      | inr l ↦ by_link_fit fs gs fit n (name_of other) (is_plain local) other local (below_pred n (length fs) l) (sym (linked_at fs n other local l) ∙ e)
    ]
  where
    err_ok : (f : FrameFault) (gs : Levels) → ◌≡◌ {A = Result Levels FrameFault} (Err f) (Ok gs) → ⊥
    err_ok f gs e = cc

-- a link is made in the frame of the current level
pub over_bound : (fs : Levels) (here : ℕ) (f k : Frame) (local : Text) (q : LinkTarget) (o : Option Variable) (b : Bool) → here ≡ current fs → slice_get fs here ≡ Some f → k ≡ with_variable f local (Link q) → o ≡ bound fs here local → b ≡ may_link o → b ≡ true
    → link_over fs (bound fs (current fs) local) local q ≡ Ok (slice_set fs here k)
over_bound fs here f k local q o b is at made found test free =
    over_free fs (bound fs (current fs) local) local q (ap may_link (ap (λ n. bound fs n local) (sym is) ∙ sym found) ∙ sym test ∙ free)
    ∙ ap (λ n. Ok (bind fs n local (Link q))) (sym is)
    ∙ ap (λ (gs : Levels). Ok gs) (link_level fs here f k local q at made)

pub over_refused : (fs : Levels) (here : ℕ) (local : Text) (q : LinkTarget) (o : Option Variable) (b : Bool) → here ≡ current fs → o ≡ bound fs here local → b ≡ may_link o → b ≡ false → link_over fs (bound fs (current fs) local) local q ≡ Err (Exists local)
over_refused fs here local q o b is found test held =
    over_held fs (bound fs (current fs) local) local q (ap may_link (ap (λ n. bound fs n local) (sym is) ∙ sym found) ∙ sym test ∙ held)

pub good_from : (fs : Levels) (n : ℕ) (other local : Text) (w : Name) (b : Bool) (from here : ℕ) (p : Spot) → n < length fs → name_of other ≡ Some w → is_plain local ≡ true → here ≡ current fs → from ≡ level_of w.is_global n
    → end_of fs (over (start from w.base) (part_of w.key)) ≡ p → b ≡ is_at here local p → linked fs n other local ≡ link_from fs b other local p
good_from fs n other local w b from here p h e plain is at ends test =
    let same : end_of fs (over (start (level_of w.is_global n) w.base) (part_of w.key)) ≡ p = ap (λ m. end_of fs (over (start m w.base) (part_of w.key))) (sym at) ∙ ends in
    linked_good fs n other local w b h e plain (test ∙ ap (λ m. is_at m local p) is ∙ ap (is_at (current fs) local) (sym same))
    ∙ ap (link_from fs b other local) same

pub refuses_past : (fs : Levels) (n : ℕ) (other local : Text) → length fs ≤ n → Refuses (Fault (BadLevel n)) (linked fs n other local)
refuses_past fs n other local l = subst (Refuses (Fault (BadLevel n))) (sym (linked_past fs n other local l)) refl

pub refuses_itself : (fs : Levels) (n : ℕ) (other local : Text) (b : Bool) (p : Spot) → linked fs n other local ≡ link_from fs b other local p → b ≡ true → Refuses (Fault Itself) (linked fs n other local)
refuses_itself fs n other local b p e t = subst (Refuses (Fault Itself)) (sym (e ∙ from_true fs b other local p t)) refl
