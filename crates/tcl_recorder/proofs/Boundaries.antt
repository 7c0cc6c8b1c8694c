-- Boundaries, crossing by crossing.
use Rattle.std.proofs.Common.{◌≡◌, ℕ, zero, suc, ◌<◌, ◌≤◌, Bool, true, false, List, [], ◌∷◌, ◌++◌, Option, Some, None, length, nat_eq, nat_le, ◌-◌, drop, take, append_assoc, refl, sym, ◌∙◌, ap, arith, append-nil}
use Rattle.std.proofs.lemmas.Bool.Decides.{nat_tests}
use Rattle.tcl_core.specs.Entries.{Answer, Entry}
use Rattle.tcl_core.specs.Endings.{Reply}
use Rattle.tcl_core.specs.Lives.{put}
use Rattle.tcl_core.specs.Paths.{Path, Place, Height, guarded, rejoined, same, strip, rise, rise_to, seen_height, together, unless}
use Rattle.tcl_core.specs.Execution.{event}
use Rattle.tcl_core.specs.Trees.{Event, seen_answer, seen_reply}
use Rattle.tcl_core.specs.Trees.What.{Out, In, Done, Back}
use Rattle.tcl_core.specs.Views.{kept, view}
use Rattle.tcl_core.proofs.PathLaws.{beside, down_into, rise_back, rise_past, rise_some, seen_out, seen_rise, strip-append, strip-sound, strip_own}
use Rattle.tcl_recorder.specs.Boundary.{at_passing, back_seen, beyond, boundary, done_seen, in_seen, out_seen, passing, passing_by, past_the_top}

-- ## Which crossings are in it

module _ {O : Type 0} where
  out_by : (s b : Option Place) (h : Height) (down : Path) (i : Entry) (τ : List (Event O)) → past_the_top (kept s b (Out h down i) τ) ≡ at_passing (passing_by s h) (out_seen h down i) (past_the_top τ)
  out_by None None h down i τ = refl
  out_by None (Some z) h down i τ = refl
  out_by (Some q) b h down i τ = by (rise_to h q)
    where
      by : (o : Option Place) → put o q (Out h down i) (past_the_top τ) ≡ at_passing (beyond o q) (out_seen h down i) (past_the_top τ)
      by None = refl
      by (Some a) = refl

  back_by : (s b : Option Place) (h : Height) (a : Answer) (τ : List (Event O)) → past_the_top (kept s b (Back h a) τ) ≡ at_passing (passing_by s h) (back_seen h a) (past_the_top τ)
  back_by None None h a τ = refl
  back_by None (Some z) h a τ = refl
  back_by (Some q) b h a τ = by (rise_to h q)
    where
      by : (o : Option Place) → put o q (Back h (seen_answer q a)) (past_the_top τ) ≡ at_passing (beyond o q) (back_seen h a) (past_the_top τ)
      by None = refl
      by (Some x) = refl

  in_by : (s b : Option Place) (h : Height) (i : Entry) (τ : List (Event O)) → past_the_top (kept s b (In h i) τ) ≡ at_passing (passing_by s h) (in_seen i) (past_the_top τ)
  in_by None None h i τ = refl
  in_by None (Some z) h i τ = refl
  in_by (Some q) b h i τ = ap (λ o. put o q (In (seen_height q h) i) (past_the_top τ)) (seen_rise q h) ∙ by (rise_to h q) refl
    where
      by : (o : Option Place) → rise_to h q ≡ o → put o q (In (seen_height q h) i) (past_the_top τ) ≡ at_passing (beyond o q) (in_seen i) (past_the_top τ)
      by None e = ap (λ g. record { place = q; what = In g i } ∷ past_the_top τ) (seen_out q h e)
      by (Some x) e = refl

  done_by : (s b : Option Place) (h : Height) (r : Reply) (τ : List (Event O)) → past_the_top (kept s b (Done h r) τ) ≡ at_passing (passing_by s h) (done_seen r) (past_the_top τ)
  done_by None None h r τ = refl
  done_by None (Some z) h r τ = refl
  done_by (Some q) b h r τ = ap (λ o. put o q (Done (seen_height q h) (seen_reply q r)) (past_the_top τ)) (seen_rise q h) ∙ by (rise_to h q) refl
    where
      by : (o : Option Place) → rise_to h q ≡ o → put o q (Done (seen_height q h) (seen_reply q r)) (past_the_top τ) ≡ at_passing (beyond o q) (done_seen r) (past_the_top τ)
      by None e = ap (λ g. record { place = q; what = Done g (seen_reply q r) } ∷ past_the_top τ) (seen_out q h e)
      by (Some x) e = refl

  pub boundary_out : (c p : Place) (h : Height) (down : Path) (i : Entry) (τ : List (Event O)) → boundary c (event p (Out h down i) ∷ τ) ≡ at_passing (passing c p h) (out_seen h down i) (boundary c τ)
  boundary_out c p h down i τ = out_by (strip c p) (strip p c) h down i (view c τ)

  pub boundary_back : (c p : Place) (h : Height) (a : Answer) (τ : List (Event O)) → boundary c (event p (Back h a) ∷ τ) ≡ at_passing (passing c p h) (back_seen h a) (boundary c τ)
  boundary_back c p h a τ = back_by (strip c p) (strip p c) h a (view c τ)

  pub boundary_in : (c p : Place) (h : Height) (i : Entry) (τ : List (Event O)) → boundary c (event p (In h i) ∷ τ) ≡ at_passing (passing c p h) (in_seen i) (boundary c τ)
  boundary_in c p h i τ = in_by (strip c p) (strip p c) h i (view c τ)

  pub boundary_done : (c p : Place) (h : Height) (r : Reply) (τ : List (Event O)) → boundary c (event p (Done h r) ∷ τ) ≡ at_passing (passing c p h) (done_seen r) (boundary c τ)
  boundary_done c p h r τ = done_by (strip c p) (strip p c) h r (view c τ)

-- ## Paths as code compares them

-- two paths that begin with less than the whole first one together
pub not_below : (c p : Path) → together c p < length c → strip c p ≡ None
not_below [] p lt = absurd (omega arith)
not_below (x ∷ c) [] lt = refl
not_below (x ∷ c) (y ∷ p) lt = by (not_below c p) (same x y) lt
  where
    by : (together c p < length c → strip c p ≡ None) → (b : Bool) → unless b (suc (together c p)) < suc (length c) → guarded b (strip c p) ≡ None
    by f true l = f (omega arith)
    by f false l = refl

pub is_below : (c p : Path) → length c ≤ together c p → strip c p ≡ Some (drop (length c) p)
is_below [] p le = refl
is_below (x ∷ c) [] le = absurd (omega arith)
is_below (x ∷ c) (y ∷ p) le = by (is_below c p) (same x y) le
  where
    by : (length c ≤ together c p → strip c p ≡ Some (drop (length c) p)) → (b : Bool) → suc (length c) ≤ unless b (suc (together c p)) → guarded b (strip c p) ≡ Some (drop (length c) p)
    by f true l = f (omega arith)
    by f false l = absurd (omega arith)

-- a way that ends at or below the top doesn't pass it, and one that ends above it does
pub stays : (c p q : Path) (n : ℕ) → strip c p ≡ Some q → n ≤ length q → passing c p (Some n) ≡ None
stays c p q n e le = ap (λ o. passing_by o (Some n)) e ∙ ap (λ o. beyond o q) (rise_some q n le).1

pub passes : (c p q : Path) (n : ℕ) → strip c p ≡ Some q → length q < n → passing c p (Some n) ≡ Some q
passes c p q n e lt = ap (λ o. passing_by o (Some n)) e ∙ ap (λ o. beyond o q) (rise_past n q lt)

-- ## Ways down

-- what is reached from a place that is neither above c nor in it isn't in it
pub arrives_beside : (c a down : Path) → strip a c ≡ None → passing c (a ++ down) (Some (length down)) ≡ None
arrives_beside c a down e = by (strip c a) refl
  where
    by : (o : Option Path) → strip c a ≡ o → passing c (a ++ down) (Some (length down)) ≡ None
    by None f = ap (λ o. passing_by o (Some (length down))) (beside a down c e f)
    by (Some b) f =
        let at : a ≡ c ++ b = strip-sound c a b f in
        let whole : strip c (a ++ down) ≡ Some (b ++ down) = ap (λ (z : Path). strip c (z ++ down)) at ∙ ap (strip c) (append_assoc c b down) ∙ strip_own c (b ++ down) in
        ap (λ o. passing_by o (Some (length down))) whole ∙ ap (λ o. beyond o (b ++ down)) (rise_back b down)

-- what is reached from c itself comes from within
pub arrives_within : (c a down : Path) → strip a c ≡ Some [] → passing c (a ++ down) (Some (length down)) ≡ None
arrives_within c a down e =
    let at : c ≡ a = strip-sound a c [] e ∙ append-nil a in
    let whole : strip c (a ++ down) ≡ Some down = ap (λ (z : Path). strip z (a ++ down)) at ∙ strip_own a down in
    ap (λ o. passing_by o (Some (length down))) whole ∙ ap (λ o. beyond o down) (rise_back [] down)

-- what is reached from above c is in c where the way goes down through it
pub arrives : (c a down rest : Path) (x : List ℕ) → strip a c ≡ Some (x ∷ rest) → passing c (a ++ down) (Some (length down)) ≡ strip (x ∷ rest) down
arrives c a down rest x e = ap (λ o. passing_by o (Some (length down))) (ap (λ (z : Path). strip z (a ++ down)) (strip-sound a c (x ∷ rest) e) ∙ strip-append a (x ∷ rest) down) ∙ by (strip (x ∷ rest) down) refl
  where
    by : (o : Option Path) → strip (x ∷ rest) down ≡ o → passing_by o (Some (length down)) ≡ o
    by None f = refl
    by (Some q) f = ap (λ o. beyond o q) (rise_past (length down) q (down_into (x ∷ rest) [] down q refl f))

-- ## Ways up

-- the place so many steps up, as the front of the path
pub rise_front : (n : ℕ) (p : Path) → n ≤ length p → rise n p ≡ Some (take (length p - n) p)
rise_front zero [] le = refl
rise_front (suc n) [] le = absurd (omega arith)
rise_front n (x ∷ p) le = by (rise_front n p) (nat_le n (length p)) refl
  where
    by : (n ≤ length p → rise n p ≡ Some (take (length p - n) p)) → (b : Bool) → nat_le n (length p) ≡ b → rejoined x (rise n p) (nat_eq n (suc (length p))) ≡ Some (take (suc (length p) - n) (x ∷ p))
    by f true e =
        let l : n ≤ length p = grind (arith, nat_tests) in
        let m : suc (length p) - n ≡ suc (length p - n) = omega arith in
        ap (λ o. rejoined x o (nat_eq n (suc (length p)))) (f l) ∙ ap (λ (k : ℕ). Some (take k (x ∷ p))) (sym m)
    by f false e =
        let l : length p < n = grind (arith, nat_tests) in
        let same : nat_eq n (suc (length p)) ≡ true = grind (arith, nat_tests) in
        let m : suc (length p) - n ≡ 0 = omega arith in
        ap (λ o. rejoined x o (nat_eq n (suc (length p)))) (rise_past n p l) ∙ ap (λ b. rejoined x None b) same ∙ ap (λ (k : ℕ). Some (take k (x ∷ p))) (sym m)

nothing_left : (xs : Path) → length xs ≡ 0 → xs ≡ []
nothing_left [] e = refl
nothing_left (x ∷ xs) e = absurd (omega (arith, e))

-- the same where what is left of the way to c is told by its length
pub arrives_at_c : (c a down rest : Path) → strip a c ≡ Some rest → length rest ≡ 0 → passing c (a ++ down) (Some (length down)) ≡ None
arrives_at_c c a down rest e l = arrives_within c a down (e ∙ ap Some (nothing_left rest l))

pub arrives_below : (c a down rest : Path) → strip a c ≡ Some rest → 0 < length rest → passing c (a ++ down) (Some (length down)) ≡ strip rest down
arrives_below c a down [] e l = absurd (omega (arith, l))
arrives_below c a down (x ∷ rest) e l = arrives c a down rest x e

-- a way to the outside of the tree passes every top
pub passing_out : (c p : Path) → passing c p None ≡ strip c p
passing_out c p = by (strip c p)
  where
    by : (o : Option Path) → passing_by o None ≡ o
    by None = refl
    by (Some q) = refl
