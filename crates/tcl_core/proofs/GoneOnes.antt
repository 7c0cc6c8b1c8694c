-- Who is gone is who was dropped.
use Rattle.std.proofs.Common.{sym, ◌≡◌, ℕ, zero, suc, ◌+◌, ◌<◌, ◌≤◌, ◌&&◌, Bool, true, false, List, [], ◌∷◌, ◌++◌, Option, Some, None, length, nat_eq, nat_le, nat_lt, refl, ◌∙◌, ap, subst, arith, length-append}
use Rattle.std.proofs.lemmas.Bool.Decides.{nat_tests}
use Rattle.tcl_core.specs.Paths.{Place, strip}
use Rattle.tcl_core.specs.Trees.{Event, Node, Tree, What, depth_of}
use Rattle.tcl_core.specs.Trees.What.{Dropped}
use Rattle.tcl_core.specs.Runs.{World, Runs, gone, gone_by, grown, idle_up, levels, onward}
use Rattle.tcl_core.specs.Laws.{Beneath, GoneIsDropped, IsSteady, IsUpright, depth_left, fall_at, fallen, farther, higher, highest, is_spared, none_there, spares}
use Rattle.tcl_core.proofs.PathLaws.{down_into, strip-length, strip-sound, strip_own}
use Rattle.tcl_core.proofs.Depths.{steady}

not_true : {A : Type 0} → false ≡ true → A
not_true e = absurd (bad e)
  where
    bad : false ≡ true → Prim.⊥
    bad f = cc

-- whether one so many levels up is above the highest that is dropped
abbrev above : ℕ → Option ℕ → Bool
above l None = true
above l (Some n) = nat_lt n l

above_higher : (l : ℕ) (a b : Option ℕ) → above l (higher a b) ≡ (above l a && above l b)
above_higher l None b = refl
above_higher l (Some n) None = by (nat_lt n l)
  where
    by : (t : Bool) → t ≡ (t && true)
    by true = refl
    by false = refl
above_higher l (Some n) (Some m) = by (nat_le n m) refl (nat_lt n l) refl (nat_lt m l) refl
  where
    by : (t : Bool) → nat_le n m ≡ t → (x : Bool) → nat_lt n l ≡ x → (y : Bool) → nat_lt m l ≡ y → nat_lt (farther t n m) l ≡ (x && y)
    by true e true f y g = g
    by true e false f true g = grind (arith, nat_tests)
    by true e false f false g = g
    by false e true f true g = f
    by false e true f false g = grind (arith, nat_tests)
    by false e false f y g = f

-- one level up or more
longer : (p : Place) (z y : Place) → nat_lt (length (y ++ z)) (length z) ≡ false
longer p z y = let e : length (y ++ z) ≡ length y + length z = length-append y z in grind (arith, nat_tests)

strip_more : (d p z y : Place) → strip d p ≡ Some y → strip d (p ++ z) ≡ Some (y ++ z)
strip_more d p z y e = ap (λ l. strip d (l ++ z)) (strip-sound d p y e) ∙ ap (strip d) (Rattle.std.proofs.Common.append_assoc d y z) ∙ strip_own d (y ++ z)

dropped_above : (d p z : Place) (a : Option Place) → strip d p ≡ a → (b : Option Place) → strip d (p ++ z) ≡ b → none_there a ≡ above (length z) (fallen b)
dropped_above d p z (Some y) e b f = sym (ap (λ o. above (length z) (fallen o)) (sym f ∙ strip_more d p z y e) ∙ longer p z y)
dropped_above d p z None e None f = refl
dropped_above d p z None e (Some y) f = let lt : length y < length z = down_into d p z y e f in grind (arith, nat_tests)

abbrev AtMost : ℕ → Option ℕ → Type 0
AtMost l None = Unit {0}
AtMost l (Some n) = n ≤ l

higher_most : (l : ℕ) (a b : Option ℕ) → AtMost l a → AtMost l b → AtMost l (higher a b)
higher_most l None b f g = g
higher_most l (Some n) None f g = f
higher_most l (Some n) (Some m) f g = by (nat_le n m)
  where
    by : (t : Bool) → farther t n m ≤ l
    by true = g
    by false = f

module _ {O : Type 0} where
  spares_above_it : (p z d : Place) (x : What O) → spares p d x ≡ above (length z) (fall_at (p ++ z) d x)
  spares_above_it p z d Dropped = dropped_above d p z (strip d p) refl (strip d (p ++ z)) refl
  spares_above_it p z d x = refl

  -- of those above q just those are spared that are above the highest that is dropped
  pub spared_above_it : (p z : Place) (τ : List (Event O)) → is_spared p τ ≡ above (length z) (highest (p ++ z) τ)
  spared_above_it p z [] = refl
  spared_above_it p z (ev ∷ τ) =
      ap (λ b. b && is_spared p τ) (spares_above_it p z ev.place ev.what) ∙ ap (λ b. above (length z) (fall_at (p ++ z) ev.place ev.what) && b) (spared_above_it p z τ)
      ∙ sym (above_higher (length z) (fall_at (p ++ z) ev.place ev.what) (highest (p ++ z) τ))

  fall_most : (q d : Place) (x : What O) → AtMost (length q) (fall_at q d x)
  fall_most q d Dropped = by (strip d q) refl
    where
      by : (o : Option Place) → strip d q ≡ o → AtMost (length q) (fallen o)
      by None e = tt
      by (Some z) e = strip-length d q z e
  fall_most q d x = tt

  highest_most : (q : Place) (τ : List (Event O)) → AtMost (length q) (highest q τ)
  highest_most q [] = tt
  highest_most q (ev ∷ τ) = higher_most (length q) (fall_at q ev.place ev.what) (highest q τ) (fall_most q ev.place ev.what) (highest_most q τ)

  -- nothing is in progress up to there, and something above it
  idle_there : (q : Place) (T : Tree O) (n : ℕ) → n ≤ length q → ((p z : Place) → q ≡ p ++ z → length z ≤ n → depth_of (T p) ≡ 0) → ((p z : Place) → q ≡ p ++ z → n < length z → 1 ≤ depth_of (T p)) → idle_up T q ≡ Some n
  idle_there [] T n le f g =
      let d : depth_of (T []) ≡ 0 = f [] [] refl (omega arith) in
      let e : nat_eq (depth_of (T [])) 0 ≡ true = grind (arith, nat_tests) in
      let m : n ≡ 0 = omega arith in
      ap Rattle.tcl_core.specs.Runs.idle_at e ∙ ap Some (sym m)
  idle_there (x ∷ q) T n le f g = by (nat_le n (length q)) refl
      (λ l. idle_there q (λ p. T (x ∷ p)) n l (λ p z e h. f (x ∷ p) z (ap (λ r. x ∷ r) e) h) (λ p z e h. g (x ∷ p) z (ap (λ r. x ∷ r) e) h))
      (λ h. idle_there q (λ p. T (x ∷ p)) (length q) (omega arith) (λ p z e l. f (x ∷ p) z (ap (λ r. x ∷ r) e) (omega arith)) (λ p z e l. (let k : length q ≡ length p + length z = ap length e ∙ length-append p z in absurd (let y : Prim.⊥ = omega arith in y))))
    where
      by : (b : Bool) → nat_le n (length q) ≡ b → (n ≤ length q → idle_up (λ p. T (x ∷ p)) q ≡ Some n) → (n ≡ suc (length q) → idle_up (λ p. T (x ∷ p)) q ≡ Some (length q)) → onward (idle_up (λ p. T (x ∷ p)) q) (length q) (nat_eq (depth_of (T [])) 0) ≡ Some n
      by true e on past =
          let l : n ≤ length q = grind (arith, nat_tests) in
          let d : 1 ≤ depth_of (T []) = g [] (x ∷ q) refl (omega arith) in
          let k : nat_eq (depth_of (T [])) 0 ≡ false = grind (arith, nat_tests) in
          ap (λ o. onward o (length q) (nat_eq (depth_of (T [])) 0)) (on l) ∙ ap (onward (Some n) (length q)) k
      by false e on past =
          let m : n ≡ suc (length q) = grind (arith, nat_tests) in
          let d : depth_of (T []) ≡ 0 = f [] (x ∷ q) refl (omega arith) in
          let k : nat_eq (depth_of (T [])) 0 ≡ true = grind (arith, nat_tests) in
          let j : nat_le (length q) (length q) ≡ true = grind (arith, nat_tests) in
          ap (λ o. onward o (length q) (nat_eq (depth_of (T [])) 0)) (past m) ∙ ap (onward (Some (length q)) (length q)) k ∙ ap (λ b. Some (grown b (length q))) j ∙ ap Some (sym m)

  beneath_depth : (a b : Option (Node O)) → Beneath a b → depth_of b ≤ depth_of a
  beneath_depth a None f = omega arith
  beneath_depth None (Some n) f = absurd f
  beneath_depth (Some m) (Some n) f = f

  -- what the depths that are left tell
  told : (T V : Tree O) (τ : List (Event O)) (q : Place) → IsUpright T → ((r : Place) → depth_of (V r) ≡ depth_left (is_spared r τ) (depth_of (T r))) → 1 ≤ depth_of (T q) → (o : Option ℕ) → highest q τ ≡ o → gone (depth_of (T q)) V q ≡ o
  told T V τ q up left le None e =
      let s : is_spared q τ ≡ true = spared_above_it q [] τ ∙ ap (λ r. above 0 (highest r τ)) (Rattle.std.proofs.Common.append-nil q) ∙ ap (above 0) e in
      let d : depth_of (V q) ≡ depth_of (T q) = left q ∙ ap (λ b. depth_left b (depth_of (T q))) s in
      let t : nat_lt (depth_of (V q)) (depth_of (T q)) ≡ false = grind (arith, nat_tests) in
      ap (λ b. gone_by b (levels (idle_up V q))) t
  told T V τ q up left le (Some n) e =
      let most : n ≤ length q = subst (AtMost (length q)) e (highest_most q τ) in
      let idle : idle_up V q ≡ Some n = idle_there q V n most low high in
      let d : depth_of (V q) ≡ 0 = low q [] (sym (Rattle.std.proofs.Common.append-nil q)) (omega arith) in
      let t : nat_lt (depth_of (V q)) (depth_of (T q)) ≡ true = grind (arith, nat_tests) in
      ap (λ b. gone_by b (levels (idle_up V q))) t ∙ ap (λ i. Some (levels i)) idle
    where
      spared : (p z : Place) → q ≡ p ++ z → is_spared p τ ≡ nat_lt n (length z)
      spared p z f = spared_above_it p z τ ∙ ap (λ r. above (length z) (highest r τ)) (sym f) ∙ ap (above (length z)) e

      low : (p z : Place) → q ≡ p ++ z → length z ≤ n → depth_of (V p) ≡ 0
      low p z f l = let k : nat_lt n (length z) ≡ false = grind (arith, nat_tests) in left p ∙ ap (λ b. depth_left b (depth_of (T p))) (spared p z f ∙ k)

      high : (p z : Place) → q ≡ p ++ z → n < length z → 1 ≤ depth_of (V p)
      high p z f l =
          let k : nat_lt n (length z) ≡ true = grind (arith, nat_tests) in
          let j : depth_of (V p) ≡ depth_of (T p) = left p ∙ ap (λ b. depth_left b (depth_of (T p))) (spared p z f ∙ k) in
          let b : depth_of (T q) ≤ depth_of (T p) = beneath_depth (T p) (T q) (up p q z (ap (strip p) f ∙ strip_own p z)) in
          omega arith

module _ {O I : Type 0} where
  pub gone_is_dropped : GoneIsDropped O I
  gone_is_dropped prog w v p x r a up top =
      let s : IsSteady w v (Some r) = steady prog w v p x (Some r) a up top in
      (s.made, s.happened, λ q le. told w.tree v.tree s.made q up (s.depths r refl) le (highest q s.made) refl)
