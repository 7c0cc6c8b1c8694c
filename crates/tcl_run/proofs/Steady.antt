-- What stays as it is while an evaluation goes on.
use Rattle.std.proofs.Common.{◌≡◌, ℕ, zero, suc, pred, ◌<◌, ◌≤◌, Bool, true, false, [], ◌∷◌, ◌++◌, Option, Some, None, refl, sym, ap, subst, ◌∙◌, inl, inr, rules, arith, append_assoc, append-nil}
use Rattle.std.specs.Prelude.{is_some, nat_le, ◌⊎◌}
use Rattle.std.proofs.lemmas.Option.{same_Some}
use Rattle.std.specs.Option.{option_map}
use Rattle.std.proofs.lemmas.Bool.Decides.{nat_tests}
use Rattle.tcl_core.specs.Paths.{Path, strip}
use Rattle.tcl_core.specs.Trees.{Tree, Node, depth_of, effect, at_end, where_some, with_own, counted, deeper, shallower, with_limit}
use Rattle.tcl_core.specs.Trees.What.{Changed, Charged, Nested, Unnested, Limited}
use Rattle.tcl_core.proofs.PathLaws.{strip_own, strip-sound, not_both}
use Rattle.tcl_core.specs.Lives.{count_at, limit_at}
use Rattle.tcl_core.specs.Programs.{blocked, is_deep, is_spent, limit_or, nearer, full_at}
use Rattle.tcl_tree.specs.Own.{Own}
use Rattle.slab.specs.Slab.{get}
use Rattle.std.specs.Option.{option_and_then}
use Rattle.tcl_tree.specs.Nodes.{follow}
use Rattle.tcl_tree.specs.TreeOf.{tree_of, key_of, marks_of, Names}
use Rattle.tcl_tree.specs.Gone.{Holds, held_of}
use Rattle.tcl_tree.specs.Held as holdings
use Rattle.tcl_tree.specs.Held.{Deepens, IsInnermost, Shallows, Stays, StoodAt}
use Rattle.tcl_tree.proofs.PathLemmas.{snoc_ind}
use Rattle.tcl_tree.proofs.CoreLemmas.{tree_gone, tree_there}
use Rattle.tcl_tree.proofs.HeapLemmas.{last_step, one_path}
use Rattle.tcl_tree.proofs.HeldLemmas.{depth_tree, link-above, same_above}
use Rattle.tcl_tree.proofs.StayLemmas.{began_holds, began_innermost, over_or_not, over_there, stays_around, stays_held, stays_same, stays_then, stood_before}
use Rattle.tcl_tree.proofs.StepLemmas.{follow_append}
use Rattle.tcl_tree.proofs.WayLemmas.{follow_stood, gone_some}
use Rattle.tcl_core.specs.Runs.{gone}
use Rattle.tcl_tree.specs.declared.tree.Tree.{Tree as Table}
use Rattle.tcl_tree.specs.declared.tree.Place.{Place as TablePlace}
use Rattle.tcl_run.specs.Runs.{meters_of, meters_at, depth_in, depth_at, steps_at, is_root, InUse, IsCounted, IsHeld, IsHere, IsSteady, IsLevel, IsAt, IsRunning, IsThere, room}
use Rattle.tcl_text.specs.declared.integer.Integers.{Integers}
use Rattle.tcl_frames.specs.Chain.{Chain}
use Rattle.tcl_language.specs.Instructions.{with_chain}
use Rattle.tcl_tree.specs.LendingTree.{HasFrames}

pub meters_changed : (T U : Tree Own) (p q : Path) (own : Own) → U ≡ effect p (Changed own) T → meters_at U q ≡ meters_at T q
meters_changed T U p q own e = ap (λ (V : Tree Own). meters_at V q) e ∙ by (strip p q) (T q)
  where
    by : (s : Option Path) (o : Option (Node Own)) → option_map meters_of (at_end s (with_own own) o) ≡ option_map meters_of o
    by None o = refl
    by (Some []) None = refl
    by (Some []) (Some n) = refl
    by (Some (x ∷ xs)) o = refl

pub meters_charged : (T U : Tree Own) (p q : Path) → U ≡ effect p Charged T → meters_at U q ≡ meters_at T q
meters_charged T U p q e = ap (λ (V : Tree Own). meters_at V q) e ∙ by (strip q p) (T q)
  where
    by : (s : Option Path) (o : Option (Node Own)) → option_map meters_of (where_some s counted o) ≡ option_map meters_of o
    by None o = refl
    by (Some a) None = refl
    by (Some a) (Some n) = refl

-- what is in used is so one level deeper
pub deeper_in_use : (T U : Tree Own) (p q : Path) → U ≡ effect p Nested T → InUse T q → InUse U q
deeper_in_use T U p q e used = λ a b is. subst (λ (V : Tree Own). 0 < depth_at V a) (sym e) (by (strip a p) (T a) (used a b is))
  where
    by : (s : Option Path) (o : Option (Node Own)) → 0 < depth_in (option_map meters_of o) → 0 < depth_in (option_map meters_of (where_some s deeper o))
    by None o h = h
    by (Some a) None h = h
    by (Some a) (Some n) h = omega arith

-- and after it it is as deep as before
pub back_again : (T U V W : Tree Own) (p q : Path) → U ≡ effect p Nested T → W ≡ effect p Unnested V → depth_at V q ≡ depth_at U q → depth_at W q ≡ depth_at T q
back_again T U V W p q e f same =
    ap (λ (X : Tree Own). depth_at X q) f ∙ by (strip q p) (T q) (V q) (same ∙ ap (λ (X : Tree Own). depth_at X q) e)
  where
    by : (s : Option Path) (o v : Option (Node Own)) → depth_in (option_map meters_of v) ≡ depth_in (option_map meters_of (where_some s deeper o)) →
        depth_in (option_map meters_of (where_some s shallower v)) ≡ depth_in (option_map meters_of o)
    by None o v h = h
    by (Some a) None None h = refl
    by (Some a) None (Some m) h = ap pred h
    by (Some a) (Some n) None h = ap pred h
    by (Some a) (Some n) (Some m) h = ap pred h

-- where an evaluation is begun it is in use
pub begun : (T U : Tree Own) (p : Path) → U ≡ effect p Nested T → ((a b : Path) → a ++ b ≡ p → is_some (T a) ≡ true) → InUse U p
begun T U p e there = λ a b is. subst (λ (V : Tree Own). 0 < depth_at V a) (sym e) (by b (strip a p) (T a) (ap (strip a) (sym is) ∙ strip_own a b) (there a b is))
  where
    by : (b : Path) (s : Option Path) (o : Option (Node Own)) → s ≡ Some b → is_some o ≡ true → 0 < depth_in (option_map meters_of (where_some s deeper o))
    by b None o g h = elim (not_both refl g) [ ]
    by b (Some c) None g h = let x : false ≡ true = h in cc
    by b (Some c) (Some m) g h = omega arith

-- the top is deeper
pub top_deeper : (T U : Tree Own) (p : Path) (n : Node Own) → U ≡ effect p Nested T → T [] ≡ Some n → depth_at U [] ≡ suc (depth_at T [])
top_deeper T U p n e there = ap (λ (X : Tree Own). depth_at X []) e ∙ by (T []) there
  where
    by : (o : Option (Node Own)) → o ≡ Some n → depth_in (option_map meters_of (deeper o)) ≡ suc (depth_in (option_map meters_of o))
    by None h = let x : None ≡ Some n = h in cc
    by (Some m) h = refl

top_free : (full : Node Own → Bool) (T : Tree Own) (p : Path) → blocked full T p ≡ None → full_at full (T []) ≡ false
top_free full T [] e = by None (full_at full (T [])) 0 e
  where
    by : (o : Option ℕ) (b : Bool) (m : ℕ) → nearer o b m ≡ None → b ≡ false
    by (Some n) b m e = let x : Some n ≡ None = e in cc
    by None true m e = let x : Some m ≡ None = e in cc
    by None false m e = refl
top_free full T (x ∷ xs) e = by (blocked full (λ p. T (x ∷ p)) xs) (full_at full (T [])) (suc (Rattle.std.specs.Prelude.length xs)) e
  where
    by : (o : Option ℕ) (b : Bool) (m : ℕ) → nearer o b m ≡ None → b ≡ false
    by (Some n) b m e = let x : Some n ≡ None = e in cc
    by None true m e = let x : Some m ≡ None = e in cc
    by None false m e = refl

-- one level down there is less room
pub less_room : (T U : Tree Own) (p : Path) (n : Node Own) → T [] ≡ Some n → n.depth_limit ≤ 1000 → blocked is_deep T p ≡ None → U ≡ effect p Nested T → room U < room T
less_room T U p n there bound free e =
    let d = top_deeper T U p n e there in
    let m = by (T []) there (top_free is_deep T p free) in
    omega arith
  where
    by : (o : Option (Node Own)) → o ≡ Some n → full_at is_deep o ≡ false → depth_in (option_map meters_of o) < 1000
    by None t f = let x : None ≡ Some n = t in cc
    by (Some m) t f = let same : m ≡ n = cc in let free : Rattle.std.specs.Prelude.nat_le m.depth_limit m.depth ≡ false = f in let c : m.depth_limit ≤ 1000 = subst (λ (x : Node Own). x.depth_limit ≤ 1000) (sym same) bound in grind (arith, nat_tests)

-- ## Counts

-- what is said of counts and of the limits on them
abbrev pub steps_of : Option (Node Own) → ℕ × (Bool × Option ℕ)
steps_of o = (count_at o, (is_root o, limit_at o))

pub counted-refl : (o : Option (Node Own)) → IsCounted o o
counted-refl o = record { rises = search rules; root = refl; limit = λ r. refl; within = λ r b l c. c }

pub same_counted : (o n : Option (Node Own)) → steps_of n ≡ steps_of o → IsCounted o n
same_counted o n e = record {
  rises = let same : count_at n ≡ count_at o = ap (λ x. x.0) e in omega arith;
  root = ap (λ x. x.1.0) e;
  limit = λ r. ap (λ x. x.1.1) e;
  within = λ r b l c. let same : count_at n ≡ count_at o = ap (λ x. x.0) e in omega arith;
}

pub counted-trans : (o m n : Option (Node Own)) → IsCounted o m → IsCounted m n → IsCounted o n
counted-trans o m n g h = record {
  rises = let a = g.rises in let b = h.rises in omega arith;
  root = h.root ∙ g.root;
  limit = λ r. h.limit (g.root ∙ r) ∙ g.limit r;
  within = λ r b l c. h.within (g.root ∙ r) b (subst (λ (x : Option ℕ). limit_or x ≤ b) (sym (g.limit r)) l) (g.within r b l c);
}

-- what leaves counts and their limits as they were
pub steps_changed : (T : Tree Own) (p q : Path) (own : Own) → steps_of (effect p (Changed own) T q) ≡ steps_of (T q)
steps_changed T p q own = by (strip p q) (T q)
  where
    by : (s : Option Path) (o : Option (Node Own)) → steps_of (at_end s (with_own own) o) ≡ steps_of o
    by None o = refl
    by (Some []) None = refl
    by (Some []) (Some n) = refl
    by (Some (x ∷ xs)) o = refl

steps_nested : (T : Tree Own) (p q : Path) → steps_of (effect p Nested T q) ≡ steps_of (T q)
steps_nested T p q = by (strip q p) (T q)
  where
    by : (s : Option Path) (o : Option (Node Own)) → steps_of (where_some s deeper o) ≡ steps_of o
    by None o = refl
    by (Some a) None = refl
    by (Some a) (Some n) = refl

steps_unnested : (T : Tree Own) (p q : Path) → steps_of (effect p Unnested T q) ≡ steps_of (T q)
steps_unnested T p q = by (strip q p) (T q)
  where
    by : (s : Option Path) (o : Option (Node Own)) → steps_of (where_some s shallower o) ≡ steps_of o
    by None o = refl
    by (Some a) None = refl
    by (Some a) (Some n) = refl

-- a step is counted, or isn't
pub steps_rise : (T U : Tree Own) (p q : Path) → U ≡ effect p Charged T → steps_at T q ≤ steps_at U q
steps_rise T U p q e = subst (λ (V : Tree Own). steps_at T q ≤ steps_at V q) (sym e) (by (strip q p) (T q))
  where
    by : (s : Option Path) (o : Option (Node Own)) → count_at o ≤ count_at (where_some s counted o)
    by None o = search rules
    by (Some a) None = search rules
    by (Some a) (Some n) = omega arith

-- and where no limit refuses it, the top isn't spent before
charged_top : (o : Option (Node Own)) → full_at is_spent o ≡ false → IsCounted o (counted o)
charged_top None f = counted-refl None
charged_top (Some n) f = record {
  rises = omega arith;
  root = refl;
  limit = λ r. refl;
  within = λ r b l c. let free : nat_le (limit_or n.limit) n.count ≡ false = f in let m : limit_or n.limit ≤ b = l in let k : suc n.count ≤ b = grind (arith, nat_tests) in k;
}

pub counted_step : (T U : Tree Own) (p : Path) → blocked is_spent T p ≡ None → U ≡ effect p Charged T → IsCounted (T []) (U [])
counted_step T U p free e = subst (λ (V : Tree Own). IsCounted (T []) (V [])) (sym e) (charged_top (T []) (top_free is_spent T p free))

-- ## Tables

-- where an interpreter stands all above it stand
pub line_there : (t : Table) (p : Path) (k : ℕ) → key_of t p ≡ Some k → (a b : Path) → a ++ b ≡ p → is_some (tree_of t a) ≡ true
line_there t p k at a b is = by (key_of t a) refl (sym (follow_append (get t.nodes) a b t.root) ∙ ap (key_of t) is ∙ at)
  where
    by : (o : Option ℕ) → key_of t a ≡ o → option_and_then (λ c. follow (get t.nodes) c b) o ≡ Some k → is_some (tree_of t a) ≡ true
    by None e h = let x : None ≡ Some k = h in cc
    by (Some j) e h = tree_there t a j e

-- an evaluation that has begun is in progress
pub begun_at : (s t : Table) (place : TablePlace) (p : Path) → Names s place p → tree_of t ≡ effect p Nested (tree_of s) → InUse (tree_of t) p
begun_at s t place p at e = begun (tree_of s) (tree_of t) p e (line_there s p place.key at)

-- ## Who is in use, by its path and by its key

pub depth_is : (T : Tree Own) (q : Path) → depth_at T q ≡ depth_of (T q)
depth_is T q = by (T q)
  where
    by : (o : Option (Node Own)) → depth_in (option_map meters_of o) ≡ depth_of o
    by None = refl
    by (Some n) = refl

pub depth_key : (t : Table) (q : Path) (k : ℕ) → key_of t q ≡ Some k → depth_at (tree_of t) q ≡ holdings.depth_at (held_of t k)
depth_key t q k at = depth_is (tree_of t) q ∙ depth_tree (get t.nodes) t.root t.sound t.ordered q k at

pub used_key : (t : Table) (q : Path) (k : ℕ) → key_of t q ≡ Some k → InUse (tree_of t) q → 1 ≤ holdings.depth_at (held_of t k)
used_key t q k at used = let d = depth_key t q k at in let u = used q [] (append-nil q) in omega arith

-- who stands above one has a key
pub line_key : (t : Table) (p : Path) (k : ℕ) → key_of t p ≡ Some k → (a b : Path) → a ++ b ≡ p → (j : ℕ) × (key_of t a ≡ Some j)
line_key t p k at a b is = by (key_of t a) refl (sym (follow_append (get t.nodes) a b t.root) ∙ ap (key_of t) is ∙ at)
  where
    by : (o : Option ℕ) → key_of t a ≡ o → option_and_then (λ c. follow (get t.nodes) c b) o ≡ Some k → (j : ℕ) × (key_of t a ≡ Some j)
    by None e h = let x : None ≡ Some k = h in absurd cc
    by (Some j) e h = (j, e)

-- a place names one path
pub same_path : (t : Table) (place : TablePlace) (p q : Path) → Names t place p → Names t place q → p ≡ q
same_path t place p q at there = one_path (get t.nodes) t.root t.sound p q place.key at there

-- ## However evaluations end

pub steady-refl : (t : Table) → IsSteady t t
steady-refl t = record { marks = refl; stays = stays_same (held_of t) (held_of t) (λ k. refl); counts = λ q k used at there. search rules; top = refl; counted = counted-refl (tree_of t []) }

pub level_steady : (s t : Table) → IsLevel s t → IsSteady s t
level_steady s t l = record {
  marks = l.marks;
  stays = stays_same (held_of s) (held_of t) l.held;
  counts = λ q k used at there. l.counts q;
  top = ap depth_in (l.meters []);
  counted = l.counted;
}

-- above what is in use all is
pub in_use_above : (T : Tree Own) (a b q : Path) → a ++ b ≡ q → InUse T q → InUse T a
in_use_above T a b q is used = λ c d same. used c (d ++ b) (sym (append_assoc c d b) ∙ ap (λ (x : Path). x ++ b) same ∙ is)

-- who was in use and stands later stood in between, under its key
stood_between : (s t u : Table) → IsSteady s t → IsSteady t u → (q : Path) (k : ℕ) → InUse (tree_of s) q → key_of s q ≡ Some k → key_of u q ≡ Some k → key_of t q ≡ Some k
stood_between s t u g h q k used at there =
    let d = used_key s q k at used in
    let x = g.stays.depth k in
    let y = h.stays.depth k in
    stood_before t u h.stays q k there (omega arith)

-- the depths of those above one that stands, under its key, are those of their keys
still_deep : (s t : Table) → IsSteady s t → (q : Path) (k : ℕ) → key_of s q ≡ Some k → key_of t q ≡ Some k → depth_at (tree_of t) q ≡ depth_at (tree_of s) q
still_deep s t h q k at there = depth_key t q k there ∙ h.stays.depth k ∙ sym (depth_key s q k at)

-- where one that was in use stands, all above it stand, under their keys
line_kept : (s t : Table) → IsSteady s t → (b a p : Path) (key k : ℕ) → p ≡ a ++ b → key_of s p ≡ Some key → key_of t p ≡ Some key → 1 ≤ holdings.depth_at (held_of s key) → key_of s a ≡ Some k → key_of t a ≡ Some k
line_kept s t h = snoc_ind (λ b. (a p : Path) (key k : ℕ) → p ≡ a ++ b → key_of s p ≡ Some key → key_of t p ≡ Some key → 1 ≤ holdings.depth_at (held_of s key) → key_of s a ≡ Some k → key_of t a ≡ Some k)
    (λ a p key k is at there deep here.
    let top : p ≡ a = is ∙ append-nil a in
    let same : key ≡ k = same_Some _ _ (sym at ∙ ap (key_of s) top ∙ here) in
    ap (key_of t) (sym top) ∙ there ∙ ap Some same)
    (λ b m ih a p key k is at there deep here.
    let whole : p ≡ (a ++ b) ++ m ∷ [] = is ∙ sym (append_assoc a b (m ∷ [])) in
    let ls = last_step (get s.nodes) s.root (a ++ b) m key (ap (key_of s) (sym whole) ∙ at) in
    let lt = last_step (get t.nodes) t.root (a ++ b) m key (ap (key_of t) (sym whole) ∙ there) in
    let us = link-above (get s.nodes) key ls.parent m (s.sound.down ls.parent m key ls.child) in
    let ut = link-above (get t.nodes) key lt.parent m (t.sound.down lt.parent m key lt.child) in
    let same = same_above lt.parent ls.parent m m (sym ut ∙ h.stays.above key deep ∙ us) in
    let d = s.ordered.depths key ls.parent m us in
    ih a (a ++ b) ls.parent k refl ls.front (lt.front ∙ ap Some same.0) (omega arith) here)

pub steady-trans : (s t u : Table) → IsSteady s t → IsSteady t u → IsSteady s u
steady-trans s t u g h = record {
  marks = h.marks ∙ g.marks;
  stays = stays_then (held_of s) (held_of t) (held_of u) g.stays h.stays;
  counts = λ q k used at there.
      let between = stood_between s t u g h q k used at there in
      let a = g.counts q k used at between in
      let b = h.counts q k (used_on q k used at between) between there in
      omega arith;
  top = h.top ∙ g.top;
  counted = counted-trans (tree_of s []) (tree_of t []) (tree_of u []) g.counted h.counted;
}
  where
    used_on : (q : Path) (k : ℕ) → InUse (tree_of s) q → key_of s q ≡ Some k → key_of t q ≡ Some k → InUse (tree_of t) q
    used_on q k used at between a b is =
        let j = line_key s q k at a b is in
        let there = line_kept s t g b a q k j.0 (sym is) at between (used_key s q k at used) j.1 in
        let d = still_deep s t g a j.0 j.1 there in
        let u = used a b is in
        omega arith

-- by its path each is as deep as it was, or nothing is in progress there
pub steady_depths : (s t : Table) → IsSteady s t → (q : Path) → (depth_at (tree_of t) q ≡ depth_at (tree_of s) q) ⊎ (depth_at (tree_of t) q ≡ 0)
steady_depths s t h q = by (key_of t q) refl
  where
    deep : (k d : ℕ) → key_of t q ≡ Some k → holdings.depth_at (held_of t k) ≡ d → (depth_at (tree_of t) q ≡ depth_at (tree_of s) q) ⊎ (depth_at (tree_of t) q ≡ 0)
    deep k zero at e = inr (depth_key t q k at ∙ e)
    deep k (suc d) at e = inl (still_deep s t h q k (stood_before s t h.stays q k at (omega arith)) at)

    by : (o : Option ℕ) → key_of t q ≡ o → (depth_at (tree_of t) q ≡ depth_at (tree_of s) q) ⊎ (depth_at (tree_of t) q ≡ 0)
    by None e = inr (ap (λ (o : Option (Node Own)). depth_in (option_map meters_of o)) (tree_gone t q e))
    by (Some k) e = deep k (holdings.depth_at (held_of t k)) e refl

-- an evaluation that was in progress is so still, there or in one that is gone
pub steady_holds : (s t : Table) (place : TablePlace) (p : Path) → IsSteady s t → Names s place p → InUse (tree_of s) p → Holds t place p (depth_of (tree_of s p))
steady_holds s t place p h at used =
    let d = sym (depth_is (tree_of s) p) ∙ depth_key s p place.key at in
    let u = used_key s p place.key at used in
    stays_held s t h.stays place p at u (depth_of (tree_of s p)) (omega arith) (omega arith)

pub running_holds : (s : Table) (place : TablePlace) (p : Path) → Names s place p → InUse (tree_of s) p → Holds s place p (depth_of (tree_of s p))
running_holds s place p at used = steady_holds s s place p (steady-refl s) at used

-- an evaluation that isn't gone is in progress where its interpreter stood
pub holds_named : (t : Table) (place : TablePlace) (p : Path) (d : ℕ) → Holds t place p d → gone d (tree_of t) p ≡ None → Names t place p
holds_named t place p d h none = elim h.somewhere [
  | inl named ↦ named
  | inr away ↦ by (sym none) (gone_some t place p d away.0 away.1.highest h)
]
  where
    by : {n : ℕ} → None ≡ gone d (tree_of t) p → Some n ≡ gone d (tree_of t) p → Names t place p
    by {n} e f = let clash : Some n ≡ None = f ∙ sym e in absurd cc

-- who is held stood at the path
pub holds_stood : (t : Table) (place : TablePlace) (p : Path) (d : ℕ) → Holds t place p d → StoodAt (held_of t) place.key p
holds_stood t place p d h = elim h.somewhere [
  | inl named ↦ follow_stood (get t.nodes) t.root t.sound t.ordered p place.key named
  | inr away ↦ away.1.stood
]

-- ## Where they came to a completion

pub here-refl : (t : Table) (place : TablePlace) → IsHere t t place
here-refl t place = record { marks = refl; keys = λ p a b k named is at. at; depths = λ p a b named is. refl; counts = λ p a b named is. search rules }

-- the place is still that of the interpreter
pub still_named : (s t : Table) (place : TablePlace) (p : Path) → IsHere s t place → Names s place p → Names t place p
still_named s t place p h at = h.keys p p [] place.key at (append-nil p) at

pub here-trans : (s t u : Table) (place : TablePlace) → IsHere s t place → IsHere t u place → IsHere s u place
here-trans s t u place g h = record {
  marks = h.marks ∙ g.marks;
  keys = λ p a b k named is at. h.keys p a b k (still_named s t place p g named) is (g.keys p a b k named is at);
  depths = λ p a b named is. h.depths p a b (still_named s t place p g named) is ∙ g.depths p a b named is;
  counts = λ p a b named is. let x = g.counts p a b named is in let y = h.counts p a b (still_named s t place p g named) is in omega arith;
}

pub level_here : (s t : Table) (place : TablePlace) → IsLevel s t → IsHere s t place
level_here s t place l = record {
  marks = l.marks;
  keys = λ p a b k named is at. l.keys a ∙ at;
  depths = λ p a b named is. ap depth_in (l.meters a);
  counts = λ p a b named is. l.counts a;
}

-- where whoever was in use stands still, all above it do
pub here_again : (s t : Table) (place : TablePlace) → IsSteady s t → ((p : Path) → Names s place p → InUse (tree_of s) p × Names t place p) → IsHere s t place
here_again s t place h stands = record {
  marks = h.marks;
  keys = λ p a b k named is at. kept p a b k named is at;
  depths = λ p a b named is. let j = line_key s p place.key named a b is in still_deep s t h a j.0 j.1 (kept p a b j.0 named is j.1);
  counts = λ p a b named is.
      let j = line_key s p place.key named a b is in
      h.counts a j.0 (in_use_above (tree_of s) a b p is (stands p named).0) j.1 (kept p a b j.0 named is j.1);
}
  where
    kept : (p a b : Path) (k : ℕ) → Names s place p → a ++ b ≡ p → key_of s a ≡ Some k → key_of t a ≡ Some k
    kept p a b k named is at =
        let n = stands p named in
        line_kept s t h b a p place.key k (sym is) named n.1 (used_key s p place.key named n.0) at

pub running_again : (s t : Table) (place : TablePlace) → IsSteady s t → IsRunning s place → ((p : Path) → Names s place p → Names t place p) → IsHere s t place
running_again s t place h r stands = here_again s t place h (λ p at. (subst (λ (q : Path). InUse (tree_of s) q) (same_path s place r.0 p r.1 at) r.2, stands p at))

-- where whoever called isn't gone, all above it stand still
pub called_here : (s t : Table) (place : TablePlace) → IsSteady s t → IsRunning s place → ((p : Path) (d : ℕ) → Holds t place p d → Names t place p) → IsHere s t place
called_here s t place h r stands = running_again s t place h r (λ p at. stands p (depth_of (tree_of s p)) (steady_holds s t place p h at (subst (λ (q : Path). InUse (tree_of s) q) (same_path s place r.0 p r.1 at) r.2)))

pub still_in_use : (s t : Table) (place : TablePlace) (q : Path) → IsHere s t place → Names s place q → InUse (tree_of s) q → InUse (tree_of t) q
still_in_use s t place q h named used = λ a b is. subst (λ (n : ℕ). 0 < n) (sym (h.depths q a b named is)) (used a b is)

pub still_at : (s t : Table) (place : TablePlace) (p : Path) (style : Integers) → IsHere s t place → IsAt s place p style → IsAt t place p style
still_at s t place p style h at = record {
  names = still_named s t place p h at.names;
  style_is = ap (λ m. m.integers) h.marks ∙ at.style_is;
  running = still_in_use s t place p h at.names at.running;
}

pub still_running : (s t : Table) (place : TablePlace) → IsHere s t place → IsRunning s place → IsRunning t place
still_running s t place h r = (r.0, still_named s t place r.0 h r.1, still_in_use s t place r.0 h r.1 r.2)

-- ## Changes of own parts, and steps

pub level-refl : (t : Table) → IsLevel t t
level-refl t = record { marks = refl; keys = λ q. refl; held = λ k. refl; meters = λ q. refl; counts = λ q. search rules; counted = counted-refl (tree_of t []) }

pub level-trans : (s t u : Table) → IsLevel s t → IsLevel t u → IsLevel s u
level-trans s t u g h = record {
  marks = h.marks ∙ g.marks;
  keys = λ q. h.keys q ∙ g.keys q;
  held = λ k. h.held k ∙ g.held k;
  meters = λ q. h.meters q ∙ g.meters q;
  counts = λ q. let a = g.counts q in let b = h.counts q in omega arith;
  counted = counted-trans (tree_of s []) (tree_of t []) (tree_of u []) g.counted h.counted;
}

pub same_level : (t u : Table) → marks_of u ≡ marks_of t → ((q : Path) → key_of u q ≡ key_of t q) → ((k : ℕ) → held_of u k ≡ held_of t k) → tree_of u ≡ tree_of t → IsLevel t u
same_level t u marks keys held same = record {
  marks = marks;
  keys = keys;
  held = held;
  meters = λ q. ap (λ (X : Tree Own). meters_at X q) same;
  counts = λ q. let e : steps_at (tree_of u) q ≡ steps_at (tree_of t) q = ap (λ (X : Tree Own). steps_at X q) same in omega arith;
  counted = same_counted (tree_of t []) (tree_of u []) (ap (λ (X : Tree Own). steps_of (X [])) same);
}

pub charged_level : (s t : Table) (p : Path) → marks_of t ≡ marks_of s → ((q : Path) → key_of t q ≡ key_of s q) → ((k : ℕ) → held_of t k ≡ held_of s k) → blocked is_spent (tree_of s) p ≡ None → tree_of t ≡ effect p Charged (tree_of s) → IsLevel s t
charged_level s t p m k held free e = record {
  marks = m;
  keys = k;
  held = held;
  meters = λ q. meters_charged (tree_of s) (tree_of t) p q e;
  counts = λ q. steps_rise (tree_of s) (tree_of t) p q e;
  counted = counted_step (tree_of s) (tree_of t) p free e;
}

pub changed_level : (s t : Table) (p : Path) (own : Own) → marks_of t ≡ marks_of s → ((q : Path) → key_of t q ≡ key_of s q) → ((k : ℕ) → held_of t k ≡ held_of s k) → tree_of t ≡ effect p (Changed own) (tree_of s) → IsLevel s t
changed_level s t p own m k held e = record {
  marks = m;
  keys = k;
  held = held;
  meters = λ q. meters_changed (tree_of s) (tree_of t) p q own e;
  counts = λ q. let a : steps_at (tree_of t) q ≡ steps_at (tree_of s) q = ap (λ x. x.0) (same q) in omega arith;
  counted = same_counted (tree_of s []) (tree_of t []) (same []);
}
  where
    same : (q : Path) → steps_of (tree_of t q) ≡ steps_of (tree_of s q)
    same q = ap (λ (X : Tree Own). steps_of (X q)) e ∙ steps_changed (tree_of s) p q own

-- ## An evaluation one level deeper, and back

-- It begins in the interpreter at p, and others go on until control is there again.
module _ (s t u : Table) (place : TablePlace) (p : Path) (named : Names s place p) (keys₁ : (q : Path) → key_of t q ≡ key_of s q)
    (deep : Deepens (held_of s) place.key (held_of t)) (nested : tree_of t ≡ effect p Nested (tree_of s)) (h : IsSteady t u) where
  pub nested_used : InUse (tree_of t) p
  nested_used = begun_at s t place p named nested

  -- it is in progress still, there or in one that is gone
  pub nested_holds : Holds u place p 1
  nested_holds = began_holds s place p named t u keys₁ deep h.stays

  -- and it is the last one that began there
  pub nested_innermost : IsInnermost (held_of u) place.key
  nested_innermost = began_innermost s place p named t u keys₁ deep h.stays

  module _ (v : Table) (keys₂ : (q : Path) → key_of v q ≡ key_of u q) (shallow : Shallows (held_of u) place.key (held_of v)) (unnested : tree_of v ≡ effect p Unnested (tree_of u)) where
    steps_before : (q : Path) → steps_of (tree_of t q) ≡ steps_of (tree_of s q)
    steps_before q = ap (λ (X : Tree Own). steps_of (X q)) nested ∙ steps_nested (tree_of s) p q

    steps_after : (q : Path) → steps_of (tree_of v q) ≡ steps_of (tree_of u q)
    steps_after q = ap (λ (X : Tree Own). steps_of (X q)) unnested ∙ steps_unnested (tree_of u) p q

    -- no count falls that didn't while it went on
    steps_around : (q : Path) → steps_at (tree_of t) q ≤ steps_at (tree_of u) q → steps_at (tree_of s) q ≤ steps_at (tree_of v) q
    steps_around q l =
        let x : steps_at (tree_of t) q ≡ steps_at (tree_of s) q = ap (λ y. y.0) (steps_before q) in
        let z : steps_at (tree_of v) q ≡ steps_at (tree_of u) q = ap (λ y. y.0) (steps_after q) in
        omega arith

    pub nested_steady : marks_of t ≡ marks_of s → marks_of v ≡ marks_of u → IsSteady s v
    nested_steady m1 m2 = record {
      marks = m2 ∙ h.marks ∙ m1;
      stays = stays_around (held_of s) (held_of t) (held_of u) s.ordered.depths place.key (over_there s place p named) (over_or_not s place p named) deep h.stays s.ordered.used (held_of v) shallow;
      counts = λ q k used at there. steps_around q (h.counts q k (deeper_in_use (tree_of s) (tree_of t) p q nested used) (keys₁ q ∙ at) (sym (keys₂ q) ∙ there));
      top = back_again (tree_of s) (tree_of t) (tree_of u) (tree_of v) p [] nested unnested h.top;
      counted = counted-trans (tree_of s []) (tree_of t []) (tree_of v []) (same_counted (tree_of s []) (tree_of t []) (steps_before []))
          (counted-trans (tree_of t []) (tree_of u []) (tree_of v []) h.counted (same_counted (tree_of u []) (tree_of v []) (steps_after [])));
    }

    -- where it came to a completion, its interpreter stands still
    pub nested_here : marks_of t ≡ marks_of s → marks_of v ≡ marks_of u → IsHere t u place → IsHere s v place
    nested_here m1 m2 g = record {
      marks = m2 ∙ g.marks ∙ m1;
      keys = λ q a b k at is there. keys₂ a ∙ g.keys q a b k (keys₁ q ∙ at) is (keys₁ a ∙ there);
      depths = λ q a b at is. back_again (tree_of s) (tree_of t) (tree_of u) (tree_of v) p a nested unnested (g.depths q a b (keys₁ q ∙ at) is);
      counts = λ q a b at is. steps_around a (g.counts q a b (keys₁ q ∙ at) is);
    }

    -- those at the place and above it, in use or not before
    pub nested_held : IsHeld s v p
    nested_held = record {
      counts = λ a b k is at there. steps_around a (h.counts a k (in_use_above (tree_of t) a b p is nested_used) (keys₁ a ∙ at) (sym (keys₂ a) ∙ there));
    }

-- ## Who is held

pub level_held : (s t : Table) (p : Path) → IsLevel s t → IsHeld s t p
level_held s t p l = record { counts = λ a b k is at there. l.counts a }

-- who is held while more is done behind a change of own parts is held from before that
pub held_behind : (s t u : Table) (p : Path) → IsLevel s t → IsHeld t u p → IsHeld s u p
held_behind s t u p l h = record { counts = λ a b k is at there. let x = l.counts a in let y = h.counts a b k is (l.keys a ∙ at) there in omega arith }

-- who is there is there behind such a change
pub level_there : (s t : Table) (place : TablePlace) (p : Path) (style : Integers) → IsLevel s t → IsThere s place p style → IsThere t place p style
level_there s t place p style l at = record { names = l.keys p ∙ at.names; style_is = ap (λ m. m.integers) l.marks ∙ at.style_is }

-- an own part that becomes what it was leaves the tree as it was
pub changed_same : (T : Tree Own) (p : Path) (n : Node Own) → T p ≡ Some n → effect p (Changed n.own) T ≡ T
changed_same T p n there = λ i q. at_place q i
  where
    by : (q : Path) (s : Option Path) → strip p q ≡ s → at_end s (with_own n.own) (T q) ≡ T q
    by q None e = refl
    by q (Some []) e = ap (with_own n.own) (ap T (strip-sound p q [] e ∙ append-nil p) ∙ there) ∙ sym (ap T (strip-sound p q [] e ∙ append-nil p) ∙ there)
    by q (Some (x ∷ xs)) e = refl

    at_place : (q : Path) → effect p (Changed n.own) T q ≡ T q
    at_place q = by q (strip p q) refl

-- an interpreter whose key a place has
pub stands : {A : Type 0} (o : Option A) → is_some o ≡ true → (a : A) × (o ≡ Some a)
stands None e = let x : false ≡ true = e in cc
stands (Some a) e = (a, refl)

-- who stands in a tree stands there when its root has another limit
pub still_stands : (T : Tree Own) (l : Option ℕ) (p : Path) (n : Node Own) → T p ≡ Some n → (m : Node Own) × (effect [] (Limited l) T p ≡ Some m)
still_stands T l [] n e = (record n { limit = l }, ap (with_limit l) e)
still_stands T l (x ∷ p) n e = (n, e)

-- other frames that were lent and given back
pub lent_level : (s t : Table) (place : TablePlace) (p : Path) (chain : Chain) → Names s place p → HasFrames s t p chain → IsLevel s t
lent_level s t place p chain at held =
    let n = stands (tree_of s p) (tree_there s p place.key at) in
    changed_level s t p (with_chain n.0.own chain) held.marks held.keys held.held (held.tree n.0 n.1)
