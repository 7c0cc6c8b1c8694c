-- What the meters count.
use Rattle.std.proofs.Common.{pred, ◌≡◌, ℕ, suc, ◌+◌, ◌<◌, ◌≤◌, Bool, true, false, List, [], ◌∷◌, ◌++◌, Option, Some, None, length, refl, sym, ◌∙◌, ap, arith, subst, append_assoc}
use Rattle.std.specs.Prelude.{nat_le}
use Rattle.std.proofs.lemmas.Bool.Decides.{nat_tests}
use Rattle.tcl_core.specs.Paths.{Place, strip}
use Rattle.tcl_core.specs.Paths.{rise_to}
use Rattle.tcl_core.specs.Trees.Grants.{Listed, Budget}
use Rattle.tcl_core.specs.Trees.{asked, Grants, granted, denied, Tree, What, Event, Node, paid, at_end, where_some, effect, with_own, with_limit, with_depth_limit, counted, deeper, shallower, fresh, seen_what}
use Rattle.tcl_core.specs.Trees.What.{Seen, Changed, Charged, Refused, Nested, Unnested, Limited, DepthLimited, Made, Dropped, Out, In, Done, Back, Unfound}
use Rattle.tcl_core.specs.Programs.{Prog, Table, blocked, full_at, nearer, is_spent, limit_or}
use Rattle.tcl_core.specs.Runs.{World, Ending, Runs}
use Rattle.tcl_core.specs.Views.{IsDue, from_above, steps_of, kept, view}
use Rattle.tcl_core.specs.Laws.{Bounded, Stands, IsStanding, Spares, IsSpared, IsHeld, Lasts, Lowers, IsLowering, Counting, Limiting, Happenings, after}
use Rattle.tcl_core.proofs.PathLaws.{strip-sound}
use Rattle.tcl_core.proofs.Standing.{stands_of, held_left}
use Rattle.tcl_core.proofs.Keeping.{runs_keep, KeepsSteps}

module _ {O : Type 0} where
  -- the steps that x at p costs c
  abbrev pub taken : Option Place → What O → ℕ → ℕ
  taken None x k = k
  taken (Some q) x k = paid x k

  abbrev IsSame : Option (Node O) → Node O → Type 0
  IsSame o n = (m : Node O) × (o ≡ Some m) × (m.count ≡ n.count) × (m.limit ≡ n.limit)

  abbrev KeepsMeters : (Option (Node O) → Option (Node O)) → Type 0
  KeepsMeters f = (n : Node O) → IsSame (f (Some n)) n

  at_end_meters : (f : Option (Node O) → Option (Node O)) → KeepsMeters f → (s : Option Place) (t : Option (Node O)) (n : Node O) → t ≡ Some n → IsSame (at_end s f t) n
  at_end_meters f g None t n e = (n, e, refl, refl)
  at_end_meters f g (Some []) t n e = subst (λ o. IsSame (f o) n) (sym e) (g n)
  at_end_meters f g (Some (x ∷ q)) t n e = (n, e, refl, refl)

  where_meters : (f : Option (Node O) → Option (Node O)) → KeepsMeters f → (s : Option Place) (t : Option (Node O)) (n : Node O) → t ≡ Some n → IsSame (where_some s f t) n
  where_meters f g None t n e = (n, e, refl, refl)
  where_meters f g (Some q) t n e = subst (λ o. IsSame (f o) n) (sym e) (g n)

  not_here : (f : Option (Node O) → Option (Node O)) (s : Option Place) (t : Option (Node O)) (n : Node O) → (s ≡ Some [] → Prim.⊥) → t ≡ Some n → IsSame (at_end s f t) n
  not_here f None t n a e = (n, e, refl, refl)
  not_here f (Some []) t n a e = absurd (a refl)
  not_here f (Some (x ∷ q)) t n a e = (n, e, refl, refl)

  -- the limit of c after x at p
  abbrev limit_after : What O → Option Place → Option ℕ → Option ℕ
  limit_after (Limited l) (Some []) m = l
  limit_after x s m = m

  -- c after x at p: the count, and the limit
  abbrev pub Meters : Place → Place → What O → Tree O → Node O → Type 0
  Meters c p x T n = (m : Node O) × (effect p x T c ≡ Some m) × ((k : ℕ) → m.count + k ≡ n.count + taken (strip c p) x k) × (m.limit ≡ limit_after x (strip p c) n.limit)

  -- what costs nothing, and sets no limit
  free : (c p : Place) (x : What O) (T : Tree O) (n : Node O) → ((k : ℕ) → paid x k ≡ k) → limit_after x (strip p c) n.limit ≡ n.limit → IsSame (effect p x T c) n → Meters c p x T n
  free c p x T n f l (m, e, g, h) = (m, e, (λ k. cost (strip c p) k), h ∙ sym l)
    where
      cost : (s : Option Place) (k : ℕ) → m.count + k ≡ n.count + taken s x k
      cost None k = ap (λ j. j + k) g
      cost (Some q) k = rw (f k, g) refl

  charged_at : (s : Option Place) (t : Option (Node O)) (n : Node O) → t ≡ Some n → (m : Node O) × (where_some s counted t ≡ Some m) × ((k : ℕ) → m.count + k ≡ n.count + taken s Charged k) × (m.limit ≡ n.limit)
  charged_at None t n e = (n, e, (λ k. refl), refl)
  charged_at (Some q) t n e = (record n { count = suc n.count }, ap counted e, (λ k. omega arith), refl)

  limited_at : (s : Option Place) (l : Option ℕ) (t : Option (Node O)) (n : Node O) → t ≡ Some n → (m : Node O) × (at_end s (with_limit l) t ≡ Some m) × (m.count ≡ n.count) × (m.limit ≡ limit_after (Limited l) s n.limit)
  limited_at None l t n e = (n, e, refl, refl)
  limited_at (Some []) l t n e = (record n { limit = l }, ap (with_limit l) e, refl, refl)
  limited_at (Some (x ∷ q)) l t n e = (n, e, refl, refl)

  taken_free : (s : Option Place) (x : What O) (k : ℕ) → ((k : ℕ) → paid x k ≡ k) → taken s x k ≡ k
  taken_free None x k f = refl
  taken_free (Some q) x k f = f k

  pub meters : (c p : Place) (x : What O) (T : Tree O) (n : Node O) → Stands c p x → T c ≡ Some n → Meters c p x T n
  meters c p (Changed o) T n s e = free c p (Changed o) T n (λ k. refl) refl (at_end_meters (with_own o) (λ n. (record n { own = o }, refl, refl, refl)) (strip p c) (T c) n e)
  meters c p Charged T n s e = charged_at (strip c p) (T c) n e
  meters c p Nested T n s e = free c p Nested T n (λ k. refl) refl (where_meters deeper (λ n. (record n { depth = suc n.depth }, refl, refl, refl)) (strip c p) (T c) n e)
  meters c p Unnested T n s e = free c p Unnested T n (λ k. refl) refl (where_meters shallower (λ n. (record n { depth = pred n.depth }, refl, refl, refl)) (strip c p) (T c) n e)
  meters c p (DepthLimited l) T n s e = free c p (DepthLimited l) T n (λ k. refl) refl (at_end_meters (with_depth_limit l) (λ n. (record n { depth_limit = l }, refl, refl, refl)) (strip p c) (T c) n e)
  meters c p (Limited l) T n s e =
      let a : (m : Node O) × (at_end (strip p c) (with_limit l) (T c) ≡ Some m) × (m.count ≡ n.count) × (m.limit ≡ limit_after (Limited l) (strip p c) n.limit) = limited_at (strip p c) l (T c) n e in
      (a.0, a.1, (λ k. rw (taken_free (strip c p) (Limited l) k (λ j. refl), a.2) refl), a.3)
  meters c p (Made o b) T n s e = free c p (Made o b) T n (λ k. refl) refl (not_here (λ x. Some (fresh o b)) (strip p c) (T c) n s e)
  meters c p Dropped T n s e = free c p Dropped T n (λ k. refl) refl (n, ap (λ o. where_some o (λ x. None) (T c)) s ∙ e, refl, refl)
  meters c p Seen T n s e = free c p Seen T n (λ k. refl) refl (n, e, refl, refl)
  meters c p (Refused m l) T n s e = free c p (Refused m l) T n (λ k. refl) refl (n, e, refl, refl)
  meters c p (Out h d i) T n s e = free c p (Out h d i) T n (λ k. refl) refl (n, e, refl, refl)
  meters c p (Back h r) T n s e = free c p (Back h r) T n (λ k. refl) refl (n, e, refl, refl)
  meters c p (In h r) T n s e = free c p (In h r) T n (λ k. refl) refl (n, e, refl, refl)
  meters c p (Unfound t i y) T n s e = free c p (Unfound t i y) T n (λ k. refl) refl (n, e, refl, refl)
  meters c p (Done h r) T n s e = free c p (Done h r) T n (λ k. refl) refl (n, e, refl, refl)

  steps_above : (b : Option Place) (x : What O) (τ : List (Event O)) → steps_of (from_above b x τ) ≡ steps_of τ
  steps_above (Some z) Dropped τ = refl
  steps_above b x τ = refl

  paid_seen : (q : Place) (x : What O) (k : ℕ) → paid (seen_what q x) k ≡ paid x k
  paid_seen q Charged k = refl
  paid_seen q _ k = refl

  steps_kept : (s b : Option Place) (x : What O) (τ : List (Event O)) → steps_of (kept s b x τ) ≡ taken s x (steps_of τ)
  steps_kept None b x τ = steps_above b x τ
  steps_kept (Some q) b x τ = paid_seen q x (steps_of τ)

  abbrev Total : Place → ℕ → World O → Type 0
  Total c total u = IsSpared c u.tape × IsHeld c u.moves × ((m : Node O) × (u.tree c ≡ Some m) × (m.count + steps_of (view c u.tape) ≡ total))

  total_step : (c : Place) (total : ℕ) → KeepsSteps (Total c total)
  total_step c total w p x v due s (st, held, (n, e, t)) =
      let st2 : Spares c p x × IsSpared c v.tape = subst (IsSpared c) s.tape st in
      let held2 : IsHeld c (asked p x v.moves) = subst (IsHeld c) s.moves held in
      let a : Meters c p x w.tree n = meters c p x w.tree n (stands_of c p x w.tree n v.moves due e st2.0 held2) e in
      let k : steps_of (view c w.tape) ≡ taken (strip c p) x (steps_of (view c v.tape)) = ap (λ τ. steps_of (view c τ)) s.tape ∙ steps_kept (strip c p) (strip p c) x (view c v.tape) in
      (st2.1, held_left c p x v.moves held2, (a.0, ap (λ T. T c) s.tree ∙ a.1, a.2 (steps_of (view c v.tape)) ∙ ap (λ j. n.count + j) (sym k) ∙ t))

module _ {O I : Type 0} where
  pub counting : Counting O I
  counting prog c p w x v e n a st f =
      let total : ℕ = n.count + steps_of (view c w.tape) in
      let g : Total c total v = runs_keep (Total c total) (total_step c total) prog w p x v e a (st.spared, st.held, (n, f, refl)) in
      g.2

-- below its limit
open_none : (o : Option ℕ) (b : Bool) (m : ℕ) → nearer o b m ≡ None → (o ≡ None) × (b ≡ false)
open_none None true m e = cc
open_none None false m e = (refl, refl)
open_none (Some n) b m e = cc

module _ {O : Type 0} where
  pub open_above : (full : Node O → Bool) (c q : Place) (T : Tree O) → blocked full T (c ++ q) ≡ None → full_at full (T c) ≡ false
  open_above full [] [] T e = (open_none None (full_at full (T [])) 0 e).1
  open_above full [] (y ∷ q) T e = (open_none (blocked full (λ p. T (y ∷ p)) q) (full_at full (T [])) (suc (length q)) e).1
  open_above full (x ∷ c) q T e = open_above full c q (λ p. T (x ∷ p)) (open_none (blocked full (λ p. T (x ∷ p)) (c ++ q)) (full_at full (T [])) (suc (length (c ++ q))) e).0

  room : (n : Node O) (l : ℕ) → n.limit ≡ Some l → is_spent n ≡ false → n.count < l
  room n l e f =
      let g : nat_le l n.count ≡ false = subst (λ o. nat_le (limit_or o) n.count ≡ false) e f in
      grind (arith, nat_tests)

  abbrev Within : Place → ℕ → ℕ → World O → Type 0
  Within c l b u = IsSpared c u.tape × IsLowering l c u.tape × IsHeld c u.moves × ((m : Node O) × (k : ℕ) × (u.tree c ≡ Some m) × (m.limit ≡ Some k) × (k ≤ l) × (m.count ≤ b))

  -- a charge finds room
  room_for : (c p : Place) (x : What O) (T : Tree O) (n : Node O) (k b : ℕ) → IsDue T p x → T c ≡ Some n → n.limit ≡ Some k → k ≤ b → n.count ≤ b → (j : ℕ) → (s : Option Place) → strip c p ≡ s → n.count + taken s x j ≤ b + j
  room_for c p x T n k b due e f le g j None s = omega arith
  room_for c p Charged T n k b due e f le g j (Some q) s =
      let o : full_at is_spent (T c) ≡ false = open_above is_spent c q T (subst (λ r. blocked is_spent T r ≡ None) (strip-sound c p q s) due) in
      let r : n.count < k = room n k f (subst (λ t. full_at is_spent t ≡ false) e o) in
      omega arith
  room_for c p _ T n k b due e f le g j (Some q) s = omega arith

  -- the limit that is set is no higher
  limit_step : (l k : ℕ) (x : What O) (b : Option Place) (o : Option ℕ) → Lowers l x b → o ≡ Some k → k ≤ l → (j : ℕ) × (limit_after x b o ≡ Some j) × (j ≤ l)
  limit_step l k (Limited y) (Some []) o (j, e, le) f g = (j, e, le)
  limit_step l k (Limited y) (Some (z ∷ zs)) o a f g = (k, f, g)
  limit_step l k (Limited y) None o a f g = (k, f, g)
  limit_step l k x b o a f g = (k, f, g)

  within_step : (c : Place) (l b : ℕ) → l ≤ b → KeepsSteps (Within c l b)
  within_step c l b lb w p x v due s (st, un, held, (n, k, e, f, kl, g)) =
      let st2 : Spares c p x × IsSpared c v.tape = subst (IsSpared c) s.tape st in
      let held2 : IsHeld c (asked p x v.moves) = subst (IsHeld c) s.moves held in
      let un2 : Lowers l x (strip p c) × IsLowering l c v.tape = subst (IsLowering l c) s.tape un in
      let a : Meters c p x w.tree n = meters c p x w.tree n (stands_of c p x w.tree n v.moves due e st2.0 held2) e in
      let r : n.count + taken (strip c p) x 0 ≤ b + 0 = room_for c p x w.tree n k b due e f (omega arith) g 0 (strip c p) refl in
      let j : (j : ℕ) × (limit_after x (strip p c) n.limit ≡ Some j) × (j ≤ l) = limit_step l k x (strip p c) n.limit un2.0 f kl in
      (st2.1, un2.1, held_left c p x v.moves held2, (a.0, j.0, ap (λ T. T c) s.tree ∙ a.1, a.3 ∙ j.1, j.2, omega (arith, a.2 0, r)))

module _ {O I : Type 0} where
  pub limiting : Limiting O I
  limiting prog c p w x v e n l b a st un f g lb h =
      let r : Within c l b v = runs_keep (Within c l b) (within_step c l b lb) prog w p x v e a (st.spared, un, st.held, (n, l, f, g, omega arith, h)) in
      r.3

module _ {O : Type 0} where
  pub after-append : (σ τ : List (Event O)) (T : Tree O) → after (σ ++ τ) T ≡ after τ (after σ T)
  after-append [] τ T = refl
  after-append (ev ∷ σ) τ T = after-append σ τ (effect ev.place ev.what T)

  abbrev MadeFrom : World O → World O → Type 0
  MadeFrom w u = (made : List (Event O)) × (w.tape ≡ made ++ u.tape) × (u.tree ≡ after made w.tree)

  made_step : (w : World O) → KeepsSteps (MadeFrom w)
  made_step w u p x v due s (m, t, f) =
      (m ++ record { place = p; what = x } ∷ [], t ∙ ap (λ l. m ++ l) s.tape ∙ sym (append_assoc m (record { place = p; what = x } ∷ []) v.tape), s.tree ∙ ap (effect p x) f ∙ sym (after-append m (record { place = p; what = x } ∷ []) w.tree))

  abbrev Left : ℕ → World O → World O → Type 0
  Left n w u = (k : ℕ) × (u.grants ≡ Budget k) × (k + steps_of w.tape ≡ n + steps_of u.tape)

  budget_of : (p : Place) (x : What O) (gs : Grants) (k : ℕ) → Budget k ≡ granted p x gs → (j : ℕ) × (gs ≡ Budget j) × (k ≡ paid x j)
  budget_of p Charged (Listed gs) k e = cc
  budget_of p Charged (Budget j) k e = (j, refl, cc)
  budget_of p Nested (Listed gs) k e = cc
  budget_of p Nested (Budget j) k e = (j, refl, cc)
  budget_of p (Refused m h) gs k e = by (rise_to h p) gs e
    where
      by : (o : Option Place) (gs : Grants) → Budget k ≡ denied o gs → (j : ℕ) × (gs ≡ Budget j) × (k ≡ j)
      by None (Listed hs) f = cc
      by None (Budget j) f = (j, refl, cc)
      by (Some a) gs f = (k, sym f, refl)
  budget_of p _ gs k e = (k, sym e, refl)

  paid_shift : (x : What O) (k j a n b d : ℕ) → k ≡ paid x j → b ≡ paid x d → k + a ≡ n + b → j + a ≡ n + d
  paid_shift Charged k j a n b d e f g = omega arith
  paid_shift _ k j a n b d e f g = omega arith

  left_step : (n : ℕ) (w : World O) → KeepsSteps (Left n w)
  left_step n w u p x v due s (k, f, g) =
      let h : (j : ℕ) × (v.grants ≡ Budget j) × (k ≡ paid x j) = budget_of p x v.grants k (sym f ∙ s.grants) in
      (h.0, h.1, paid_shift x k h.0 (steps_of w.tape) n (steps_of u.tape) (steps_of v.tape) h.2 (ap steps_of s.tape) g)

module _ {O I : Type 0} where
  pub happenings : Happenings O I
  happenings prog w p x v e a = runs_keep (MadeFrom w) (made_step w) prog w p x v e a ([], refl, refl)

  -- a budget, and what is left of it
  pub bounded : Bounded O I
  bounded prog w v p x e n a f t =
      let r : Left n w v = runs_keep (Left n w) (left_step n w) prog w p x v e a (n, f, refl) in
      (r.0, r.1, r.2 ∙ ap (λ τ. n + steps_of τ) t ∙ no_more n)
    where
      no_more : (n : ℕ) → n + 0 ≡ n
      no_more n = omega arith

module _ {O : Type 0} where
  -- what lasts is neither made nor dropped
  abbrev Lasting_on : Place → World O → World O → Type 0
  Lasting_on c w u = IsSpared c u.tape × IsHeld c u.moves × ((m : Node O) × (u.tree c ≡ Some m)) × (IsStanding c u.tape → IsStanding c w.tape)

  lasting_step : (c : Place) (w : World O) → KeepsSteps (Lasting_on c w)
  lasting_step c w u p x v due s (st, held, (n, e), f) =
      let st2 : Spares c p x × IsSpared c v.tape = subst (IsSpared c) s.tape st in
      let held2 : IsHeld c (asked p x v.moves) = subst (IsHeld c) s.moves held in
      let here : Stands c p x = stands_of c p x u.tree n v.moves due e st2.0 held2 in
      let a : Meters c p x u.tree n = meters c p x u.tree n here e in
      (st2.1, held_left c p x v.moves held2, (a.0, ap (λ T. T c) s.tree ∙ a.1), (λ g. f (subst (IsStanding c) (sym s.tape) (here, g))))

module _ {O I : Type 0} where
  pub standing : (prog : Table O I) (c : Place) (w : World O) (p : Place) (x : Prog O I) (v : World O) (e : Ending) → Runs prog w p x v e → Lasts c w → v.tape ≡ [] → IsStanding c w.tape
  standing prog c w p x v e a l f =
      let g : Lasting_on c w v = runs_keep (Lasting_on c w) (lasting_step c w) prog w p x v e a (l.spared, l.held, (l.node, l.stands), (λ b. b)) in
      g.3 (subst (IsStanding c) (sym f) tt)
