-- What a happening is to one subtree.
use Rattle.std.proofs.Common.{zero, List, subst, ◌≡◌, ℕ, suc, ◌<◌, ◌≤◌, Bool, true, false, [], ◌∷◌, ◌++◌, Option, Some, None, length, nat_lt, refl, sym, ◌∙◌, ap, arith, append_assoc, length-append}
use Rattle.std.proofs.lemmas.Bool.Decides.{nat_tests}
use mathlib.Core.Path.{fun_ext}
use Rattle.tcl_core.specs.Paths.{rise_to, Place, strip}
use Rattle.tcl_core.specs.Endings.{Meter, Reply}
use Rattle.tcl_core.specs.Endings.Meter.{Count, Depth}
use Rattle.tcl_core.specs.Endings.Reply.{Cut}
use Rattle.tcl_core.specs.Endings.Cause.{Above, Over}
use Rattle.tcl_core.specs.Trees.{Event, Grant, Grants, granted, denied, allowing, Node, Tree, What, at, effect, at_end, where_some, on_node, on_line, on_subtree, with_own, with_limit, with_depth_limit, counted, deeper, shallower, fresh, seen_reply, seen_what, depth_of}
use Rattle.tcl_core.specs.Trees.Grant.{Allow, Deny}
use Rattle.tcl_core.specs.Trees.Grants.{Listed, Budget}
use Rattle.tcl_core.specs.Trees.What.{Seen, Changed, Charged, Refused, Nested, Unnested, Limited, DepthLimited, Made, Dropped}
use Rattle.tcl_core.specs.Programs.{Wrap, Next, Deed, spot, Act, decide, opens, closes, changing, making, dropping, either, metered, by_limit, blocked, full_at, nearer, is_spent, is_deep, brought_back}
use Rattle.tcl_core.specs.Programs.Next.{On, TooDeep, Off}
use Rattle.tcl_core.specs.Programs.Act.{Look, Change, Charge, Limit, LimitDepth, Make, Drop}
use Rattle.tcl_core.specs.Programs.Wrap.{Deeper, Framed}
use Rattle.tcl_core.specs.Runs.{World, Step, where_stands, reached}
use Rattle.tcl_core.specs.Views.{grants_of, moves_of, kept, view, inside_of, from_above}
use Rattle.tcl_core.proofs.PathLaws.{strip-sound, beside, not_both, Some-inj, strip-append, strip_own, apart, at_end-apart, seen_past, seen_near}

module _ {O : Type 0} where
  on_node_within : (c q : Place) (f : Option (Node O) → Option (Node O)) (T : Tree O) → at (on_node (c ++ q) f T) c ≡ on_node q f (at T c)
  on_node_within c q f T = fun_ext λ r. ap (λ o. at_end o f (T (c ++ r))) (strip-append c q r)

  on_line_within : (c q : Place) (f : Option (Node O) → Option (Node O)) (T : Tree O) → at (on_line (c ++ q) f T) c ≡ on_line q f (at T c)
  on_line_within c q f T = fun_ext λ r. ap (λ o. where_some o f (T (c ++ r))) (strip-append c r q)

  on_subtree_within : (c q : Place) (f : Option (Node O) → Option (Node O)) (T : Tree O) → at (on_subtree (c ++ q) f T) c ≡ on_subtree q f (at T c)
  on_subtree_within c q f T = fun_ext λ r. ap (λ o. where_some o f (T (c ++ r))) (strip-append c q r)

  -- what happens in a subtree happens to it as to a tree of its own
  pub effect_within : (c q : Place) (x : What O) (T : Tree O) → at (effect (c ++ q) x T) c ≡ effect q (seen_what q x) (at T c)
  effect_within c q (Changed o) T = on_node_within c q (with_own o) T
  effect_within c q Charged T = on_line_within c q counted T
  effect_within c q Nested T = on_line_within c q deeper T
  effect_within c q Unnested T = on_line_within c q shallower T
  effect_within c q (Limited l) T = on_node_within c q (with_limit l) T
  effect_within c q (DepthLimited l) T = on_node_within c q (with_depth_limit l) T
  effect_within c q (Made o s) T = on_node_within c q (λ x. Some (fresh o s)) T
  effect_within c q Dropped T = on_subtree_within c q (λ x. None) T
  effect_within c q _ T = refl

  on_node_apart : (c p : Place) (f : Option (Node O) → Option (Node O)) (T : Tree O) → strip c p ≡ None → at (on_node p f T) c ≡ at T c
  on_node_apart c p f T e = fun_ext λ r. at_end-apart c p r f (T (c ++ r)) e

  on_line_apart : (c p : Place) (f : Option (Node O) → Option (Node O)) (T : Tree O) → strip c p ≡ None → at (on_line p f T) c ≡ at T c
  on_line_apart c p f T e = fun_ext λ r. ap (λ o. where_some o f (T (c ++ r))) (apart c p r e)

  -- x at p is no drop of what is above c
  abbrev pub IsBeside : Place → Place → What O → Type 0
  IsBeside c p Dropped = strip p c ≡ None
  IsBeside c p _ = Unit {0}

  -- what happens elsewhere does nothing to it
  pub effect_apart : (c p : Place) (x : What O) (T : Tree O) → strip c p ≡ None → IsBeside c p x → at (effect p x T) c ≡ at T c
  effect_apart c p (Changed o) T e f = on_node_apart c p (with_own o) T e
  effect_apart c p Charged T e f = on_line_apart c p counted T e
  effect_apart c p Nested T e f = on_line_apart c p deeper T e
  effect_apart c p Unnested T e f = on_line_apart c p shallower T e
  effect_apart c p (Limited l) T e f = on_node_apart c p (with_limit l) T e
  effect_apart c p (DepthLimited l) T e f = on_node_apart c p (with_depth_limit l) T e
  effect_apart c p (Made o s) T e f = on_node_apart c p (λ x. Some (fresh o s)) T e
  effect_apart c p Dropped T e f = fun_ext λ r. ap (λ o. where_some o (λ x. None) (T (c ++ r))) (beside c r p e f)
  effect_apart c p _ T e f = refl

  -- a drop of what is above c drops c
  pub effect_fall : (c p z : Place) (T : Tree O) → strip p c ≡ Some z → at (effect p Dropped T) c ≡ effect [] Dropped (at T c)
  effect_fall c p z T e = fun_ext λ r. ap (λ o. where_some o (λ x. None) (T (c ++ r))) (reach r)
    where
      reach : (r : Place) → strip p (c ++ r) ≡ Some (z ++ r)
      reach r = ap (λ l. strip p (l ++ r)) (strip-sound p c z e) ∙ ap (strip p) (append_assoc p z r) ∙ strip_own p (z ++ r)

-- what refuses in a subtree refuses in the whole; what refuses otherwise is above the subtree
near : (b : Option ℕ) (f : Bool) (m n : ℕ) → b ≡ Some n → nearer b f m ≡ Some n
near b f m n e = ap (λ o. nearer o f m) e

far : (b : Option ℕ) (f : Bool) (m n l : ℕ) → l < m → ((k : ℕ) → b ≡ Some k → l < k) → nearer b f m ≡ Some n → l < n
far (Some k) f m n l lt g e = rw (← Some-inj k e) (g k refl)
far None true m n l lt g e = rw (← Some-inj m e) lt
far None false m n l lt g e = cc

close : (b : Option ℕ) (f : Bool) (m n l : ℕ) → m ≤ l → ((k : ℕ) → b ≡ Some k → k ≤ l) → nearer b f m ≡ Some n → n ≤ l
close (Some k) f m n l le g e = rw (← Some-inj k e) (g k refl)
close None true m n l le g e = rw (← Some-inj m e) le
close None false m n l le g e = cc

module _ {O : Type 0} where
  pub blocked_within : (full : Node O → Bool) (c q : Place) (T : Tree O) (n : ℕ) → blocked full (at T c) q ≡ Some n → blocked full T (c ++ q) ≡ Some n
  blocked_within full [] q T n e = e
  blocked_within full (x ∷ c) q T n e = near (blocked full (λ p. T (x ∷ p)) (c ++ q)) (full_at full (T [])) (suc (length (c ++ q))) n (blocked_within full c q (λ p. T (x ∷ p)) n e)

  pub blocked_above : (full : Node O → Bool) (c q : Place) (T : Tree O) (n : ℕ) → blocked full (at T c) q ≡ None → blocked full T (c ++ q) ≡ Some n → length q < n
  blocked_above full [] q T n e f = absurd (not_both e f)
  blocked_above full (x ∷ c) q T n e f =
      far (blocked full (λ p. T (x ∷ p)) (c ++ q)) (full_at full (T [])) (suc (length (c ++ q))) n (length q) (omega (arith, length-append c q)) (λ k g. blocked_above full c q (λ p. T (x ∷ p)) k e g) f

  -- what refuses is at or above
  pub blocked_near : (full : Node O → Bool) (q : Place) (T : Tree O) (n : ℕ) → blocked full T q ≡ Some n → n ≤ length q
  blocked_near full [] T n e = close None (full_at full (T [])) 0 n 0 (omega arith) (λ k g. absurd (not_both refl g)) e
  blocked_near full (x ∷ q) T n e =
      close (blocked full (λ p. T (x ∷ p)) q) (full_at full (T [])) (suc (length q)) n (suc (length q)) (omega arith)
      (λ k g. omega (arith, blocked_near full q (λ p. T (x ∷ p)) k g)) e

-- how it goes on, as it is seen in a subtree
abbrev pub seen_next : Place → Next → Next
seen_next q (Off r) = Off (seen_reply q r)
seen_next q TooDeep = TooDeep
seen_next q On = On

abbrev pub seen_deed : {O : Type 0} → Place → Deed O → Deed O
seen_deed q x = (x.0, seen_what (spot q x.0) x.1, seen_next q x.2)

-- a metered act is done in place
limit_near : (q : Place) (m : Meter) (n : ℕ) → n ≤ length q → seen_next q (by_limit m n) ≡ by_limit m n
limit_near q Count n le = let e : nat_lt (length q) n ≡ false = grind (arith, nat_tests) in rw e refl
limit_near q Depth zero le = refl
limit_near q Depth (suc n) le = let e : nat_lt (length q) (suc n) ≡ false = grind (arith, nat_tests) in rw e refl

limit_far : (q : Place) (m : Meter) (n : ℕ) → length q < n → seen_next q (by_limit m n) ≡ Off (Cut Above)
limit_far q Count n lt = let e : nat_lt (length q) n ≡ true = grind (arith, nat_tests) in rw e refl
limit_far q Depth zero lt = absurd (omega arith)
limit_far q Depth (suc n) lt = let e : nat_lt (length q) (suc n) ≡ true = grind (arith, nat_tests) in rw e refl

module _ {O : Type 0} where
  abbrev CountsAs : Meter → What O → Type 0
  CountsAs m x = (p : Place) (gs : Grants) → granted p x gs ≡ allowing m gs

  deny_here : (m : Meter) (x : What O) (q : Place) (gs : List Grant) → metered m x None (granted {O = O} q (Refused m None) (Listed gs)) ≡ Some (None, Refused m None, Off (Cut Above))
  deny_here Count x q gs = refl
  deny_here Depth x q gs = refl

  allow_here : (m : Meter) (x : What O) (gs : List Grant) → metered m x None (allowing m (Listed gs)) ≡ Some (None, x, On)
  allow_here Count x gs = refl
  allow_here Depth x gs = refl

  -- a metered act of a subtree: the subtree refuses, or the whole does so to it
  metered_within : (q : Place) (m : Meter) (y : What O) (l b : Option ℕ) (ds : Grants) (x : Deed O) (gs : List Grant) →
      CountsAs m y → seen_what q y ≡ y →
      ((n : ℕ) → l ≡ Some n → b ≡ Some n) → ((n : ℕ) → l ≡ Some n → n ≤ length q) → ((n : ℕ) → l ≡ None → b ≡ Some n → length q < n) →
      metered m y b ds ≡ Some x → metered m y l (granted (spot q x.0) (seen_what (spot q x.0) x.1) (Listed gs)) ≡ Some (seen_deed q x)
  metered_within q m y (Some n) b ds x gs al pl f near g e =
      let d : Some (None, Refused m (Some n), by_limit m n) ≡ Some x = ap (λ o. metered m y o ds) (sym (f n refl)) ∙ e in
      subst (λ z. metered m y (Some n) (granted (spot q z.0) (seen_what (spot q z.0) z.1) (Listed gs)) ≡ Some (seen_deed q z)) (Some-inj (None, Refused m (Some n), by_limit m n) d)
      (λ i. Some (None, Refused m (sym (seen_near q n (near n refl)) i), sym (limit_near q m n (near n refl)) i))
  metered_within q m y None (Some n) ds x gs al pl f near g e =
      let lt : length q < n = g n refl refl in
      subst (λ z. metered m y None (granted (spot q z.0) (seen_what (spot q z.0) z.1) (Listed gs)) ≡ Some (seen_deed q z)) (Some-inj (None, Refused m (Some n), by_limit m n) e)
      (ap (λ h. metered m y None (granted {O = O} q (Refused m h) (Listed gs))) (seen_past q n lt) ∙ deny_here m y q gs
      ∙ (λ i. Some (None, Refused m (sym (seen_past q n lt) i), sym (limit_far q m n lt) i)))
  metered_within q m y None None ds x gs al pl f near g e = by m ds al e
    where
      on : (m2 : Meter) → CountsAs m2 y → Some (None, y, On) ≡ Some x → metered m2 y None (granted (spot q x.0) (seen_what (spot q x.0) x.1) (Listed gs)) ≡ Some (seen_deed q x)
      on m2 al2 d = subst (λ z. metered m2 y None (granted (spot q z.0) (seen_what (spot q z.0) z.1) (Listed gs)) ≡ Some (seen_deed q z)) (Some-inj (None, y, On) d)
          (ap (λ z. metered m2 y None (granted q z (Listed gs))) pl ∙ ap (metered m2 y None) (al2 q (Listed gs)) ∙ allow_here m2 y gs ∙ ap (λ z. Some (None, z, On)) (sym pl))

      off : (m2 : Meter) (r : Reply) → seen_reply q r ≡ Cut Above → Some (None, Refused m2 None, Off r) ≡ Some x → metered m2 y None (granted (spot q x.0) (seen_what (spot q x.0) x.1) (Listed gs)) ≡ Some (seen_deed q x)
      off m2 r s d = subst (λ z. metered m2 y None (granted (spot q z.0) (seen_what (spot q z.0) z.1) (Listed gs)) ≡ Some (seen_deed q z)) (Some-inj (None, Refused m2 None, Off r) d)
          (deny_here m2 y q gs ∙ ap (λ z. Some (None, Refused m2 None, Off z)) (sym s))

      by : (m2 : Meter) (ds2 : Grants) → CountsAs m2 y → metered m2 y None ds2 ≡ Some x → metered m2 y None (granted (spot q x.0) (seen_what (spot q x.0) x.1) (Listed gs)) ≡ Some (seen_deed q x)
      by m2 (Listed []) al2 d = absurd (not_both refl d)
      by m2 (Listed (Allow ∷ hs)) al2 d = on m2 al2 d
      by m2 (Listed (Deny ∷ hs)) al2 d = off m2 (Cut Above) refl d
      by Count (Budget zero) al2 d = off Count (Cut Over) refl d
      by Count (Budget (suc n)) al2 d = on Count al2 d
      by Depth (Budget n) al2 d = on Depth al2 d

-- what is done in one place alone, and says nothing of others, is seen as it is
module _ {O : Type 0} where
  decided : (a : Act O) (S : Tree O) (q : Place) (gs : List Grant) (x y : Deed O) → ((z : Deed O) → decide a S q (granted (spot q z.0) (seen_what (spot q z.0) z.1) (Listed gs)) ≡ Some y) → seen_deed q y ≡ y → Some y ≡ Some x →
      decide a S q (granted (spot q x.0) (seen_what (spot q x.0) x.1) (Listed gs)) ≡ Some (seen_deed q x)
  decided a S q gs x y f s e = f x ∙ ap Some (sym s) ∙ ap (λ z. Some (seen_deed q z)) (Some-inj y e)

  seen_changing : (q : Place) (o : O) (n : Option (Node O)) → seen_deed q (changing o n) ≡ changing o n
  seen_changing q o None = refl
  seen_changing q o (Some n) = refl

  seen_making : (q : Place) (name : List ℕ) (o : O) (s : Bool) (parent n : Option (Node O)) → seen_deed q (making name o s parent n) ≡ making name o s parent n
  seen_making q name o s None n = refl
  seen_making q name o s (Some p) None = refl
  seen_making q name o s (Some p) (Some n) = refl

  seen_dropping : (q : Place) (name : List ℕ) (n : Option (Node O)) → seen_deed q (dropping name n) ≡ dropping name n
  seen_dropping q name None = refl
  seen_dropping q name (Some n) = refl

  -- an act of a subtree is decided by the subtree, and by what it is handed
  pub decide_within : (c q : Place) (a : Act O) (T : Tree O) (ds : Grants) (x : Deed O) (gs : List Grant) → decide a T (c ++ q) ds ≡ Some x →
      decide a (at T c) q (granted (spot q x.0) (seen_what (spot q x.0) x.1) (Listed gs)) ≡ Some (seen_deed q x)
  decide_within c q Look T ds x gs e = decided Look (at T c) q gs x (None, Seen, On) (λ z. refl) refl e
  decide_within c q (Change o) T ds x gs e = decided (Change o) (at T c) q gs x (changing o (T (c ++ q))) (λ z. refl) (seen_changing q o (T (c ++ q))) e
  decide_within c q Charge T ds x gs e =
      metered_within q Count Charged (blocked is_spent (at T c) q) (blocked is_spent T (c ++ q)) ds x gs (λ p hs. refl) refl (blocked_within is_spent c q T) (blocked_near is_spent q (at T c)) (blocked_above is_spent c q T) e
  decide_within c q (Limit l) T ds x gs e = decided (Limit l) (at T c) q gs x (None, Limited l, On) (λ z. refl) refl e
  decide_within c q (LimitDepth l) T ds x gs e = decided (LimitDepth l) (at T c) q gs x (None, DepthLimited l, On) (λ z. refl) refl e
  decide_within c q (Make name o s) T ds x gs e =
      decided (Make name o s) (at T c) q gs x (making name o s (T (c ++ q)) (T ((c ++ q) ++ name ∷ []))) (λ z. ap (λ p. Some (making name o s (T (c ++ q)) (T p))) (sym (append_assoc c q (name ∷ []))))
      (seen_making q name o s (T (c ++ q)) (T ((c ++ q) ++ name ∷ []))) e
  decide_within c q (Drop name) T ds x gs e =
      decided (Drop name) (at T c) q gs x (dropping name (T ((c ++ q) ++ name ∷ []))) (λ z. ap (λ p. Some (dropping name (T p))) (sym (append_assoc c q (name ∷ []))))
      (seen_dropping q name (T ((c ++ q) ++ name ∷ []))) e

  pub opens_within : (c q : Place) (b : Wrap O) (T : Tree O) (ds : Grants) (x : Deed O) (gs : List Grant) → opens b T (c ++ q) ds ≡ Some x →
      opens b (at T c) q (granted (spot q x.0) (seen_what (spot q x.0) x.1) (Listed gs)) ≡ Some (seen_deed q x)
  opens_within c q Deeper T ds x gs e =
      metered_within q Depth Nested (blocked is_deep (at T c) q) (blocked is_deep T (c ++ q)) ds x gs (λ p hs. refl) refl (blocked_within is_deep c q T) (blocked_near is_deep q (at T c)) (blocked_above is_deep c q T) e
  opens_within c q (Framed o back) T ds x gs e = decided (Change o) (at T c) q gs x (changing o (T (c ++ q))) (λ z. refl) (seen_changing q o (T (c ++ q))) e

  -- no word in the whole is none in the subtree
  metered_none : (m : Meter) (y : What O) (l b : Option ℕ) (ds : Grants) → ((n : ℕ) → l ≡ Some n → b ≡ Some n) → metered m y b ds ≡ None → metered m y l (Listed []) ≡ None
  metered_none m y (Some n) b ds f e = absurd (not_both e (ap (λ o. metered m y o ds) (f n refl)))
  metered_none m y None b ds f e = go m
    where
      go : (m : Meter) → metered m y None (Listed []) ≡ None
      go Count = refl
      go Depth = refl

  pub decide_none : (c q : Place) (a : Act O) (T : Tree O) (ds : Grants) → decide a T (c ++ q) ds ≡ None → decide a (at T c) q (Listed []) ≡ None
  decide_none c q Charge T ds e = metered_none Count Charged (blocked is_spent (at T c) q) (blocked is_spent T (c ++ q)) ds (blocked_within is_spent c q T) e
  decide_none c q _ T ds e = absurd (not_both e refl)

  pub opens_none : (c q : Place) (b : Wrap O) (T : Tree O) (ds : Grants) → opens b T (c ++ q) ds ≡ None → opens b (at T c) q (Listed []) ≡ None
  opens_none c q Deeper T ds e = metered_none Depth Nested (blocked is_deep (at T c) q) (blocked is_deep T (c ++ q)) ds (blocked_within is_deep c q T) e
  opens_none c q (Framed o back) T ds e = absurd (not_both e refl)

  -- whatever a wrap undoes is one of these
  pub any_close : (P : What O → Type 0) (b : Wrap O) (m n : Option (Node O)) → P Unnested → P Seen → ((o : O) → P (Changed o)) → P (closes b m n)
  any_close P Deeper m n x y f = x
  any_close P (Framed o back) m n x y f = by (nat_lt (depth_of n) (depth_of m)) n
    where
      by : (t : Bool) (n : Option (Node O)) → P (brought_back t back n)
      by t None = y
      by true (Some n) = y
      by false (Some n) = f (back n.own)

  brought_seen : (q : Place) (t : Bool) (back : O → O) (n : Option (Node O)) → seen_what q (brought_back t back n) ≡ brought_back t back n
  brought_seen q t back None = refl
  brought_seen q true back (Some n) = refl
  brought_seen q false back (Some n) = refl

  pub closes_seen : (q : Place) (b : Wrap O) (m n : Option (Node O)) → seen_what q (closes b m n) ≡ closes b m n
  closes_seen q Deeper m n = refl
  closes_seen q (Framed o back) m n = brought_seen q (nat_lt (depth_of n) (depth_of m)) back n

  -- what a subtree is handed are words of a list
  pub listed_one : (p : Place) (x : What O) (gs : List Grant) → (hs : List Grant) × (granted p x (Listed gs) ≡ Listed hs)
  listed_one p Charged gs = (Allow ∷ gs, refl)
  listed_one p Nested gs = (Allow ∷ gs, refl)
  listed_one p (Refused m h) gs = go (rise_to h p)
    where
      go : (o : Option Place) → (hs : List Grant) × (denied o (Listed gs) ≡ Listed hs)
      go None = (Deny ∷ gs, refl)
      go (Some a) = (gs, refl)
  listed_one p _ gs = (gs, refl)

  pub listed : (τ : List (Event O)) → (gs : List Grant) × (grants_of τ ≡ Listed gs)
  listed [] = ([], refl)
  listed (ev ∷ τ) =
      let h : (gs : List Grant) × (grants_of τ ≡ Listed gs) = listed τ in
      let g : (hs : List Grant) × (granted ev.place ev.what (Listed h.0) ≡ Listed hs) = listed_one ev.place ev.what h.0 in
      (g.0, ap (granted ev.place ev.what) h.1 ∙ g.1)

pub spot_within : (c q : Place) (s : Option (List ℕ)) → spot (c ++ q) s ≡ c ++ spot q s
spot_within c q None = refl
spot_within c q (Some name) = append_assoc c q (name ∷ [])

module _ {O : Type 0} where
  -- a step in a subtree is a step of it
  pub step_within : (c q : Place) (x : What O) (w v : World O) → Step w (c ++ q) x v → Step (inside_of c w) q (seen_what q x) (inside_of c v)
  step_within c q x w v s =
      let e : view c w.tape ≡ record { place = q; what = seen_what q x } ∷ view c v.tape = ap (view c) s.tape ∙ ap (λ o. kept o (strip (c ++ q) c) x (view c v.tape)) (strip_own c q) in
      record {
        tape = e;
        tree = ap (λ T. at T c) s.tree ∙ effect_within c q x w.tree;
        moves = ap moves_of e;
        grants = ap grants_of e;
      }

  abbrev pub IsNoDrop : What O → Type 0
  IsNoDrop Dropped = Prim.⊥
  IsNoDrop _ = Unit {0}

  pub unseen : (b : Option Place) (x : What O) (τ : List (Event O)) → IsNoDrop x → from_above b x τ ≡ τ
  unseen (Some z) Dropped τ n = absurd n
  unseen b x τ n = refl

  from_above_beside : (c p : Place) (x : What O) (τ : List (Event O)) → IsBeside c p x → from_above (strip p c) x τ ≡ τ
  from_above_beside c p Dropped τ f = ap (λ o. from_above o Dropped τ) f
  from_above_beside c p x τ f = unseen (strip p c) x τ tt

  -- a step elsewhere is none
  pub step_apart : (c p : Place) (x : What O) (w v : World O) → Step w p x v → strip c p ≡ None → IsBeside c p x → inside_of c v ≡ inside_of c w
  step_apart c p x w v s e f =
      let t : view c v.tape ≡ view c w.tape = sym (ap (view c) s.tape ∙ ap (λ o. kept o (strip p c) x (view c v.tape)) e ∙ from_above_beside c p x (view c v.tape) f) in
      let d : at v.tree c ≡ at w.tree c = ap (λ T. at T c) s.tree ∙ effect_apart c p x w.tree e f in
      λ i. record { tree = d i; moves = moves_of (t i); grants = grants_of (t i); tape = t i }

  -- but the drop of what is above c
  pub step_fall : (c p z : Place) (w v : World O) → Step w p Dropped v → strip c p ≡ None → strip p c ≡ Some z → Step (inside_of c w) [] Dropped (inside_of c v)
  step_fall c p z w v s e f =
      let t : view c w.tape ≡ record { place = []; what = Dropped } ∷ view c v.tape =
      ap (view c) s.tape ∙ ap (λ o. kept o (strip p c) Dropped (view c v.tape)) e ∙ ap (λ o. from_above o Dropped (view c v.tape)) f in
      record {
        tape = t;
        tree = ap (λ T. at T c) s.tree ∙ effect_fall c p z w.tree f;
        moves = ap moves_of t;
        grants = ap grants_of t;
      }

  -- c is made or dropped
  abbrev pub IsLife : What O → Type 0
  IsLife (Made o s) = Unit {0}
  IsLife Dropped = Unit {0}
  IsLife _ = Prim.⊥

  pub metered_here : (m : Meter) (y : What O) (b : Option ℕ) (gs : Grants) (x : Deed O) → metered m y b gs ≡ Some x → x.0 ≡ None
  metered_here m y (Some n) gs x e = ap (λ z. z.0) (sym (Some-inj (None, Refused m (Some n), by_limit m n) e))
  metered_here m y None (Listed []) x e = absurd (not_both refl e)
  metered_here m y None (Listed (Allow ∷ gs)) x e = ap (λ z. z.0) (sym (Some-inj (None, y, On) e))
  metered_here m y None (Listed (Deny ∷ gs)) x e = ap (λ z. z.0) (sym (Some-inj (None, Refused m None, Off (Cut Above)) e))
  metered_here Count y None (Budget zero) x e = ap (λ z. z.0) (sym (Some-inj (None, Refused Count None, Off (Cut Over)) e))
  metered_here Count y None (Budget (suc n)) x e = ap (λ z. z.0) (sym (Some-inj (None, y, On) e))
  metered_here Depth y None (Budget n) x e = ap (λ z. z.0) (sym (Some-inj (None, y, On) e))

  changing_here : (o : O) (n : Option (Node O)) → (changing o n).0 ≡ None
  changing_here o None = refl
  changing_here o (Some n) = refl

  not_here : {A : Type 0} (y x : Deed O) (name : List ℕ) → y.0 ≡ None → Some y ≡ Some x → x.0 ≡ Some name → A
  not_here y x name g e f = absurd (not_both (ap (λ z. z.0) (sym (Some-inj y e)) ∙ g) f)

  making_life : (name : List ℕ) (o : O) (s : Bool) (parent n : Option (Node O)) (x : Deed O) (m : List ℕ) → Some (making name o s parent n) ≡ Some x → x.0 ≡ Some m → IsLife x.1
  making_life name o s None n x m e f = not_here (None, Seen, On) x m refl e f
  making_life name o s (Some p) None x m e f = subst (λ z. IsLife z.1) (Some-inj (Some name, Made o (either s p.safe), On) e) tt
  making_life name o s (Some p) (Some n) x m e f = not_here (None, Seen, On) x m refl e f

  dropping_life : (name : List ℕ) (n : Option (Node O)) (x : Deed O) (m : List ℕ) → Some (dropping name n) ≡ Some x → x.0 ≡ Some m → IsLife x.1
  dropping_life name None x m e f = not_here (None, Seen, On) x m refl e f
  dropping_life name (Some n) x m e f = subst (λ z. IsLife z.1) (Some-inj (Some name, Dropped, On) e) tt

  -- only making and dropping is done elsewhere than here
  pub elsewhere_life : (d : Act O) (T : Tree O) (p : Place) (gs : Grants) (x : Deed O) (name : List ℕ) → decide d T p gs ≡ Some x → x.0 ≡ Some name → IsLife x.1
  elsewhere_life Look T p gs x name e f = not_here (None, Seen, On) x name refl e f
  elsewhere_life (Change o) T p gs x name e f = not_here (changing o (T p)) x name (changing_here o (T p)) e f
  elsewhere_life Charge T p gs x name e f = absurd (not_both (metered_here Count Charged (blocked is_spent T p) gs x e) f)
  elsewhere_life (Limit l) T p gs x name e f = not_here (None, Limited l, On) x name refl e f
  elsewhere_life (LimitDepth l) T p gs x name e f = not_here (None, DepthLimited l, On) x name refl e f
  elsewhere_life (Make y o s) T p gs x name e f = making_life y o s (T p) (T (p ++ y ∷ [])) x name e f
  elsewhere_life (Drop y) T p gs x name e f = dropping_life y (T (p ++ y ∷ [])) x name e f

  -- a wrap is done here
  pub opens_here : (b : Wrap O) (T : Tree O) (p : Place) (gs : Grants) (x : Deed O) → opens b T p gs ≡ Some x → x.0 ≡ None
  opens_here Deeper T p gs x e = metered_here Depth Nested (blocked is_deep T p) gs x e
  opens_here (Framed o back) T p gs x e = ap (λ z. z.0) (sym (Some-inj (changing o (T p)) e)) ∙ changing_here o (T p)

-- a name's interpreter is where its own interpreter is, or its child
pub spot_in : (c p q : Place) (s : Option (List ℕ)) → strip c p ≡ Some q → strip c (spot p s) ≡ Some (spot q s)
spot_in c p q s e = ap (λ r. strip c (spot r s)) (strip-sound c p q e) ∙ ap (strip c) (spot_within c q s) ∙ strip_own c (spot q s)

-- whoever is reached stands there
pub reached_at : {O : Type 0} (n : Option (Node O)) (t p : Place) → where_stands n p ≡ Some t → t ≡ p
reached_at None t p e = absurd (not_both refl e)
reached_at (Some n) t p e = sym (Some-inj p e)

where_stood : {O : Type 0} (n : Option (Node O)) (t p : Place) → where_stands n p ≡ Some t → (m : Node O) × (n ≡ Some m)
where_stood None t p e = absurd (not_both refl e)
where_stood (Some n) t p e = (n, refl)

pub reached_stands : {O : Type 0} (T : Tree O) (a down t : Place) → reached T a down ≡ Some t → (m : Node O) × (T t ≡ Some m)
reached_stands T a down t e =
    let h = where_stood (T (a ++ down)) t (a ++ down) e in
    (h.0, ap T (reached_at (T (a ++ down)) t (a ++ down) e) ∙ h.1)

-- a budget says nothing more where it refuses
pub denied_budget : (o : Option Place) (n : ℕ) → denied o (Budget n) ≡ Budget n
denied_budget None n = refl
denied_budget (Some a) n = refl
