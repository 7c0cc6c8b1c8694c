-- Safe interpreters, and their limits.
use Rattle.std.proofs.Common.{◌≡◌, ℕ, ◌≤◌, ◌+◌, Bool, List, [], ◌++◌, Option, Some, None, refl, sym, ◌∙◌, ap, subst, append-nil, arith}
use Rattle.tcl_core.specs.Endings.{Reply}
use Rattle.tcl_core.specs.Entries.{Entry}
use Rattle.tcl_core.specs.Laws.{AreFree, ArePlain, AsLimited, AsksNothing, IsLowering, IsNoRequest, IsSafeAt, IsSafeBelow, IsStanding, Unasked}
use Rattle.tcl_core.specs.Lives.{count_at, idle, limit_at, never}
use Rattle.tcl_core.specs.Paths.{Path, Place}
use Rattle.tcl_core.specs.Programs.{Table, Wait}
use Rattle.tcl_core.specs.Programs.Prog.{wait}
use Rattle.tcl_core.specs.Tables.{Keeps_to, exposes, hostless, unlimiting}
use Rattle.tcl_core.specs.Execution.{before}
use Rattle.tcl_core.specs.Trees.{Event, Node, Tree, at}
use Rattle.tcl_core.specs.Views.{moves_of, steps_of, view}
use Rattle.tcl_core.proofs.Counts.{counting, limiting}
use Rattle.tcl_core.proofs.Safeguards.{limits_kept, no_requests}
use Rattle.tcl_isolation.specs.Limits.{AreLowering}
use Rattle.tcl_isolation.specs.Visits.{IsBelowTheTop}
use Rattle.tcl_isolation.proofs.Lowering.{Rules, lowering}
use Rattle.tcl_isolation.proofs.Records.{Pointwise, all_past, keeps_top}
use Rattle.tcl_isolation.proofs.Watching.{Watched, found, lasts, life, remains, same_moves, seen, stands, tape}

asking : (O : Type 0) → Pointwise {O = O} (λ p x. IsNoRequest x) AsksNothing
asking O = record { none = tt; more = λ ev τ f g. (f, g); first = λ ev τ f. f.0; later = λ ev τ f. f.1 }

module _ {O I S : Type 0} (goes : Tree O → S → Wait → Event O → S → Type 0) (prog : Table O I) (T V : Tree O) (o z : S) (t : Path) (i : Entry) (c : Place) (crossings : List (Event O)) (r : Reply) where
  abbrev One : Type 0
  One = Watched goes prog T V o z t i c crossings r

  abbrev whole : One → List (Event O)
  whole w = tape goes prog T V o z t i c crossings r w

  pub asks_nothing : (plain : O → Bool) (fine : I → Bool) → Keeps_to (hostless plain fine) prog → One → IsBelowTheTop c → IsSafeBelow T → IsSafeAt T c → ArePlain plain (at T c) → AreFree exposes (moves_of crossings) → AsksNothing crossings
  asks_nothing plain fine all w f s a p m =
      let free : AreFree exposes (moves_of (seen goes prog T V o z t i c crossings r w)) = subst (AreFree exposes) (same_moves goes prog T V o z t i c crossings r w a.0 f a.1) m in
      let none : AsksNothing (seen goes prog T V o z t i c crossings r w) =
      no_requests plain fine prog all c (before T (whole w)) (before V []) t i r w.visits refl refl (lasts goes prog T V o z t i c crossings r w a.0 f a.1) s a p free in
      subst AsksNothing (sym w.recorded) (all_past (λ p x. IsNoRequest x) AsksNothing (asking O) (seen goes prog T V o z t i c crossings r w) (found goes prog T V o z t i c crossings r w f) none)

  abbrev SameLimits : Node O → Option (Node O) → Type 0
  SameLimits n o = (m : Node O) × (o ≡ Some m) × (m.limit ≡ n.limit) × (m.depth_limit ≡ n.depth_limit)

  pub limits_stay : (fine : I → Bool) → ((limited : Place → Bool) → Keeps_to (unlimiting fine limited) prog) → (w : One) → IsBelowTheTop c → IsSafeBelow T → IsSafeAt T c → (q : Place) → Unasked q (moves_of crossings) →
      AsLimited (T (c ++ q)) (V (c ++ q)) × ((n : Node O) → T (c ++ q) ≡ Some n → IsStanding (c ++ q) (whole w) → SameLimits n (V (c ++ q)))
  limits_stay fine all w f s a q u =
      let free : Unasked q (moves_of (seen goes prog T V o z t i c crossings r w)) = subst (Unasked q) (same_moves goes prog T V o z t i c crossings r w a.0 f a.1) u in
      limits_kept fine prog all c (before T (whole w)) (before V []) t i r w.visits refl refl (lasts goes prog T V o z t i c crossings r w a.0 f a.1) s a q free

  -- the watched interpreter's own limits
  pub own_limits : (fine : I → Bool) → ((limited : Place → Bool) → Keeps_to (unlimiting fine limited) prog) → One → IsBelowTheTop c → IsSafeBelow T → IsSafeAt T c → Unasked [] (moves_of crossings) → (n : Node O) → T c ≡ Some n → SameLimits n (V c)
  own_limits fine all w f s a u n e =
      let h = limits_stay fine all w f s a [] u in
      let at_top : T (c ++ []) ≡ Some n = ap T (append-nil c) ∙ e in
      let there : IsStanding (c ++ []) (whole w) = subst (λ d. IsStanding d (whole w)) (sym (append-nil c)) (stands goes prog T V o z t i c crossings r w n f e) in
      let m = h.1 n at_top there in
      (m.0, ap V (sym (append-nil c)) ∙ m.1, m.2, m.3)

  pub counts : (w : One) (n : Node O) → IsBelowTheTop c → T c ≡ Some n → count_at (V c) ≡ n.count + steps_of (view c (whole w))
  counts w n f e =
      let a : (y : Node O) × (V c ≡ Some y) × (y.count + steps_of (view {O = O} c []) ≡ n.count + steps_of (view c (whole w))) =
      counting prog c [] (before T (whole w)) (wait idle never) (before V []) None n (life goes prog T V o z t i c crossings r w) (lasts goes prog T V o z t i c crossings r w n f e) e in
      let b : count_at (V c) ≡ a.0.count = ap count_at a.1 in
      let s : a.0.count + 0 ≡ n.count + steps_of (view c (whole w)) = a.2 in
      omega arith

  -- the count, and the limit that is left
  abbrev pub Within : ℕ → ℕ → Type 0
  Within l b = (count_at (V c) ≤ b) × ((k : ℕ) × (limit_at (V c) ≡ Some k) × (k ≤ l))

  pub within_limit : (w : One) (n : Node O) (l b : ℕ) → IsBelowTheTop c → T c ≡ Some n → IsLowering l c (whole w) → n.limit ≡ Some l → l ≤ b → n.count ≤ b → Within l b
  within_limit w n l b f e low g lb nb =
      let h : (m : Node O) × (k : ℕ) × (V c ≡ Some m) × (m.limit ≡ Some k) × (k ≤ l) × (m.count ≤ b) =
      limiting prog c [] (before T (whole w)) (wait idle never) (before V []) None n l b (life goes prog T V o z t i c crossings r w) (lasts goes prog T V o z t i c crossings r w n f e) low e g lb nb in
      (subst (λ x. x ≤ b) (sym (ap count_at h.2)) h.5, (h.1, ap limit_at h.2 ∙ h.3, h.4))

  pub all_lowering : (fine : I → Bool) → Rules fine prog → (w : One) (n : Node O) (l : ℕ) → IsBelowTheTop c → T c ≡ Some n → AreLowering l (moves_of crossings) → IsLowering l c (whole w)
  all_lowering fine all w n l f e m =
      let low : AreLowering l (moves_of (seen goes prog T V o z t i c crossings r w)) = subst (AreLowering l) (same_moves goes prog T V o z t i c crossings r w n f e) m in
      lowering prog fine all l c (before T (whole w)) (before V []) (life goes prog T V o z t i c crossings r w) refl low
      (keeps_top (seen goes prog T V o z t i c crossings r w) (remains goes prog T V o z t i c crossings r w n f e))
