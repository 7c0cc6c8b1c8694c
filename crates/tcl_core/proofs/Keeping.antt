-- What each happening keeps, each run keeps.
use Rattle.std.proofs.Common.{Bool, true, false, refl, ◌≡◌, ℕ, zero, suc, ℤ, List, [], ◌∷◌, ◌++◌, Option, Some, None, length, sym, subst}
use Rattle.tcl_core.specs.Paths.{Place}
use Rattle.tcl_core.specs.Endings.{Meter}
use Rattle.tcl_core.specs.Endings.Meter.{Count, Depth}
use Rattle.tcl_core.specs.Endings.Reply.{Completed, Exit, Cut}
use Rattle.tcl_core.specs.Endings.Cause.{Above, Over}
use Rattle.tcl_core.specs.Entries.Answer.{Replied, Heard, Nobody}
use Rattle.tcl_core.specs.Trees.{Grants, Tree, Node, What, Move}
use Rattle.tcl_core.specs.Trees.Grant.{Allow, Deny}
use Rattle.tcl_core.specs.Trees.Grants.{Listed, Budget}
use Rattle.tcl_core.specs.Trees.Move.{Born, Fall, Enter, Come}
use Rattle.tcl_core.specs.Trees.What.{Seen, Charged, Refused, Nested, Limited, DepthLimited, Made, Dropped, Out, In, Done, Back, Unfound}
use Rattle.tcl_core.specs.Programs.{Act, Wrap, Deed, Wait, Prog, Table, spot, decide, opens, closes, changing, making, dropping, metered, by_limit, blocked, is_spent, is_deep}
use Rattle.tcl_core.specs.Programs.Next.{On, Off}
use Rattle.tcl_core.specs.Programs.Act.{Look, Change, Charge, Limit, LimitDepth, Make, Drop}
use Rattle.tcl_core.specs.Programs.Wrap.{Deeper, Framed}
use Rattle.tcl_core.specs.Runs.{World, Step, Ending, Exits, Exiting, Halts, Runs, ends_call, height_of}
use Rattle.tcl_core.specs.Rules.{Derives}
use Rattle.tcl_core.specs.Rules.Derives.{completed, exited, acted, refused, unheard, went, passed, halted, wrapped, wrapped_passed, wrapped_halted, too_deep, shut, unheard_inside, called, called_passed, called_halted, unreached, called_out, unanswered, unfit, answered, heard, missed, answered_passed, entered, entered_halted, entered_exiting, born, fallen, unfound}
use Rattle.tcl_core.specs.Views.{IsFree, IsDue}
use Rattle.tcl_core.proofs.PathLaws.{not_both, Some-inj}
use Rattle.tcl_core.proofs.RuleLaws.{runs_derived}
use Rattle.tcl_core.proofs.TreeLaws.{any_close}

module _ {O : Type 0} where
  due_of : (T : Tree O) (p : Place) (y x : Deed O) → IsDue T (spot p y.0) y.1 → Some y ≡ Some x → IsDue T (spot p x.0) x.1
  due_of T p y x d e = subst (λ z. IsDue T (spot p z.0) z.1) (Some-inj y e) d

  metered_due : (full : Node O → Bool) (T : Tree O) (p : Place) (m : Meter) (y : What O) (gs : Grants) (x : Deed O) → (blocked full T p ≡ None → IsDue T p y) → (b : Option ℕ) → blocked full T p ≡ b → metered m y b gs ≡ Some x → IsDue T (spot p x.0) x.1
  metered_due full T p m y gs x f (Some n) e d = due_of T p (None, Refused m (Some n), by_limit m n) x tt d
  metered_due full T p m y (Listed []) x f None e d = absurd (not_both refl d)
  metered_due full T p m y (Listed (Allow ∷ gs)) x f None e d = due_of T p (None, y, On) x (f e) d
  metered_due full T p m y (Listed (Deny ∷ gs)) x f None e d = due_of T p (None, Refused m None, Off (Cut Above)) x tt d
  metered_due full T p Count y (Budget zero) x f None e d = due_of T p (None, Refused Count None, Off (Cut Over)) x tt d
  metered_due full T p Count y (Budget (suc n)) x f None e d = due_of T p (None, y, On) x (f e) d
  metered_due full T p Depth y (Budget n) x f None e d = due_of T p (None, y, On) x (f e) d

  changing_due : (T : Tree O) (p : Place) (o : O) (n : Option (Node O)) → IsDue T (spot p (changing o n).0) (changing o n).1
  changing_due T p o None = tt
  changing_due T p o (Some n) = tt

  free_at : (T : Tree O) (p : Place) (name : List ℕ) → T (p ++ name ∷ []) ≡ None → IsFree T (p ++ name ∷ [])
  free_at T [] name e = e
  free_at T (x ∷ p) name e = e

  making_due : (T : Tree O) (p : Place) (name : List ℕ) (o : O) (s : Bool) (parent n : Option (Node O)) → T (p ++ name ∷ []) ≡ n → IsDue T (spot p (making name o s parent n).0) (making name o s parent n).1
  making_due T p name o s None n e = tt
  making_due T p name o s (Some m) None e = free_at T p name e
  making_due T p name o s (Some m) (Some n) e = tt

  dropping_due : (T : Tree O) (p : Place) (name : List ℕ) (n : Option (Node O)) → IsDue T (spot p (dropping name n).0) (dropping name n).1
  dropping_due T p name None = tt
  dropping_due T p name (Some n) = tt

  -- an act is done only where it is due
  pub decide_due : (d : Act O) (T : Tree O) (p : Place) (gs : Grants) (x : Deed O) → decide d T p gs ≡ Some x → IsDue T (spot p x.0) x.1
  decide_due Look T p gs x e = due_of T p (None, Seen, On) x tt e
  decide_due (Change o) T p gs x e = due_of T p (changing o (T p)) x (changing_due T p o (T p)) e
  decide_due Charge T p gs x e = metered_due is_spent T p Count Charged gs x (λ e. e) (blocked is_spent T p) refl e
  decide_due (Limit l) T p gs x e = due_of T p (None, Limited l, On) x tt e
  decide_due (LimitDepth l) T p gs x e = due_of T p (None, DepthLimited l, On) x tt e
  decide_due (Make name o s) T p gs x e = due_of T p (making name o s (T p) (T (p ++ name ∷ []))) x (making_due T p name o s (T p) (T (p ++ name ∷ [])) refl) e
  decide_due (Drop name) T p gs x e = due_of T p (dropping name (T (p ++ name ∷ []))) x (dropping_due T p name (T (p ++ name ∷ []))) e

  pub opens_due : (b : Wrap O) (T : Tree O) (p : Place) (gs : Grants) (x : Deed O) → opens b T p gs ≡ Some x → IsDue T (spot p x.0) x.1
  opens_due Deeper T p gs x e = metered_due is_deep T p Depth Nested gs x (λ e. e) (blocked is_deep T p) refl e
  opens_due (Framed o back) T p gs x e = due_of T p (changing o (T p)) x (changing_due T p o (T p)) e

  pub closes_due : (b : Wrap O) (T : Tree O) (p : Place) (m n : Option (Node O)) → IsDue T p (closes b m n)
  closes_due b T p m n = any_close (IsDue T p) b m n tt tt (λ o. tt)

  -- ANY INVARIANT: what each happening keeps, each run keeps
  abbrev pub KeepsSteps : (World O → Type 0) → Type 0
  KeepsSteps P = (w : World O) (p : Place) (x : What O) (v : World O) → IsDue w.tree p x → Step w p x v → P w → P v

  pub exits_keep : (P : World O → Type 0) → KeepsSteps P → (w : World O) (p : Place) (s : Wait) (n : ℤ) (ms : List (Move O)) (v : World O) (e : Ending) → Exits w p s n ms v e → P w → P v
  exits_keep P t w p s n ms v e a b = by ms a
    where
      halt : Halts w v e → P v
      halt x = subst P (sym x.same) b

      back : (l : Bool) → Exiting w p s n l v e → P v
      back false x = halt x
      back true x = t w p (Back (height_of s) (Replied (Exit n))) v tt x.0 b

      by : (ms : List (Move O)) → Exits w p s n ms v e → P v
      by [] x = halt x
      by (Come y ∷ ms) x = back (ends_call s n y) x
      by (Born o l ∷ ms) x = halt x
      by (Fall ∷ ms) x = halt x
      by (Enter u i ∷ ms) x = halt x

module _ {O I : Type 0} (P : World O → Type 0) (t : KeepsSteps P) (prog : Table O I) where
  pub derived_keep : {w : World O} {p : Place} {x : Prog O I} {v : World O} {e : Ending} → Derives prog w p x v e → P w → P v
  derived_keep (completed w p c) b = b
  derived_keep (exited w p n) b = b
  derived_keep (acted w p d k x u v e g on s a) b = derived_keep a (t w (spot p x.0) x.1 u (decide_due d w.tree p w.grants x g) s b)
  derived_keep (refused w p d k x r u g off s) b = t w (spot p x.0) x.1 u (decide_due d w.tree p w.grants x g) s b
  derived_keep (unheard w p d k g z) b = b
  derived_keep (went w p i k u c v e a d) b = derived_keep d (derived_keep a b)
  derived_keep (passed w p i k u r q a) b = derived_keep a b
  derived_keep (halted w p i k u a) b = derived_keep a b
  derived_keep (wrapped w p l i k x inner left closed v c e g on s a z d) b =
      derived_keep d (t left p (closes l (inner.tree p) (left.tree p)) closed (closes_due l left.tree p (inner.tree p) (left.tree p)) z (derived_keep a (t w (spot p x.0) x.1 inner (opens_due l w.tree p w.grants x g) s b)))
  derived_keep (wrapped_passed w p l i k x inner left closed r q g on s a z) b =
      t left p (closes l (inner.tree p) (left.tree p)) closed (closes_due l left.tree p (inner.tree p) (left.tree p)) z (derived_keep a (t w (spot p x.0) x.1 inner (opens_due l w.tree p w.grants x g) s b))
  derived_keep (wrapped_halted w p l i k x inner left g on s a) b = derived_keep a (t w (spot p x.0) x.1 inner (opens_due l w.tree p w.grants x g) s b)
  derived_keep (too_deep w p l i k x u v e g deep s a) b = derived_keep a (t w (spot p x.0) x.1 u (opens_due l w.tree p w.grants x g) s b)
  derived_keep (shut w p l i k x r u g off s) b = t w (spot p x.0) x.1 u (opens_due l w.tree p w.grants x g) s b
  derived_keep (unheard_inside w p l i k g z) b = b
  derived_keep (called w p h down i lost k a y out inner left told back v r c e f s1 g s2 x s3 j s4 z) b =
      derived_keep z (t told p (Back h _) back tt s4 (t left y (Done (Some (length down)) r) told tt s3 (derived_keep x (t out y (In (Some (length down)) i) inner tt s2 (t w p (Out h down i) out tt s1 b)))))
  derived_keep (called_passed w p h down i lost k a y out inner left told back r f s1 g s2 x s3 q s4) b =
      t told p (Back h _) back tt s4 (t left y (Done (Some (length down)) r) told tt s3 (derived_keep x (t out y (In (Some (length down)) i) inner tt s2 (t w p (Out h down i) out tt s1 b))))
  derived_keep (called_halted w p h down i lost k a y out inner left f s1 g s2 x) b = derived_keep x (t out y (In (Some (length down)) i) inner tt s2 (t w p (Out h down i) out tt s1 b))
  derived_keep (unreached w p h down i lost k a out back v e f s1 g s2 x) b = derived_keep x (t out p (Back h (Replied (Completed lost))) back tt s2 (t w p (Out h down i) out tt s1 b))
  derived_keep (called_out w p h down i lost k u v e f s a) b = derived_keep a (t w p (Out h down i) u tt s b)
  derived_keep (unanswered w p s k f m z) b = b
  derived_keep (unfit w p s k m ms f g h z) b = b
  derived_keep (answered w p s k c u v e f g z a) b = derived_keep a (t w p (Back (height_of s) (Replied (Completed c))) u tt z b)
  derived_keep (heard w p s k y u v e f g z a) b = derived_keep a (t w p (Back (height_of s) (Heard y)) u tt z b)
  derived_keep (missed w p s k u v e f g z a) b = derived_keep a (t w p (Back (height_of s) Nobody) u tt z b)
  derived_keep (answered_passed w p s k r u q f g z) b = t w p (Back (height_of s) (Replied r)) u tt z b
  derived_keep (entered w p s k y i inner left told v r e f here s1 a s2 n d) b =
      derived_keep d (t left y (Done None r) told tt s2 (derived_keep a (t w y (In None i) inner tt s1 b)))
  derived_keep (entered_halted w p s k y i inner left f here s1 a) b = derived_keep a (t w y (In None i) inner tt s1 b)
  derived_keep (entered_exiting w p s k y i inner left told v n e f here s1 a s2 d) b =
      exits_keep P t told p s n told.moves v e d (t left y (Done None (Exit n)) told tt s2 (derived_keep a (t w y (In None i) inner tt s1 b)))
  derived_keep (born w p s k o l u v e f z a) b = derived_keep a (t w [] (Made o l) u tt z b)
  derived_keep (fallen w p s k u v e f z a) b = derived_keep a (t w [] Dropped u tt z b)
  derived_keep (unfound w p s k y i u v e f here z a) b = derived_keep a (t w [] (Unfound y i (prog.lost y)) u tt z b)

  pub runs_keep : (w : World O) (p : Place) (x : Prog O I) (v : World O) (e : Ending) → Runs prog w p x v e → P w → P v
  runs_keep w p x v e a b = derived_keep (runs_derived prog w p x v e a) b
