-- Where no entry is ended from outside, nothing is refused from there.
use Rattle.std.proofs.Common.{sym, ◌≡◌, ℕ, zero, suc, ℤ, Bool, true, false, List, [], ◌∷◌, ◌++◌, Option, Some, None, length, refl, subst}
use Rattle.tcl_core.specs.Paths.{Path, Place, Height}
use Rattle.tcl_core.specs.Endings.{Meter, Reply}
use Rattle.tcl_core.specs.Endings.Meter.{Count, Depth}
use Rattle.tcl_core.specs.Endings.Reply.{Completed, Stop, Exit, Cut}
use Rattle.tcl_core.specs.Endings.Cause.{Above, Over}
use Rattle.tcl_core.specs.Entries.{Answer}
use Rattle.tcl_core.specs.Entries.Answer.{Replied, Heard, Nobody}
use Rattle.tcl_core.specs.Trees.{Grants, Tree, Node, What, Move, depth_of}
use Rattle.tcl_core.specs.Trees.Grant.{Allow, Deny}
use Rattle.tcl_core.specs.Trees.Grants.{Listed, Budget}
use Rattle.tcl_core.specs.Trees.What.{Seen, Charged, Refused, Nested, Limited, DepthLimited, Done, Back}
use Rattle.tcl_core.specs.Trees.Move.{Born, Fall, Enter, Come}
use Rattle.tcl_core.specs.Programs.{Deed, spot, Act, Wrap, Wait, Next, Prog, Table, decide, opens, closes, changing, making, dropping, metered, by_limit, blocked, is_spent, is_deep}
use Rattle.tcl_core.specs.Programs.Next.{On, TooDeep, Off}
use Rattle.tcl_core.specs.Programs.Act.{Look, Change, Charge, Limit, LimitDepth, Make, Drop}
use Rattle.tcl_core.specs.Programs.Wrap.{Deeper, Framed}
use Rattle.tcl_core.specs.Runs.{World, Step, Ending, Halts, Exits, Exiting, carried, ends_call, height_of, gone}
use Rattle.tcl_core.specs.Rules.{Derives, IsOn}
use Rattle.tcl_core.specs.Rules.Derives.{completed, exited, acted, refused, unheard, went, passed, halted, wrapped, wrapped_passed, wrapped_halted, too_deep, shut, unheard_inside, called, called_passed, called_halted, unreached, called_out, unanswered, unfit, answered, heard, missed, answered_passed, entered, entered_halted, entered_exiting, born, fallen, unfound}
use Rattle.tcl_core.specs.Lives.{Uncut, IsUncut}
use Rattle.tcl_core.specs.Laws.{Unended, IsUnended}
use Rattle.tcl_core.proofs.PathLaws.{not_both, Some-inj, rise_some}
use Rattle.tcl_core.proofs.TreeLaws.{blocked_near, any_close}
use Rattle.tcl_core.proofs.Keeping.{KeepsSteps, derived_keep}

abbrev pub IsNoCut : Next → Type 0
IsNoCut (Off (Cut c)) = Prim.⊥
IsNoCut _ = Unit {0}

abbrev pub NotCut : Reply → Type 0
NotCut (Cut c) = Prim.⊥
NotCut _ = Unit {0}

abbrev NoCutEnd : Ending → Type 0
NoCutEnd None = Unit {0}
NoCutEnd (Some r) = NotCut r

pub on_no_cut : (n : Next) → IsOn n → IsNoCut n
on_no_cut On f = tt
on_no_cut TooDeep f = tt
on_no_cut (Off r) f = absurd f

pub off_no_cut : (n : Next) (r : Reply) → n ≡ Off r → NotCut r → IsNoCut n
off_no_cut n (Completed c) e f = subst IsNoCut (sym e) tt
off_no_cut n (Stop l m) e f = subst IsNoCut (sym e) tt
off_no_cut n (Exit l) e f = subst IsNoCut (sym e) tt
off_no_cut n (Cut c) e f = absurd f

done_uncut : (O : Type 0) (p : Place) (h : Height) (r : Reply) → Unended {O = O} p (Done h r) → Uncut {O = O} p (Done h r)
done_uncut O p h (Completed c) f = tt
done_uncut O p h (Stop n m) f = tt
done_uncut O p h (Exit n) f = tt
done_uncut O p h (Cut c) f = f

back_uncut : (O : Type 0) (p : Place) (h : Height) (y : Answer) → Unended {O = O} p (Back h y) → Uncut {O = O} p (Back h y)
back_uncut O p h (Heard x) f = tt
back_uncut O p h Nobody f = tt
back_uncut O p h (Replied (Completed c)) f = tt
back_uncut O p h (Replied (Stop n m)) f = tt
back_uncut O p h (Replied (Exit n)) f = tt
back_uncut O p h (Replied (Cut c)) f = f

module _ {O : Type 0} where
  of_deed : (p : Place) (y x : Deed O) → (IsNoCut y.2 → Uncut (spot p y.0) y.1) → Some y ≡ Some x → IsNoCut x.2 → Uncut (spot p x.0) x.1
  of_deed p y x f e = subst (λ z. IsNoCut z.2 → Uncut (spot p z.0) z.1) (Some-inj y e) f

  metered_uncut : (full : Node O → Bool) (T : Tree O) (p : Place) (m : Meter) (y : What O) (b : Option ℕ) (gs : Grants) (x : Deed O) → blocked full T p ≡ b → Uncut p y → metered m y b gs ≡ Some x → IsNoCut x.2 → Uncut (spot p x.0) x.1
  metered_uncut full T p m y (Some n) gs x h f e = of_deed p (None, Refused m (Some n), by_limit m n) x (λ c z. not_both z (rise_some p n (blocked_near full p T n h)).1) e
  metered_uncut full T p m y None (Listed []) x h f e = absurd (not_both refl e)
  metered_uncut full T p m y None (Listed (Allow ∷ gs)) x h f e = of_deed p (None, y, On) x (λ c. f) e
  metered_uncut full T p m y None (Listed (Deny ∷ gs)) x h f e = of_deed p (None, Refused m None, Off (Cut Above)) x (λ c. absurd c) e
  metered_uncut full T p Count y None (Budget zero) x h f e = of_deed p (None, Refused Count None, Off (Cut Over)) x (λ c. absurd c) e
  metered_uncut full T p Count y None (Budget (suc n)) x h f e = of_deed p (None, y, On) x (λ c. f) e
  metered_uncut full T p Depth y None (Budget n) x h f e = of_deed p (None, y, On) x (λ c. f) e

  changing_uncut : (p : Place) (o : O) (n : Option (Node O)) → Uncut (spot p (changing o n).0) (changing o n).1
  changing_uncut p o None = tt
  changing_uncut p o (Some n) = tt

  making_uncut : (p : Place) (name : List ℕ) (o : O) (s : Bool) (parent n : Option (Node O)) → Uncut (spot p (making name o s parent n).0) (making name o s parent n).1
  making_uncut p name o s None n = tt
  making_uncut p name o s (Some m) None = tt
  making_uncut p name o s (Some m) (Some n) = tt

  dropping_uncut : (p : Place) (name : List ℕ) (n : Option (Node O)) → Uncut (spot p (dropping name n).0) (dropping name n).1
  dropping_uncut p name None = tt
  dropping_uncut p name (Some n) = tt

  pub decide_uncut : (d : Act O) (T : Tree O) (p : Place) (gs : Grants) (x : Deed O) → decide d T p gs ≡ Some x → IsNoCut x.2 → Uncut (spot p x.0) x.1
  decide_uncut Look T p gs x e = of_deed p (None, Seen, On) x (λ c. tt) e
  decide_uncut (Change o) T p gs x e = of_deed p (changing o (T p)) x (λ c. changing_uncut p o (T p)) e
  decide_uncut Charge T p gs x e = metered_uncut is_spent T p Count Charged (blocked is_spent T p) gs x refl tt e
  decide_uncut (Limit l) T p gs x e = of_deed p (None, Limited l, On) x (λ c. tt) e
  decide_uncut (LimitDepth l) T p gs x e = of_deed p (None, DepthLimited l, On) x (λ c. tt) e
  decide_uncut (Make name o s) T p gs x e = of_deed p (making name o s (T p) (T (p ++ name ∷ []))) x (λ c. making_uncut p name o s (T p) (T (p ++ name ∷ []))) e
  decide_uncut (Drop name) T p gs x e = of_deed p (dropping name (T (p ++ name ∷ []))) x (λ c. dropping_uncut p name (T (p ++ name ∷ []))) e

  pub opens_uncut : (b : Wrap O) (T : Tree O) (p : Place) (gs : Grants) (x : Deed O) → opens b T p gs ≡ Some x → IsNoCut x.2 → Uncut (spot p x.0) x.1
  opens_uncut Deeper T p gs x e = metered_uncut is_deep T p Depth Nested (blocked is_deep T p) gs x refl tt e
  opens_uncut (Framed o back) T p gs x e = of_deed p (changing o (T p)) x (λ c. changing_uncut p o (T p)) e

  closes_uncut : (p : Place) (b : Wrap O) (m n : Option (Node O)) → Uncut p (closes b m n)
  closes_uncut p b m n = any_close (Uncut p) b m n tt tt (λ o. tt)

  before : (w : World O) (p : Place) (x : What O) (u : World O) → Step w p x u → Uncut p x → IsUncut u.tape → IsUncut w.tape
  before w p x u s f g = subst IsUncut (sym s.tape) (f, g)

  after : (w : World O) (p : Place) (x : What O) (u : World O) → Step w p x u → IsUnended w.tape → Unended p x × IsUnended u.tape
  after w p x u s f = subst IsUnended s.tape f

  pub unended_keep : KeepsSteps {O = O} (λ w. IsUnended w.tape)
  unended_keep w p x v due s f = (after w p x v s f).1

  exits_uncut : (w : World O) (p : Place) (s : Wait) (n : ℤ) (ms : List (Move O)) (v : World O) (e : Ending) → Exits w p s n ms v e → IsUncut v.tape → IsUncut w.tape
  exits_uncut w p s n ms v e a h = by ms a
    where
      halt : Halts w v e → IsUncut w.tape
      halt x = subst IsUncut (sym x.tape) tt

      back : (l : Bool) → Exiting w p s n l v e → IsUncut w.tape
      back false x = halt x
      back true x = before w p (Back (height_of s) (Replied (Exit n))) v x.0 tt h

      by : (ms : List (Move O)) → Exits w p s n ms v e → IsUncut w.tape
      by [] x = halt x
      by (Come y ∷ ms) x = back (ends_call s n y) x
      by (Born o l ∷ ms) x = halt x
      by (Fall ∷ ms) x = halt x
      by (Enter u i ∷ ms) x = halt x

-- a reply that isn't cut, as the caller is told it, wasn't
pub carried_cut : (g : Option ℕ) (h : Height) (p : Place) (down : Path) (r : Reply) → NotCut (carried g h p down r) → NotCut r
carried_cut g h p down (Completed c) f = tt
carried_cut g h p down (Stop n m) f = tt
carried_cut g h p down (Exit n) f = tt
carried_cut None h p down (Cut c) f = f
carried_cut (Some g) h p down (Cut c) f = f

-- an entry from outside that isn't ended from there isn't cut
entry_cut : (O : Type 0) (t : Place) (r : Reply) → Unended {O = O} t (Done None r) → NotCut r
entry_cut O t (Completed c) f = tt
entry_cut O t (Stop n m) f = tt
entry_cut O t (Exit n) f = tt
entry_cut O t (Cut c) f = f refl

module _ {O I : Type 0} (prog : Table O I) where
  rest_of : {w : World O} {p : Place} {x : Prog O I} {v : World O} {e : Ending} → Derives prog w p x v e → IsUnended w.tape → IsUnended v.tape
  rest_of a f = derived_keep (λ w. IsUnended w.tape) unended_keep prog a f

  pub uncut : {w : World O} {p : Place} {x : Prog O I} {v : World O} {e : Ending} → Derives prog w p x v e → IsUnended w.tape → NoCutEnd e → IsUncut v.tape → IsUncut w.tape
  uncut (completed w p y) f n h = h
  uncut (exited w p y) f n h = h
  uncut (acted w p d k x u v e g on s a) f n h = before w _ x.1 u s (decide_uncut d w.tree p w.grants x g (on_no_cut x.2 on)) (uncut a (after w _ x.1 u s f).1 n h)
  uncut (refused w p d k x r u g off s) f n h = before w _ x.1 u s (decide_uncut d w.tree p w.grants x g (off_no_cut x.2 r off n)) h
  uncut (unheard w p d k g t) f n h = h
  uncut (went w p i k u c v e a b) f n h = uncut a f tt (uncut b (rest_of a f) n h)
  uncut (passed w p i k u r q a) f n h = uncut a f n h
  uncut (halted w p i k u a) f n h = uncut a f n h
  uncut (wrapped w p b i k x inner left closed v c e g on s a t d) f n h =
      let f1 = (after w _ x.1 inner s f).1 in
      let f2 = rest_of a f1 in
      before w _ x.1 inner s (opens_uncut b w.tree p w.grants x g (on_no_cut x.2 (subst IsOn (sym on) tt)))
      (uncut a f1 tt (before left p _ closed t (closes_uncut p b (inner.tree p) (left.tree p)) (uncut d (after left p _ closed t f2).1 n h)))
  uncut (wrapped_passed w p b i k x inner left closed r q g on s a t) f n h =
      before w _ x.1 inner s (opens_uncut b w.tree p w.grants x g (on_no_cut x.2 (subst IsOn (sym on) tt)))
      (uncut a (after w _ x.1 inner s f).1 n (before left p _ closed t (closes_uncut p b (inner.tree p) (left.tree p)) h))
  uncut (wrapped_halted w p b i k x inner left g on s a) f n h =
      before w _ x.1 inner s (opens_uncut b w.tree p w.grants x g (on_no_cut x.2 (subst IsOn (sym on) tt))) (uncut a (after w _ x.1 inner s f).1 n h)
  uncut (too_deep w p b i k x u v e g deep s a) f n h =
      before w _ x.1 u s (opens_uncut b w.tree p w.grants x g (on_no_cut x.2 (subst IsOn (sym deep) tt))) (uncut a (after w _ x.1 u s f).1 n h)
  uncut (shut w p b i k x r u g off s) f n h = before w _ x.1 u s (opens_uncut b w.tree p w.grants x g (off_no_cut x.2 r off n)) h
  uncut (unheard_inside w p b i k g t) f n h = h
  uncut (called w p h down i lost k a t out inner left told back v r c e g s1 j s2 x s3 so s4 z) f n m =
      let f2 = (after out t _ inner s2 (after w p _ out s1 f).1).1 in
      let f3 = after left t _ told s3 (rest_of x f2) in
      let f4 = after told p _ back s4 f3.1 in
      before w p _ out s1 tt (before out t _ inner s2 tt (uncut x f2 (carried_cut (gone (depth_of (out.tree p)) told.tree p) h p down r (subst NotCut (sym so) tt))
      (before left t _ told s3 (done_uncut O t (Some (length down)) r f3.0) (before told p _ back s4 (back_uncut O p h (Replied (carried (gone (depth_of (out.tree p)) told.tree p) h p down r)) f4.0) (uncut z f4.1 n m)))))
  uncut (called_passed w p h down i lost k a t out inner left told back r g s1 j s2 x s3 q s4) f n m =
      let f2 = (after out t _ inner s2 (after w p _ out s1 f).1).1 in
      let f3 = after left t _ told s3 (rest_of x f2) in
      let f4 = after told p _ back s4 f3.1 in
      before w p _ out s1 tt (before out t _ inner s2 tt (uncut x f2 (carried_cut (gone (depth_of (out.tree p)) told.tree p) h p down r n)
      (before left t _ told s3 (done_uncut O t (Some (length down)) r f3.0) (before told p _ back s4 (back_uncut O p h (Replied (carried (gone (depth_of (out.tree p)) told.tree p) h p down r)) f4.0) m))))
  uncut (called_halted w p h down i lost k a t out inner left g s1 j s2 x) f n m =
      before w p _ out s1 tt (before out t _ inner s2 tt (uncut x (after out t _ inner s2 (after w p _ out s1 f).1).1 n m))
  uncut (unreached w p h down i lost k a out back v e g s1 j s2 x) f n m =
      let f2 = after out p _ back s2 (after w p _ out s1 f).1 in
      before w p _ out s1 tt (before out p _ back s2 (back_uncut O p h (Replied (Completed lost)) f2.0) (uncut x f2.1 n m))
  uncut (called_out w p h down i lost k u v e g s a) f n m = before w p _ u s tt (uncut a (after w p _ u s f).1 n m)
  uncut (unanswered w p s k g m t) f n h = h
  uncut (unfit w p s k m ms g j l t) f n h = h
  uncut (answered w p s k c u v e g j t a) f n h = before w p _ u t tt (uncut a (after w p _ u t f).1 n h)
  uncut (heard w p s k y u v e g j t a) f n h = before w p _ u t tt (uncut a (after w p _ u t f).1 n h)
  uncut (missed w p s k u v e g j t a) f n h = before w p _ u t tt (uncut a (after w p _ u t f).1 n h)
  uncut (answered_passed w p s k r u q g j t) f n h = before w p _ u t (back_uncut O p (height_of s) (Replied r) (after w p _ u t f).0) h
  uncut (entered w p s k t i inner left told v r e g here s1 a s2 q b) f n h =
      let f1 = (after w t _ inner s1 f).1 in
      let f2 = after left t _ told s2 (rest_of a f1) in
      before w t _ inner s1 tt (uncut a f1 (entry_cut O t r f2.0) (before left t _ told s2 (done_uncut O t None r f2.0) (uncut b f2.1 n h)))
  uncut (entered_halted w p s k t i inner left g here s1 a) f n h = before w t _ inner s1 tt (uncut a (after w t _ inner s1 f).1 n h)
  uncut (entered_exiting w p s k t i inner left told v y e g here s1 a s2 b) f n h =
      before w t _ inner s1 tt (uncut a (after w t _ inner s1 f).1 tt (before left t _ told s2 tt (exits_uncut told p s y told.moves v e b h)))
  uncut (born w p s k o b u v e g t a) f n h = before w [] _ u t tt (uncut a (after w [] _ u t f).1 n h)
  uncut (unfound w p s k t i u v e g here b a) f n h = before w [] _ u b tt (uncut a (after w [] _ u b f).1 n h)
  uncut (fallen w p s k u v e g t a) f n h = before w [] _ u t tt (uncut a (after w [] _ u t f).1 n h)
