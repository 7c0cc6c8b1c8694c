-- After a refusal from outside nothing is told to the outside before an entry has ended by it.
use Rattle.std.proofs.Common.{sym, ◌≡◌, ◌⊎◌, inl, inr, ℕ, ℤ, suc, Bool, true, false, zero, List, [], ◌∷◌, ◌++◌, Option, Some, None, length, refl, ◌∙◌, ap, subst}
use Rattle.tcl_core.specs.Paths.{Path, Place, Height, rise_to}
use Rattle.tcl_core.specs.Endings.{Meter, Completion, Reply, Cause}
use Rattle.tcl_core.specs.Endings.Meter.{Count, Depth}
use Rattle.tcl_core.specs.Endings.Reply.{Completed, Stop, Exit, Cut}
use Rattle.tcl_core.specs.Entries.Answer.{Replied}
use Rattle.tcl_core.specs.Trees.{Grants, Tree, Node, What, Event, Move, depth_of}
use Rattle.tcl_core.specs.Trees.Grant.{Allow, Deny}
use Rattle.tcl_core.specs.Trees.Grants.{Listed, Budget}
use Rattle.tcl_core.specs.Trees.What.{Seen, Charged, Nested, Limited, DepthLimited, Refused, Out, Done, Back, Unfound}
use Rattle.tcl_core.specs.Trees.Move.{Born, Fall, Enter, Come}
use Rattle.tcl_core.specs.Programs.{Deed, spot, Act, Wrap, Wait, Next, Prog, Table, decide, opens, closes, changing, making, dropping, metered, by_limit, blocked, is_spent, is_deep}
use Rattle.tcl_core.specs.Programs.Act.{Look, Change, Charge, Limit, LimitDepth, Make, Drop}
use Rattle.tcl_core.specs.Endings.Cause.{Above, Over}
use Rattle.tcl_core.specs.Programs.Next.{On, TooDeep, Off}
use Rattle.tcl_core.specs.Programs.Wrap.{Deeper, Framed}
use Rattle.tcl_core.specs.Runs.{World, Step, Ending, Halts, Exits, Exiting, carried, reached, ends_call, height_of, gone}
use Rattle.tcl_core.specs.Rules.{Derives, IsOn}
use Rattle.tcl_core.specs.Rules.Derives.{completed, exited, acted, refused, unheard, went, passed, halted, wrapped, wrapped_passed, wrapped_halted, too_deep, shut, unheard_inside, called, called_passed, called_halted, unreached, called_out, unanswered, unfit, answered, heard, missed, answered_passed, entered, entered_halted, entered_exiting, born, fallen, unfound}
use Rattle.tcl_core.specs.Lives.{outs_of, put, told}
use Rattle.tcl_core.specs.Laws.{Unended, IsUnended}
use Rattle.tcl_core.proofs.PathLaws.{not_both, Some-inj, rise_back}
use Rattle.tcl_core.proofs.Stops.{changing_on, making_on, dropping_on}
use Rattle.tcl_core.specs.Lives.{Uncut}
use Rattle.tcl_core.proofs.Unended.{IsNoCut, decide_uncut, opens_uncut}
use Rattle.tcl_core.proofs.TreeLaws.{reached_at, any_close}
use Rattle.tcl_core.specs.Endings.Kind.{Full}

pub cut_or : (n : Next) → IsNoCut n ⊎ ((c : Cause) × (n ≡ Off (Cut c)))
cut_or On = inl tt
cut_or TooDeep = inl tt
cut_or (Off (Completed c)) = inl tt
cut_or (Off (Stop n m)) = inl tt
cut_or (Off (Exit n)) = inl tt
cut_or (Off (Cut c)) = inr (c, refl)

on_cut : {A : Type 0} (n : Next) (c : Cause) → IsOn n → n ≡ Off (Cut c) → A
on_cut n c f e = absurd (let g : IsOn (Off (Cut c)) = subst IsOn e f in g)

pub no_off : {A : Type 0} (r : Reply) → On ≡ Off r → A
no_off r e = absurd (bad e)
  where
    bad : On ≡ Off r → Prim.⊥
    bad f = cc

pub by_limit_fine : {A : Type 0} (m : Meter) (n : ℕ) (c : Cause) → by_limit m n ≡ Off (Cut c) → A
by_limit_fine Count n c e = absurd (bad e)
  where
    bad : Off (Stop n (Full Count)) ≡ Off (Cut c) → Prim.⊥
    bad f = cc
by_limit_fine Depth zero c e = absurd (bad e)
  where
    bad : TooDeep ≡ Off (Cut c) → Prim.⊥
    bad f = cc
by_limit_fine Depth (suc n) c e = absurd (bad e)
  where
    bad : Off (Stop (suc n) (Full Depth)) ≡ Off (Cut c) → Prim.⊥
    bad f = cc

abbrev where_out : Option Place → Type 0 → Type 0 → Type 0
where_out None a b = a
where_out (Some z) a b = b

-- what is cut off is told so
pub carried_is : (g : Option ℕ) (h : Height) (p : Place) (down : Path) (r : Reply) (c : Cause) → r ≡ Cut c → carried g h p down r ≡ Cut c
carried_is None h p down r c e = ap (carried None h p down) e
carried_is (Some g) h p down r c e = ap (carried (Some g) h p down) e

module _ {O : Type 0} where
  -- a refusal from outside
  abbrev pub IsRefusal : Place → What O → Type 0
  IsRefusal p (Refused m h) = rise_to h p ≡ None
  IsRefusal p x = Prim.⊥

  pub clash : {A : Type 0} (p : Place) (x : What O) → Uncut p x → IsRefusal p x → A
  clash p (Refused m h) f e = absurd (f e)
  clash p x f e = absurd e

  -- an act that comes to one is cut off
  pub refusal_cuts : (d : Act O) (T : Tree O) (p : Place) (gs : Grants) (x : Deed O) → decide d T p gs ≡ Some x → IsRefusal (spot p x.0) x.1 → (c : Cause) × (x.2 ≡ Off (Cut c))
  refusal_cuts d T p gs x e f = by (cut_or x.2)
    where
      by : IsNoCut x.2 ⊎ ((c : Cause) × (x.2 ≡ Off (Cut c))) → (c : Cause) × (x.2 ≡ Off (Cut c))
      by (inr g) = g
      by (inl g) = clash (spot p x.0) x.1 (decide_uncut d T p gs x e g) f

  pub refusal_shuts : (b : Wrap O) (T : Tree O) (p : Place) (gs : Grants) (x : Deed O) → opens b T p gs ≡ Some x → IsRefusal (spot p x.0) x.1 → (c : Cause) × (x.2 ≡ Off (Cut c))
  refusal_shuts b T p gs x e f = by (cut_or x.2)
    where
      by : IsNoCut x.2 ⊎ ((c : Cause) × (x.2 ≡ Off (Cut c))) → (c : Cause) × (x.2 ≡ Off (Cut c))
      by (inr g) = g
      by (inl g) = clash (spot p x.0) x.1 (opens_uncut b T p gs x e g) f

  -- and what is cut off is one
  off_of : (p : Place) (c : Cause) (y x : Deed O) → (y.2 ≡ Off (Cut c) → IsRefusal (spot p y.0) y.1) → Some y ≡ Some x → x.2 ≡ Off (Cut c) → IsRefusal (spot p x.0) x.1
  off_of p c y x f e = subst (λ z. z.2 ≡ Off (Cut c) → IsRefusal (spot p z.0) z.1) (Some-inj y e) f

  metered_refused : (p : Place) (m : Meter) (y : What O) (b : Option ℕ) (gs : Grants) (x : Deed O) (c : Cause) → metered m y b gs ≡ Some x → x.2 ≡ Off (Cut c) → IsRefusal (spot p x.0) x.1
  metered_refused p m y (Some n) gs x c e = off_of p c (None, Refused m (Some n), by_limit m n) x (λ f. by_limit_fine m n c f) e
  metered_refused p m y None (Listed []) x c e = absurd (not_both refl e)
  metered_refused p m y None (Listed (Allow ∷ gs)) x c e = off_of p c (None, y, On) x (λ f. no_off (Cut c) f) e
  metered_refused p m y None (Listed (Deny ∷ gs)) x c e = off_of p c (None, Refused m None, Off (Cut Above)) x (λ f. refl) e
  metered_refused p Count y None (Budget zero) x c e = off_of p c (None, Refused Count None, Off (Cut Over)) x (λ f. refl) e
  metered_refused p Count y None (Budget (suc n)) x c e = off_of p c (None, y, On) x (λ f. no_off (Cut c) f) e
  metered_refused p Depth y None (Budget n) x c e = off_of p c (None, y, On) x (λ f. no_off (Cut c) f) e

  on_refused : (p : Place) (c : Cause) (y x : Deed O) → y.2 ≡ On → Some y ≡ Some x → x.2 ≡ Off (Cut c) → IsRefusal (spot p x.0) x.1
  on_refused p c y x g e = off_of p c y x (λ f. no_off (Cut c) (sym g ∙ f)) e

  pub decide_refused : (d : Act O) (T : Tree O) (p : Place) (gs : Grants) (x : Deed O) (c : Cause) → decide d T p gs ≡ Some x → x.2 ≡ Off (Cut c) → IsRefusal (spot p x.0) x.1
  decide_refused Look T p gs x c e = on_refused p c (None, Seen, On) x refl e
  decide_refused (Change o) T p gs x c e = on_refused p c (changing o (T p)) x (changing_on p o (T p)) e
  decide_refused Charge T p gs x c e = metered_refused p Count Charged (blocked is_spent T p) gs x c e
  decide_refused (Limit l) T p gs x c e = on_refused p c (None, Limited l, On) x refl e
  decide_refused (LimitDepth l) T p gs x c e = on_refused p c (None, DepthLimited l, On) x refl e
  decide_refused (Make name o s) T p gs x c e = on_refused p c (making name o s (T p) (T (p ++ name ∷ []))) x (making_on p name o s (T p) (T (p ++ name ∷ []))) e
  decide_refused (Drop name) T p gs x c e = on_refused p c (dropping name (T (p ++ name ∷ []))) x (dropping_on p name (T (p ++ name ∷ []))) e

  pub opens_refused : (b : Wrap O) (T : Tree O) (p : Place) (gs : Grants) (x : Deed O) (c : Cause) → opens b T p gs ≡ Some x → x.2 ≡ Off (Cut c) → IsRefusal (spot p x.0) x.1
  opens_refused Deeper T p gs x c e = metered_refused p Depth Nested (blocked is_deep T p) gs x c e
  opens_refused (Framed o back) T p gs x c e = on_refused p c (changing o (T p)) x (changing_on p o (T p)) e

  abbrev pub hush : Place → What O → Type 0 → Type 0
  hush p (Done h (Cut c)) t = where_out (rise_to h p) (Unit {0}) t
  hush p (Done h r) t = where_out (rise_to h p) Prim.⊥ t
  hush p (Out h down i) t = where_out (rise_to h p) Prim.⊥ t
  hush p (Unfound t2 i c) t = Prim.⊥
  hush p x t = t

  -- nothing is told to the outside but that an entry is cut off
  abbrev pub Hushed : List (Event O) → Type 0
  Hushed [] = Unit {0}
  Hushed (ev ∷ τ) = hush ev.place ev.what (Hushed τ)

  -- and so it is after each refusal from outside
  abbrev pub Shuts : List (Event O) → Type 0
  Shuts [] = Unit {0}
  Shuts (ev ∷ τ) = (IsRefusal ev.place ev.what → Hushed τ) × Shuts τ

  abbrev Demand : Ending → World O → Type 0
  Demand e v = (c : Cause) → e ≡ Some (Cut c) → Hushed v.tape

  quiet : (w : World O) (p : Place) (x : What O) (u : World O) → Step w p x u → (IsRefusal p x → Hushed u.tape) → Shuts u.tape → Shuts w.tape
  quiet w p x u s f g = subst Shuts (sym s.tape) (f, g)

  closes_fine : {A : Type 0} (p : Place) (b : Wrap O) (m n : Option (Node O)) → IsRefusal p (closes b m n) → A
  closes_fine {A} p b m n = any_close (λ x. IsRefusal p x → A) b m n (λ f. absurd f) (λ f. absurd f) (λ o f. absurd f)

  hush_closes : (p : Place) (b : Wrap O) (m n : Option (Node O)) (t : Type 0) → t → hush p (closes b m n) t
  hush_closes p b m n t a = any_close (λ x. hush p x t) b m n a a (λ o. a)

  hushed : (w : World O) (p : Place) (x : What O) (u : World O) → Step w p x u → hush p x (Hushed u.tape) → Hushed w.tape
  hushed w p x u s f = subst Hushed (sym s.tape) f

  no_demand : (x : Completion) (v : World O) → Demand (Some (Completed x)) v
  no_demand x v c e = absurd (bad (Some-inj (Completed x) e))
    where
      bad : Completed x ≡ Cut c → Prim.⊥
      bad f = cc

  exit_demand : (n : ℤ) (v : World O) → Demand (Some (Exit n)) v
  exit_demand n v c e = absurd (bad (Some-inj (Exit n) e))
    where
      bad : Exit n ≡ Cut c → Prim.⊥
      bad f = cc

  none_demand : (v : World O) → Demand None v
  none_demand v c e = absurd (not_both refl e)

  within : (T : Tree O) (a t : Place) (down : Path) → reached T a down ≡ Some t → rise_to (Some (length down)) t ≡ Some a
  within T a t down e = subst (λ z. rise_to (Some (length down)) z ≡ Some a) (sym (reached_at (T (a ++ down)) t (a ++ down) e)) (rise_back a down)

  exits_shut : (w : World O) (p : Place) (s : Wait) (n : ℤ) (ms : List (Move O)) (v : World O) (e : Ending) → Exits w p s n ms v e → Shuts v.tape → Shuts w.tape
  exits_shut w p s n ms v e a h = by ms a
    where
      halt : Halts w v e → Shuts w.tape
      halt x = subst (λ u. Shuts u.tape) x.same h

      back : (l : Bool) → Exiting w p s n l v e → Shuts w.tape
      back false x = halt x
      back true x = quiet w p (Back (height_of s) (Replied (Exit n))) v x.0 (λ f. absurd f) h

      by : (ms : List (Move O)) → Exits w p s n ms v e → Shuts w.tape
      by [] x = halt x
      by (Come y ∷ ms) x = back (ends_call s n y) x
      by (Born o l ∷ ms) x = halt x
      by (Fall ∷ ms) x = halt x
      by (Enter u i ∷ ms) x = halt x

  cut_entry : (w : World O) (t : Place) (r : Reply) (u : World O) → Step w t (Done None r) u → Demand (Some r) w
  cut_entry w t r u s c e = hushed w t (Done None r) u s (subst (λ l. hush t (Done None l) (Hushed u.tape)) (sym (Some-inj r e)) tt)

hush_within : (O : Type 0) (p : Place) (h : Height) (r : Reply) (a : Place) (t : Type 0) → rise_to h p ≡ Some a → t → hush {O = O} p (Done h r) t
hush_within O p h (Completed c) a t e x = subst (λ o. where_out o Prim.⊥ t) (sym e) x
hush_within O p h (Stop n m) a t e x = subst (λ o. where_out o Prim.⊥ t) (sym e) x
hush_within O p h (Exit n) a t e x = subst (λ o. where_out o Prim.⊥ t) (sym e) x
hush_within O p h (Cut c) a t e x = subst (λ o. where_out o (Unit {0}) t) (sym e) x

module _ {O I : Type 0} (prog : Table O I) where
  act_on : (w : World O) (p : Place) (d : Act O) (x : Deed O) (u : World O) → decide d w.tree p w.grants ≡ Some x → IsOn x.2 → Step w (spot p x.0) x.1 u → Shuts u.tape → Shuts w.tape
  act_on w p d x u g on s h = quiet w (spot p x.0) x.1 u s (λ f. let z : (c : Cause) × (x.2 ≡ Off (Cut c)) = refusal_cuts d w.tree p w.grants x g f in on_cut x.2 z.0 on z.1) h

  open_on : (w : World O) (p : Place) (b : Wrap O) (x : Deed O) (u : World O) → opens b w.tree p w.grants ≡ Some x → IsOn x.2 → Step w (spot p x.0) x.1 u → Shuts u.tape → Shuts w.tape
  open_on w p b x u g on s h = quiet w (spot p x.0) x.1 u s (λ f. let z : (c : Cause) × (x.2 ≡ Off (Cut c)) = refusal_shuts b w.tree p w.grants x g f in on_cut x.2 z.0 on z.1) h

  off_as : (r : Reply) (n : Next) (c : Cause) → n ≡ Off r → n ≡ Off (Cut c) → Some r ≡ Some (Cut c)
  off_as r n c e f = let g : Off r ≡ Off (Cut c) = sym e ∙ f in cc

  close : (n : Option (Node O)) (w : World O) (p : Place) (b : Wrap O) (u : World O) → Step w p (closes b n (w.tree p)) u → Shuts u.tape → Shuts w.tape
  close n w p b u s h = quiet w p (closes b n (w.tree p)) u s (λ f. closes_fine p b n (w.tree p) f) h

  pub shutting : {w : World O} {p : Place} {x : Prog O I} {v : World O} {e : Ending} → Derives prog w p x v e → Demand e v → Shuts v.tape → Shuts w.tape
  shutting (completed w p y) d h = h
  shutting (exited w p n) d h = h
  shutting (acted w p y k x u v e g on s a) d h = act_on w p y x u g on s (shutting a d h)
  shutting (refused w p y k x r u g off s) d h = quiet w (spot p x.0) x.1 u s (λ f. let z : (c : Cause) × (x.2 ≡ Off (Cut c)) = refusal_cuts y w.tree p w.grants x g f in d z.0 (off_as r x.2 z.0 off z.1)) h
  shutting (unheard w p y k g t) d h = h
  shutting (went w p i k u y v e a b) d h = shutting a (no_demand y u) (shutting b d h)
  shutting (passed w p i k u r q a) d h = shutting a d h
  shutting (halted w p i k u a) d h = shutting a d h
  shutting (wrapped w p b i k x inner left closed v y e g on s a t z) d h =
      open_on w p b x inner g (subst IsOn (sym on) tt) s (shutting a (no_demand y left) (close (inner.tree p) left p b closed t (shutting z d h)))
  shutting (wrapped_passed w p b i k x inner left closed r q g on s a t) d h =
      open_on w p b x inner g (subst IsOn (sym on) tt) s
      (shutting a (λ c f. hushed left p (closes b (inner.tree p) (left.tree p)) closed t (hush_closes p b (inner.tree p) (left.tree p) (Hushed closed.tape) (d c f))) (close (inner.tree p) left p b closed t h))
  shutting (wrapped_halted w p b i k x inner left g on s a) d h = open_on w p b x inner g (subst IsOn (sym on) tt) s (shutting a d h)
  shutting (too_deep w p b i k x u v e g deep s a) d h = open_on w p b x u g (subst IsOn (sym deep) tt) s (shutting a d h)
  shutting (shut w p b i k x r u g off s) d h = quiet w (spot p x.0) x.1 u s (λ f. let z : (c : Cause) × (x.2 ≡ Off (Cut c)) = refusal_shuts b w.tree p w.grants x g f in d z.0 (off_as r x.2 z.0 off z.1)) h
  shutting (unheard_inside w p b i k g t) d h = h
  shutting (called w p h down i lost k a t out inner left told back v r y e g s1 j s2 x s3 so s4 b) d f =
      quiet w p _ out s1 (λ z. absurd z) (quiet out t _ inner s2 (λ z. absurd z)
      (shutting x (λ c z. no_demand y left c (ap Some (sym so ∙ carried_is (gone (depth_of (out.tree p)) told.tree p) h p down r c (Some-inj r z))))
      (quiet left t _ told s3 (λ z. absurd z) (quiet told p _ back s4 (λ z. absurd z) (shutting b d f)))))
  shutting (called_passed w p h down i lost k a t out inner left told back r g s1 j s2 x s3 q s4) d f =
      quiet w p _ out s1 (λ z. absurd z) (quiet out t _ inner s2 (λ z. absurd z)
      (shutting x (λ c z. hushed left t _ told s3 (hush_within O t (Some (length down)) r a (Hushed told.tape) (within out.tree a t down j) (hushed told p _ back s4 (d c (ap Some (carried_is (gone (depth_of (out.tree p)) told.tree p) h p down r c (Some-inj r z)))))))
      (quiet left t _ told s3 (λ z. absurd z) (quiet told p _ back s4 (λ z. absurd z) f))))
  shutting (called_halted w p h down i lost k a t out inner left g s1 j s2 x) d f = quiet w p _ out s1 (λ z. absurd z) (quiet out t _ inner s2 (λ z. absurd z) (shutting x (none_demand left) f))
  shutting (unreached w p h down i lost k a out back v e g s1 j s2 x) d f = quiet w p _ out s1 (λ z. absurd z) (quiet out p _ back s2 (λ z. absurd z) (shutting x d f))
  shutting (called_out w p h down i lost k u v e g s a) d f = quiet w p _ u s (λ z. absurd z) (shutting a d f)
  shutting (unanswered w p s k g m t) d h = h
  shutting (unfit w p s k m ms g j l t) d h = h
  shutting (answered w p s k y u v e g j t a) d h = quiet w p _ u t (λ z. absurd z) (shutting a d h)
  shutting (heard w p s k y u v e g j t a) d h = quiet w p _ u t (λ z. absurd z) (shutting a d h)
  shutting (missed w p s k u v e g j t a) d h = quiet w p _ u t (λ z. absurd z) (shutting a d h)
  shutting (answered_passed w p s k r u q g j t) d h = quiet w p _ u t (λ z. absurd z) h
  shutting (entered w p s k t i inner left told v r e g here s1 a s2 n b) d h =
      quiet w t _ inner s1 (λ z. absurd z) (shutting a (cut_entry left t r told s2) (quiet left t _ told s2 (λ z. absurd z) (shutting b d h)))
  shutting (entered_halted w p s k t i inner left g here s1 a) d h = quiet w t _ inner s1 (λ z. absurd z) (shutting a (none_demand left) h)
  shutting (entered_exiting w p s k t i inner left told v n e g here s1 a s2 b) d h =
      quiet w t _ inner s1 (λ z. absurd z) (shutting a (exit_demand n left) (quiet left t _ told s2 (λ z. absurd z) (exits_shut told p s n told.moves v e b h)))
  shutting (born w p s k o b u v e g t a) d h = quiet w [] _ u t (λ z. absurd z) (shutting a d h)
  shutting (unfound w p s k t i u v e g here b a) d h = quiet w [] _ u b (λ z. absurd z) (shutting a d h)
  shutting (fallen w p s k u v e g t a) d h = quiet w [] _ u t (λ z. absurd z) (shutting a d h)

module _ {O : Type 0} where
  put_in : (o : Option Place) (p : Place) (x : What O) (τ : List (Event O)) (t : Type 0) → where_out o Prim.⊥ t → (t → τ ≡ []) → put o p x τ ≡ []
  put_in None p x τ t f g = absurd f
  put_in (Some a) p x τ t f g = g f

  cut_in : (o : Option Place) (p : Place) (x : What O) (τ : List (Event O)) (t : Type 0) → (o ≡ None → Prim.⊥) → where_out o (Unit {0}) t → (t → τ ≡ []) → put o p x τ ≡ []
  cut_in None p x τ t u f g = absurd (u refl)
  cut_in (Some a) p x τ t u f g = g f

  quiet_told : (p : Place) (x : What O) (τ : List (Event O)) (t : Type 0) → hush p x t → Unended p x → (t → τ ≡ []) → told p x τ ≡ []
  quiet_told p (Out h down i) τ t f u g = put_in (rise_to h p) p (Out h down i) τ t f g
  quiet_told p (Done h (Completed c)) τ t f u g = put_in (rise_to h p) p (Done h (Completed c)) τ t f g
  quiet_told p (Done h (Stop n m)) τ t f u g = put_in (rise_to h p) p (Done h (Stop n m)) τ t f g
  quiet_told p (Done h (Exit n)) τ t f u g = put_in (rise_to h p) p (Done h (Exit n)) τ t f g
  quiet_told p (Done h (Cut c)) τ t f u g = cut_in (rise_to h p) p (Done h (Cut c)) τ t u f g
  quiet_told p (Unfound t2 i c) τ t f u g = absurd f
  quiet_told p x τ t f u g = g f

  -- where nothing is ended from outside, nothing is told
  pub quiet_outs : (τ σ : List (Event O)) → Hushed (τ ++ σ) → IsUnended τ → outs_of τ ≡ []
  quiet_outs [] σ f u = refl
  quiet_outs (ev ∷ τ) σ f u = quiet_told ev.place ev.what (outs_of τ) (Hushed (τ ++ σ)) f u.0 (λ h. quiet_outs τ σ h u.1)

  pub refusal_told : (p : Place) (x : What O) (τ : List (Event O)) → IsRefusal p x → told p x τ ≡ τ
  refusal_told p (Refused m h) τ f = refl
  refusal_told p x τ f = absurd f
