-- What a discipline forbids does not happen.
use Rattle.tcl_core.proofs.Callers.{or_lost_all}
use Rattle.std.proofs.Common.{sym, ◌≡◌, inl, inr, ℕ, zero, suc, ℤ, Bool, true, false, List, [], ◌∷◌, ◌++◌, Option, Some, None, refl, ◌∙◌, ap, subst, nat_lt}
use Rattle.tcl_core.specs.Paths.{Path, Place, Height, strip, rise_to}
use Rattle.tcl_core.specs.Endings.{Meter}
use Rattle.tcl_core.specs.Endings.Meter.{Count, Depth}
use Rattle.tcl_core.specs.Endings.Reply.{Exit, Cut}
use Rattle.tcl_core.specs.Endings.Cause.{Above, Over}
use Rattle.tcl_core.specs.Entries.{Entry, Said}
use Rattle.tcl_core.specs.Entries.Answer.{Replied}
use Rattle.tcl_core.specs.Trees.{Grants, Tree, Node, What, Move, at, at_end, where_some, on_some, effect, with_own, with_limit, with_depth_limit, counted, deeper, shallower, fresh, asked, where_none, at_top, depth_of}
use Rattle.tcl_core.specs.Trees.Grant.{Allow, Deny}
use Rattle.tcl_core.specs.Trees.Grants.{Listed, Budget}
use Rattle.tcl_core.specs.Trees.What.{Seen, Changed, Charged, Refused, Nested, Unnested, Limited, DepthLimited, Made, Dropped, Out, In, Back, Unfound}
use Rattle.tcl_core.specs.Trees.Move.{Born, Fall, Enter, Come}
use Rattle.tcl_core.specs.Programs.{Deed, spot, Act, Wrap, Wait, Prog, Table, decide, opens, closes, changing, making, dropping, either, metered, by_limit, blocked, is_spent, is_deep, brought_back}
use Rattle.tcl_core.specs.Programs.Next.{On, Off}
use Rattle.tcl_core.specs.Programs.Act.{Look, Change, Charge, Limit, LimitDepth, Make, Drop}
use Rattle.tcl_core.specs.Programs.Wrap.{Deeper, Framed}
use Rattle.tcl_core.specs.Programs.Prog.{done, exit, act, go, inside, call, wait}
use Rattle.tcl_core.specs.Runs.{World, Step, Ending, Exits, height_of}
use Rattle.tcl_core.specs.Rules.{Derives}
use Rattle.tcl_core.specs.Rules.Derives.{completed, exited, acted, refused, unheard, went, passed, halted, wrapped, wrapped_passed, wrapped_halted, too_deep, shut, unheard_inside, called, called_passed, called_halted, unreached, called_out, unanswered, unfit, answered, heard, missed, answered_passed, entered, entered_halted, entered_exiting, born, fallen, unfound}
use Rattle.tcl_core.specs.Views.{view, inside_of}
use Rattle.tcl_core.specs.Lives.{idle, never}
use Rattle.tcl_core.specs.Tables.{Discipline, IsGoodNode, IsGood, Modest_act, Modest_wrap, Modest_call, Modest, Keeps_to, Tame_move, AreTame, Limitable, Allowed, AreAllowed}
use Rattle.tcl_core.specs.Laws.{Disciplined}
use Rattle.tcl_core.proofs.PathLaws.{not_both, Some-inj}
use Rattle.tcl_core.proofs.RuleLaws.{runs_derived}
use Rattle.tcl_core.proofs.Conclusions.{lives_within}
use Rattle.tcl_core.proofs.Halts.{exits_so}

module _ {O I : Type 0} (R : Discipline O I) where
  at_end_good : (f : Option (Node O) → Option (Node O)) (s : Option Place) (o : Option (Node O)) → IsGoodNode R o → IsGoodNode R (f o) → IsGoodNode R (at_end s f o)
  at_end_good f None o a b = a
  at_end_good f (Some []) o a b = b
  at_end_good f (Some (x ∷ q)) o a b = a

  where_good : (f : Option (Node O) → Option (Node O)) (s : Option Place) (o : Option (Node O)) → IsGoodNode R o → IsGoodNode R (f o) → IsGoodNode R (where_some s f o)
  where_good f None o a b = a
  where_good f (Some q) o a b = b

  meter_good : (f : Node O → Node O) → ((n : Node O) → ((f n).safe ≡ n.safe) × ((f n).own ≡ n.own)) → (o : Option (Node O)) → IsGoodNode R o → IsGoodNode R (on_some f o)
  meter_good f g None a = a
  meter_good f g (Some n) a = ((g n).0 ∙ a.0, ap R.plain (g n).1 ∙ a.1)

  own_good : (y : O) → R.plain y ≡ true → (o : Option (Node O)) → IsGoodNode R o → IsGoodNode R (with_own y o)
  own_good y f None a = a
  own_good y f (Some n) a = (a.0, f)

  effect_good : (p : Place) (x : What O) (T : Tree O) → Allowed R p x → IsGood R T → IsGood R (effect p x T)
  effect_good p (Changed o) T f g = λ r. at_end_good (with_own o) (strip p r) (T r) (g r) (own_good o f (T r) (g r))
  effect_good p (Limited l) T f g = λ r. at_end_good (with_limit l) (strip p r) (T r) (g r) (meter_good (λ n. record n { limit = l }) (λ n. (refl, refl)) (T r) (g r))
  effect_good p (DepthLimited l) T f g = λ r. at_end_good (with_depth_limit l) (strip p r) (T r) (g r) (meter_good (λ n. record n { depth_limit = l }) (λ n. (refl, refl)) (T r) (g r))
  effect_good p Charged T f g = λ r. where_good counted (strip r p) (T r) (g r) (meter_good (λ n. record n { count = suc n.count }) (λ n. (refl, refl)) (T r) (g r))
  effect_good p Nested T f g = λ r. where_good deeper (strip r p) (T r) (g r) (meter_good (λ n. record n { depth = suc n.depth }) (λ n. (refl, refl)) (T r) (g r))
  effect_good p Unnested T f g = λ r. where_good shallower (strip r p) (T r) (g r) (meter_good (λ n. record n { depth = Rattle.std.specs.Prelude.pred n.depth }) (λ n. (refl, refl)) (T r) (g r))
  effect_good p (Made o s) T f g = λ r. at_end_good (λ x. Some (fresh o s)) (strip p r) (T r) (g r) (f.0, f.1)
  effect_good p Dropped T f g = λ r. where_good (λ x. None) (strip p r) (T r) (g r) tt
  effect_good p _ T f g = g

  tame_where : (o : Option Place) (m : Move O) (ms : List (Move O)) → AreTame R (where_none o m ms) → AreTame R ms
  tame_where None m ms a = a.1
  tame_where (Some z) m ms a = a

  tame_top : (p : Place) (m : Move O) (ms : List (Move O)) → AreTame R (at_top p m ms) → AreTame R ms
  tame_top [] m ms a = a.1
  tame_top (x ∷ p) m ms a = a

  tame_left : (p : Place) (x : What O) (ms : List (Move O)) → AreTame R (asked p x ms) → AreTame R ms
  tame_left p (In h i) ms a = tame_where (rise_to h p) (Enter p i) ms a
  tame_left p (Back h y) ms a = tame_where (rise_to h p) (Come y) ms a
  tame_left p (Made o s) ms a = tame_top p (Born o s) ms a
  tame_left p Dropped ms a = tame_top p Fall ms a
  tame_left p (Unfound t i y) ms a = a.1
  tame_left p _ ms a = a

  -- what is kept of the world
  abbrev Good : World O → Type 0
  Good w = IsGood R w.tree × AreTame R w.moves

  good_step : (w : World O) (p : Place) (x : What O) (u : World O) → Allowed R p x → Step w p x u → Good w → Good u
  good_step w p x u f s (g, t) = (subst (IsGood R) (sym s.tree) (effect_good p x w.tree f g), tame_left p x u.moves (subst (AreTame R) s.moves t))

  -- what an act comes to
  deed_of : (p : Place) (y x : Deed O) → Allowed R (spot p y.0) y.1 → Some y ≡ Some x → Allowed R (spot p x.0) x.1
  deed_of p y x f e = subst (λ z. Allowed R (spot p z.0) z.1) (Some-inj y e) f

  metered_allowed : (p : Place) (m : Meter) (y : What O) (b : Option ℕ) (gs : Grants) (x : Deed O) → Allowed R p y → metered m y b gs ≡ Some x → Allowed R (spot p x.0) x.1
  metered_allowed p m y (Some n) gs x f e = deed_of p (None, Refused m (Some n), by_limit m n) x tt e
  metered_allowed p m y None (Listed []) x f e = absurd (not_both refl e)
  metered_allowed p m y None (Listed (Allow ∷ gs)) x f e = deed_of p (None, y, On) x f e
  metered_allowed p m y None (Listed (Deny ∷ gs)) x f e = deed_of p (None, Refused m None, Off (Cut Above)) x tt e
  metered_allowed p Count y None (Budget zero) x f e = deed_of p (None, Refused Count None, Off (Cut Over)) x tt e
  metered_allowed p Count y None (Budget (suc n)) x f e = deed_of p (None, y, On) x f e
  metered_allowed p Depth y None (Budget n) x f e = deed_of p (None, y, On) x f e

  changing_allowed : (p : Place) (o : O) (n : Option (Node O)) → R.plain o ≡ true → Allowed R (spot p (changing o n).0) (changing o n).1
  changing_allowed p o None f = tt
  changing_allowed p o (Some n) f = f

  either_true : (s b : Bool) → b ≡ true → either s b ≡ true
  either_true true b e = refl
  either_true false b e = e

  making_allowed : (p : Place) (name : List ℕ) (o : O) (s : Bool) (parent n : Option (Node O)) → IsGoodNode R parent → R.plain o ≡ true → Allowed R (spot p (making name o s parent n).0) (making name o s parent n).1
  making_allowed p name o s None n g f = tt
  making_allowed p name o s (Some m) None g f = (either_true s m.safe g.0, f)
  making_allowed p name o s (Some m) (Some n) g f = tt

  dropping_allowed : (p : Place) (name : List ℕ) (n : Option (Node O)) → Allowed R (spot p (dropping name n).0) (dropping name n).1
  dropping_allowed p name None = tt
  dropping_allowed p name (Some n) = tt

  -- where limits may be set, if they may be by what goes on
  abbrev Licence : Bool → Place → Type 0
  Licence l p = l ≡ true → Limitable R p

  decide_allowed : (l : Bool) (d : Act O) (T : Tree O) (p : Place) (gs : Grants) (x : Deed O) → Licence l p → Modest_act R l d → IsGood R T → decide d T p gs ≡ Some x → Allowed R (spot p x.0) x.1
  decide_allowed l Look T p gs x q f g e = deed_of p (None, Seen, On) x tt e
  decide_allowed l (Change o) T p gs x q f g e = deed_of p (changing o (T p)) x (changing_allowed p o (T p) f) e
  decide_allowed l Charge T p gs x q f g e = metered_allowed p Count Charged (blocked is_spent T p) gs x tt e
  decide_allowed l (Limit y) T p gs x q f g e = deed_of p (None, Limited y, On) x (q f) e
  decide_allowed l (LimitDepth y) T p gs x q f g e = deed_of p (None, DepthLimited y, On) x (q f) e
  decide_allowed l (Make name o s) T p gs x q f g e = deed_of p (making name o s (T p) (T (p ++ name ∷ []))) x (making_allowed p name o s (T p) (T (p ++ name ∷ [])) (g p) f) e
  decide_allowed l (Drop name) T p gs x q f g e = deed_of p (dropping name (T (p ++ name ∷ []))) x (dropping_allowed p name (T (p ++ name ∷ []))) e

  opens_allowed : (b : Wrap O) (T : Tree O) (p : Place) (gs : Grants) (x : Deed O) → Modest_wrap R b → opens b T p gs ≡ Some x → Allowed R (spot p x.0) x.1
  opens_allowed Deeper T p gs x f e = metered_allowed p Depth Nested (blocked is_deep T p) gs x tt e
  opens_allowed (Framed o back) T p gs x f e = deed_of p (changing o (T p)) x (changing_allowed p o (T p) f.0) e

  closes_allowed : (p : Place) (b : Wrap O) (m n : Option (Node O)) → Modest_wrap R b → IsGoodNode R n → Allowed R p (closes b m n)
  closes_allowed p Deeper m n f g = tt
  closes_allowed p (Framed o back) m n f g = by (nat_lt (depth_of n) (depth_of m)) n g
    where
      by : (t : Bool) (n : Option (Node O)) → IsGoodNode R n → Allowed R p (brought_back t back n)
      by t None g = tt
      by true (Some n) g = tt
      by false (Some n) g = f.1 n.own g.1

  out_allowed : (p : Place) (h : Height) (down : Path) (i : Entry) → Modest_call R h i → Allowed R p (Out h down i)
  out_allowed p None down i f = f
  out_allowed p (Some h) down i f = tt

  -- a program that keeps the discipline, or one that waits for such a call
  abbrev Fit : Bool → Prog O I → Type 0
  Fit l (wait s k) = (y : Said) → Modest R l (k y)
  Fit l x = Modest R l x

  fit_of : (l : Bool) (x : Prog O I) → Modest R l x → Fit l x
  fit_of l (wait s k) f = absurd f
  fit_of l (done c) f = f
  fit_of l (exit n) f = f
  fit_of l (act d k) f = f
  fit_of l (go i k) f = f
  fit_of l (inside b i k) f = f
  fit_of l (call h down i lost k) f = f

  pub record Kept (w v : World O) : Type 0 where
    pub allowed : AreAllowed R v.tape → AreAllowed R w.tape
    pub good : Good v

  here : (w : World O) → Good w → Kept w w
  here w g = record { allowed = λ a. a; good = g }

  step_kept : (w : World O) (p : Place) (x : What O) (u v : World O) → Allowed R p x → Step w p x u → Kept u v → Kept w v
  step_kept w p x u v f s k = record { allowed = λ a. subst (AreAllowed R) (sym s.tape) (f, k.allowed a); good = k.good }

  then_kept : (w u v : World O) → Kept w u → Kept u v → Kept w v
  then_kept w u v a b = record { allowed = λ c. a.allowed (b.allowed c); good = b.good }

  below : (w : World O) (p : Place) → Good w → IsGood R (at w.tree p)
  below w p g = λ q. g.0 (p ++ q)

  module _ (prog : Table O I) (all : Keeps_to R prog) where
    -- an entry that is handed in, and whether it may set limits
    fit_move : (t : Place) (i : Entry) → Tame_move R (Enter t i) → (l : Bool) × Licence l t × Fit l (prog.entry i)
    fit_move t i (inl f) = (R.may_limit, (λ e. inl e), fit_of R.may_limit _ (all.entries i f))
    fit_move t i (inr f) = (true, (λ e. inr f.1), fit_of true _ (all.limiting i f.0))

    exits_kept : (w : World O) (p : Place) (s : Wait) (n : ℤ) (ms : List (Move O)) (v : World O) (e : Ending) → Exits w p s n ms v e → Good w → Kept w v
    exits_kept w p s n ms v e a g =
        exits_so (Kept w) w p s n ms v e (here w g) (λ x. step_kept w p (Back (height_of s) (Replied (Exit n))) v v tt x (here v (good_step w p (Back (height_of s) (Replied (Exit n))) v tt x g))) a

    -- the entry that is read is tame
    entry_tame : (w : World O) (t : Place) (i : Entry) (u : World O) → Step w t (In None i) u → Good w → Tame_move R (Enter t i)
    entry_tame w t i u s g = let h : AreTame R (Enter t i ∷ u.moves) = subst (AreTame R) s.moves g.1 in h.0

    keep : (l : Bool) {w : World O} {p : Place} {x : Prog O I} {v : World O} {e : Ending} → Derives prog w p x v e → Licence l p → Fit l x → Good w → Kept w v
    keep q0 (completed w p y) lic f g = here w g
    keep q0 (exited w p n) lic f g = here w g
    keep q0 (acted w p d k x u v e j on s a) lic f g =
        let l = decide_allowed q0 d w.tree p w.grants x lic f.0 g.0 j in
        step_kept w _ x.1 u v l s (keep q0 a lic (fit_of q0 _ (f.1 (at w.tree p) (below w p g))) (good_step w _ x.1 u l s g))
    keep q0 (refused w p d k x r u j off s) lic f g =
        let l = decide_allowed q0 d w.tree p w.grants x lic f.0 g.0 j in
        step_kept w _ x.1 u u l s (here u (good_step w _ x.1 u l s g))
    keep q0 (unheard w p d k j t) lic f g = here w g
    keep q0 (went w p i k u y v e a b) lic f g =
        let m = keep R.may_limit a (λ e. inl e) (fit_of R.may_limit _ (all.programs i f.0)) g in
        then_kept w u v m (keep q0 b lic (fit_of q0 _ (f.1 y)) m.good)
    keep q0 (passed w p i k u r q a) lic f g = keep R.may_limit a (λ e. inl e) (fit_of R.may_limit _ (all.programs i f.0)) g
    keep q0 (halted w p i k u a) lic f g = keep R.may_limit a (λ e. inl e) (fit_of R.may_limit _ (all.programs i f.0)) g
    keep q0 (wrapped w p b i k x inner left closed v y e j on s a t d) lic f g =
        let l = opens_allowed b w.tree p w.grants x f.1 j in
        let m = keep R.may_limit a (λ e. inl e) (fit_of R.may_limit _ (all.programs i f.0)) (good_step w _ x.1 inner l s g) in
        let n = closes_allowed p b (inner.tree p) (left.tree p) f.1 (m.good.0 p) in
        step_kept w _ x.1 inner v l s (then_kept inner left v m (step_kept left p _ closed v n t (keep q0 d lic (fit_of q0 _ (f.2 y)) (good_step left p _ closed n t m.good))))
    keep q0 (wrapped_passed w p b i k x inner left closed r q j on s a t) lic f g =
        let l = opens_allowed b w.tree p w.grants x f.1 j in
        let m = keep R.may_limit a (λ e. inl e) (fit_of R.may_limit _ (all.programs i f.0)) (good_step w _ x.1 inner l s g) in
        let n = closes_allowed p b (inner.tree p) (left.tree p) f.1 (m.good.0 p) in
        step_kept w _ x.1 inner closed l s (then_kept inner left closed m (step_kept left p _ closed closed n t (here closed (good_step left p _ closed n t m.good))))
    keep q0 (wrapped_halted w p b i k x inner left j on s a) lic f g =
        let l = opens_allowed b w.tree p w.grants x f.1 j in
        step_kept w _ x.1 inner left l s (keep R.may_limit a (λ e. inl e) (fit_of R.may_limit _ (all.programs i f.0)) (good_step w _ x.1 inner l s g))
    keep q0 (too_deep w p b i k x u v e j deep s a) lic f g =
        let l = opens_allowed b w.tree p w.grants x f.1 j in
        step_kept w _ x.1 u v l s (keep q0 a lic (fit_of q0 _ (f.2 _)) (good_step w _ x.1 u l s g))
    keep q0 (shut w p b i k x r u j off s) lic f g =
        let l = opens_allowed b w.tree p w.grants x f.1 j in
        step_kept w _ x.1 u u l s (here u (good_step w _ x.1 u l s g))
    keep q0 (unheard_inside w p b i k j t) lic f g = here w g
    keep q0 (called w p None down i lost k a t out inner left told back v r y e z s1 j s2 x s3 so s4 b) lic f g = absurd (not_both refl z)
    keep q0 (called w p (Some h) down i lost k a t out inner left told back v r y e z s1 j s2 x s3 so s4 b) lic f g =
        let g1 = good_step w p _ out tt s1 g in
        let m = keep R.may_limit x (λ e. inl e) (fit_of R.may_limit _ (all.entries i f.0)) (good_step out t _ inner tt s2 g1) in
        let g3 = good_step left t _ told tt s3 m.good in
        step_kept w p _ out v tt s1 (step_kept out t _ inner v tt s2 (then_kept inner left v m (step_kept left t _ told v tt s3 (step_kept told p _ back v tt s4 (keep q0 b lic (fit_of q0 _ (f.1 _)) (good_step told p _ back tt s4 g3))))))
    keep q0 (called_passed w p None down i lost k a t out inner left told back r z s1 j s2 x s3 q s4) lic f g = absurd (not_both refl z)
    keep q0 (called_passed w p (Some h) down i lost k a t out inner left told back r z s1 j s2 x s3 q s4) lic f g =
        let g1 = good_step w p _ out tt s1 g in
        let m = keep R.may_limit x (λ e. inl e) (fit_of R.may_limit _ (all.entries i f.0)) (good_step out t _ inner tt s2 g1) in
        let g3 = good_step left t _ told tt s3 m.good in
        step_kept w p _ out back tt s1 (step_kept out t _ inner back tt s2 (then_kept inner left back m (step_kept left t _ told back tt s3 (step_kept told p _ back back tt s4 (here back (good_step told p _ back tt s4 g3))))))
    keep q0 (called_halted w p None down i lost k a t out inner left z s1 j s2 x) lic f g = absurd (not_both refl z)
    keep q0 (called_halted w p (Some h) down i lost k a t out inner left z s1 j s2 x) lic f g =
        let g1 = good_step w p _ out tt s1 g in
        step_kept w p _ out left tt s1 (step_kept out t _ inner left tt s2 (keep R.may_limit x (λ e. inl e) (fit_of R.may_limit _ (all.entries i f.0)) (good_step out t _ inner tt s2 g1)))
    keep q0 (unreached w p None down i lost k a out back v e z s1 j s2 x) lic f g = absurd (not_both refl z)
    keep q0 (unreached w p (Some h) down i lost k a out back v e z s1 j s2 x) lic f g =
        let g1 = good_step w p _ out tt s1 g in
        step_kept w p _ out v tt s1 (step_kept out p _ back v tt s2 (keep q0 x lic (fit_of q0 _ (f.1 _)) (good_step out p _ back tt s2 g1)))
    keep q0 (called_out w p h down i lost k u v e z s a) lic f g =
        let l : Allowed R p (Out h down i) = out_allowed p h down i f.0 in
        step_kept w p _ u v l s (keep q0 a lic (or_lost_all (Modest R q0) lost k f.1) (good_step w p _ u l s g))
    keep q0 (unanswered w p s k j m t) lic f g = here w g
    keep q0 (unfit w p s k m ms j l n t) lic f g = here w g
    keep q0 (answered w p s k y u v e j l t a) lic f g = step_kept w p _ u v tt t (keep q0 a lic (fit_of q0 _ (f _)) (good_step w p _ u tt t g))
    keep q0 (heard w p s k y u v e j l t a) lic f g = step_kept w p _ u v tt t (keep q0 a lic (fit_of q0 _ (f _)) (good_step w p _ u tt t g))
    keep q0 (missed w p s k u v e j l t a) lic f g = step_kept w p _ u v tt t (keep q0 a lic (fit_of q0 _ (f _)) (good_step w p _ u tt t g))
    keep q0 (answered_passed w p s k r u q j l t) lic f g = step_kept w p _ u u tt t (here u (good_step w p _ u tt t g))
    keep q0 (entered w p s k t i inner left told v r e j here s1 a s2 n b) lic f g =
        let m = (let y = fit_move t i (entry_tame w t i inner s1 g) in keep y.0 a y.1 y.2) (good_step w t _ inner tt s1 g) in
        step_kept w t _ inner v tt s1 (then_kept inner left v m (step_kept left t _ told v tt s2 (keep q0 b lic f (good_step left t _ told tt s2 m.good))))
    keep q0 (entered_halted w p s k t i inner left j here s1 a) lic f g =
        step_kept w t _ inner left tt s1 ((let y = fit_move t i (entry_tame w t i inner s1 g) in keep y.0 a y.1 y.2) (good_step w t _ inner tt s1 g))
    keep q0 (entered_exiting w p s k t i inner left told v n e j here s1 a s2 b) lic f g =
        let m = (let y = fit_move t i (entry_tame w t i inner s1 g) in keep y.0 a y.1 y.2) (good_step w t _ inner tt s1 g) in
        step_kept w t _ inner v tt s1 (then_kept inner left v m (step_kept left t _ told v tt s2 (exits_kept told p s n told.moves v e b (good_step left t _ told tt s2 m.good))))
    keep q0 (born w p s k o b u v e j t a) lic f g =
        let h : AreTame R (Born o b ∷ u.moves) = subst (AreTame R) t.moves g.1 in
        step_kept w [] _ u v h.0 t (keep q0 a lic f (good_step w [] _ u h.0 t g))
    keep q0 (unfound w p s k t i u v e j here b a) lic f g = step_kept w [] _ u v tt b (keep q0 a lic f (good_step w [] _ u tt b g))
    keep q0 (fallen w p s k u v e j t a) lic f g = step_kept w [] _ u v tt t (keep q0 a lic f (good_step w [] _ u tt t g))

pub bad : {A : Type 0} → false ≡ true → A
bad e = absurd (no2 e)
  where
    no2 : false ≡ true → Prim.⊥
    no2 f = cc

module _ {O I : Type 0} where
  pub disciplined : Disciplined O I
  disciplined R prog all c w v a f g t =
      let k : Kept R (inside_of c w) (inside_of c v) = keep R prog all false (runs_derived prog (inside_of c w) [] (wait idle never) (inside_of c v) None (lives_within prog c w v a)) (λ e. bad e) (λ y. tt) (g, t) in
      (k.allowed (subst (λ τ. AreAllowed R (view c τ)) (sym f) tt), k.good.0)
