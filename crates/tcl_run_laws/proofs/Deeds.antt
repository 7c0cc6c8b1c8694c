-- What an act comes to with a host as the outside, which refuses nothing: it happens within the tree, and cuts nothing off.
use Rattle.std.proofs.Common.{◌≡◌, refl, subst, ℕ, zero, suc, List, [], ◌∷◌, ◌++◌, Option, Some, None}
use Rattle.tcl_core.specs.Endings.{Meter}
use Rattle.tcl_core.specs.Endings.Meter.{Count, Depth}
use Rattle.tcl_core.specs.Endings.Reply.{Cut}
use Rattle.tcl_core.specs.Endings.Cause.{Above, Over}
use Rattle.tcl_core.specs.Paths.{Place, Height, rise_to}
use Rattle.tcl_core.specs.Programs.{Act, Deed, Wait, Wrap, spot, closes, changing, making, dropping, metered, by_limit, blocked, is_spent, is_deep}
use Rattle.tcl_core.specs.Programs.Act.{Look, Change, Charge, Limit, LimitDepth, Make, Drop}
use Rattle.tcl_core.specs.Programs.Next.{On, Off}
use Rattle.tcl_core.specs.Programs.Wrap.{Deeper, Framed}
use Rattle.tcl_core.specs.Execution.{Crossings, Decides, Opens_so, event, passing}
use Rattle.tcl_core.specs.Trees.{Event, Grants, Node, Tree, What, granted}
use Rattle.tcl_core.specs.Trees.Grant.{Allow, Deny}
use Rattle.tcl_core.specs.Trees.Grants.{Listed, Budget}
use Rattle.tcl_core.specs.Trees.What.{Seen, Charged, Refused, Nested, Limited, DepthLimited, Out, In, Done, Back, Unfound}
use Rattle.tcl_core.proofs.PathLaws.{not_both, Some-inj, rise_some, child_no_top}
use Rattle.tcl_core.proofs.TreeLaws.{any_close, blocked_near}
use Rattle.tcl_core.proofs.Unended.{IsNoCut}
use Rattle.tcl_host.specs.declared.reply.HostReply.{HostReply as TheirReply}
use Rattle.tcl_host.specs.declared.request.Request.{Request as TheirRequest}
use Rattle.tcl_run.specs.Outsides.{hosted, hosted_at}
use Rattle.tcl_tree.specs.Own.{Own}
use Rattle.tcl_run_laws.proofs.Nearness.{Inside, Near}

-- the act sets no limit of steps
abbrev pub SetsNone : {O : Type 0} → Act O → Type 0
SetsNone (Limit l) = Prim.⊥
SetsNone d = Unit {0}

module _ {S : Type 0} (step : S → TheirRequest → TheirReply → S → Type 0) where
  abbrev pub Goes_so : Tree Own → S → Wait → Event Own → S → Type 0
  Goes_so T o s ev u = Crossings (hosted step) T o s ev u

  passed_by : (h : Height) (p : Place) (T : Tree Own) (o : S) (s : Wait) (ev : Event Own) (u : S) → Inside h p → passing (rise_to h p) (hosted_at step) T o s ev u → u ≡ o
  passed_by h p T o s ev u (a, e) t = subst (λ b. passing b (hosted_at step) T o s ev u) e t

  -- what happens within the tree leaves the host as it is
  pub unheard : (T : Tree Own) (o : S) (s : Wait) (p : Place) (x : What Own) (u : S) → Near p x → Goes_so T o s (event p x) u → u ≡ o
  unheard T o s p (Out h down i) u f g = passed_by h p T o s (event p (Out h down i)) u f g.told
  unheard T o s p (Back h a) u f g = passed_by h p T o s (event p (Back h a)) u f g.told
  unheard T o s p (In h i) u f g = passed_by h p T o s (event p (In h i)) u f g.told
  unheard T o s p (Done h r) u f g = passed_by h p T o s (event p (Done h r)) u f g.told
  unheard T o s p (Refused m None) u f g = absurd g.told
  unheard T o s p (Refused m (Some n)) u f g = g.told
  unheard T o s p (Unfound t i c) u f g = absurd f
  unheard T o s p x u f g = g.told

  -- what it comes to
  pub record IsNear (p : Place) (x : Deed Own) : Type 0 where
    pub near : Near (spot p x.0) x.1
    pub uncut : IsNoCut x.2

  -- if the host goes so
  abbrev pub Told : Tree Own → S → Place → S → Deed Own → Type 0
  Told T o p u x = Goes_so T o None (event (spot p x.0) x.1) u → IsNear p x

  of_deed : (T : Tree Own) (o : S) (p : Place) (u : S) (y x : Deed Own) → Told T o p u y → Some y ≡ Some x → Told T o p u x
  of_deed T o p u y x f e = subst (Told T o p u) (Some-inj y e) f

  limited_uncut : (m : Meter) (n : ℕ) → IsNoCut (by_limit m n)
  limited_uncut Count n = tt
  limited_uncut Depth zero = tt
  limited_uncut Depth (suc n) = tt

  metered_near : (T : Tree Own) (o : S) (p : Place) (u : S) (full : Node Own → _) (m : Meter) (y : What Own) (b : Option ℕ) (gs : Grants) (x : Deed Own) →
      blocked full T p ≡ b → Near p y → metered m y b gs ≡ Some x → Told T o p u x
  metered_near T o p u full m y (Some n) gs x e f g = of_deed T o p u (None, Refused m (Some n), by_limit m n) x (λ t. record { near = rise_some p n (blocked_near full p T n e); uncut = limited_uncut m n }) g
  metered_near T o p u full m y None (Listed []) x e f g = absurd (not_both refl g)
  metered_near T o p u full m y None (Listed (Allow ∷ gs)) x e f g = of_deed T o p u (None, y, On) x (λ t. record { near = f; uncut = tt }) g
  metered_near T o p u full m y None (Listed (Deny ∷ gs)) x e f g = of_deed T o p u (None, Refused m None, Off (Cut Above)) x (λ t. absurd t.told) g
  metered_near T o p u full Count y None (Budget zero) x e f g = of_deed T o p u (None, Refused Count None, Off (Cut Over)) x (λ t. absurd t.told) g
  metered_near T o p u full Count y None (Budget (suc n)) x e f g = of_deed T o p u (None, y, On) x (λ t. record { near = f; uncut = tt }) g
  metered_near T o p u full Depth y None (Budget n) x e f g = of_deed T o p u (None, y, On) x (λ t. record { near = f; uncut = tt }) g

  changing_near : (p : Place) (own : Own) (n : Option (Node Own)) → IsNear p (changing own n)
  changing_near p own None = record { near = tt; uncut = tt }
  changing_near p own (Some n) = record { near = tt; uncut = tt }

  making_near : (p : Place) (name : List ℕ) (own : Own) (s : _) (parent n : Option (Node Own)) → IsNear p (making name own s parent n)
  making_near p name own s None n = record { near = tt; uncut = tt }
  making_near p name own s (Some m) None = record { near = child_no_top p name; uncut = tt }
  making_near p name own s (Some m) (Some n) = record { near = tt; uncut = tt }

  dropping_near : (p : Place) (name : List ℕ) (n : Option (Node Own)) → IsNear p (dropping name n)
  dropping_near p name None = record { near = tt; uncut = tt }
  dropping_near p name (Some n) = record { near = child_no_top p name; uncut = tt }

  pub decides_near : (d : Act Own) (T : Tree Own) (o : S) (p : Place) (u : S) (x : Deed Own) → (p ≡ [] → SetsNone d) → Decides d T p x → Told T o p u x
  decides_near Look T o p u x f e = of_deed T o p u (None, Seen, On) x (λ t. record { near = tt; uncut = tt }) (e [])
  decides_near (Change own) T o p u x f e = of_deed T o p u (changing own (T p)) x (λ t. changing_near p own (T p)) (e [])
  decides_near Charge T o p u x f e = metered_near T o p u is_spent Count Charged (blocked is_spent T p) (granted (spot p x.0) x.1 (Listed [])) x refl tt (e [])
  decides_near (Limit l) T o p u x f e = of_deed T o p u (None, Limited l, On) x (λ t. record { near = f; uncut = tt }) (e [])
  decides_near (LimitDepth l) T o p u x f e = of_deed T o p u (None, DepthLimited l, On) x (λ t. record { near = tt; uncut = tt }) (e [])
  decides_near (Make name own s) T o p u x f e = of_deed T o p u (making name own s (T p) (T (p ++ name ∷ []))) x (λ t. making_near p name own s (T p) (T (p ++ name ∷ []))) (e [])
  decides_near (Drop name) T o p u x f e = of_deed T o p u (dropping name (T (p ++ name ∷ []))) x (λ t. dropping_near p name (T (p ++ name ∷ []))) (e [])

  pub opens_near : (b : Wrap Own) (T : Tree Own) (o : S) (p : Place) (u : S) (x : Deed Own) → Opens_so b T p x → Told T o p u x
  opens_near Deeper T o p u x e = metered_near T o p u is_deep Depth Nested (blocked is_deep T p) (granted (spot p x.0) x.1 (Listed [])) x refl tt (e [])
  opens_near (Framed own back) T o p u x e = of_deed T o p u (changing own (T p)) x (λ t. changing_near p own (T p)) (e [])

  pub closes_near : (p : Place) (b : Wrap Own) (m n : Option (Node Own)) → Near p (closes b m n)
  closes_near p b m n = any_close (Near p) b m n tt tt (λ own. tt)
