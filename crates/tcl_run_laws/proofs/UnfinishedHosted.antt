-- What comes with a host comes with the host and the call that is open to it, and the same happens.
use Rattle.std.proofs.Common.{◌≡◌, refl, sym, ap, subst, ℕ, [], Option, Some, None, length}
use Rattle.tcl_core.specs.Endings.{Reply}
use Rattle.tcl_core.specs.Endings.Kind.{Full, Gone}
use Rattle.tcl_core.specs.Endings.Reply.{Completed, Stop, Exit, Cut}
use Rattle.tcl_core.specs.Entries.{Answer, Entry}
use Rattle.tcl_core.specs.Entries.Answer.{Replied, Heard, Nobody}
use Rattle.tcl_core.specs.Entries.Entry.{AskHost}
use Rattle.tcl_core.specs.Entries.Said.{Finished, Told as told_so, Missed}
use Rattle.tcl_core.specs.Paths.{Path, Place, Height, rise_to}
use Rattle.tcl_core.specs.Programs.{Calls_only, Prog, Table, Wait, spot, closes}
use Rattle.tcl_core.specs.Runs.{gone_from, height_of, returned}
use Rattle.tcl_core.specs.Execution.{Crossings, Executes, event, passing}
use Rattle.tcl_core.specs.Execution.Executes.{completed, exited, acted, refused, went, passed, wrapped, wrapped_passed, too_deep, shut, called, called_passed, unreached, called_out, answered, heard, missed, answered_passed, entered, entered_exiting, unfound}
use Rattle.tcl_core.specs.Trees.{Event, Tree, What, at, depth_of, effect}
use Rattle.tcl_core.specs.Trees.What.{Refused, Out, In, Done, Back, Unfound}
use Rattle.tcl_core.proofs.Callers.{waits_for, Fits, no_wait, fit, or_lost_all}
use Rattle.tcl_partial_runs.specs.Beginnings.{Unrefused}
use Rattle.tcl_host.specs.declared.reply.HostReply.{HostReply as TheirReply}
use Rattle.tcl_host.specs.declared.request.Request.{Request as TheirRequest}
use Rattle.tcl_run.specs.Outsides.{hosted, hosted_at, hosted_by}
use Rattle.tcl_tree.specs.Own.{Own}
use Rattle.tcl_run_laws.proofs.Hosted.{comes_within}
use Rattle.tcl_run_laws.proofs.Nearness.{Inside}
use Rattle.tcl_run_laws.proofs.Placed.{Placed, decides_placed, opens_placed, closes_placed}
use Rattle.tcl_run_laws.proofs.UnfinishedHolding.{Goes, keeps_call, within, asks, hears, hears_not, misses, misses_not}

module _ {I S : Type 0} (step : S → TheirRequest → TheirReply → S → Type 0) (prog : Table Own I) where
  -- how the host goes, who is told of all crossings
  abbrev pub Goes_so : Tree Own → S → Wait → Event Own → S → Type 0
  Goes_so T o s ev u = Crossings (hosted step) T o s ev u

  -- of what crosses no boundary of the tree it isn't told
  passed_by : (h : Height) (p : Place) (T : Tree Own) (o : S) (s : Wait) (ev : Event Own) (u : S) → Inside h p → passing (rise_to h p) (hosted_at step) T o s ev u → u ≡ o
  passed_by h p T o s ev u (a, e) t = subst (λ b. passing b (hosted_at step) T o s ev u) e t

  -- what happens within the tree leaves the host as it is
  unheard : (T : Tree Own) (o : S) (s : Wait) (p : Place) (x : What Own) (u : S) → Placed p x → Goes_so T o s (event p x) u → u ≡ o
  unheard T o s p (Out h down i) u f g = passed_by h p T o s (event p (Out h down i)) u f g.told
  unheard T o s p (Back h a) u f g = passed_by h p T o s (event p (Back h a)) u f g.told
  unheard T o s p (In h i) u f g = passed_by h p T o s (event p (In h i)) u f g.told
  unheard T o s p (Done h r) u f g = passed_by h p T o s (event p (Done h r)) u f g.told
  unheard T o s p (Refused m None) u f g = absurd g.told
  unheard T o s p (Refused m (Some n)) u f g = g.told
  unheard T o s p (Unfound t i c) u f g = absurd f
  unheard T o s p x u f g = g.told

  -- and it refuses nothing
  calm : (T : Tree Own) (o : S) (s : Wait) (p : Place) (x : What Own) (u : S) → Goes_so T o s (event p x) u → Unrefused x
  calm T o s p (Refused m None) u g = absurd g.told
  calm T o s p (Refused m (Some n)) u g = tt
  calm T o s p x u g = tt

  -- within the tree the open call stays as it is
  pub stays : (T : Tree Own) (o u : S) (c s : Wait) (p : Place) (x : What Own) → Placed p x → Goes_so T o s (event p x) u → keeps_call step T (o, c) s (event p x) (u, c)
  stays T o u c s p x f g = within f (calm T o s p x u g) (ap (λ z. (z, c)) (unheard T o s p x u f g))

  -- a call past the top changes nothing in the host
  pub unasked : (T : Tree Own) (o u : S) (p : Place) (h : Height) (down : Path) (i : Entry) → rise_to h p ≡ None → Goes_so T o None (event p (Out h down i)) u → u ≡ o
  unasked T o u p h down i past g = subst (λ b. passing b (hosted_at step) T o None (event p (Out h down i)) u) past g.told

  -- and from then on it is open
  pub leaves : (T : Tree Own) (o u : S) (p : Place) (h : Height) (down : Path) (i : Entry) → rise_to h p ≡ None → Goes_so T o None (event p (Out h down i)) u →
      keeps_call step T (o, None) None (event p (Out h down i)) (u, Some (h, i, depth_of (T p)))
  leaves T o u p h down i past g = asks h down i (depth_of (T p)) refl past refl (ap (λ z. (z, Some (h, i, depth_of (T p)))) (unasked T o u p h down i past g))

  -- no entry comes in
  pub enters_not : {A : Type 0} (T : Tree Own) (o u : S) (t : Place) (i : Entry) → Goes_so T o None (event t (In None i)) u → A
  enters_not T o u t i g = absurd g.told

  -- nor one that finds nobody
  pub unfound_not : {A : Type 0} (T : Tree Own) (o u : S) (t : Path) (i : Entry) (c : _) → Goes_so T o None (event [] (Unfound t i c)) u → A
  unfound_not T o u t i c g = absurd g.told

  -- how a call past the top is answered
  by_host : (g : Option ℕ) (o u : S) (p : Place) (s : Wait) (a : Answer) → rise_to (height_of s) p ≡ None → hosted_by step g o s (Back (height_of s) a) u → Goes step (o, s) p (Back (height_of s) a) (u, None)
  by_host l o u p None a past g = absurd g
  by_host l o u p (Some (None, AskHost request, d)) (Heard a) past (q, reply, e1, e2, s) = hears q reply d (ap (λ z. Back None (Heard z)) (sym e2)) (ap (λ z. Some (None, AskHost z, d)) (sym e1)) s refl
  by_host l o u p (Some (None, AskHost request, d)) (Replied (Stop n Gone)) past (q, reply, e1, s) = hears_not q reply d n refl (ap (λ z. Some (None, AskHost z, d)) (sym e1)) s refl
  by_host l o u p (Some (None, AskHost request, d)) (Replied (Stop n (Full m))) past g = absurd g
  by_host l o u p (Some (None, AskHost request, d)) (Replied (Completed c)) past g = absurd g
  by_host l o u p (Some (None, AskHost request, d)) (Replied (Exit n)) past g = absurd g
  by_host l o u p (Some (None, AskHost request, d)) (Replied (Cut c)) past g = absurd g
  by_host l o u p (Some (None, AskHost request, d)) Nobody past g = absurd g
  by_host l o u p (Some (None, i, d)) a past g = absurd g
  by_host l o u p (Some (Some n, i, d)) (Heard a) past g = absurd g
  by_host l o u p (Some (Some n, i, d)) Nobody past g = misses n i d refl past refl (ap (λ z. (z, None)) g)
  by_host l o u p (Some (Some n, i, d)) (Replied (Stop m Gone)) past g = misses_not n i d m refl past refl (ap (λ z. (z, None)) g.1)
  by_host l o u p (Some (Some n, i, d)) (Replied (Stop k (Full m))) past g = absurd g
  by_host l o u p (Some (Some n, i, d)) (Replied (Completed c)) past g = absurd g
  by_host l o u p (Some (Some n, i, d)) (Replied (Exit m)) past g = absurd g
  by_host l o u p (Some (Some n, i, d)) (Replied (Cut c)) past g = absurd g

  -- and from then on none is open
  pub comes_back : (T : Tree Own) (o u : S) (p : Place) (s : Wait) (a : Answer) → rise_to (height_of s) p ≡ None → Goes_so T o s (event p (Back (height_of s) a)) u → keeps_call step T (o, s) s (event p (Back (height_of s) a)) (u, None)
  comes_back T o u p s a past g = by_host (gone_from s T p) o u p s a past (subst (λ b. passing b (hosted_at step) T o s (event p (Back (height_of s) a)) u) past g.told)

  -- what comes so, with the call that is open at first, and none in the end
  abbrev pub Held : Tree Own → S → Wait → Place → Prog Own I → Tree Own → S → Reply → Type 0
  Held T o c p x V z r = Executes (keeps_call step) prog T (o, c) p x V (z, None) r

  -- what calls starts with no call open
  pub calls : {T V : Tree Own} {o z : S} {p : Place} {x : Prog Own I} {r : Reply} → Calls_only x → (Fits x → Held T o (waits_for x) p x V z r) → Held T o None p x V z r
  calls {T} {V} {o} {z} {p} {x} {r} f h = subst (λ c. Held T o c p x V z r) (no_wait x f) (h (fit x f))

  -- WITH A HOST: what comes with it comes with the call that is open to it
  pub held : {T V : Tree Own} {o z : S} {p : Place} {x : Prog Own I} {r : Reply} → Executes (Crossings (hosted step)) prog T o p x V z r → Fits x → Held T o (waits_for x) p x V z r
  held completed f = completed
  held exited f = exited
  held (acted {T} {V} {o} {u} {z} {p} {d} {k} {r} x is_so on s t) f = acted x is_so on (stays T o u None None (spot p x.0) x.1 (decides_placed d T p x is_so) s) (calls (f (at T p)) (held t))
  held (refused {T} {o} {u} {p} {d} {k} {r} x is_so off s) f = refused x is_so off (stays T o u None None (spot p x.0) x.1 (decides_placed d T p x is_so) s)
  held (went {T} {U} {V} {o} {u} {z} {p} {i} {k} {c} {r} a b) f = went (calls (prog.programs_call i) (held a)) (calls (f c) (held b))
  held (passed {T} {U} {o} {u} {p} {i} {k} {r} q a) f = passed q (calls (prog.programs_call i) (held a))
  held (wrapped {T} {U} {V} {o} {o1} {o2} {o3} {z} {p} {b} {i} {k} {c} {r} x is_so on s1 a s2 t) f =
      wrapped x is_so on (stays T o o1 None None (spot p x.0) x.1 (opens_placed b T p x is_so) s1) (calls (prog.programs_call i) (held a)) (stays U o2 o3 None None p (closes b (effect (spot p x.0) x.1 T p) (U p)) (closes_placed p b (effect (spot p x.0) x.1 T p) (U p)) s2) (calls (f c) (held t))
  held (wrapped_passed {T} {U} {o} {o1} {o2} {o3} {p} {b} {i} {k} {r} x q is_so on s1 a s2) f =
      wrapped_passed x q is_so on (stays T o o1 None None (spot p x.0) x.1 (opens_placed b T p x is_so) s1) (calls (prog.programs_call i) (held a)) (stays U o2 o3 None None p (closes b (effect (spot p x.0) x.1 T p) (U p)) (closes_placed p b (effect (spot p x.0) x.1 T p) (U p)) s2)
  held (too_deep {T} {V} {o} {u} {z} {p} {b} {i} {k} {r} x is_so deep s t) f = too_deep x is_so deep (stays T o u None None (spot p x.0) x.1 (opens_placed b T p x is_so) s) (calls (f _) (held t))
  held (shut {T} {o} {u} {p} {b} {i} {k} {r} x is_so off s) f = shut x is_so off (stays T o u None None (spot p x.0) x.1 (opens_placed b T p x is_so) s)
  held (called {T} {U} {V} {o} {o1} {o2} {o3} {o4} {o5} {z} {p} {h} {down} {i} {lost} {k} {s} {r} {c} a t e there s1 s2 m s3 so s4 n) f =
      let y : Inside (Some (length down)) t = comes_within T a t down there in
      called a t e there (stays T o o1 None None p (Out h down i) (a, e) s1) (stays T o1 o2 None None t (In (Some (length down)) i) y s2) (calls (prog.entries_call i) (held m))
      (stays U o3 o4 None None t (Done (Some (length down)) s) y s3) so (stays U o4 o5 None None p (Back h (Replied (returned T U h p down s))) (a, e) s4) (calls (f (Finished c)) (held n))
  held (called_passed {T} {U} {o} {o1} {o2} {o3} {o4} {o5} {p} {h} {down} {i} {lost} {k} {s} {r} a t e there s1 s2 m s3 so q s4) f =
      let y : Inside (Some (length down)) t = comes_within T a t down there in
      called_passed a t e there (stays T o o1 None None p (Out h down i) (a, e) s1) (stays T o1 o2 None None t (In (Some (length down)) i) y s2) (calls (prog.entries_call i) (held m))
      (stays U o3 o4 None None t (Done (Some (length down)) s) y s3) so q (stays U o4 o5 None None p (Back h (Replied r)) (a, e) s4)
  held (unreached {T} {V} {o} {o1} {o2} {z} {p} {h} {down} {i} {lost} {k} {r} a e there s1 s2 t) f =
      unreached a e there (stays T o o1 None None p (Out h down i) (a, e) s1) (stays T o1 o2 None None p (Back h (Replied (Completed lost))) (a, e) s2) (calls (f (Finished lost)) (held t))
  held (called_out {T} {V} {o} {u} {z} {p} {h} {down} {i} {lost} {k} {r} e s t) f = called_out e (leaves T o u p h down i e s) (held t (or_lost_all Calls_only lost k f))
  held (answered {T} {V} {o} {u} {z} {p} {s} {k} {c} {r} e is_fit j t) f = answered e is_fit (comes_back T o u p s (Replied (Completed c)) e j) (calls (f (Finished c)) (held t))
  held (heard {T} {V} {o} {u} {z} {p} {s} {k} {a} {r} e is_fit j t) f = heard e is_fit (comes_back T o u p s (Heard a) e j) (calls (f (told_so a)) (held t))
  held (missed {T} {V} {o} {u} {z} {p} {s} {k} {r} e is_fit j t) f = missed e is_fit (comes_back T o u p s Nobody e j) (calls (f Missed) (held t))
  held (answered_passed {T} {o} {u} {p} {s} {k} {r} q e is_fit j) f = answered_passed q e is_fit (comes_back T o u p s (Replied r) e j)
  held (entered {T} {U} {V} {o} {o1} {o2} {o3} {z} {p} {s} {k} {node} {y} {r} t i e here s1 m s2 no_exit n) f = enters_not T o o1 t i s1
  held (entered_exiting {T} {U} {o} {o1} {o2} {o3} {o4} {p} {c} {k} {node} {n} t i e here s1 m s2 s3) f = enters_not T o o1 t i s1
  held (unfound {T} {V} {o} {u} {z} {p} {s} {k} {r} t i e nobody s1 n) f = unfound_not T o u t i (prog.lost t) s1
