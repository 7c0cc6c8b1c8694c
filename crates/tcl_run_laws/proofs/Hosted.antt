-- What comes with an outside that goes as a host does comes with the host and the call that is open to it, and the same happens: one proof over how runs come.
use Rattle.std.proofs.Common.{◌≡◌, refl, sym, ◌∙◌, ap, subst, ℕ, Bool, true, false, ◌+◌, ◌-◌, nat_lt, List, [], ◌∷◌, ◌++◌, Option, Some, None, length}
use Rattle.std.proofs.lemmas.Bool.{false≢true}
use Rattle.tcl_core.specs.Endings.{Kind, Reply}
use Rattle.tcl_core.specs.Endings.Kind.{Full, Gone}
use Rattle.tcl_core.specs.Endings.Reply.{Completed, Stop, Exit, Cut}
use Rattle.tcl_core.specs.Entries.{Answer, Entry}
use Rattle.tcl_core.specs.Entries.Answer.{Replied, Heard, Nobody}
use Rattle.tcl_core.specs.Entries.Entry.{AskHost}
use Rattle.tcl_core.specs.Entries.Said.{Finished, Told as told_so, Missed}
use Rattle.tcl_core.specs.Paths.{Path, Place, Height, falls, together, rise_to}
use Rattle.tcl_core.specs.Programs.{Act, Calls_only, Prog, Table, Wait, spot, closes}
use Rattle.tcl_core.specs.Programs.Act.{Look, Change, Charge, Limit, LimitDepth, Make, Drop}
use Rattle.tcl_core.specs.Programs.Next.{Off}
use Rattle.tcl_core.specs.Programs.Prog.{done, exit, act, go, inside, call, wait}
use Rattle.tcl_core.specs.Runs.{carried, carried_by, ended, gone, gone_from, height_of, lessened, reached, returned}
use Rattle.tcl_core.specs.Execution.{Executes, event, passing}
use Rattle.tcl_core.specs.Execution.Executes.{completed, exited, acted, refused, went, passed, wrapped, wrapped_passed, too_deep, shut, called, called_passed, unreached, called_out, answered, heard, missed, answered_passed, entered, entered_exiting, unfound}
use Rattle.tcl_core.specs.Trees.{Event, Tree, What, at, depth_of, effect}
use Rattle.tcl_core.specs.Trees.What.{Out, In, Done, Back, Unfound}
use Rattle.tcl_core.proofs.PathLaws.{rise_back}
use Rattle.tcl_core.proofs.Unended.{IsNoCut, NotCut}
use Rattle.tcl_core.proofs.Callers.{waits_for, Fits, no_wait, fit, or_lost_all}
use Rattle.tcl_core.proofs.TreeLaws.{reached_at}
use Rattle.tcl_run_laws.specs.Limits.{AsksBelow, HasTop, KeepTops, LimitsBelow, sets_steps}
use Rattle.tcl_host.specs.declared.reply.HostReply.{HostReply as TheirReply}
use Rattle.tcl_host.specs.declared.request.Request.{Request as TheirRequest}
use Rattle.tcl_run.specs.Outsides.{Going, hosted_at, hosted_by}
use Rattle.tcl_tree.specs.Own.{Own}
use Rattle.tcl_run_laws.proofs.Nearness.{Inside, Near, top_near}
use Rattle.tcl_run_laws.proofs.Holding.{Goes, Holding, holding, keeps_call, within, asks, hears, hears_not, misses, misses_not}
use Rattle.tcl_run_laws.proofs.Deeds.{Goes_so, SetsNone, closes_near, decides_near, opens_near, unheard}
use Rattle.tcl_run_laws.proofs.Taping.{Taped}

lessened_uncut : (b : Bool) (n : ℕ) (m : Kind) → NotCut (lessened b n m)
lessened_uncut true n m = tt
lessened_uncut false n m = tt

seen_uncut : (h : Height) (p : Place) (down : Path) (r : Reply) → NotCut r → NotCut (carried_by r h p down)
seen_uncut h p down (Completed c) f = tt
seen_uncut None p down (Stop n m) f = tt
seen_uncut (Some h) p down (Stop n m) f = lessened_uncut (nat_lt (n + together (falls h p) down) (length down)) (n + h - length down) m
seen_uncut h p down (Exit n) f = tt
seen_uncut h p down (Cut c) f = f

ended_uncut : (g : Option ℕ) (r : Reply) → NotCut r → NotCut (ended g r)
ended_uncut None r f = f
ended_uncut (Some n) (Completed c) f = tt
ended_uncut (Some n) (Stop l m) f = f
ended_uncut (Some n) (Exit l) f = f
ended_uncut (Some n) (Cut c) f = f

-- what is no end from outside isn't one for the caller either, whether it is gone or not
carried_uncut : (g : Option ℕ) (h : Height) (p : Place) (down : Path) (r : Reply) → NotCut r → NotCut (carried g h p down r)
carried_uncut g h p down r f = ended_uncut g (carried_by r h p down) (seen_uncut h p down r f)

off_uncut : (x : _) (r : Reply) → x ≡ Off r → IsNoCut x → NotCut r
off_uncut x (Completed c) e f = tt
off_uncut x (Stop n m) e f = tt
off_uncut x (Exit n) e f = tt
off_uncut x (Cut c) e f = let g : IsNoCut (Off (Cut c)) = subst IsNoCut e f in g

-- at the top no limit of steps is set
abbrev pub is_below : Place → Bool
is_below [] = false
is_below (x ∷ p) = true

-- a call for that comes in below the top
asked_below : (a down : Path) (i : Entry) → AsksBelow down i → a ++ down ≡ [] → sets_steps i ≡ false
asked_below a [] i f e = f
asked_below [] (x ∷ down) i f e = cc
asked_below (y ∷ a) (x ∷ down) i f e = cc

module _ {O I : Type 0} (fine : I → Bool) where
  -- what sets no limit may set one
  weaken : (x : Prog O I) → LimitsBelow fine false x → LimitsBelow fine true x
  weaken (done c) f = tt
  weaken (exit n) f = tt
  weaken (act (Limit l) k) f = absurd (false≢true f.0)
  weaken (act Look k) f = λ T. weaken (k T) (f T)
  weaken (act (Change own) k) f = λ T. weaken (k T) (f T)
  weaken (act Charge k) f = λ T. weaken (k T) (f T)
  weaken (act (LimitDepth l) k) f = λ T. weaken (k T) (f T)
  weaken (act (Make name own s) k) f = λ T. weaken (k T) (f T)
  weaken (act (Drop name) k) f = λ T. weaken (k T) (f T)
  weaken (go i k) f = (f.0, λ c. weaken (k c) (f.1 c))
  weaken (inside b i k) f = (f.0, λ c. weaken (k c) (f.1 c))
  weaken (call h down i lost k) f = (f.0, λ a. weaken (k a) (f.1 a))
  weaken (wait s k) f = λ a. weaken (k a) (f a)

  pub at_place : (p : Place) (x : Prog O I) → LimitsBelow fine false x → LimitsBelow fine (is_below p) x
  at_place [] x f = f
  at_place (y ∷ p) x f = weaken x f

  sets_none : (d : Act O) (k : Tree O → Prog O I) → LimitsBelow fine false (act d k) → SetsNone d
  sets_none Look k f = tt
  sets_none (Change own) k f = tt
  sets_none Charge k f = tt
  sets_none (Limit l) k f = absurd (false≢true f.0)
  sets_none (LimitDepth l) k f = tt
  sets_none (Make name own s) k f = tt
  sets_none (Drop name) k f = tt

  none_at : (p : Place) (d : Act O) (k : Tree O → Prog O I) → LimitsBelow fine (is_below p) (act d k) → p ≡ [] → SetsNone d
  none_at p d k f e = sets_none d k (subst (λ q. LimitsBelow fine (is_below q) (act d k)) e f)

  after_act : (may : Bool) (d : Act O) (k : Tree O → Prog O I) (T : Tree O) → LimitsBelow fine may (act d k) → LimitsBelow fine may (k T)
  after_act may Look k T f = f T
  after_act may (Change own) k T f = f T
  after_act may Charge k T f = f T
  after_act may (Limit l) k T f = f.1 T
  after_act may (LimitDepth l) k T f = f T
  after_act may (Make name own s) k T f = f T
  after_act may (Drop name) k T f = f T

  pub entry_limits : (prog : Table O I) → KeepTops fine prog → (i : Entry) (t : Place) → (t ≡ [] → sets_steps i ≡ false) → LimitsBelow fine (is_below t) (prog.entry i)
  entry_limits prog keep i [] f = keep.entries i (f refl)
  entry_limits prog keep i (y ∷ t) f = keep.limiting i

-- an entry within the tree comes from there
pub comes_within : {O : Type 0} (T : Tree O) (a t : Place) (down : Path) → reached T a down ≡ Some t → Inside (Some (length down)) t
comes_within T a t down e = (a, ap (rise_to (Some (length down))) (reached_at (T (a ++ down)) t (a ++ down) e) ∙ rise_back a down)

-- An outside `goes` by steps each of which is one of the host that it holds; what happens is written down.
module _ {I S R : Type 0} (step : S → TheirRequest → TheirReply → S → Type 0) (goes : Going R) (host_of : R → S)
    (as_host : (T : Tree Own) (o : R) (s : Wait) (ev : Event Own) (u : R) → goes T o s ev u → Goes_so step T (host_of o) s ev (host_of u)) (fine : I → Bool) (prog : Table Own I) (keep : KeepTops fine prog) where
  -- the outside, and what is written
  abbrev State : Type 0
  State = R × List (Event Own)

  -- the host that it holds with the open call, and what is written
  abbrev keeping : State → Wait → Holding S × List (Event Own)
  keeping o c = (holding (host_of o.0) c, o.1)

  so : (T : Tree Own) (o : State) (s : Wait) (ev : Event Own) (u : State) → Taped goes T o s ev u → Goes_so step T (host_of o.0) s ev (host_of u.0)
  so T o s ev u g = as_host T o.0 s ev u.0 g.goes

  -- within the tree the open call stays as it is
  stays : (T : Tree Own) (o u : State) (c s : Wait) (p : Place) (x : What Own) → Near p x → Taped goes T o s (event p x) u → Taped (keeps_call step) T (keeping o c) s (event p x) (keeping u c)
  stays T o u c s p x f g = record {
    goes = within f (ap (λ z. holding z c) (unheard step T (host_of o.0) s p x (host_of u.0) f (so T o s (event p x) u g)));
    written = g.written;
  }

  -- a call past the top
  leaves : (T : Tree Own) (o u : State) (p : Place) (h : Height) (down : Path) (i : Entry) → rise_to h p ≡ None → Taped goes T o None (event p (Out h down i)) u →
      Taped (keeps_call step) T (keeping o None) None (event p (Out h down i)) (keeping u (Some (h, i, depth_of (T p))))
  leaves T o u p h down i past g =
      let told = (so T o None (event p (Out h down i)) u g).told in
      let same : host_of u.0 ≡ host_of o.0 = subst (λ b. passing b (hosted_at step) T (host_of o.0) None (event p (Out h down i)) (host_of u.0)) past told in
      record { goes = asks h down i (depth_of (T p)) refl past refl (ap (λ z. holding z (Some (h, i, depth_of (T p)))) same); written = g.written }

  -- no entry comes in
  enters_not : {A : Type 0} (T : Tree Own) (o u : State) (t : Place) (i : Entry) → Taped goes T o None (event t (In None i)) u → A
  enters_not T o u t i g = absurd (so T o None (event t (In None i)) u g).told

  -- nor one that finds nobody
  unfound_not : {A : Type 0} (T : Tree Own) (o u : State) (t : Path) (i : Entry) (c : _) → Taped goes T o None (event [] (Unfound t i c)) u → A
  unfound_not T o u t i c g = absurd (so T o None (event [] (Unfound t i c)) u g).told

  -- how a call past the top is answered
  by_host : (g : Option ℕ) (o u : S) (p : Place) (s : Wait) (a : Answer) → rise_to (height_of s) p ≡ None → hosted_by step g o s (Back (height_of s) a) u → Goes step (holding o s) p (Back (height_of s) a) (holding u None)
  by_host l o u p None a past g = absurd g
  by_host l o u p (Some (None, AskHost request, d)) (Heard a) past (q, reply, e1, e2, s) = hears q reply d (ap (λ z. Back None (Heard z)) (sym e2)) (ap (λ z. Some (None, AskHost z, d)) (sym e1)) s refl
  by_host l o u p (Some (None, AskHost request, d)) (Replied (Stop n Gone)) past (q, reply, e1, s) = hears_not q reply d n refl (ap (λ z. Some (None, AskHost z, d)) (sym e1)) s refl
  by_host l o u p (Some (None, AskHost request, d)) (Replied (Stop n (Full m))) past g = absurd g
  by_host l o u p (Some (None, AskHost request, d)) (Replied (Completed c)) past g = absurd g
  by_host l o u p (Some (None, AskHost request, d)) (Replied (Exit n)) past g = absurd g
  by_host l o u p (Some (None, AskHost request, d)) (Replied (Cut c)) past g = absurd g
  by_host l o u p (Some (None, AskHost request, d)) Nobody past g = absurd g
  by_host l o u p (Some (None, i, d)) a past g = absurd g
  by_host l o u p (Some (Some n, i, d)) (Heard a) past g = absurd g
  by_host l o u p (Some (Some n, i, d)) Nobody past g = misses n i d refl past refl (ap (λ z. holding z None) g)
  by_host l o u p (Some (Some n, i, d)) (Replied (Stop m Gone)) past g = misses_not n i d m refl past refl (ap (λ z. holding z None) g.1)
  by_host l o u p (Some (Some n, i, d)) (Replied (Stop k (Full m))) past g = absurd g
  by_host l o u p (Some (Some n, i, d)) (Replied (Completed c)) past g = absurd g
  by_host l o u p (Some (Some n, i, d)) (Replied (Exit m)) past g = absurd g
  by_host l o u p (Some (Some n, i, d)) (Replied (Cut c)) past g = absurd g

  -- and never by what cuts off
  answer_uncut : (l : Option ℕ) (o u : S) (s : Wait) (r : Reply) → hosted_by step l o s (Back (height_of s) (Replied r)) u → NotCut r
  answer_uncut l o u s (Completed c) g = tt
  answer_uncut l o u s (Stop n m) g = tt
  answer_uncut l o u s (Exit n) g = tt
  answer_uncut l o u None (Cut c) g = absurd g
  answer_uncut l o u (Some (None, AskHost request, d)) (Cut c) g = absurd g
  answer_uncut l o u (Some (None, i, d)) (Cut c) g = absurd g
  answer_uncut l o u (Some (Some n, i, d)) (Cut c) g = absurd g

  -- it is told so
  told_back : (T : Tree Own) (o u : State) (p : Place) (s : Wait) (a : Answer) → rise_to (height_of s) p ≡ None → Taped goes T o s (event p (Back (height_of s) a)) u → hosted_by step (gone_from s T p) (host_of o.0) s (Back (height_of s) a) (host_of u.0)
  told_back T o u p s a past g = subst (λ b. passing b (hosted_at step) T (host_of o.0) s (event p (Back (height_of s) a)) (host_of u.0)) past (so T o s (event p (Back (height_of s) a)) u g).told

  comes_back : (T : Tree Own) (o u : State) (p : Place) (s : Wait) (a : Answer) → rise_to (height_of s) p ≡ None → Taped goes T o s (event p (Back (height_of s) a)) u →
      Taped (keeps_call step) T (keeping o s) s (event p (Back (height_of s) a)) (keeping u None)
  comes_back T o u p s a past g = record { goes = by_host (gone_from s T p) (host_of o.0) (host_of u.0) p s a past (told_back T o u p s a past g); written = g.written }

  -- What comes so, with the call that is open; the top still stands; and the end is none from outside.
  pub record Held (T : Tree Own) (o : State) (c : Wait) (p : Place) (x : Prog Own I) (V : Tree Own) (z : State) (r : Reply) : Type 0 where
    pub executes : Executes (Taped (keeps_call step)) prog T (keeping o c) p x V (keeping z None) r
    pub top : HasTop V
    pub uncut : NotCut r

  pub calm : (T : Tree Own) (o : State) (p : Place) (x : Prog Own I) (V : Tree Own) (z : State) (r : Reply) → Calls_only x → Held T o (waits_for x) p x V z r → Held T o None p x V z r
  calm T o p x V z r f h = subst (λ c. Held T o c p x V z r) (no_wait x f) h

  pub held : {T V : Tree Own} {o z : State} {p : Place} {x : Prog Own I} {r : Reply} → Executes (Taped goes) prog T o p x V z r → Fits x → LimitsBelow fine (is_below p) x → HasTop T → Held T o (waits_for x) p x V z r
  held completed f l top = record { executes = completed; top = top; uncut = tt }
  held exited f l top = record { executes = exited; top = top; uncut = tt }
  held (acted {T} {V} {o} {u} {z} {p} {d} {k} {r} x is_so on s t) f l top =
      let g = decides_near step d T (host_of o.0) p (host_of u.0) x (none_at fine p d k l) is_so (so T o None (event (spot p x.0) x.1) u s) in
      let h = calm _ u p (k (at T p)) V z r (f (at T p)) (held t (fit (k (at T p)) (f (at T p))) (after_act fine (is_below p) d k (at T p) l) (top_near (spot p x.0) x.1 T g.near top)) in
      record { executes = acted x is_so on (stays T o u None None (spot p x.0) x.1 g.near s) h.executes; top = h.top; uncut = h.uncut }
  held (refused {T} {o} {u} {p} {d} {k} {r} x is_so off s) f l top =
      let g = decides_near step d T (host_of o.0) p (host_of u.0) x (none_at fine p d k l) is_so (so T o None (event (spot p x.0) x.1) u s) in
      record { executes = refused x is_so off (stays T o u None None (spot p x.0) x.1 g.near s); top = top_near (spot p x.0) x.1 T g.near top; uncut = off_uncut x.2 r off g.uncut }
  held (went {T} {U} {V} {o} {u} {z} {p} {i} {k} {c} {r} a b) f l top =
      let g = calm T o p (prog.program i) U u (Completed c) (prog.programs_call i) (held a (fit (prog.program i) (prog.programs_call i)) (at_place fine p (prog.program i) (keep.programs i l.0)) top) in
      let h = calm U u p (k c) V z r (f c) (held b (fit (k c) (f c)) (l.1 c) g.top) in
      record { executes = went g.executes h.executes; top = h.top; uncut = h.uncut }
  held (passed {T} {U} {o} {u} {p} {i} {k} {r} q a) f l top =
      let g = calm T o p (prog.program i) U u r (prog.programs_call i) (held a (fit (prog.program i) (prog.programs_call i)) (at_place fine p (prog.program i) (keep.programs i l.0)) top) in
      record { executes = passed q g.executes; top = g.top; uncut = g.uncut }
  held (wrapped {T} {U} {V} {o} {o1} {o2} {o3} {z} {p} {b} {i} {k} {c} {r} x is_so on s1 a s2 t) f l top =
      let n = opens_near step b T (host_of o.0) p (host_of o1.0) x is_so (so T o None (event (spot p x.0) x.1) o1 s1) in
      let m = closes_near step p b (effect (spot p x.0) x.1 T p) (U p) in
      let g = calm _ o1 p (prog.program i) U o2 (Completed c) (prog.programs_call i) (held a (fit (prog.program i) (prog.programs_call i)) (at_place fine p (prog.program i) (keep.programs i l.0)) (top_near (spot p x.0) x.1 T n.near top)) in
      let h = calm _ o3 p (k c) V z r (f c) (held t (fit (k c) (f c)) (l.1 c) (top_near p (closes b (effect (spot p x.0) x.1 T p) (U p)) U m g.top)) in
      record { executes = wrapped x is_so on (stays T o o1 None None (spot p x.0) x.1 n.near s1) g.executes (stays U o2 o3 None None p (closes b (effect (spot p x.0) x.1 T p) (U p)) m s2) h.executes; top = h.top; uncut = h.uncut }
  held (wrapped_passed {T} {U} {o} {o1} {o2} {o3} {p} {b} {i} {k} {r} x q is_so on s1 a s2) f l top =
      let n = opens_near step b T (host_of o.0) p (host_of o1.0) x is_so (so T o None (event (spot p x.0) x.1) o1 s1) in
      let m = closes_near step p b (effect (spot p x.0) x.1 T p) (U p) in
      let g = calm _ o1 p (prog.program i) U o2 r (prog.programs_call i) (held a (fit (prog.program i) (prog.programs_call i)) (at_place fine p (prog.program i) (keep.programs i l.0)) (top_near (spot p x.0) x.1 T n.near top)) in
      record { executes = wrapped_passed x q is_so on (stays T o o1 None None (spot p x.0) x.1 n.near s1) g.executes (stays U o2 o3 None None p (closes b (effect (spot p x.0) x.1 T p) (U p)) m s2); top = top_near p (closes b (effect (spot p x.0) x.1 T p) (U p)) U m g.top; uncut = g.uncut }
  held (too_deep {T} {V} {o} {u} {z} {p} {b} {i} {k} {r} x is_so deep s t) f l top =
      let n = opens_near step b T (host_of o.0) p (host_of u.0) x is_so (so T o None (event (spot p x.0) x.1) u s) in
      let h = calm _ u p (k _) V z r (f _) (held t (fit (k _) (f _)) (l.1 _) (top_near (spot p x.0) x.1 T n.near top)) in
      record { executes = too_deep x is_so deep (stays T o u None None (spot p x.0) x.1 n.near s) h.executes; top = h.top; uncut = h.uncut }
  held (shut {T} {o} {u} {p} {b} {i} {k} {r} x is_so off s) f l top =
      let n = opens_near step b T (host_of o.0) p (host_of u.0) x is_so (so T o None (event (spot p x.0) x.1) u s) in
      record { executes = shut x is_so off (stays T o u None None (spot p x.0) x.1 n.near s); top = top_near (spot p x.0) x.1 T n.near top; uncut = off_uncut x.2 r off n.uncut }
  held (called {T} {U} {V} {o} {o1} {o2} {o3} {o4} {o5} {z} {p} {h} {down} {i} {lost} {k} {s} {r} {c} a t e there s1 s2 m s3 so s4 n) f l top =
      let y : Inside (Some (length down)) t = comes_within T a t down there in
      let j = calm T o2 t (prog.entry i) U o3 s (prog.entries_call i) (held m (fit (prog.entry i) (prog.entries_call i)) (entry_limits fine prog keep i t (λ g. asked_below a down i l.0 (sym (reached_at (T (a ++ down)) t (a ++ down) there) ∙ g))) top) in
      let g = calm U o5 p (k (Finished c)) V z r (f (Finished c)) (held n (fit (k (Finished c)) (f (Finished c))) (l.1 (Finished c)) j.top) in
      record {
        executes = called a t e there (stays T o o1 None None p (Out h down i) (a, e) s1) (stays T o1 o2 None None t (In (Some (length down)) i) y s2) j.executes
            (stays U o3 o4 None None t (Done (Some (length down)) s) y s3) so (stays U o4 o5 None None p (Back h (Replied (returned T U h p down s))) (a, e) s4) g.executes;
        top = g.top;
        uncut = g.uncut;
      }
  held (called_passed {T} {U} {o} {o1} {o2} {o3} {o4} {o5} {p} {h} {down} {i} {lost} {k} {s} {r} a t e there s1 s2 m s3 so q s4) f l top =
      let y : Inside (Some (length down)) t = comes_within T a t down there in
      let j = calm T o2 t (prog.entry i) U o3 s (prog.entries_call i) (held m (fit (prog.entry i) (prog.entries_call i)) (entry_limits fine prog keep i t (λ g. asked_below a down i l.0 (sym (reached_at (T (a ++ down)) t (a ++ down) there) ∙ g))) top) in
      record {
        executes = called_passed a t e there (stays T o o1 None None p (Out h down i) (a, e) s1) (stays T o1 o2 None None t (In (Some (length down)) i) y s2) j.executes
            (stays U o3 o4 None None t (Done (Some (length down)) s) y s3) so q (stays U o4 o5 None None p (Back h (Replied r)) (a, e) s4);
        top = j.top;
        uncut = subst NotCut so (carried_uncut (gone (depth_of (T p)) U p) h p down s j.uncut);
      }
  held (unreached {T} {V} {o} {o1} {o2} {z} {p} {h} {down} {i} {lost} {k} {r} a e there s1 s2 t) f l top =
      let g = calm T o2 p (k (Finished lost)) V z r (f (Finished lost)) (held t (fit (k (Finished lost)) (f (Finished lost))) (l.1 (Finished lost)) top) in
      record {
        executes = unreached a e there (stays T o o1 None None p (Out h down i) (a, e) s1) (stays T o1 o2 None None p (Back h (Replied (Completed lost))) (a, e) s2) g.executes;
        top = g.top;
        uncut = g.uncut;
      }
  held (called_out {T} {V} {o} {u} {z} {p} {h} {down} {i} {lost} {k} {r} e s t) f l top =
      let g = held t (or_lost_all Calls_only lost k f) (or_lost_all (LimitsBelow fine (is_below p)) lost k l.1) top in
      record { executes = called_out e (leaves T o u p h down i e s) g.executes; top = g.top; uncut = g.uncut }
  held (answered {T} {V} {o} {u} {z} {p} {s} {k} {c} {r} e is_fit j t) f l top =
      let g = calm T u p (k (Finished c)) V z r (f (Finished c)) (held t (fit (k (Finished c)) (f (Finished c))) (l (Finished c)) top) in
      record { executes = answered e is_fit (comes_back T o u p s (Replied (Completed c)) e j) g.executes; top = g.top; uncut = g.uncut }
  held (heard {T} {V} {o} {u} {z} {p} {s} {k} {a} {r} e is_fit j t) f l top =
      let g = calm T u p (k (told_so a)) V z r (f (told_so a)) (held t (fit (k (told_so a)) (f (told_so a))) (l (told_so a)) top) in
      record { executes = heard e is_fit (comes_back T o u p s (Heard a) e j) g.executes; top = g.top; uncut = g.uncut }
  held (missed {T} {V} {o} {u} {z} {p} {s} {k} {r} e is_fit j t) f l top =
      let g = calm T u p (k Missed) V z r (f Missed) (held t (fit (k Missed) (f Missed)) (l Missed) top) in
      record { executes = missed e is_fit (comes_back T o u p s Nobody e j) g.executes; top = g.top; uncut = g.uncut }
  held (answered_passed {T} {o} {u} {p} {s} {k} {r} q e is_fit j) f l top =
      record { executes = answered_passed q e is_fit (comes_back T o u p s (Replied r) e j); top = top; uncut = answer_uncut (gone_from s T p) (host_of o.0) (host_of u.0) s r (told_back T o u p s (Replied r) e j) }
  held (entered {T} {U} {V} {o} {o1} {o2} {o3} {z} {p} {s} {k} {node} {y} {r} t i e here s1 m s2 no_exit n) f l top = enters_not T o o1 t i s1
  held (entered_exiting {T} {U} {o} {o1} {o2} {o3} {o4} {p} {c} {k} {node} {n} t i e here s1 m s2 s3) f l top = enters_not T o o1 t i s1
  held (unfound {T} {V} {o} {u} {z} {p} {s} {k} {r} t i e nobody s1 n) f l top = unfound_not T o u t i (prog.lost t) s1
