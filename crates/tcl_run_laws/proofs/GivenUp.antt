-- The same of what is given up on its way: it goes on up to where no call is open to the host. (A call that had gone out and was not answered is left off.)
use Rattle.std.proofs.Common.{◌≡◌, refl, sym, ◌∙◌, subst, Option, Some, None, length}
use Rattle.tcl_core.specs.Endings.Reply.{Completed}
use Rattle.tcl_core.specs.Entries.{Entry, Said}
use Rattle.tcl_core.specs.Endings.{Completion}
use Rattle.tcl_core.specs.Entries.Answer.{Replied, Heard, Nobody}
use Rattle.tcl_core.specs.Entries.Said.{Finished, Told as told_so, Missed}
use Rattle.tcl_core.specs.Paths.{Path, Place, Height, rise_to}
use Rattle.tcl_core.specs.Programs.{Calls_only, Prog, Table, Wait, spot, closes, or_lost}
use Rattle.tcl_core.specs.Programs.Prog.{call, wait}
use Rattle.tcl_core.specs.Runs.{returned}
use Rattle.tcl_core.specs.Execution.{Crossings, event}
use Rattle.tcl_core.specs.Trees.{Tree, at, depth_of, effect}
use Rattle.tcl_core.specs.Trees.What.{Out, In, Done, Back}
use Rattle.tcl_core.proofs.Callers.{Fits, fit, no_wait, or_lost_all, waits_for}
use Rattle.tcl_partial_runs.specs.Beginnings.{Begun}
use Rattle.tcl_partial_runs.specs.Beginnings.Begun.{stopped, ended, acted, going, went, within, wrapped, too_deep, calling_out, calling, returning, called, unreached, called_out, answered, heard, missed, entering_in, leaving, left, entered, unfound}
use Rattle.tcl_host.specs.declared.reply.HostReply.{HostReply as TheirReply}
use Rattle.tcl_host.specs.declared.request.Request.{Request as TheirRequest}
use Rattle.tcl_run.specs.Outsides.{hosted}
use Rattle.tcl_tree.specs.Own.{Own}
use Rattle.tcl_run_laws.proofs.Nearness.{Inside}
use Rattle.tcl_run_laws.proofs.Hosted.{comes_within}
use Rattle.tcl_run_laws.proofs.Placed.{decides_placed, opens_placed, closes_placed}
use Rattle.tcl_run_laws.proofs.UnfinishedHolding.{keeps_call}
use Rattle.tcl_run_laws.proofs.UnfinishedHosted.{Goes_so, comes_back, enters_not, calls, held, leaves, stays, unasked, unfound_not}

module _ {I S : Type 0} (step : S → TheirRequest → TheirReply → S → Type 0) (prog : Table Own I) where
  -- what is given up so, with the call that is open at first, and none in the end
  abbrev pub Kept : Tree Own → S → Wait → Place → Prog Own I → S → Type 0
  Kept T o c p x z = Begun (keeps_call step) prog T (o, c) p x (z, None)

  -- it is given up so, or before anything was answered
  data Left_off (T : Tree Own) (o : S) (p : Place) (x : Prog Own I) (z : S) : Type 0 where
    at_once : z ≡ o → Left_off T o p x z
    later : Kept T o (waits_for x) p x z → Left_off T o p x z

  -- where it calls, it is given up so
  calls_left : {T : Tree Own} {o z : S} {p : Place} {x : Prog Own I} → Calls_only x → (Fits x → Left_off T o p x z) → Kept T o None p x z
  calls_left {T} {o} {z} {p} {x} f h = by (h (fit x f))
    where
      by : Left_off T o p x z → Kept T o None p x z
      by (at_once e) = subst (λ y. Kept T o None p x y) (sym e) stopped
      by (later b) = subst (λ c. Kept T o c p x z) (no_wait x f) b

  -- a call went out, to whom it goes
  went_out : (T : Tree Own) (o u : S) (p : Place) (h : Height) (down : Path) (i : Entry) (lost : Completion) (k : Said → Prog Own I) (a : Option Place) → rise_to h p ≡ a → Goes_so step prog T o None (event p (Out h down i)) u →
      Left_off T o p (call h down i lost k) u
  went_out T o u p h down i lost k None e s = at_once (unasked step prog T o u p h down i e s)
  went_out T o u p h down i lost k (Some a) e s = later (calling_out (stays step prog T o u None None p (Out h down i) (a, e) s))

  -- what is given up with a host as the outside
  left_off : {T : Tree Own} {o z : S} {p : Place} {x : Prog Own I} → Begun (Crossings (hosted step)) prog T o p x z → Fits x → Left_off T o p x z
  left_off stopped f = at_once refl
  left_off (ended t) f = later (ended (held step prog t f))
  left_off (acted {T} {o} {u} {z} {p} {d} {k} x is_so on s b) f = later (acted x is_so on (stays step prog T o u None None (spot p x.0) x.1 (decides_placed d T p x is_so) s) (calls_left (f (at T p)) (left_off b)))
  left_off (going {i = i} b) f = later (going (calls_left (prog.programs_call i) (left_off b)))
  left_off (went {i = i} {c = c} t b) f = later (went (calls step prog (prog.programs_call i) (held step prog t)) (calls_left (f c) (left_off b)))
  left_off (within {T} {o} {u} {z} {p} {b} {i} {k} x is_so on s c) f = later (within x is_so on (stays step prog T o u None None (spot p x.0) x.1 (opens_placed b T p x is_so) s) (calls_left (prog.programs_call i) (left_off c)))
  left_off (wrapped {T} {U} {o} {o1} {o2} {o3} {z} {p} {b} {i} {k} {c} x is_so on s1 t s2 d) f =
      later (wrapped x is_so on (stays step prog T o o1 None None (spot p x.0) x.1 (opens_placed b T p x is_so) s1) (calls step prog (prog.programs_call i) (held step prog t))
      (stays step prog U o2 o3 None None p (closes b (effect (spot p x.0) x.1 T p) (U p)) (closes_placed p b (effect (spot p x.0) x.1 T p) (U p)) s2) (calls_left (f c) (left_off d)))
  left_off (too_deep {T} {o} {u} {z} {p} {b} {i} {k} x is_so deep s c) f = later (too_deep x is_so deep (stays step prog T o u None None (spot p x.0) x.1 (opens_placed b T p x is_so) s) (calls_left (f _) (left_off c)))
  left_off (calling_out {T} {o} {u} {p} {h} {down} {i} {lost} {k} s) f = went_out T o u p h down i lost k (rise_to h p) refl s
  left_off (calling {T} {o} {o1} {o2} {z} {p} {h} {down} {i} {lost} {k} a t e there s1 s2 b) f =
      let y : Inside (Some (length down)) t = comes_within T a t down there in
      later (calling a t e there (stays step prog T o o1 None None p (Out h down i) (a, e) s1) (stays step prog T o1 o2 None None t (In (Some (length down)) i) y s2) (calls_left (prog.entries_call i) (left_off b)))
  left_off (returning {T} {U} {o} {o1} {o2} {o3} {o4} {p} {h} {down} {i} {lost} {k} {s} a t e there s1 s2 m s3) f =
      let y : Inside (Some (length down)) t = comes_within T a t down there in
      later (returning a t e there (stays step prog T o o1 None None p (Out h down i) (a, e) s1) (stays step prog T o1 o2 None None t (In (Some (length down)) i) y s2) (calls step prog (prog.entries_call i) (held step prog m))
      (stays step prog U o3 o4 None None t (Done (Some (length down)) s) y s3))
  left_off (called {T} {U} {o} {o1} {o2} {o3} {o4} {o5} {z} {p} {h} {down} {i} {lost} {k} {s} {c} a t e there s1 s2 m s3 so s4 b) f =
      let y : Inside (Some (length down)) t = comes_within T a t down there in
      later (called a t e there (stays step prog T o o1 None None p (Out h down i) (a, e) s1) (stays step prog T o1 o2 None None t (In (Some (length down)) i) y s2) (calls step prog (prog.entries_call i) (held step prog m))
      (stays step prog U o3 o4 None None t (Done (Some (length down)) s) y s3) so (stays step prog U o4 o5 None None p (Back h (Replied (returned T U h p down s))) (a, e) s4) (calls_left (f (Finished c)) (left_off b)))
  left_off (unreached {T} {o} {o1} {o2} {z} {p} {h} {down} {i} {lost} {k} a e there s1 s2 b) f =
      later (unreached a e there (stays step prog T o o1 None None p (Out h down i) (a, e) s1) (stays step prog T o1 o2 None None p (Back h (Replied (Completed lost))) (a, e) s2) (calls_left (f (Finished lost)) (left_off b)))
  left_off (called_out {T} {o} {u} {z} {p} {h} {down} {i} {lost} {k} e s b) f = by (left_off b (or_lost_all Calls_only lost k f))
    where
      by : Left_off T u p (wait (Some (h, i, depth_of (T p))) (or_lost lost k)) z → Left_off T o p (call h down i lost k) z
      by (at_once same) = at_once (same ∙ unasked step prog T o u p h down i e s)
      by (later c) = later (called_out e (leaves step prog T o u p h down i e s) c)
  left_off (answered {T} {o} {u} {z} {p} {s} {k} {c} e is_fit j b) f = later (answered e is_fit (comes_back step prog T o u p s (Replied (Completed c)) e j) (calls_left (f (Finished c)) (left_off b)))
  left_off (heard {T} {o} {u} {z} {p} {s} {k} {a} e is_fit j b) f = later (heard e is_fit (comes_back step prog T o u p s (Heard a) e j) (calls_left (f (told_so a)) (left_off b)))
  left_off (missed {T} {o} {u} {z} {p} {s} {k} e is_fit j b) f = later (missed e is_fit (comes_back step prog T o u p s Nobody e j) (calls_left (f Missed) (left_off b)))
  left_off (entering_in {T} {o} {o1} t i e here s1 b) f = enters_not step prog T o o1 t i s1
  left_off (leaving {T} {U} {o} {o1} t i e here s1 m) f = enters_not step prog T o o1 t i s1
  left_off (left {T} {U} {o} {o1} t i e here s1 m s2) f = enters_not step prog T o o1 t i s1
  left_off (entered {T} {U} {o} {o1} t i e here s1 m s2 calm b) f = enters_not step prog T o o1 t i s1
  left_off (unfound {T} {o} {u} t i e nobody s1 b) f = unfound_not step prog T o u t i (prog.lost t) s1

  -- What is given up on its way with a host is given up so.
  pub kept : {T : Tree Own} {o z : S} {p : Place} {x : Prog Own I} → Begun (Crossings (hosted step)) prog T o p x z → Calls_only x → Kept T o None p x z
  kept b f = calls_left f (left_off b)
