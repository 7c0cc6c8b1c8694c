-- What code executes is a run of such a world. (tcl_core has it for words that are listed.)
use Rattle.std.proofs.Common.{◌≡◌, List, [], ◌∷◌, ◌++◌, Some, None, length, refl, sym, subst, append_assoc, append-nil}
use Rattle.tcl_core.specs.Paths.{Place}
use Rattle.tcl_core.specs.Endings.{Reply, IsQuit, refusal}
use Rattle.tcl_core.specs.Endings.Meter.{Depth}
use Rattle.tcl_core.specs.Endings.Reply.{Completed, Exit}
use Rattle.tcl_core.specs.Entries.Answer.{Replied, Heard, Nobody}
use Rattle.tcl_core.specs.Entries.Said.{Finished, Told, Missed}
use Rattle.tcl_core.specs.Trees.{Tree, What, Event, Move, Grants, at, effect, depth_of}
use Rattle.tcl_core.specs.Trees.What.{Out, In, Done, Back, Unfound}
use Rattle.tcl_core.specs.Programs.{Wait, spot, Prog, Table, closes, Calls_only}
use Rattle.tcl_core.specs.Programs.Prog.{call}
use Rattle.tcl_core.specs.Runs.{World, Step, Runs, carried, height_of, gone, gone_from}
use Rattle.tcl_core.specs.Rules.{Derives}
use Rattle.tcl_core.specs.Execution.{Executes, Chain, Open, none, more, event, pending}
use Rattle.tcl_core.specs.Execution.Executes.{completed, exited, acted, refused, went, passed, wrapped, wrapped_passed, too_deep, shut, called, called_passed, unreached, called_out, answered, heard, missed, answered_passed, entered, entered_exiting, unfound}
use Rattle.tcl_core.proofs.Callers.{Fits, fit, or_lost_all}
use Rattle.tcl_core.proofs.Following.{back_within, called_on, chain-append, comes_back, goes_out, goes_within, plain_deed, plain_more, plain_open, replied, waiting}
use Rattle.tcl_core.proofs.Plain.{closes_plain}
use Rattle.tcl_core.proofs.RuleLaws.{derived_runs}
use Rattle.tcl_core.proofs.Seeing.{is_exit_self}
use Rattle.tcl_core.proofs.Subtrees.{exit_answer}
use Rattle.tcl_partial_runs.specs.Beginnings.{handed, allowed, handing}
use Rattle.tcl_partial_runs.proofs.Worlds.{Suits, Whole, handed-append, allowed-append, suits_before, suits_after, suits_next, decided, opened}
use Rattle.tcl_core.specs.Endings.Kind.{Full}

module _ {O : Type 0} where
  -- the world in which these are to happen, and then what l tells
  abbrev ahead : Tree O → List (Event O) → List (Move O) → Grants → List (Event O) → World O
  ahead T τ ms g l = handing T τ ms g (τ ++ l)

  next : (T : Tree O) (p : Place) (x : What O) (τ : List (Event O)) (ms : List (Move O)) (g : Grants) (l : List (Event O)) → Step (ahead T (event p x ∷ τ) ms g l) p x (ahead (effect p x T) τ ms g l)
  next T p x τ ms g l = record { tape = refl; tree = refl; moves = refl; grants = refl }

module _ {O I S : Type 0} (step : Tree O → S → Wait → Event O → S → Type 0) (prog : Table O I) where
  abbrev Comes : Tree O → Place → Prog O I → Tree O → Reply → List (Event O) → Type 0
  Comes T p x V r τ = (ms : List (Move O)) (g : Grants) (l : List (Event O)) → Suits g τ → Derives prog (ahead T τ ms g l) p x (ahead V [] ms g l) (Some r)

  record Says (T : Tree O) (o : S) (p : Place) (x : Prog O I) (V : Tree O) (z : S) (r : Reply) : Type 0 where
    pub events : List (Event O)
    pub chain : (cs : Open) → Chain step (waiting x cs) T o events cs V z
    pub runs : Comes T p x V r events

  -- a run, and what follows it
  first : (T U : Tree O) (p : Place) (x : Prog O I) (r : Reply) (a b : List (Event O)) (ms : List (Move O)) (g : Grants) (l : List (Event O)) → Suits g (a ++ b) → Comes T p x U r a → Derives prog (ahead T (a ++ b) ms g l) p x (ahead U b ms g l) (Some r)
  first T U p x r a b ms g l su f =
      let same : ahead T (a ++ b) ms g l ≡ ahead T a (handed b ms) (allowed b g) (b ++ l) = λ i. record { tree = T; moves = handed-append a b ms i; grants = allowed-append a b g i; tape = append_assoc a b l i } in
      subst (λ y. Derives prog y p x (ahead U b ms g l) (Some r)) (sym same) (f (handed b ms) (allowed b g) (b ++ l) (suits_before a b g su))

  follows : {T V : Tree O} {o z : S} {p : Place} {x : Prog O I} {r : Reply} → Fits x → Executes step prog T o p x V z r → Says T o p x V z r
  follows f (completed {T} {o} {p} {c}) = record { events = []; chain = λ cs. none; runs = λ ms g l su. Derives.completed (ahead T [] ms g l) p c }
  follows f (exited {T} {o} {p} {n}) = record { events = []; chain = λ cs. none; runs = λ ms g l su. Derives.exited (ahead T [] ms g l) p n }
  follows f (acted {T} {V} {o} {u} {z} {p} {d} {k} {r} x is_so on s t) =
      let h = follows (fit (k (at T p)) (f (at T p))) t in
      record {
        events = event (spot p x.0) x.1 ∷ h.events;
        chain = λ cs. plain_more step (plain_deed d T p x is_so) s (called_on step (k (at T p)) (f (at T p)) (h.chain cs));
        runs = λ ms g l su. Derives.acted _ p d k x (ahead (effect (spot p x.0) x.1 T) h.events ms g l) _ _ (decided d T p x is_so h.events g su) on (next T (spot p x.0) x.1 h.events ms g l) (h.runs ms g l (suits_next _ _ _ su));
      }
  follows f (refused {T} {o} {u} {p} {d} {k} {r} x is_so off s) =
      record {
        events = event (spot p x.0) x.1 ∷ [];
        chain = λ cs. plain_more step (plain_deed d T p x is_so) s none;
        runs = λ ms g l su. Derives.refused _ p d k x r (ahead (effect (spot p x.0) x.1 T) [] ms g l) (decided d T p x is_so [] g su) off (next T (spot p x.0) x.1 [] ms g l);
      }
  follows f (went {T} {U} {V} {o} {u} {z} {p} {i} {k} {c} {r} a b) =
      let h = follows (fit (prog.program i) (prog.programs_call i)) a in
      let n = follows (fit (k c) (f c)) b in
      record {
        events = h.events ++ n.events;
        chain = λ cs. chain-append step (called_on step (prog.program i) (prog.programs_call i) (h.chain cs)) (called_on step (k c) (f c) (n.chain cs));
        runs = λ ms g l su. Derives.went _ p i k (ahead U n.events ms g l) c _ _ (first T U p (prog.program i) (Completed c) h.events n.events ms g l su h.runs) (n.runs ms g l (suits_after h.events n.events g su));
      }
  follows f (passed {T} {U} {o} {u} {p} {i} {k} {r} q a) =
      let h = follows (fit (prog.program i) (prog.programs_call i)) a in
      record { events = h.events; chain = λ cs. called_on step (prog.program i) (prog.programs_call i) (h.chain cs); runs = λ ms g l su. Derives.passed _ p i k (ahead U [] ms g l) r q (h.runs ms g l su) }
  follows f (wrapped {T} {U} {V} {o} {o1} {o2} {o3} {z} {p} {b} {i} {k} {c} {r} x is_so on s1 a s2 t) =
      let h = follows (fit (prog.program i) (prog.programs_call i)) a in
      let n = follows (fit (k c) (f c)) t in
      let tail : List (Event O) = event p (closes b (effect (spot p x.0) x.1 T p) (U p)) ∷ n.events in
      record {
        events = event (spot p x.0) x.1 ∷ (h.events ++ tail);
        chain = λ cs. plain_more step (plain_open b T p x is_so) s1 (chain-append step (called_on step (prog.program i) (prog.programs_call i) (h.chain cs)) (plain_more step (closes_plain b (effect (spot p x.0) x.1 T p) (U p)) s2 (called_on step (k c) (f c) (n.chain cs))));
        runs = λ ms g l su. Derives.wrapped _ p b i k x (ahead (effect (spot p x.0) x.1 T) (h.events ++ tail) ms g l) (ahead U tail ms g l) (ahead (effect p (closes b (effect (spot p x.0) x.1 T p) (U p)) U) n.events ms g l) _ c _
            (opened b T p x is_so (h.events ++ tail) g su) on (next T (spot p x.0) x.1 (h.events ++ tail) ms g l)
            (first (effect (spot p x.0) x.1 T) U p (prog.program i) (Completed c) h.events tail ms g l (suits_next _ _ _ su) h.runs)
            (next U p (closes b (effect (spot p x.0) x.1 T p) (U p)) n.events ms g l) (n.runs ms g l (suits_next _ _ _ (suits_after h.events tail g (suits_next _ _ _ su))));
      }
  follows f (wrapped_passed {T} {U} {o} {o1} {o2} {o3} {p} {b} {i} {k} {r} x q is_so on s1 a s2) =
      let h = follows (fit (prog.program i) (prog.programs_call i)) a in
      let tail : List (Event O) = event p (closes b (effect (spot p x.0) x.1 T p) (U p)) ∷ [] in
      record {
        events = event (spot p x.0) x.1 ∷ (h.events ++ tail);
        chain = λ cs. plain_more step (plain_open b T p x is_so) s1 (chain-append step (called_on step (prog.program i) (prog.programs_call i) (h.chain cs)) (plain_more step (closes_plain b (effect (spot p x.0) x.1 T p) (U p)) s2 none));
        runs = λ ms g l su. Derives.wrapped_passed _ p b i k x (ahead (effect (spot p x.0) x.1 T) (h.events ++ tail) ms g l) (ahead U tail ms g l) (ahead (effect p (closes b (effect (spot p x.0) x.1 T p) (U p)) U) [] ms g l) r q
            (opened b T p x is_so (h.events ++ tail) g su) on (next T (spot p x.0) x.1 (h.events ++ tail) ms g l)
            (first (effect (spot p x.0) x.1 T) U p (prog.program i) r h.events tail ms g l (suits_next _ _ _ su) h.runs)
            (next U p (closes b (effect (spot p x.0) x.1 T p) (U p)) [] ms g l);
      }
  follows f (too_deep {T} {V} {o} {u} {z} {p} {b} {i} {k} {r} x is_so deep s t) =
      let n = follows (fit (k (refusal (Full Depth))) (f (refusal (Full Depth)))) t in
      record {
        events = event (spot p x.0) x.1 ∷ n.events;
        chain = λ cs. plain_more step (plain_open b T p x is_so) s (called_on step (k (refusal (Full Depth))) (f (refusal (Full Depth))) (n.chain cs));
        runs = λ ms g l su. Derives.too_deep _ p b i k x (ahead (effect (spot p x.0) x.1 T) n.events ms g l) _ _ (opened b T p x is_so n.events g su) deep (next T (spot p x.0) x.1 n.events ms g l) (n.runs ms g l (suits_next _ _ _ su));
      }
  follows f (shut {T} {o} {u} {p} {b} {i} {k} {r} x is_so off s) =
      record {
        events = event (spot p x.0) x.1 ∷ [];
        chain = λ cs. plain_more step (plain_open b T p x is_so) s none;
        runs = λ ms g l su. Derives.shut _ p b i k x r (ahead (effect (spot p x.0) x.1 T) [] ms g l) (opened b T p x is_so [] g su) off (next T (spot p x.0) x.1 [] ms g l);
      }
  follows calls (called {T} {U} {V} {o} {o1} {o2} {o3} {o4} {o5} {z} {p} {h} {down} {i} {lost} {k} {s} {r} {c} a t e there s1 s2 m s3 so s4 j) =
      let f = follows (fit (prog.entry i) (prog.entries_call i)) m in
      let n = follows (fit (k (Finished c)) (calls (Finished c))) j in
      let last : List (Event O) = event p (Back h (Replied (carried (gone (depth_of (T p)) U p) h p down s))) ∷ n.events in
      let tail : List (Event O) = event t (Done (Some (length down)) s) ∷ last in
      let inner : List (Event O) = event t (In (Some (length down)) i) ∷ (f.events ++ tail) in
      record {
        events = event p (Out h down i) ∷ inner;
        chain = λ cs. goes_within step e s1 (more s2 (chain-append step (called_on step (prog.entry i) (prog.entries_call i) (f.chain cs)) (more s3 (back_within step e s4 (called_on step (k (Finished c)) (calls (Finished c)) (n.chain cs))))));
        runs = λ ms g l su. let su2 : Suits g (f.events ++ tail) = suits_next _ _ _ (suits_next _ inner _ su) in
            Derives.called _ p h down i lost k a t (ahead T inner ms g l) (ahead T (f.events ++ tail) ms g l) (ahead U tail ms g l) (ahead U last ms g l) (ahead U n.events ms g l) _ s c _ e
            (next T p (Out h down i) inner ms g l) there (next T t (In (Some (length down)) i) (f.events ++ tail) ms g l)
            (first T U t (prog.entry i) s f.events tail ms g l su2 f.runs)
            (next U t (Done (Some (length down)) s) last ms g l) so (next U p (Back h (Replied (carried (gone (depth_of (T p)) U p) h p down s))) n.events ms g l) (n.runs ms g l (suits_next _ _ _ (suits_next _ last _ (suits_after f.events tail g su2))));
      }
  follows calls (called_passed {T} {U} {o} {o1} {o2} {o3} {o4} {o5} {p} {h} {down} {i} {lost} {k} {s} {r} a t e there s1 s2 m s3 so q s4) =
      let f = follows (fit (prog.entry i) (prog.entries_call i)) m in
      let last : List (Event O) = event p (Back h (Replied (carried (gone (depth_of (T p)) U p) h p down s))) ∷ [] in
      let tail : List (Event O) = event t (Done (Some (length down)) s) ∷ last in
      let inner : List (Event O) = event t (In (Some (length down)) i) ∷ (f.events ++ tail) in
      record {
        events = event p (Out h down i) ∷ inner;
        chain = λ cs. goes_within step e s1 (more s2 (chain-append step (called_on step (prog.entry i) (prog.entries_call i) (f.chain cs)) (more s3 (back_within step e (subst (λ y. step U o4 None (event p (Back h (Replied y))) o5) (sym so) s4) none))));
        runs = λ ms g l su. subst (λ y. Derives prog (ahead T (event p (Out h down i) ∷ inner) ms g l) p (call h down i lost k) (ahead U [] ms g l) (Some y)) so
            (Derives.called_passed _ p h down i lost k a t (ahead T inner ms g l) (ahead T (f.events ++ tail) ms g l) (ahead U tail ms g l) (ahead U last ms g l) (ahead U [] ms g l) s e
            (next T p (Out h down i) inner ms g l) there (next T t (In (Some (length down)) i) (f.events ++ tail) ms g l)
            (first T U t (prog.entry i) s f.events tail ms g l (suits_next _ _ _ (suits_next _ inner _ su)) f.runs)
            (next U t (Done (Some (length down)) s) last ms g l) (subst IsQuit (sym so) q) (next U p (Back h (Replied (carried (gone (depth_of (T p)) U p) h p down s))) [] ms g l));
      }
  follows calls (unreached {T} {V} {o} {o1} {o2} {z} {p} {h} {down} {i} {lost} {k} {r} a e there s1 s2 t) =
      let n = follows (fit (k (Finished lost)) (calls (Finished lost))) t in
      let tail : List (Event O) = event p (Back h (Replied (Completed lost))) ∷ n.events in
      record {
        events = event p (Out h down i) ∷ tail;
        chain = λ cs. goes_within step e s1 (back_within step e s2 (called_on step (k (Finished lost)) (calls (Finished lost)) (n.chain cs)));
        runs = λ ms g l su. Derives.unreached _ p h down i lost k a (ahead T tail ms g l) (ahead T n.events ms g l) _ _ e (next T p (Out h down i) tail ms g l) there (next T p (Back h (Replied (Completed lost))) n.events ms g l) (n.runs ms g l (suits_next _ _ _ (suits_next _ tail _ su)));
      }
  follows calls (called_out {T} {V} {o} {u} {z} {p} {h} {down} {i} {lost} {k} {r} e s t) =
      let n = follows (or_lost_all Calls_only lost k calls) t in
      record {
        events = event p (Out h down i) ∷ n.events;
        chain = λ cs. goes_out step e s (n.chain cs);
        runs = λ ms g l su. Derives.called_out _ p h down i lost k (ahead T n.events ms g l) _ _ e (next T p (Out h down i) n.events ms g l) (n.runs ms g l (suits_next _ _ _ su));
      }
  follows calls (answered {T} {V} {o} {u} {z} {p} {s} {k} {c} {r} e own j t) =
      let n = follows (fit (k (Finished c)) (calls (Finished c))) t in
      record {
        events = event p (Back (height_of s) (Replied (Completed c))) ∷ n.events;
        chain = λ cs. replied step s p e (Replied (Completed c)) (gone_from s T p) own j (called_on step (k (Finished c)) (calls (Finished c)) (n.chain cs));
        runs = λ ms g l su. Derives.answered _ p s k c (ahead T n.events ms g l) _ _ e own (next T p (Back (height_of s) (Replied (Completed c))) n.events ms g l) (n.runs ms g l (suits_next _ _ _ su));
      }
  follows calls (heard {T} {V} {o} {u} {z} {p} {s} {k} {a} {r} e own j t) =
      let n = follows (fit (k (Told a)) (calls (Told a))) t in
      record {
        events = event p (Back (height_of s) (Heard a)) ∷ n.events;
        chain = λ cs. replied step s p e (Heard a) (gone_from s T p) own j (called_on step (k (Told a)) (calls (Told a)) (n.chain cs));
        runs = λ ms g l su. Derives.heard _ p s k a (ahead T n.events ms g l) _ _ e own (next T p (Back (height_of s) (Heard a)) n.events ms g l) (n.runs ms g l (suits_next _ _ _ su));
      }
  follows calls (missed {T} {V} {o} {u} {z} {p} {s} {k} {r} e own j t) =
      let n = follows (fit (k Missed) (calls Missed)) t in
      record {
        events = event p (Back (height_of s) Nobody) ∷ n.events;
        chain = λ cs. replied step s p e Nobody (gone_from s T p) own j (called_on step (k Missed) (calls Missed) (n.chain cs));
        runs = λ ms g l su. Derives.missed _ p s k (ahead T n.events ms g l) _ _ e own (next T p (Back (height_of s) Nobody) n.events ms g l) (n.runs ms g l (suits_next _ _ _ su));
      }
  follows calls (answered_passed {T} {o} {u} {p} {s} {k} {r} q e own j) =
      record {
        events = event p (Back (height_of s) (Replied r)) ∷ [];
        chain = λ cs. replied step s p e (Replied r) (gone_from s T p) own j none;
        runs = λ ms g l su. Derives.answered_passed _ p s k r (ahead T [] ms g l) q e own (next T p (Back (height_of s) (Replied r)) [] ms g l);
      }
  follows calls (entered {T = T} {U = U} {p = p} {s = s} {k = k} {y = j} t i e here s1 m s2 calm b) =
      let f = follows (fit (prog.entry i) (prog.entries_call i)) m in
      let n = follows calls b in
      let tail : List (Event O) = event t (Done None j) ∷ n.events in
      record {
        events = event t (In None i) ∷ (f.events ++ tail);
        chain = λ cs. more s1 (chain-append step (called_on step (prog.entry i) (prog.entries_call i) (f.chain (pending s cs))) (more s2 (n.chain cs)));
        runs = λ ms g l su. Derives.entered _ p s k t i (ahead T (f.events ++ tail) ms g l) (ahead U tail ms g l) (ahead U n.events ms g l) _ j _ e here
            (next T t (In None i) (f.events ++ tail) ms g l) (first T U t (prog.entry i) j f.events tail ms g l (suits_next _ _ _ su) f.runs) (next U t (Done None j) n.events ms g l) calm
            (n.runs ms g l (suits_next _ _ _ (suits_after f.events tail g (suits_next _ _ _ su))));
      }
  follows calls (entered_exiting {T = T} {U = U} {p = p} {c = c} {k = k} {n = n} t i e here s1 m s2 s3) =
      let f = follows (fit (prog.entry i) (prog.entries_call i)) m in
      let last : List (Event O) = event p (Back c.0 (Replied (Exit n))) ∷ [] in
      let tail : List (Event O) = event t (Done None (Exit n)) ∷ last in
      record {
        events = event t (In None i) ∷ (f.events ++ tail);
        chain = λ cs. more s1 (chain-append step (called_on step (prog.entry i) (prog.entries_call i) (f.chain (c ∷ cs))) (more s2 (comes_back step e s3 none)));
        runs = λ ms g l su. Derives.entered_exiting _ p (Some c) k t i (ahead T (f.events ++ tail) ms g l) (ahead U tail ms g l) (ahead U last ms g l) (ahead U [] ms g l) n (Some (Exit n)) e here
            (next T t (In None i) (f.events ++ tail) ms g l) (first T U t (prog.entry i) (Exit n) f.events tail ms g l (suits_next _ _ _ su) f.runs) (next U t (Done None (Exit n)) last ms g l)
            (exit_answer (ahead U last ms g l) p (Some c) n (ahead U [] ms g l) e (is_exit_self n) (next U p (Back c.0 (Replied (Exit n))) [] ms g l));
      }
  follows calls (unfound {T = T} {p = p} {s = s} {k = k} t i e here s1 b) =
      let n = follows calls b in
      record {
        events = event [] (Unfound t i (prog.lost t)) ∷ n.events;
        chain = λ cs. more s1 (n.chain cs);
        runs = λ ms g l su. Derives.unfound _ p s k t i (ahead T n.events ms g l) _ _ e here (next T [] (Unfound t i (prog.lost t)) n.events ms g l) (n.runs ms g l (suits_next _ _ _ su));
      }

  -- what happens in a run that came to its end
  pub record Came (T : Tree O) (o : S) (p : Place) (x : Prog O I) (V : Tree O) (z : S) (r : Reply) : Type 0 where
    pub events : List (Event O)
    pub chain : (cs : Open) → Chain step (waiting x cs) T o events cs V z
    pub whole : Whole prog T p x V r events

  pub came : {T V : Tree O} {o z : S} {p : Place} {x : Prog O I} {r : Reply} → Fits x → Executes step prog T o p x V z r → Came T o p x V z r
  came {T} {V} {o} {z} {p} {x} {r} f t =
      let h = follows f t in
      record {
        events = h.events;
        chain = h.chain;
        whole = λ ms g su. subst (λ l. Runs prog (handing T h.events ms g l) p x (handing V [] ms g []) (Some r)) (append-nil h.events) (derived_runs prog (h.runs ms g [] su));
      }
