-- A run, with all that happens in it written down.
use Rattle.std.proofs.Common.{◌≡◌, refl, sym, ◌∙◌, ap, List, [], ◌∷◌, ◌++◌, Some, None, length, append-nil, append_assoc}
use Rattle.tcl_core.specs.Endings.{Reply}
use Rattle.tcl_core.specs.Endings.Reply.{Completed, Exit}
use Rattle.tcl_core.specs.Entries.Answer.{Replied, Heard, Nobody}
use Rattle.tcl_core.specs.Paths.{Place}
use Rattle.tcl_core.specs.Programs.{Prog, Table, Wait, closes, spot}
use Rattle.tcl_core.specs.Runs.{height_of, returned}
use Rattle.tcl_core.specs.Execution.{Chain, Executes, Open, event, more, none}
use Rattle.tcl_core.specs.Execution.Executes.{completed, exited, acted, refused, went, passed, wrapped, wrapped_passed, too_deep, shut, called, called_passed, unreached, called_out, answered, heard, missed, answered_passed, entered, entered_exiting, unfound}
use Rattle.tcl_core.specs.Trees.{Event, Tree, effect}
use Rattle.tcl_core.specs.Trees.What.{Out, In, Done, Back, Unfound}

-- an outside goes so, and what happens is written behind what happened before
pub record Taped {O S : Type 0} (step : Tree O → S → Wait → Event O → S → Type 0) (T : Tree O) (o : S × List (Event O)) (s : Wait) (ev : Event O) (u : S × List (Event O)) : Type 0 where
  pub goes : step T o.0 s ev u.0
  pub written : u.1 ≡ o.1 ++ ev ∷ []

module _ {O S : Type 0} (step : Tree O → S → Wait → Event O → S → Type 0) where
  -- what an outside goes through is what is written
  pub all_written : {cs ds : Open} {T V : Tree O} {o z : S × List (Event O)} {τ : List (Event O)} → Chain (Taped step) cs T o τ ds V z → z.1 ≡ o.1 ++ τ
  all_written (none {o = o}) = sym (append-nil o.1)
  all_written (more {o = o} {ev = ev} {τ = τ} a rest) = all_written rest ∙ ap (λ xs. xs ++ τ) a.written ∙ append_assoc o.1 (ev ∷ []) τ

  pub unwritten : {cs ds : Open} {T V : Tree O} {o z : S × List (Event O)} {τ : List (Event O)} → Chain (Taped step) cs T o τ ds V z → Chain step cs T o.0 τ ds V z.0
  unwritten none = none
  unwritten (more a rest) = more a.goes (unwritten rest)

module _ {O I S : Type 0} (step : Tree O → S → Wait → Event O → S → Type 0) (prog : Table O I) where
  -- the run with all that happens in it behind what was written
  pub record Tapes (T : Tree O) (o : S) (before : List (Event O)) (p : Place) (x : Prog O I) (V : Tree O) (z : S) (r : Reply) : Type 0 where
    pub tape : List (Event O)
    pub executes : Executes (Taped step) prog T (o, before) p x V (z, tape) r

  one : {T : Tree O} {o u : S} {s : Wait} (ev : Event O) (a : List (Event O)) → step T o s ev u → Taped step T (o, a) s ev (u, a ++ ev ∷ [])
  one ev a g = record { goes = g; written = refl }

  pub tapes : {T V : Tree O} {o z : S} {p : Place} {x : Prog O I} {r : Reply} → Executes step prog T o p x V z r → (a : List (Event O)) → Tapes T o a p x V z r
  tapes completed a = record { tape = a; executes = completed }
  tapes exited a = record { tape = a; executes = exited }
  tapes (acted {T} {V} {o} {u} {z} {p} {d} {k} {r} x is_so on s t) a =
      let e = event (spot p x.0) x.1 in
      let g = tapes t (a ++ e ∷ []) in
      record { tape = g.tape; executes = acted x is_so on (one e a s) g.executes }
  tapes (refused {T} {o} {u} {p} {d} {k} {r} x is_so off s) a =
      let e = event (spot p x.0) x.1 in
      record { tape = a ++ e ∷ []; executes = refused x is_so off (one e a s) }
  tapes (went m n) a =
      let h = tapes m a in
      let g = tapes n h.tape in
      record { tape = g.tape; executes = went h.executes g.executes }
  tapes (passed q m) a =
      let h = tapes m a in
      record { tape = h.tape; executes = passed q h.executes }
  tapes (wrapped {T} {U} {V} {o} {o1} {o2} {o3} {z} {p} {b} {i} {k} {c} {r} x is_so on s1 m s2 n) a =
      let first = event (spot p x.0) x.1 in
      let last = event p (closes b (effect (spot p x.0) x.1 T p) (U p)) in
      let h = tapes m (a ++ first ∷ []) in
      let g = tapes n (h.tape ++ last ∷ []) in
      record { tape = g.tape; executes = wrapped x is_so on (one first a s1) h.executes (one last h.tape s2) g.executes }
  tapes (wrapped_passed {T} {U} {o} {o1} {o2} {o3} {p} {b} {i} {k} {r} x q is_so on s1 m s2) a =
      let first = event (spot p x.0) x.1 in
      let last = event p (closes b (effect (spot p x.0) x.1 T p) (U p)) in
      let h = tapes m (a ++ first ∷ []) in
      record { tape = h.tape ++ last ∷ []; executes = wrapped_passed x q is_so on (one first a s1) h.executes (one last h.tape s2) }
  tapes (too_deep {T} {V} {o} {u} {z} {p} {b} {i} {k} {r} x is_so deep s t) a =
      let e = event (spot p x.0) x.1 in
      let g = tapes t (a ++ e ∷ []) in
      record { tape = g.tape; executes = too_deep x is_so deep (one e a s) g.executes }
  tapes (shut {T} {o} {u} {p} {b} {i} {k} {r} x is_so off s) a =
      let e = event (spot p x.0) x.1 in
      record { tape = a ++ e ∷ []; executes = shut x is_so off (one e a s) }
  tapes (called {T} {U} {V} {o} {o1} {o2} {o3} {o4} {o5} {z} {p} {h} {down} {i} {lost} {k} {s} {r} {c} up t e there s1 s2 m s3 so s4 n) a =
      let out = event p (Out h down i) in
      let in_there = event t (In (Some (length down)) i) in
      let done_there = event t (Done (Some (length down)) s) in
      let back = event p (Back h (Replied (returned T U h p down s))) in
      let f = tapes m ((a ++ out ∷ []) ++ in_there ∷ []) in
      let g = tapes n ((f.tape ++ done_there ∷ []) ++ back ∷ []) in
      record {
        tape = g.tape;
        executes = called up t e there (one out a s1) (one in_there (a ++ out ∷ []) s2) f.executes (one done_there f.tape s3) so (one back (f.tape ++ done_there ∷ []) s4) g.executes;
      }
  tapes (called_passed {T} {U} {o} {o1} {o2} {o3} {o4} {o5} {p} {h} {down} {i} {lost} {k} {s} {r} up t e there s1 s2 m s3 so q s4) a =
      let out = event p (Out h down i) in
      let in_there = event t (In (Some (length down)) i) in
      let done_there = event t (Done (Some (length down)) s) in
      let back = event p (Back h (Replied r)) in
      let f = tapes m ((a ++ out ∷ []) ++ in_there ∷ []) in
      record {
        tape = (f.tape ++ done_there ∷ []) ++ back ∷ [];
        executes = called_passed up t e there (one out a s1) (one in_there (a ++ out ∷ []) s2) f.executes (one done_there f.tape s3) so q (one back (f.tape ++ done_there ∷ []) s4);
      }
  tapes (unreached {T} {V} {o} {o1} {o2} {z} {p} {h} {down} {i} {lost} {k} {r} up e there s1 s2 t) a =
      let out = event p (Out h down i) in
      let back = event p (Back h (Replied (Completed lost))) in
      let g = tapes t ((a ++ out ∷ []) ++ back ∷ []) in
      record { tape = g.tape; executes = unreached up e there (one out a s1) (one back (a ++ out ∷ []) s2) g.executes }
  tapes (called_out {T} {V} {o} {u} {z} {p} {h} {down} {i} {lost} {k} {r} e s t) a =
      let out = event p (Out h down i) in
      let g = tapes t (a ++ out ∷ []) in
      record { tape = g.tape; executes = called_out e (one out a s) g.executes }
  tapes (answered {T} {V} {o} {u} {z} {p} {s} {k} {c} {r} e is_fit j t) a =
      let back = event p (Back (height_of s) (Replied (Completed c))) in
      let g = tapes t (a ++ back ∷ []) in
      record { tape = g.tape; executes = answered e is_fit (one back a j) g.executes }
  tapes (heard {T} {V} {o} {u} {z} {p} {s} {k} {a = y} {r} e is_fit j t) a =
      let back = event p (Back (height_of s) (Heard y)) in
      let g = tapes t (a ++ back ∷ []) in
      record { tape = g.tape; executes = heard e is_fit (one back a j) g.executes }
  tapes (missed {T} {V} {o} {u} {z} {p} {s} {k} {r} e is_fit j t) a =
      let back = event p (Back (height_of s) Nobody) in
      let g = tapes t (a ++ back ∷ []) in
      record { tape = g.tape; executes = missed e is_fit (one back a j) g.executes }
  tapes (answered_passed {T} {o} {u} {p} {s} {k} {r} q e is_fit j) a =
      let back = event p (Back (height_of s) (Replied r)) in
      record { tape = a ++ back ∷ []; executes = answered_passed q e is_fit (one back a j) }
  tapes (entered {T} {U} {V} {o} {o1} {o2} {o3} {z} {p} {s} {k} {node} {y = j} {r} t i e here s1 m s2 calm n) a =
      let in_there = event t (In None i) in
      let done_there = event t (Done None j) in
      let f = tapes m (a ++ in_there ∷ []) in
      let g = tapes n (f.tape ++ done_there ∷ []) in
      record { tape = g.tape; executes = entered t i e here (one in_there a s1) f.executes (one done_there f.tape s2) calm g.executes }
  tapes (entered_exiting {T} {U} {o} {o1} {o2} {o3} {o4} {p} {c} {k} {node} {n} t i e here s1 m s2 s3) a =
      let in_there = event t (In None i) in
      let done_there = event t (Done None (Exit n)) in
      let back = event p (Back c.0 (Replied (Exit n))) in
      let f = tapes m (a ++ in_there ∷ []) in
      record {
        tape = (f.tape ++ done_there ∷ []) ++ back ∷ [];
        executes = entered_exiting t i e here (one in_there a s1) f.executes (one done_there f.tape s2) (one back (f.tape ++ done_there ∷ []) s3);
      }
  tapes (unfound {T} {V} {o} {u} {z} {p} {s} {k} {r} t i e nobody s1 n) a =
      let lost = event [] (Unfound t i (prog.lost t)) in
      let g = tapes n (a ++ lost ∷ []) in
      record { tape = g.tape; executes = unfound t i e nobody (one lost a s1) g.executes }
