-- What code executes is a run over the tape of what happened.
use Rattle.std.proofs.Common.{◌≡◌, true, false, List, [], ◌∷◌, ◌++◌, Some, None, length, refl, sym, ◌∙◌, ap, subst, append_assoc, append-nil, ℕ, Option}
use Rattle.tcl_core.specs.Paths.{Height, Path, Place, rise_to}
use Rattle.tcl_core.specs.Endings.{Reply, IsQuit, refusal}
use Rattle.tcl_core.specs.Endings.Meter.{Depth}
use Rattle.tcl_core.specs.Entries.{Answer, Entry}
use Rattle.tcl_core.specs.Entries.Said.{Finished, Told, Missed}
use Rattle.tcl_core.specs.Endings.Reply.{Completed, Exit}
use Rattle.tcl_core.specs.Entries.Answer.{Replied, Heard, Nobody}
use Rattle.tcl_core.specs.Trees.{Tree, What, Event, Move, Grant, Grants, at, effect, asked, granted, depth_of}
use Rattle.tcl_core.specs.Trees.Grants.{Listed}
use Rattle.tcl_core.specs.Trees.What.{Out, In, Done, Back, Unfound}
use Rattle.tcl_core.specs.Programs.{Calls_only, Deed, Wait, spot, Act, Wrap, Prog, Table, decide, opens, closes}
use Rattle.tcl_core.specs.Programs.Prog.{call}
use Rattle.tcl_core.specs.Runs.{World, Step, Runs, answers_call, carried, height_of, gone, gone_from}
use Rattle.tcl_core.specs.Rules.{Derives}
use Rattle.tcl_core.specs.Execution.{Executes, Chain, none, more, before, event, Makes, Decides, Open, Opens_so, answers_to, calls_after, last_call, pending, with_call, without_call}
use Rattle.tcl_core.specs.Execution.Executes.{completed, exited, acted, refused, went, passed, wrapped, wrapped_passed, too_deep, shut, called, called_passed, unreached, called_out, answered, heard, missed, answered_passed, entered, entered_exiting, unfound}
use Rattle.tcl_core.specs.Views.{moves_of, grants_of}
use Rattle.tcl_core.proofs.Callers.{Fits, fit, no_wait, waits_for, or_lost_all}
use Rattle.tcl_core.proofs.Plain.{IsPlain, closes_plain, decide_plain, opens_plain}
use Rattle.tcl_core.proofs.TreeLaws.{listed_one}
use Rattle.tcl_core.proofs.Seeing.{is_exit_self}
use Rattle.tcl_core.proofs.Subtrees.{exit_answer}
use Rattle.tcl_core.proofs.RuleLaws.{derived_runs}
use Rattle.tcl_core.specs.Endings.Kind.{Full}

-- what is left after some happenings
pub record Rest (O : Type 0) : Type 0 where
  pub moves : List (Move O)
  pub words : List Grant
  pub tape : List (Event O)

module _ {O : Type 0} where
  -- what these happenings read, in front of what is left
  abbrev pub handed : List (Event O) → List (Move O) → List (Move O)
  handed [] ms = ms
  handed (ev ∷ τ) ms = asked ev.place ev.what (handed τ ms)

  abbrev pub allowed : List (Event O) → Grants → Grants
  allowed [] gs = gs
  allowed (ev ∷ τ) gs = granted ev.place ev.what (allowed τ gs)

  -- the world in which these are to happen, and then the rest
  abbrev pub ahead : Tree O → List (Event O) → Rest O → World O
  ahead T τ z = record { tree = T; moves = handed τ z.moves; grants = allowed τ (Listed z.words); tape = τ ++ z.tape }

  pub allowed_listed : (τ : List (Event O)) (gs : List Grant) → (hs : List Grant) × (allowed τ (Listed gs) ≡ Listed hs)
  allowed_listed [] gs = (gs, refl)
  allowed_listed (ev ∷ τ) gs =
      let h : (hs : List Grant) × (allowed τ (Listed gs) ≡ Listed hs) = allowed_listed τ gs in
      let g : (hs : List Grant) × (granted ev.place ev.what (Listed h.0) ≡ Listed hs) = listed_one ev.place ev.what h.0 in
      (g.0, ap (granted ev.place ev.what) h.1 ∙ g.1)

  pub handed-append : (a b : List (Event O)) (ms : List (Move O)) → handed (a ++ b) ms ≡ handed a (handed b ms)
  handed-append [] b ms = refl
  handed-append (ev ∷ a) b ms = ap (asked ev.place ev.what) (handed-append a b ms)

  pub allowed-append : (a b : List (Event O)) (gs : Grants) → allowed (a ++ b) gs ≡ allowed a (allowed b gs)
  allowed-append [] b gs = refl
  allowed-append (ev ∷ a) b gs = ap (granted ev.place ev.what) (allowed-append a b gs)

  -- what is left after the first of two
  abbrev pub later : List (Event O) → Rest O → Rest O
  later b z = record { moves = handed b z.moves; words = (allowed_listed b z.words).0; tape = b ++ z.tape }

  pub ahead-append : (T : Tree O) (a b : List (Event O)) (z : Rest O) → ahead T (a ++ b) z ≡ ahead T a (later b z)
  ahead-append T a b z = λ i. record { tree = T; moves = handed-append a b z.moves i; grants = (allowed-append a b (Listed z.words) ∙ ap (allowed a) (allowed_listed b z.words).1) i; tape = append_assoc a b z.tape i }

  pub ahead_later : (T : Tree O) (b : List (Event O)) (z : Rest O) → ahead T [] (later b z) ≡ ahead T b z
  ahead_later T b z = λ i. record { tree = T; moves = handed b z.moves; grants = sym (allowed_listed b z.words).1 i; tape = b ++ z.tape }

  pub handed-all : (τ : List (Event O)) → handed τ [] ≡ moves_of τ
  handed-all [] = refl
  handed-all (ev ∷ τ) = ap (asked ev.place ev.what) (handed-all τ)

  pub allowed-all : (τ : List (Event O)) → allowed τ (Listed []) ≡ grants_of τ
  allowed-all [] = refl
  allowed-all (ev ∷ τ) = ap (granted ev.place ev.what) (allowed-all τ)

  abbrev pub nothing : Rest O
  nothing = record { moves = []; words = []; tape = [] }

  pub ahead-all : (T : Tree O) (τ : List (Event O)) → ahead T τ nothing ≡ before T τ
  ahead-all T τ = λ i. record { tree = T; moves = handed-all τ i; grants = allowed-all τ i; tape = append-nil τ i }

  next : (T : Tree O) (p : Place) (x : What O) (τ : List (Event O)) (z : Rest O) → Step (ahead T (event p x ∷ τ) z) p x (ahead (effect p x T) τ z)
  next T p x τ z = record { tape = refl; tree = refl; moves = refl; grants = refl }

  decided : (d : Act O) (T : Tree O) (p : Place) (x : Deed O) → Decides d T p x → (τ : List (Event O)) (z : Rest O) → decide d T p (allowed (event (spot p x.0) x.1 ∷ τ) (Listed z.words)) ≡ Some x
  decided d T p x f τ z = ap (λ gs. decide d T p (granted (spot p x.0) x.1 gs)) (allowed_listed τ z.words).1 ∙ f (allowed_listed τ z.words).0

  opened : (b : Wrap O) (T : Tree O) (p : Place) (x : Deed O) → Opens_so b T p x → (τ : List (Event O)) (z : Rest O) → opens b T p (allowed (event (spot p x.0) x.1 ∷ τ) (Listed z.words)) ≡ Some x
  opened b T p x f τ z = ap (λ gs. opens b T p (granted (spot p x.0) x.1 gs)) (allowed_listed τ z.words).1 ∙ f (allowed_listed τ z.words).0

module _ {O : Type 0} where
  -- what is no crossing answers no call, and leaves those that are open
  pub plain_answers : (p : Place) (x : What O) (cs : Open) → IsPlain x → answers_to p x cs ≡ None
  plain_answers p (Out h d i) cs f = absurd f
  plain_answers p (Back h a) cs f = absurd f
  plain_answers p x cs f = refl

  pub plain_calls : (T : Tree O) (p : Place) (x : What O) (cs : Open) → IsPlain x → calls_after T p x cs ≡ cs
  plain_calls T p (Out h d i) cs f = absurd f
  plain_calls T p (Back h a) cs f = absurd f
  plain_calls T p x cs f = refl

  pub plain_deed : (d : Act O) (T : Tree O) (p : Place) (x : Deed O) → Decides d T p x → IsPlain x.1
  plain_deed d T p x f = decide_plain d T p _ x (f [])

  pub plain_open : (b : Wrap O) (T : Tree O) (p : Place) (x : Deed O) → Opens_so b T p x → IsPlain x.1
  plain_open b T p x f = opens_plain b T p _ x (f [])

not_true : false ≡ true → Prim.⊥
not_true e = cc

module _ {O I : Type 0} where
  -- the calls that are open where a program goes on, beside these
  abbrev pub waiting : Prog O I → Open → Open
  waiting x cs = pending (waits_for x) cs

  pub waits_not : (x : Prog O I) (cs : Open) → Calls_only x → waiting x cs ≡ cs
  waits_not x cs f = ap (λ w. pending w cs) (no_wait x f)

module _ {O S : Type 0} (step : Tree O → S → Wait → Event O → S → Type 0) where
  pub chain-append : {cs ds es : Open} {T U V : Tree O} {o u z : S} {a b : List (Event O)} → Chain step cs T o a ds U u → Chain step ds U u b es V z → Chain step cs T o (a ++ b) es V z
  chain-append none k = k
  chain-append (more g c) k = more g (chain-append c k)

  pub plain_more : {cs ds : Open} {T V : Tree O} {o u z : S} {p : Place} {x : What O} {τ : List (Event O)} → IsPlain x → step T o None (event p x) u → Chain step cs (effect p x T) u τ ds V z → Chain step cs T o (event p x ∷ τ) ds V z
  plain_more {cs} {ds} {T} {V} {o} {u} {z} {p} {x} {τ} f s c =
      more (subst (λ w. step T o w (event p x) u) (sym (plain_answers p x cs f)) s) (subst (λ l. Chain step l (effect p x T) u τ ds V z) (sym (plain_calls T p x cs f)) c)

  -- a call of another interpreter of the tree, and its answer
  pub goes_within : {cs ds : Open} {T V : Tree O} {o u z : S} {p a : Place} {h : Height} {down : Path} {i : Entry} {τ : List (Event O)} → rise_to h p ≡ Some a → step T o None (event p (Out h down i)) u → Chain step cs T u τ ds V z → Chain step cs T o (event p (Out h down i) ∷ τ) ds V z
  goes_within {cs} {ds} {T} {V} {o} {u} {z} {p} {a} {h} {down} {i} {τ} e s c = more s (subst (λ l. Chain step l T u τ ds V z) (ap (λ y. with_call y (h, i, depth_of (T p)) cs) (sym e)) c)

  pub back_within : {cs ds : Open} {T V : Tree O} {o u z : S} {p a : Place} {h : Height} {y : Answer} {τ : List (Event O)} → rise_to h p ≡ Some a → step T o None (event p (Back h y)) u → Chain step cs T u τ ds V z → Chain step cs T o (event p (Back h y) ∷ τ) ds V z
  back_within {cs} {ds} {T} {V} {o} {u} {z} {p} {a} {h} {y} {τ} e s c =
      more (subst (λ w. step T o w (event p (Back h y)) u) (ap (λ b. last_call b cs) (sym e)) s) (subst (λ l. Chain step l T u τ ds V z) (ap (λ b. without_call b cs) (sym e)) c)

  -- a call that leaves the tree, and its answer
  pub goes_out : {cs ds : Open} {T V : Tree O} {o u z : S} {p : Place} {h : Height} {down : Path} {i : Entry} {τ : List (Event O)} → rise_to h p ≡ None → step T o None (event p (Out h down i)) u → Chain step ((h, i, depth_of (T p)) ∷ cs) T u τ ds V z → Chain step cs T o (event p (Out h down i) ∷ τ) ds V z
  goes_out {cs} {ds} {T} {V} {o} {u} {z} {p} {h} {down} {i} {τ} e s c = more s (subst (λ l. Chain step l T u τ ds V z) (ap (λ y. with_call y (h, i, depth_of (T p)) cs) (sym e)) c)

  pub comes_back : {cs ds : Open} {T V : Tree O} {o u z : S} {p : Place} {c : Height × Entry × ℕ} {y : Answer} {τ : List (Event O)} → rise_to c.0 p ≡ None → step T o (Some c) (event p (Back c.0 y)) u → Chain step cs T u τ ds V z → Chain step (c ∷ cs) T o (event p (Back c.0 y) ∷ τ) ds V z
  comes_back {cs} {ds} {T} {V} {o} {u} {z} {p} {c} {y} {τ} e s k =
      more (subst (λ w. step T o w (event p (Back c.0 y)) u) (ap (λ b. last_call b (c ∷ cs)) (sym e)) s) (subst (λ l. Chain step l T u τ ds V z) (ap (λ b. without_call b (c ∷ cs)) (sym e)) k)

  -- what goes on as a program that calls only has the calls open that there are
  pub called_on : {I : Type 0} {cs ds : Open} {T V : Tree O} {o z : S} {τ : List (Event O)} (x : Prog O I) → Calls_only x → Chain step (waiting x cs) T o τ ds V z → Chain step cs T o τ ds V z
  called_on {I} {cs} {ds} {T} {V} {o} {z} {τ} x f c = subst (λ l. Chain step l T o τ ds V z) (waits_not x cs f) c

  -- an answer comes to the call that is open
  pub replied : {cs ds : Open} {T V : Tree O} {o u z : S} {τ : List (Event O)} (s : Wait) (p : Place) → rise_to (height_of s) p ≡ None → (a : Answer) (g : Option ℕ) → answers_call g s a ≡ true →
      step T o s (event p (Back (height_of s) a)) u → Chain step cs T u τ ds V z → Chain step (pending s cs) T o (event p (Back (height_of s) a) ∷ τ) ds V z
  replied None p e a g f j c = absurd (not_true f)
  replied (Some d) p e a g f j c = comes_back e j c

module _ {O I S : Type 0} (step : Tree O → S → Wait → Event O → S → Type 0) (prog : Table O I) where
  pub record Says (T : Tree O) (o : S) (p : Place) (x : Prog O I) (V : Tree O) (z : S) (r : Reply) : Type 0 where
    pub events : List (Event O)
    pub chain : (cs : Open) → Chain step (waiting x cs) T o events cs V z
    pub runs : (y : Rest O) → Derives prog (ahead T events y) p x (ahead V [] y) (Some r)

  -- a run, and what follows it
  first : (T U : Tree O) (p : Place) (x : Prog O I) (r : Reply) (a b : List (Event O)) (z : Rest O) → Derives prog (ahead T a (later b z)) p x (ahead U [] (later b z)) (Some r) → Derives prog (ahead T (a ++ b) z) p x (ahead U b z) (Some r)
  first T U p x r a b z d =
      subst (λ y. Derives prog y p x (ahead U b z) (Some r)) (sym (ahead-append T a b z)) (subst (λ y. Derives prog (ahead T a (later b z)) p x y (Some r)) (ahead_later U b z) d)

  pub follows : {T V : Tree O} {o z : S} {p : Place} {x : Prog O I} {r : Reply} → Fits x → Executes step prog T o p x V z r → Says T o p x V z r
  follows f (completed {T} {o} {p} {c}) = record { events = []; chain = λ cs. none; runs = λ y. Derives.completed (ahead T [] y) p c }
  follows f (exited {T} {o} {p} {n}) = record { events = []; chain = λ cs. none; runs = λ y. Derives.exited (ahead T [] y) p n }
  follows f (acted {T} {V} {o} {u} {z} {p} {d} {k} {r} x is_so on s t) =
      let h = follows (fit (k (at T p)) (f (at T p))) t in
      record {
        events = event (spot p x.0) x.1 ∷ h.events;
        chain = λ cs. plain_more step (plain_deed d T p x is_so) s (called_on step (k (at T p)) (f (at T p)) (h.chain cs));
        runs = λ y. Derives.acted _ p d k x (ahead (effect (spot p x.0) x.1 T) h.events y) _ _ (decided d T p x is_so h.events y) on (next T (spot p x.0) x.1 h.events y) (h.runs y);
      }
  follows f (refused {T} {o} {u} {p} {d} {k} {r} x is_so off s) =
      record {
        events = event (spot p x.0) x.1 ∷ [];
        chain = λ cs. plain_more step (plain_deed d T p x is_so) s none;
        runs = λ y. Derives.refused _ p d k x r (ahead (effect (spot p x.0) x.1 T) [] y) (decided d T p x is_so [] y) off (next T (spot p x.0) x.1 [] y);
      }
  follows f (went {T} {U} {V} {o} {u} {z} {p} {i} {k} {c} {r} a b) =
      let h = follows (fit (prog.program i) (prog.programs_call i)) a in
      let g = follows (fit (k c) (f c)) b in
      record {
        events = h.events ++ g.events;
        chain = λ cs. chain-append step (called_on step (prog.program i) (prog.programs_call i) (h.chain cs)) (called_on step (k c) (f c) (g.chain cs));
        runs = λ y. Derives.went _ p i k (ahead U g.events y) c _ _ (first T U p (prog.program i) (Completed c) h.events g.events y (h.runs (later g.events y))) (g.runs y);
      }
  follows f (passed {T} {U} {o} {u} {p} {i} {k} {r} q a) =
      let h = follows (fit (prog.program i) (prog.programs_call i)) a in
      record { events = h.events; chain = λ cs. called_on step (prog.program i) (prog.programs_call i) (h.chain cs); runs = λ y. Derives.passed _ p i k (ahead U [] y) r q (h.runs y) }
  follows f (wrapped {T} {U} {V} {o} {o1} {o2} {o3} {z} {p} {b} {i} {k} {c} {r} x is_so on s1 a s2 t) =
      let h = follows (fit (prog.program i) (prog.programs_call i)) a in
      let g = follows (fit (k c) (f c)) t in
      let tail : List (Event O) = event p (closes b (effect (spot p x.0) x.1 T p) (U p)) ∷ g.events in
      record {
        events = event (spot p x.0) x.1 ∷ (h.events ++ tail);
        chain = λ cs. plain_more step (plain_open b T p x is_so) s1 (chain-append step (called_on step (prog.program i) (prog.programs_call i) (h.chain cs)) (plain_more step (closes_plain b (effect (spot p x.0) x.1 T p) (U p)) s2 (called_on step (k c) (f c) (g.chain cs))));
        runs = λ y. Derives.wrapped _ p b i k x (ahead (effect (spot p x.0) x.1 T) (h.events ++ tail) y) (ahead U tail y) (ahead (effect p (closes b (effect (spot p x.0) x.1 T p) (U p)) U) g.events y) _ c _
            (opened b T p x is_so (h.events ++ tail) y) on (next T (spot p x.0) x.1 (h.events ++ tail) y)
            (first (effect (spot p x.0) x.1 T) U p (prog.program i) (Completed c) h.events tail y (h.runs (later tail y)))
            (next U p (closes b (effect (spot p x.0) x.1 T p) (U p)) g.events y) (g.runs y);
      }
  follows f (wrapped_passed {T} {U} {o} {o1} {o2} {o3} {p} {b} {i} {k} {r} x q is_so on s1 a s2) =
      let h = follows (fit (prog.program i) (prog.programs_call i)) a in
      let tail : List (Event O) = event p (closes b (effect (spot p x.0) x.1 T p) (U p)) ∷ [] in
      record {
        events = event (spot p x.0) x.1 ∷ (h.events ++ tail);
        chain = λ cs. plain_more step (plain_open b T p x is_so) s1 (chain-append step (called_on step (prog.program i) (prog.programs_call i) (h.chain cs)) (plain_more step (closes_plain b (effect (spot p x.0) x.1 T p) (U p)) s2 none));
        runs = λ y. Derives.wrapped_passed _ p b i k x (ahead (effect (spot p x.0) x.1 T) (h.events ++ tail) y) (ahead U tail y) (ahead (effect p (closes b (effect (spot p x.0) x.1 T p) (U p)) U) [] y) r q
            (opened b T p x is_so (h.events ++ tail) y) on (next T (spot p x.0) x.1 (h.events ++ tail) y)
            (first (effect (spot p x.0) x.1 T) U p (prog.program i) r h.events tail y (h.runs (later tail y)))
            (next U p (closes b (effect (spot p x.0) x.1 T p) (U p)) [] y);
      }
  follows f (too_deep {T} {V} {o} {u} {z} {p} {b} {i} {k} {r} x is_so deep s t) =
      let g = follows (fit (k (refusal (Full Depth))) (f (refusal (Full Depth)))) t in
      record {
        events = event (spot p x.0) x.1 ∷ g.events;
        chain = λ cs. plain_more step (plain_open b T p x is_so) s (called_on step (k (refusal (Full Depth))) (f (refusal (Full Depth))) (g.chain cs));
        runs = λ y. Derives.too_deep _ p b i k x (ahead (effect (spot p x.0) x.1 T) g.events y) _ _ (opened b T p x is_so g.events y) deep (next T (spot p x.0) x.1 g.events y) (g.runs y);
      }
  follows f (shut {T} {o} {u} {p} {b} {i} {k} {r} x is_so off s) =
      record {
        events = event (spot p x.0) x.1 ∷ [];
        chain = λ cs. plain_more step (plain_open b T p x is_so) s none;
        runs = λ y. Derives.shut _ p b i k x r (ahead (effect (spot p x.0) x.1 T) [] y) (opened b T p x is_so [] y) off (next T (spot p x.0) x.1 [] y);
      }
  follows calls (called {T} {U} {V} {o} {o1} {o2} {o3} {o4} {o5} {z} {p} {h} {down} {i} {lost} {k} {s} {r} {c} a t e there s1 s2 m s3 so s4 n) =
      let f = follows (fit (prog.entry i) (prog.entries_call i)) m in
      let g = follows (fit (k (Finished c)) (calls (Finished c))) n in
      let last : List (Event O) = event p (Back h (Replied (carried (gone (depth_of (T p)) U p) h p down s))) ∷ g.events in
      let tail : List (Event O) = event t (Done (Some (length down)) s) ∷ last in
      record {
        events = event p (Out h down i) ∷ event t (In (Some (length down)) i) ∷ (f.events ++ tail);
        chain = λ cs. goes_within step e s1 (more s2 (chain-append step (called_on step (prog.entry i) (prog.entries_call i) (f.chain cs)) (more s3 (back_within step e s4 (called_on step (k (Finished c)) (calls (Finished c)) (g.chain cs))))));
        runs = λ y. Derives.called _ p h down i lost k a t (ahead T (event t (In (Some (length down)) i) ∷ (f.events ++ tail)) y) (ahead T (f.events ++ tail) y) (ahead U tail y) (ahead U last y) (ahead U g.events y) _ s c _ e
            (next T p (Out h down i) (event t (In (Some (length down)) i) ∷ (f.events ++ tail)) y) there (next T t (In (Some (length down)) i) (f.events ++ tail) y)
            (first T U t (prog.entry i) s f.events tail y (f.runs (later tail y)))
            (next U t (Done (Some (length down)) s) last y) so (next U p (Back h (Replied (carried (gone (depth_of (T p)) U p) h p down s))) g.events y) (g.runs y);
      }
  follows calls (called_passed {T} {U} {o} {o1} {o2} {o3} {o4} {o5} {p} {h} {down} {i} {lost} {k} {s} {r} a t e there s1 s2 m s3 so q s4) =
      let f = follows (fit (prog.entry i) (prog.entries_call i)) m in
      let last : List (Event O) = event p (Back h (Replied (carried (gone (depth_of (T p)) U p) h p down s))) ∷ [] in
      let tail : List (Event O) = event t (Done (Some (length down)) s) ∷ last in
      record {
        events = event p (Out h down i) ∷ event t (In (Some (length down)) i) ∷ (f.events ++ tail);
        chain = λ cs. goes_within step e s1 (more s2 (chain-append step (called_on step (prog.entry i) (prog.entries_call i) (f.chain cs)) (more s3 (back_within step e (subst (λ l. step U o4 None (event p (Back h (Replied l))) o5) (sym so) s4) none))));
        runs = λ y. subst (λ l. Derives prog (ahead T (event p (Out h down i) ∷ event t (In (Some (length down)) i) ∷ (f.events ++ tail)) y) p (call h down i lost k) (ahead U [] y) (Some l)) so
            (Derives.called_passed _ p h down i lost k a t (ahead T (event t (In (Some (length down)) i) ∷ (f.events ++ tail)) y) (ahead T (f.events ++ tail) y) (ahead U tail y) (ahead U last y) (ahead U [] y) s e
            (next T p (Out h down i) (event t (In (Some (length down)) i) ∷ (f.events ++ tail)) y) there (next T t (In (Some (length down)) i) (f.events ++ tail) y)
            (first T U t (prog.entry i) s f.events tail y (f.runs (later tail y)))
            (next U t (Done (Some (length down)) s) last y) (subst IsQuit (sym so) q) (next U p (Back h (Replied (carried (gone (depth_of (T p)) U p) h p down s))) [] y));
      }
  follows calls (unreached {T} {V} {o} {o1} {o2} {z} {p} {h} {down} {i} {lost} {k} {r} a e there s1 s2 t) =
      let g = follows (fit (k (Finished lost)) (calls (Finished lost))) t in
      let tail : List (Event O) = event p (Back h (Replied (Completed lost))) ∷ g.events in
      record {
        events = event p (Out h down i) ∷ tail;
        chain = λ cs. goes_within step e s1 (back_within step e s2 (called_on step (k (Finished lost)) (calls (Finished lost)) (g.chain cs)));
        runs = λ y. Derives.unreached _ p h down i lost k a (ahead T tail y) (ahead T g.events y) _ _ e (next T p (Out h down i) tail y) there (next T p (Back h (Replied (Completed lost))) g.events y) (g.runs y);
      }
  follows calls (called_out {T} {V} {o} {u} {z} {p} {h} {down} {i} {lost} {k} {r} e s t) =
      let g = follows (or_lost_all Calls_only lost k calls) t in
      record {
        events = event p (Out h down i) ∷ g.events;
        chain = λ cs. goes_out step e s (g.chain cs);
        runs = λ y. Derives.called_out _ p h down i lost k (ahead T g.events y) _ _ e (next T p (Out h down i) g.events y) (g.runs y);
      }
  follows calls (answered {T} {V} {o} {u} {z} {p} {s} {k} {c} {r} e own j t) =
      let g = follows (fit (k (Finished c)) (calls (Finished c))) t in
      record {
        events = event p (Back (height_of s) (Replied (Completed c))) ∷ g.events;
        chain = λ cs. replied step s p e (Replied (Completed c)) (gone_from s T p) own j (called_on step (k (Finished c)) (calls (Finished c)) (g.chain cs));
        runs = λ y. Derives.answered _ p s k c (ahead T g.events y) _ _ e own (next T p (Back (height_of s) (Replied (Completed c))) g.events y) (g.runs y);
      }
  follows calls (heard {T} {V} {o} {u} {z} {p} {s} {k} {a} {r} e own j t) =
      let g = follows (fit (k (Told a)) (calls (Told a))) t in
      record {
        events = event p (Back (height_of s) (Heard a)) ∷ g.events;
        chain = λ cs. replied step s p e (Heard a) (gone_from s T p) own j (called_on step (k (Told a)) (calls (Told a)) (g.chain cs));
        runs = λ y. Derives.heard _ p s k a (ahead T g.events y) _ _ e own (next T p (Back (height_of s) (Heard a)) g.events y) (g.runs y);
      }
  follows calls (missed {T} {V} {o} {u} {z} {p} {s} {k} {r} e own j t) =
      let g = follows (fit (k Missed) (calls Missed)) t in
      record {
        events = event p (Back (height_of s) Nobody) ∷ g.events;
        chain = λ cs. replied step s p e Nobody (gone_from s T p) own j (called_on step (k Missed) (calls Missed) (g.chain cs));
        runs = λ y. Derives.missed _ p s k (ahead T g.events y) _ _ e own (next T p (Back (height_of s) Nobody) g.events y) (g.runs y);
      }
  follows calls (answered_passed {T} {o} {u} {p} {s} {k} {r} q e own j) =
      record {
        events = event p (Back (height_of s) (Replied r)) ∷ [];
        chain = λ cs. replied step s p e (Replied r) (gone_from s T p) own j none;
        runs = λ y. Derives.answered_passed _ p s k r (ahead T [] y) q e own (next T p (Back (height_of s) (Replied r)) [] y);
      }
  follows calls (entered {T = T} {U = U} {p = p} {s = s} {k = k} {y = j} t i e here s1 m s2 calm n) =
      let f = follows (fit (prog.entry i) (prog.entries_call i)) m in
      let g = follows calls n in
      let tail : List (Event O) = event t (Done None j) ∷ g.events in
      record {
        events = event t (In None i) ∷ (f.events ++ tail);
        chain = λ cs. more s1 (chain-append step (called_on step (prog.entry i) (prog.entries_call i) (f.chain (pending s cs))) (more s2 (g.chain cs)));
        runs = λ y. Derives.entered _ p s k t i (ahead T (f.events ++ tail) y) (ahead U tail y) (ahead U g.events y) _ j _ e here
            (next T t (In None i) (f.events ++ tail) y) (first T U t (prog.entry i) j f.events tail y (f.runs (later tail y))) (next U t (Done None j) g.events y) calm (g.runs y);
      }
  follows calls (entered_exiting {T = T} {U = U} {p = p} {c = c} {k = k} {n = n} t i e here s1 m s2 s3) =
      let f = follows (fit (prog.entry i) (prog.entries_call i)) m in
      let last : List (Event O) = event p (Back c.0 (Replied (Exit n))) ∷ [] in
      let tail : List (Event O) = event t (Done None (Exit n)) ∷ last in
      record {
        events = event t (In None i) ∷ (f.events ++ tail);
        chain = λ cs. more s1 (chain-append step (called_on step (prog.entry i) (prog.entries_call i) (f.chain (c ∷ cs))) (more s2 (comes_back step e s3 none)));
        runs = λ y. Derives.entered_exiting _ p (Some c) k t i (ahead T (f.events ++ tail) y) (ahead U tail y) (ahead U last y) (ahead U [] y) n (Some (Exit n)) e here
            (next T t (In None i) (f.events ++ tail) y) (first T U t (prog.entry i) (Exit n) f.events tail y (f.runs (later tail y))) (next U t (Done None (Exit n)) last y)
            (exit_answer (ahead U last y) p (Some c) n (ahead U [] y) e (is_exit_self n) (next U p (Back c.0 (Replied (Exit n))) [] y));
      }
  follows calls (unfound {T = T} {p = p} {s = s} {k = k} t i e here j n) =
      let g = follows calls n in
      record {
        events = event [] (Unfound t i (prog.lost t)) ∷ g.events;
        chain = λ cs. more j (g.chain cs);
        runs = λ y. Derives.unfound _ p s k t i (ahead T g.events y) _ _ e here (next T [] (Unfound t i (prog.lost t)) g.events y) (g.runs y);
      }

  pub makes : {T V : Tree O} {o z : S} {p : Place} {x : Prog O I} {r : Reply} → Fits x → Executes step prog T o p x V z r → Makes step prog T o p x V z r
  makes {T} {V} {o} {z} {p} {x} {r} f t =
      let h = follows f t in
      record {
        events = h.events;
        chain = h.chain [];
        runs = subst (λ w. Runs prog w p x (before V []) (Some r)) (ahead-all T h.events) (derived_runs prog (h.runs nothing));
      }
