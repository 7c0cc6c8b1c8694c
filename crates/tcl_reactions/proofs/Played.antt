-- Each run to which moves are played comes to its end, or to where the playing is over; and so does the playing of all entries.
use Rattle.std.proofs.Common.{sym, ◌≡◌, ℕ, suc, ℤ, List, [], ◌∷◌, ◌++◌, Some, None, length, refl, ◌∙◌, ap, subst, append-nil}
use Rattle.tcl_core.specs.Paths.{Path, Place}
use Rattle.tcl_core.specs.Endings.{Reply}
use Rattle.tcl_core.specs.Endings.Reply.{Completed, Stop, Exit, Cut}
use Rattle.tcl_core.specs.Entries.{Entry}
use Rattle.tcl_core.specs.Entries.Answer.{Replied, Heard, Nobody}
use Rattle.tcl_core.specs.Trees.{Tree, Event, Move, Grants, depth_of, Node}
use Rattle.tcl_core.specs.Trees.What.{In, Out, Done, Back, Unfound}
use Rattle.tcl_core.specs.Trees.Move.{Born, Fall, Enter, Come}
use Rattle.tcl_core.specs.Programs.{Prog, Table, spot}
use Rattle.tcl_core.specs.Programs.Prog.{done, exit, wait}
use Rattle.tcl_core.specs.Runs.{World, Ending, Halts, Exits, carried, height_of, gone}
use Rattle.tcl_core.specs.Rules.{Derives, IsNoExit}
use Rattle.tcl_core.specs.Execution.{Crossings, Executes, event}
use Rattle.tcl_core.specs.Execution.Executes.{completed, exited, acted, refused, went, passed, wrapped, wrapped_passed, too_deep, shut, called, called_passed, unreached, called_out, answered, heard, missed, answered_passed, entered, entered_exiting, unfound}
use Rattle.tcl_core.specs.Lives.{Outcome, copies, idle, never}
use Rattle.tcl_core.specs.Lives.Outcome.{Finished, Exited}
use Rattle.tcl_core.proofs.Unended
use Rattle.tcl_core.proofs.Unended.{NotCut, on_no_cut}
use Rattle.tcl_reactions.specs.Playing
use Rattle.tcl_reactions.specs.Playing.{Fate, HandsIn, IsEnd, Lived, Player, last_end, plays, telling, FindsNobody}
use Rattle.tcl_reactions.proofs.Ways.{allowed_budget, Calm, IsBudget, Rest, Way, ahead, ahead-append, calm_finished, here, later, next}
use Rattle.tcl_reactions.proofs.Leads.{Affords, Breaks, Comes, Halting, Leads, May, Prefix, Result, StopsAt, after_way, calls, first, may_end, rest, stops_more, tail_leads, world}
use Rattle.tcl_reactions.proofs.Leads.Breaks.{halts, unwinds}
use Rattle.tcl_reactions.proofs.Leads.Result.{ran, broke}
use Rattle.tcl_reactions.proofs.Deeds.{act_calm, act_way, open_calm, open_way}
use Rattle.tcl_reactions.proofs.Plays.{acted_by, at_once, passed_by, refused_by, shut_by, too_deep_by, went_by, wrapped_by, wrapped_passed_by}
use Rattle.tcl_reactions.proofs.Crossed.{called_by, called_out_by, called_passed_by, starts, starts_same, unreached_by}
use Rattle.tcl_reactions.proofs.Waited.{answered_by, answered_passed_by, entered_by, entered_exiting_by, heard_by, unfound_by, missed_by}
use Rattle.tcl_reactions.proofs.Turns.{after_end, answers_at, done_end, done_on, done_over, in_way, not_some, same_end, visit_way, unfound_way, unfound_end}

module _ {O I : Type 0} (prog : Table O I) where
  pub played : {T : Tree O} {o : Player O} {p : Place} {x : Prog O I} {V : Tree O} {z : Player O} {r : Reply} → Executes (Crossings plays) prog T o p x V z r → o.fate ≡ None → Calm (last_end o) → Result prog T o p x V z r
  played (completed {T} {o} {p} {c}) n m = at_once prog T o p (done c) (Completed c) n tt (λ f. m) (λ y. Derives.completed (ahead T [] y) p c)
  played (exited {T} {o} {p} {n}) l m = at_once prog T o p (exit n) (Exit n) l tt (λ f. m) (λ y. Derives.exited (ahead T [] y) p n)
  played (acted {T} {V} {o} {u} {z} {p} {d} {k} {r} x is_so on s t) n m =
      let w : Way 0 o (event (spot p x.0) x.1 ∷ []) u = act_way d T p x o u is_so (on_no_cut x.2 on) s n in
      acted_by prog T V o u z p d k r x is_so on w (played t w.goes_on (act_calm d T p x o u is_so w m))
  played (refused {T} {o} {u} {p} {d} {k} {r} x is_so off s) n m = refused_by prog T o u p d k r x is_so off s n m
  played (went {T} {U} {V} {o} {u} {z} {p} {i} {k} {c} {r} a b) n m = went_by prog T U V o u z p i k c r (played a n m) (λ f g. played b f g)
  played (passed {T} {U} {o} {u} {p} {i} {k} {r} q a) n m = passed_by prog T U o u p i k r q (played a n m)
  played (wrapped {T} {U} {V} {o} {o1} {o2} {o3} {z} {p} {b} {i} {k} {c} {r} x is_so on s1 a s2 t) n m =
      let w : Way 0 o (event (spot p x.0) x.1 ∷ []) o1 = open_way b T p x o o1 is_so (subst Unended.IsNoCut (sym on) tt) s1 n in
      wrapped_by prog T U o o1 o2 o3 p b i k x is_so on w s2 V z c r (played a w.goes_on (open_calm b T p x o o1 is_so w m)) (λ f g. played t f g)
  played (wrapped_passed {T} {U} {o} {o1} {o2} {o3} {p} {b} {i} {k} {r} x q is_so on s1 a s2) n m =
      let w : Way 0 o (event (spot p x.0) x.1 ∷ []) o1 = open_way b T p x o o1 is_so (subst Unended.IsNoCut (sym on) tt) s1 n in
      wrapped_passed_by prog T U o o1 o2 o3 p b i k x is_so on w s2 r q (played a w.goes_on (open_calm b T p x o o1 is_so w m))
  played (too_deep {T} {V} {o} {u} {z} {p} {b} {i} {k} {r} x is_so deep s t) n m =
      let w : Way 0 o (event (spot p x.0) x.1 ∷ []) u = open_way b T p x o u is_so (subst Unended.IsNoCut (sym deep) tt) s n in
      too_deep_by prog T V o u z p b i k r x is_so deep w (played t w.goes_on (open_calm b T p x o u is_so w m))
  played (shut {T} {o} {u} {p} {b} {i} {k} {r} x is_so off s) n m = shut_by prog T o u p b i k r x is_so off s n m
  played (called {T} {U} {V} {o} {o1} {o2} {o3} {o4} {o5} {z} {p} {h} {down} {i} {lost} {k} {s} {r} {c} a t e there s1 s2 x s3 so s4 y) n m =
      let w : Way 0 o (event p (Out h down i) ∷ event t (In (Some (length down)) i) ∷ []) o2 = starts prog T U o o1 o2 o3 o4 o5 p a t h down i lost k s e there s1 s2 s3 s4 n in
      let j : o2 ≡ o = starts_same prog T U o o1 o2 o3 o4 o5 p a t h down i lost k s e there s1 s2 s3 s4 in
      called_by prog T U o o1 o2 o3 o4 o5 p a t h down i lost k s e there s1 s2 s3 s4 V z c r n so (played x w.goes_on (subst (λ v. Calm (last_end v)) (sym j) m)) (λ f g. played y f g)
  played (called_passed {T} {U} {o} {o1} {o2} {o3} {o4} {o5} {p} {h} {down} {i} {lost} {k} {s} {r} a t e there s1 s2 x s3 so q s4) n m =
      let s5 : Crossings plays U o4 None (event p (Back h (Replied (carried (gone (depth_of (T p)) U p) h p down s)))) o5 = subst (λ l. Crossings plays U o4 None (event p (Back h (Replied l))) o5) (sym so) s4 in
      let w : Way 0 o (event p (Out h down i) ∷ event t (In (Some (length down)) i) ∷ []) o2 = starts prog T U o o1 o2 o3 o4 o5 p a t h down i lost k s e there s1 s2 s3 s5 n in
      let j : o2 ≡ o = starts_same prog T U o o1 o2 o3 o4 o5 p a t h down i lost k s e there s1 s2 s3 s5 in
      called_passed_by prog T U o o1 o2 o3 o4 o5 p a t h down i lost k s e there s1 s2 s3 s5 r n so q (played x w.goes_on (subst (λ v. Calm (last_end v)) (sym j) m))
  played (unreached {T} {V} {o} {o1} {o2} {z} {p} {h} {down} {i} {lost} {k} {r} a e there s1 s2 t) n m = unreached_by prog T V o o1 o2 z p a h down i lost k r e there s1 s2 n m (λ f g. played t f g)
  played (called_out {T} {V} {o} {u} {z} {p} {h} {down} {i} {lost} {k} {r} e s t) n m = called_out_by prog T V o u z p h down i lost k r e s n m (λ f g. played t f g)
  played (answered {T} {V} {o} {u} {z} {p} {s} {k} {c} {r} e fit st t) n m =
      answered_by prog T V o u z p s k c r e fit (answers_at T s p (height_of s) (Replied (Completed c)) o u e st) m (λ f g. played t f g)
  played (heard {T} {V} {o} {u} {z} {p} {s} {k} {a} {r} e fit st t) n m = heard_by prog T V o u z p s k a r e fit (answers_at T s p (height_of s) (Heard a) o u e st) m (λ f g. played t f g)
  played (missed {T} {V} {o} {u} {z} {p} {s} {k} {r} e fit st t) n m = missed_by prog T V o u z p s k r e fit (answers_at T s p (height_of s) Nobody o u e st) m (λ f g. played t f g)
  played (answered_passed {T} {o} {u} {p} {s} {k} {r} q e fit st) n m = answered_passed_by prog T o u p s k r q e fit (answers_at T s p (height_of s) (Replied r) o u e st) n m
  played (entered {T = T} {U = U} {V = V} {o = o} {o1 = o1} {o2 = o2} {o3 = o3} {z = z} {p = p} {s = s} {k = k} {y = y} {r = r} t i e here s1 a s2 nx b) n m =
      let into : HandsIn o t i o1 = s1.told in
      entered_by prog T U o o1 o2 o3 p s k t i e here into V z y r (played a (ap (λ v. v.fate) into.2 ∙ n) (subst Calm (sym (same_end o o1 o1.left into.2)) m)) s2 nx (λ f g. played b f g) (after_end prog b)
  played (entered_exiting {T = T} {U = U} {o = o} {o1 = o1} {o2 = o2} {o3 = o3} {o4 = o4} {p = p} {c = c} {k = k} {n = n} t i e here s1 a s2 s3) l m =
      let into : HandsIn o t i o1 = s1.told in
      entered_exiting_by prog T U o o1 o2 o3 o4 p c k t i n e here into s2 (played a (ap (λ v. v.fate) into.2 ∙ l) (subst Calm (sym (same_end o o1 o1.left into.2)) m)) s3
  played (unfound {T = T} {V = V} {o = o} {u = u} {z = z} {p = p} {s = s} {k = k} {r = r} t i e here s1 b) n m = unfound_by prog T V o u z p s k t i r e here s1.told (λ f g. played b f g)

module _ {O : Type 0} where
  -- the life of a tree that halts
  pub data Rests (V : Tree O) : Rest O → World O → Ending → Type 0 where
    rests : (y : Rest O) → y.tape ≡ [] → Rests V y (ahead V [] y) None

  -- and one in which the playing is over
  pub data Ends (f : Fate O) (S V : Tree O) (u : Player O) (j : ℕ) (σ : Reply → List (Event O)) : Rest O → World O → Ending → Type 0 where
    halts_at : (y : Rest O) → Halting f u y.moves → y.tape ≡ [] → Ends f S V u j σ y (ahead S [] y) None
    unwound_at : (r : Reply) (gs : Grants) → May f (last_end u) r → Affords f gs → Ends f S V u j σ (rest (copies (calls f j) (Come (Replied r))) gs (σ r)) (world V [] gs []) None

  exits_idle : (w v : World O) (n : ℤ) (ms : List (Move O)) → Halts w v None → Exits w [] idle n ms v None
  exits_idle w v n [] h = h
  exits_idle w v n (Come a ∷ ms) h = h
  exits_idle w v n (Born o b ∷ ms) h = h
  exits_idle w v n (Fall ∷ ms) h = h
  exits_idle w v n (Enter t i ∷ ms) h = h

module _ {O I : Type 0} (prog : Table O I) where
  abbrev pub Prefixed : Tree O → Player O → List (Event O) → Tree O → Player O → Type 0
  Prefixed T o τ U u = Prefix prog T o [] (wait idle never) τ U u [] (wait idle never)

  abbrev pub Life : Tree O → Player O → ℕ → List (Event O) → Player O → (Rest O → World O → Ending → Type 0) → Type 0
  Life T o j τ u E = Leads prog T o [] (wait idle never) j τ u E

  -- what the playing of entries comes to: it can go on, the last entry ended by an exit, or it is over in one
  pub data Becomes (T : Tree O) (o : Player O) (V : Tree O) (z : Player O) : Type 0 where
    on : (τ : List (Event O)) → Prefixed T o τ V z → last_end z ≡ Finished → Becomes T o V z
    exits : (τ : List (Event O)) (n : ℤ) → Life T o 0 τ z (Rests V) → last_end z ≡ Exited n → Becomes T o V z
    stops : (τ : List (Event O)) (u : Player O) (j : ℕ) (f : Fate O) (S : Tree O) (σ : Reply → List (Event O)) → Life T o (suc j) τ u (Ends f S V u j σ) → z.fate ≡ Some f → z.outs ≡ u.outs → StopsAt f S σ u → Becomes T o V z

  then_on : (T U V : Tree O) (o u z : Player O) (a b : List (Event O)) → Prefixed T o a U u → Prefixed U u b V z → Prefixed T o (a ++ b) V z
  then_on T U V o u z a b f g = record {
    way = after_way 0 o u z a b f.way g.way;
    builds = λ y n v e d. subst (λ l. Derives prog l [] (wait idle never) v e) (sym (ahead-append T a b y)) (f.builds (later b y) (allowed_budget b y.grants n) v e (g.builds y n v e d));
  }

  -- one entry more, that finds nobody
  strayed : (U : Tree O) (u z : Player O) (t : Path) (i : Entry) → U t ≡ None → FindsNobody u t i (prog.lost t) z → Prefixed U u (event [] (Unfound t i (prog.lost t)) ∷ []) U z
  strayed U u z t i gone g = record {
    way = unfound_way t i (prog.lost t) u z g;
    builds = λ y b v e d. Derives.unfound (ahead U (event [] (Unfound t i (prog.lost t)) ∷ []) y) [] idle never t i (ahead U [] y) v e refl gone (next U [] (Unfound t i (prog.lost t)) [] y) d;
  }

  -- or somebody
  module _ (U V : Tree O) (u w v z : Player O) (t : Path) (i : Entry) {node : Node O} (stands : U t ≡ Some node) (into : HandsIn u t i w) where
    abbrev e1 : Event O
    e1 = event t (In None i)

    abbrev e2 : Reply → Event O
    e2 r = event t (Done None r)

    goes_on : (τ : List (Event O)) (r : Reply) → Leads prog U w t (prog.entry i) 0 τ v (Comes V r) → z ≡ telling v (e2 r) → NotCut r → IsNoExit r → Prefixed U u (e1 ∷ (τ ++ e2 r ∷ [])) V z
    goes_on τ r l q n nx = record {
      way = visit_way t i r u w v z τ into l.way q n;
      builds = λ y b x d h. Derives.entered (ahead U (e1 ∷ (τ ++ e2 r ∷ [])) y) [] idle never t i (ahead U (τ ++ e2 r ∷ []) y) (ahead V (e2 r ∷ []) y) (ahead V [] y) x r d refl stands
          (next U t (In None i) (τ ++ e2 r ∷ []) y) (first prog U V t (prog.entry i) r w v τ (e2 r ∷ []) y b l) (next V t (Done None r) [] y) nx h;
    }

    exits_there : (τ : List (Event O)) (n : ℤ) → Leads prog U w t (prog.entry i) 0 τ v (Comes V (Exit n)) → z ≡ telling v (e2 (Exit n)) → Life U u 0 (e1 ∷ (τ ++ e2 (Exit n) ∷ [])) z (Rests V)
    exits_there τ n l q = record { way = visit_way t i (Exit n) u w v z τ into l.way q tt; runs = runs }
      where
        runs : (y : Rest O) → IsBudget y.grants → (x : World O) (d : Ending) → Rests V y x d → Derives prog (ahead U (e1 ∷ (τ ++ e2 (Exit n) ∷ [])) y) [] (wait idle never) x d
        runs y b x d (rests y2 h) =
            Derives.entered_exiting (ahead U (e1 ∷ (τ ++ e2 (Exit n) ∷ [])) y2) [] idle never t i (ahead U (τ ++ e2 (Exit n) ∷ []) y2) (ahead V (e2 (Exit n) ∷ []) y2) (ahead V [] y2) (ahead V [] y2) n None refl stands
            (next U t (In None i) (τ ++ e2 (Exit n) ∷ []) y2) (first prog U V t (prog.entry i) (Exit n) w v τ (e2 (Exit n) ∷ []) y2 b l) (next V t (Done None (Exit n)) [] y2)
            (exits_idle (ahead V [] y2) (ahead V [] y2) n y2.moves (record { tape = h; same = refl; ending = refl }))

    unwound_so : (τ : List (Event O)) (r : Reply) (y : Rest O) → IsEnd (Replied r) → Derives prog (ahead U τ y) t (prog.entry i) (world V [] y.grants (e2 r ∷ [])) (Some r) → Derives prog (ahead U (e1 ∷ τ) y) [] (wait idle never) (world V [] y.grants []) None
    unwound_so τ (Completed c) y en d = absurd en
    unwound_so τ (Stop n m) y en d = absurd en
    unwound_so τ (Cut c) y en d =
        Derives.entered (ahead U (e1 ∷ τ) y) [] idle never t i (ahead U τ y) (world V [] y.grants (e2 (Cut c) ∷ [])) (world V [] y.grants []) (world V [] y.grants []) (Cut c) None refl stands
        (next U t (In None i) τ y) d (record { tape = refl; tree = refl; moves = refl; grants = refl }) tt (Derives.unanswered (world V [] y.grants []) [] idle never refl refl refl)
    unwound_so τ (Exit n) y en d =
        Derives.entered_exiting (ahead U (e1 ∷ τ) y) [] idle never t i (ahead U τ y) (world V [] y.grants (e2 (Exit n) ∷ [])) (world V [] y.grants []) (world V [] y.grants []) n None refl stands
        (next U t (In None i) τ y) d (record { tape = refl; tree = refl; moves = refl; grants = refl }) (record { tape = refl; same = refl; ending = refl })

    stops_there : (τ : List (Event O)) (x : Player O) (j : ℕ) (f : Fate O) (S : Tree O) (σ : Reply → List (Event O)) → Leads prog U w t (prog.entry i) j τ x (Breaks f S V x j σ) → Life U u (suc j) (e1 ∷ τ) x (Ends f S V x j (λ r. σ r ++ e2 r ∷ []))
    stops_there τ x j f S σ l = record { way = in_way j t i u w x τ into l.way; runs = runs }
      where
        runs : (y : Rest O) → IsBudget y.grants → (q : World O) (d : Ending) → Ends f S V x j (λ r. σ r ++ e2 r ∷ []) y q d → Derives prog (ahead U (e1 ∷ τ) y) [] (wait idle never) q d
        runs y b q d (halts_at y2 h g) =
            Derives.entered_halted (ahead U (e1 ∷ τ) y2) [] idle never t i (ahead U τ y2) (ahead S [] y2) refl stands (next U t (In None i) τ y2) (l.runs y2 b (ahead S [] y2) None (halts y2 h g))
        runs y b q d (unwound_at r gs m a) =
            let y2 : Rest O = rest (copies (calls f j) (Come (Replied r)) ++ []) gs (σ r ++ e2 r ∷ []) in
            subst (λ ms. Derives prog (ahead U (e1 ∷ τ) (rest ms gs (σ r ++ e2 r ∷ []))) [] (wait idle never) (world V [] gs []) None) (append-nil (copies (calls f j) (Come (Replied r))))
            (unwound_so τ r y2 (may_end f (last_end x) r m) (l.runs y2 b (world V [] gs (e2 r ∷ [])) (Some r) (unwinds r [] gs (e2 r ∷ []) m a)))

    finished_by : (r : Reply) → IsNoExit r → z ≡ telling v (e2 r) → last_end z ≡ Finished
    finished_by (Completed c) n q = done_end t (Completed c) v z q
    finished_by (Stop k m) n q = done_end t (Stop k m) v z q
    finished_by (Cut c) n q = done_end t (Cut c) v z q
    finished_by (Exit k) n q = absurd n

    visited : (T : Tree O) (o : Player O) (r : Reply) (a : List (Event O)) → Prefixed T o a U u → Result prog U w t (prog.entry i) V v r → Crossings plays V v None (e2 r) z → Becomes T o V z
    visited T o (Completed c) a f (ran τ l n m) s =
        let q : z ≡ telling v (e2 (Completed c)) = done_on V t (Completed c) v z s l.way.goes_on in
        on (a ++ e1 ∷ (τ ++ e2 (Completed c) ∷ [])) (then_on T U V o u z a (e1 ∷ (τ ++ e2 (Completed c) ∷ [])) f (goes_on τ (Completed c) l q n tt)) (finished_by (Completed c) tt q)
    visited T o (Stop k x) a f (ran τ l n m) s =
        let q : z ≡ telling v (e2 (Stop k x)) = done_on V t (Stop k x) v z s l.way.goes_on in
        on (a ++ e1 ∷ (τ ++ e2 (Stop k x) ∷ [])) (then_on T U V o u z a (e1 ∷ (τ ++ e2 (Stop k x) ∷ [])) f (goes_on τ (Stop k x) l q n tt)) (finished_by (Stop k x) tt q)
    visited T o (Cut c) a f (ran τ l n m) s = absurd n
    visited T o (Exit k) a f (ran τ l n m) s =
        let q : z ≡ telling v (e2 (Exit k)) = done_on V t (Exit k) v z s l.way.goes_on in
        exits (a ++ e1 ∷ (τ ++ e2 (Exit k) ∷ [])) k (tail_leads prog T U o u z [] [] (wait idle never) (wait idle never) 0 a (e1 ∷ (τ ++ e2 (Exit k) ∷ [])) (Rests V) f (exits_there τ k l q)) (done_end t (Exit k) v z q)
    visited T o r a f (broke τ x j g S σ l h y st en) s =
        let q : z ≡ v = done_over V t r g v z s h in
        stops (a ++ e1 ∷ τ) x j g S (λ b. σ b ++ e2 b ∷ []) (tail_leads prog T U o u x [] [] (wait idle never) (wait idle never) (suc j) a (e1 ∷ τ) (Ends g S V x j (λ b. σ b ++ e2 b ∷ [])) f (stops_there τ x j g S σ l))
        (ap (λ k. k.fate) q ∙ h) (ap (λ k. k.outs) q ∙ y) (stops_more g S σ (λ b. e2 b ∷ []) x st)

  not_exited : {A : Type 0} (x : Outcome) (n : ℤ) → x ≡ Exited n → x ≡ Finished → A
  not_exited x n e f = absurd (subst Calm (sym f ∙ e) tt)

  pub over_of : (T : Tree O) (o : Player O) {V : Tree O} {z : Player O} → Lived prog T o V z → o.fate ≡ None → last_end o ≡ Finished → Becomes T o V z
  over_of T o (Playing.Lived.begun) n m = on [] (record { way = here o n; builds = λ y b v e d. d }) m
  over_of T o (Playing.Lived.unfound {U = U} {u = u} {z = z} t i l g h gone s) n m = by (over_of T o l n m)
    where
      by : Becomes T o U u → Becomes T o U z
      by (on τ f k) = on (τ ++ event [] (Unfound t i (prog.lost t)) ∷ []) (then_on T U U o u z τ (event [] (Unfound t i (prog.lost t)) ∷ []) f (strayed U u z t i gone s)) (unfound_end t i (prog.lost t) u z s)
      by (exits τ k f q) = not_exited (last_end u) k q h
      by (stops τ x j f S σ k q y b) = not_some u.fate f g q
  over_of T o (Playing.Lived.entered {U = U} {V = V} {u = u} {w = w} {v = v} {z = z} t i r l g h stands into a s) n m = by (over_of T o l n m)
    where
      by : Becomes T o U u → Becomes T o V z
      by (on τ f k) =
          visited U V u w v z t i stands into T o r τ f (played prog a (ap (λ x. x.fate) into.2 ∙ g) (subst Calm (sym (same_end u w w.left into.2)) (calm_finished (last_end u) h))) (record { told = s })
      by (exits τ k f q) = not_exited (last_end u) k q h
      by (stops τ x j f S σ k q y b) = not_some u.fate f g q
