-- Calls that wait for the outside, in a run to which moves are played.
use Rattle.std.proofs.Common.{sym, ◌≡◌, ℕ, suc, ℤ, true, false, List, [], ◌∷◌, ◌++◌, Some, None, refl, ◌∙◌, ap, subst}
use Rattle.std.proofs.lemmas.Bool.{false≢true}
use Rattle.tcl_core.specs.Paths.{Path, Place, Height, rise_to}
use Rattle.tcl_core.specs.Endings.{Completion, Reply, IsQuit, Cause}
use Rattle.tcl_core.specs.Endings.Reply.{Completed, Stop, Exit, Cut}
use Rattle.tcl_core.specs.Entries.{Answer, Entry, HostReply, Said}
use Rattle.tcl_core.specs.Entries.Answer.{Replied, Heard, Nobody}
use Rattle.tcl_core.specs.Entries.Said.{Finished, Told, Missed}
use Rattle.tcl_core.specs.Trees.{Tree, Event, Move, Grants, where_none, Node}
use Rattle.tcl_core.specs.Trees.What.{In, Done, Back, Unfound}
use Rattle.tcl_core.specs.Trees.Move.{Born, Fall, Enter, Come}
use Rattle.tcl_core.specs.Programs.{Prog, Table, Wait}
use Rattle.tcl_core.specs.Programs.Prog.{wait}
use Rattle.tcl_core.specs.Runs.{World, Ending, Step, Halts, Exits, Exiting, ends_call, fits, height_of}
use Rattle.tcl_core.specs.Rules.{Derives, IsNoExit}
use Rattle.tcl_core.specs.Execution.{Crossings, event}
use Rattle.tcl_core.specs.Lives.{Outcome, copies}
use Rattle.tcl_core.specs.Lives.Outcome.{Exited}
use Rattle.tcl_core.proofs.Seeing.{is_exit_self}
use Rattle.tcl_core.proofs.Subtrees.{exit_answer}
use Rattle.tcl_reactions.specs.Playing.{Answers, Fate, HandsIn, IsEnd, Player, last_end, plays, suits, telling, FindsNobody}
use Rattle.tcl_reactions.specs.Playing.Answers.{reads, ends, waits, unfits, passes}
use Rattle.tcl_reactions.specs.Playing.Fate.{Waits, Unfits, EndsAbove}
use Rattle.tcl_reactions.proofs.Ways.{allowed_budget, Calm, IsBudget, Rest, Way, ahead, ahead-append, calm_suits, here, later, next}
use Rattle.tcl_reactions.proofs.Leads.{Breaks, Comes, Halting, Leads, May, Result, after_way, around, calls, end_quits, first, may_end, one_call, rest, stops_more, tail, world}
use Rattle.tcl_reactions.proofs.Leads.Breaks.{halts, unwinds}
use Rattle.tcl_reactions.proofs.Leads.Result.{ran, broke}
use Rattle.tcl_reactions.proofs.Plays.{came_to}
use Rattle.tcl_reactions.proofs.Turns.{After, answers_at, back_way, calm_ending, cut_of, done_end, done_on, done_over, ended_at_once, in_way, not_some, reply_no_cut, same_end, visit_way, unfound_way, unfound_end}
use Rattle.tcl_reactions.proofs.Ways.{fits_end}
use Rattle.tcl_reactions.proofs.Ways.{fits_open}

ends_fit : (O : Type 0) (T : Tree O) (p : Place) (s : Wait) (n : ℤ) → fits T p s (Come (Replied (Exit n))) ≡ true → ends_call s n (Replied (Exit n)) ≡ true
ends_fit O T p None n e = absurd (false≢true e)
ends_fit O T p (Some c) n e = is_exit_self n

not_exit_cut : {A : Type 0} (O : Type 0) (T : Tree O) (p : Place) (x : Outcome) (n : ℤ) (s : Wait) (b : Answer) (d : Cause) → x ≡ Exited n → b ≡ Replied (Cut d) → suits x T p s (Come b) ≡ true → A
not_exit_cut O T p x n s b d e f g = absurd (false≢true (subst (λ a. suits (Exited n) T p s (Come a) ≡ true) f (subst (λ y. suits y T p s (Come b) ≡ true) e g)))

module _ {O : Type 0} where
  back_step : (T : Tree O) (p : Place) (h : Height) (a : Answer) (ms : List (Move O)) (gs : Grants) (ρ : List (Event O)) → rise_to h p ≡ None → Step (world T (Come a ∷ ms) gs (event p (Back h a) ∷ ρ)) p (Back h a) (world T ms gs ρ)
  back_step T p h a ms gs ρ e = record { tape = refl; tree = refl; moves = sym (ap (λ o. where_none o (Come a) ms) e); grants = refl }

  exits_unfit : (w v : World O) (p : Place) (c : Height × Entry × ℕ) (n : ℤ) (m : Move O) (ms : List (Move O)) (T : Tree O) (q : Place) → suits (Exited n) T q (Some c) m ≡ false → Halts w v None → Exits w p (Some c) n (m ∷ ms) v None
  exits_unfit w v p c n (Come a) ms T q e h = subst (λ b. Exiting w p (Some c) n b v None) (sym e) h
  exits_unfit w v p c n (Enter t i) ms T q e h = h
  exits_unfit w v p c n (Born o b) ms T q e h = h
  exits_unfit w v p c n Fall ms T q e h = h

module _ {O I : Type 0} (prog : Table O I) where
  -- THE CALL IS ANSWERED
  pub answered_by : (T V : Tree O) (o u z : Player O) (p : Place) (s : Wait) (k : Said → Prog O I) (c : Completion) (r : Reply) → rise_to (height_of s) p ≡ None → fits T p s (Come (Replied (Completed c))) ≡ true → Answers T p o s (Replied (Completed c)) u →
      Calm (last_end o) → (u.fate ≡ None → Calm (last_end u) → Result prog T u p (k (Finished c)) V z r) → Result prog T o p (wait s k) V z r
  answered_by T V o u z p s k c r e fit (reads ms n l f g q) m next_one =
      let w : Way 0 o (event p (Back (height_of s) (Replied (Completed c))) ∷ []) u = back_way p (height_of s) (Replied (Completed c)) o u ms e n l g q in
      tail prog T T V o u z p p (wait s k) (k (Finished c)) r (event p (Back (height_of s) (Replied (Completed c))) ∷ []) (record {
        way = w;
        builds = λ y b v d x. Derives.answered (ahead T (event p (Back (height_of s) (Replied (Completed c))) ∷ []) y) p s k c (ahead T [] y) v d e fit (next T p (Back (height_of s) (Replied (Completed c))) [] y) x;
      }) (next_one w.goes_on (subst Calm (sym (same_end o u ms q)) m))
  answered_by T V o u z p s k c r e fit (ends b ms n l f g h q) m next_one = absurd h
  answered_by T V o u z p s k c r e fit (waits n l h q) m next_one = absurd h
  answered_by T V o u z p s k c r e fit (unfits a ms n l f h q) m next_one = absurd h
  answered_by T V o u z p s k c r e fit (passes f n h q) m next_one = absurd h

  pub heard_by : (T V : Tree O) (o u z : Player O) (p : Place) (s : Wait) (k : Said → Prog O I) (a : HostReply) (r : Reply) → rise_to (height_of s) p ≡ None → fits T p s (Come (Heard a)) ≡ true → Answers T p o s (Heard a) u →
      Calm (last_end o) → (u.fate ≡ None → Calm (last_end u) → Result prog T u p (k (Told a)) V z r) → Result prog T o p (wait s k) V z r
  heard_by T V o u z p s k a r e fit (reads ms n l f g q) m next_one =
      let w : Way 0 o (event p (Back (height_of s) (Heard a)) ∷ []) u = back_way p (height_of s) (Heard a) o u ms e n l g q in
      tail prog T T V o u z p p (wait s k) (k (Told a)) r (event p (Back (height_of s) (Heard a)) ∷ []) (record {
        way = w;
        builds = λ y b v d x. Derives.heard (ahead T (event p (Back (height_of s) (Heard a)) ∷ []) y) p s k a (ahead T [] y) v d e fit (next T p (Back (height_of s) (Heard a)) [] y) x;
      }) (next_one w.goes_on (subst Calm (sym (same_end o u ms q)) m))
  heard_by T V o u z p s k a r e fit (ends b ms n l f g h q) m next_one = absurd h
  heard_by T V o u z p s k a r e fit (waits n l h q) m next_one = absurd h
  heard_by T V o u z p s k a r e fit (unfits b ms n l f h q) m next_one = absurd h
  heard_by T V o u z p s k a r e fit (passes f n h q) m next_one = absurd h

  pub missed_by : (T V : Tree O) (o u z : Player O) (p : Place) (s : Wait) (k : Said → Prog O I) (r : Reply) → rise_to (height_of s) p ≡ None → fits T p s (Come Nobody) ≡ true → Answers T p o s Nobody u →
      Calm (last_end o) → (u.fate ≡ None → Calm (last_end u) → Result prog T u p (k Missed) V z r) → Result prog T o p (wait s k) V z r
  missed_by T V o u z p s k r e fit (reads ms n l f g q) m next_one =
      let w : Way 0 o (event p (Back (height_of s) Nobody) ∷ []) u = back_way p (height_of s) Nobody o u ms e n l g q in
      tail prog T T V o u z p p (wait s k) (k Missed) r (event p (Back (height_of s) Nobody) ∷ []) (record {
        way = w;
        builds = λ y b v d x. Derives.missed (ahead T (event p (Back (height_of s) Nobody) ∷ []) y) p s k (ahead T [] y) v d e fit (next T p (Back (height_of s) Nobody) [] y) x;
      }) (next_one w.goes_on (subst Calm (sym (same_end o u ms q)) m))
  missed_by T V o u z p s k r e fit (ends b ms n l f g h q) m next_one = absurd h
  missed_by T V o u z p s k r e fit (waits n l h q) m next_one = absurd h
  missed_by T V o u z p s k r e fit (unfits b ms n l f h q) m next_one = absurd h
  missed_by T V o u z p s k r e fit (passes f n h q) m next_one = absurd h

  -- THE PLAYING IS OVER AT IT
  over_leads : (T : Tree O) (o : Player O) (p : Place) (s : Wait) (k : Said → Prog O I) (f : Fate O) (a : Answer) → rise_to (height_of s) p ≡ None → fits T p s (Come a) ≡ true → o.fate ≡ None → calls f 0 ≡ 1 →
      ((y : Rest O) → Halting f o y.moves → y.tape ≡ [] → Derives prog (ahead T [] y) p (wait s k) (ahead T [] y) None) →
      Leads prog T o p (wait s k) 0 [] o (Breaks f T T o 0 (λ b. event p (Back (height_of s) (Replied b)) ∷ []))
  over_leads T o p s k f a e fit n one halt = record { way = here o n; runs = runs }
    where
      runs : (y : Rest O) → IsBudget y.grants → (v : World O) (d : Ending) → Breaks f T T o 0 (λ b. event p (Back (height_of s) (Replied b)) ∷ []) y v d → Derives prog (ahead T [] y) p (wait s k) v d
      runs y b v d (halts w h t) = halt w h t
      runs y b v d (unwinds r ms gs ρ m g) =
          let en : IsEnd (Replied r) = may_end f (last_end o) r m in
          subst (λ j. Derives prog (world T (copies j (Come (Replied r)) ++ ms) gs (event p (Back (height_of s) (Replied r)) ∷ ρ)) p (wait s k) (world T ms gs ρ) (Some r)) (sym one)
          (Derives.answered_passed (world T (Come (Replied r) ∷ ms) gs (event p (Back (height_of s) (Replied r)) ∷ ρ)) p s k r (world T ms gs ρ) (end_quits r en) e (fits_end O T T p p s a fit r en) (back_step T p (height_of s) (Replied r) ms gs ρ e))

  pub answered_passed_by : (T : Tree O) (o u : Player O) (p : Place) (s : Wait) (k : Said → Prog O I) (r : Reply) → IsQuit r → rise_to (height_of s) p ≡ None → fits T p s (Come (Replied r)) ≡ true → Answers T p o s (Replied r) u → o.fate ≡ None → Calm (last_end o) →
      Result prog T o p (wait s k) T u r
  answered_passed_by T o u p s k r qu e fit (reads ms n l f g q) n0 m =
      ran (event p (Back (height_of s) (Replied r)) ∷ []) (record {
        way = back_way p (height_of s) (Replied r) o u ms e n l g q;
        runs = came_to prog T T p (wait s k) r (event p (Back (height_of s) (Replied r)) ∷ []) (λ y b. Derives.answered_passed (ahead T (event p (Back (height_of s) (Replied r)) ∷ []) y) p s k r (ahead T [] y) qu e fit (next T p (Back (height_of s) (Replied r)) [] y));
      }) (reply_no_cut r g) (λ x. subst Calm (sym (same_end o u ms q)) m)
  answered_passed_by T o u p s k r qu e fit (ends b ms n l f g h q) n0 m =
      let c : (d : Cause) × (b ≡ Replied (Cut d)) = cut_of b g in
      broke [] o 0 EndsAbove T (λ b2. event p (Back (height_of s) (Replied b2)) ∷ [])
      (over_leads T o p s k EndsAbove (Replied r) e fit n refl (λ y x t. Derives.unanswered (ahead T [] y) p s k e x t))
      (ap (λ z. z.fate) q) (ap (λ z. z.outs) q) (c.0, ms, l ∙ ap (λ b2. Come b2 ∷ ms) c.1, m) h
  answered_passed_by T o u p s k r qu e fit (waits n l h q) n0 m =
      broke [] o 0 (Waits T) T (λ b2. event p (Back (height_of s) (Replied b2)) ∷ [])
      (over_leads T o p s k (Waits T) (Replied r) e fit n refl (λ y x t. Derives.unanswered (ahead T [] y) p s k e x t))
      (ap (λ z. z.fate) q) (ap (λ z. z.outs) q) (refl, l) h
  answered_passed_by T o u p s k r qu e fit (unfits a ms n l f h q) n0 m =
      broke [] o 0 Unfits T (λ b2. event p (Back (height_of s) (Replied b2)) ∷ [])
      (over_leads T o p s k Unfits (Replied r) e fit n refl (λ y x t. Derives.unfit (ahead T [] y) p s k a ms e (x ∙ l) (sym (calm_suits O (last_end o) T p s a m) ∙ f) t))
      (ap (λ z. z.fate) q) (ap (λ z. z.outs) q) (a, ms, l) h
  answered_passed_by T o u p s k r qu e fit (passes f n h q) n0 m = not_some o.fate f n0 n

  -- AN ENTRY COMES NEXT
  module _ (T U : Tree O) (o o1 o2 o3 : Player O) (p : Place) (s : Wait) (k : Said → Prog O I) (t : Path) (i : Entry) (e : rise_to (height_of s) p ≡ None) {node : Node O} (here_now : T t ≡ Some node) (into : HandsIn o t i o1) where
    abbrev e1 : Event O
    e1 = event t (In None i)

    abbrev e2 : Reply → Event O
    e2 r = event t (Done None r)

    abbrev e3 : Reply → Event O
    e3 r = event p (Back (height_of s) (Replied r))

    unwound_by : (τ : List (Event O)) (b : Reply) (ms : List (Move O)) (y : Rest O) (ρ : List (Event O)) → IsEnd (Replied b) → fits U p s (Come (Replied b)) ≡ true →
        Derives prog (ahead T τ y) t (prog.entry i) (world U (Come (Replied b) ∷ ms) y.grants (e2 b ∷ e3 b ∷ ρ)) (Some b) → Derives prog (ahead T (e1 ∷ τ) y) p (wait s k) (world U ms y.grants ρ) (Some b)
    unwound_by τ (Completed c) ms y ρ en fit d = absurd en
    unwound_by τ (Stop n m) ms y ρ en fit d = absurd en
    unwound_by τ (Cut c) ms y ρ en fit d =
        Derives.entered (ahead T (e1 ∷ τ) y) p s k t i (ahead T τ y) (world U (Come (Replied (Cut c)) ∷ ms) y.grants (e2 (Cut c) ∷ e3 (Cut c) ∷ ρ)) (world U (Come (Replied (Cut c)) ∷ ms) y.grants (e3 (Cut c) ∷ ρ)) (world U ms y.grants ρ) (Cut c) (Some (Cut c)) e here_now
        (next T t (In None i) τ y) d (record { tape = refl; tree = refl; moves = refl; grants = refl }) tt
        (Derives.answered_passed (world U (Come (Replied (Cut c)) ∷ ms) y.grants (e3 (Cut c) ∷ ρ)) p s k (Cut c) (world U ms y.grants ρ) tt e fit (back_step U p (height_of s) (Replied (Cut c)) ms y.grants ρ e))
    unwound_by τ (Exit n) ms y ρ en fit d =
        Derives.entered_exiting (ahead T (e1 ∷ τ) y) p s k t i (ahead T τ y) (world U (Come (Replied (Exit n)) ∷ ms) y.grants (e2 (Exit n) ∷ e3 (Exit n) ∷ ρ)) (world U (Come (Replied (Exit n)) ∷ ms) y.grants (e3 (Exit n) ∷ ρ)) (world U ms y.grants ρ) n (Some (Exit n)) e here_now
        (next T t (In None i) τ y) d (record { tape = refl; tree = refl; moves = refl; grants = refl })
        (exit_answer (world U (Come (Replied (Exit n)) ∷ ms) y.grants (e3 (Exit n) ∷ ρ)) p s n (world U ms y.grants ρ) e (ends_fit O U p s n fit) (back_step U p (height_of s) (Replied (Exit n)) ms y.grants ρ e))

    -- the playing is over in it
    inside_leads : (τ : List (Event O)) (w : Player O) (j : ℕ) (f : Fate O) (S : Tree O) (σ : Reply → List (Event O)) → ((b : Reply) → IsEnd (Replied b) → fits U p s (Come (Replied b)) ≡ true) →
        Leads prog T o1 t (prog.entry i) j τ w (Breaks f S U w j σ) → Leads prog T o p (wait s k) (suc j) (e1 ∷ τ) w (Breaks f S U w (suc j) (λ b. σ b ++ e2 b ∷ e3 b ∷ []))
    inside_leads τ w j f S σ fit l =
        around prog T T S U U o o1 w p t (wait s k) (prog.entry i) j (suc j) 1 f τ (e1 ∷ τ) σ (λ b. e2 b ∷ e3 b ∷ []) (one_call f j) (in_way j t i o o1 w τ into l.way) l
        (λ y b d. Derives.entered_halted (ahead T (e1 ∷ τ) y) p s k t i (ahead T τ y) (ahead S [] y) e here_now (next T t (In None i) τ y) d)
        (λ b ms y ρ c en d. unwound_by τ b ms y ρ en (fit b en) d)

    pub entered_by : (V : Tree O) (z : Player O) (y r : Reply) → Result prog T o1 t (prog.entry i) U o2 y → Crossings plays U o2 None (e2 y) o3 → IsNoExit y →
        (o3.fate ≡ None → Calm (last_end o3) → Result prog U o3 p (wait s k) V z r) → After prog U o3 (wait s k) V z r → Result prog T o p (wait s k) V z r
    entered_by V z y r (ran τ l n m) s2 nx g a =
        let q : o3 ≡ telling o2 (e2 y) = done_on U t y o2 o3 s2 l.way.goes_on in
        let w : Way 0 o (e1 ∷ (τ ++ e2 y ∷ [])) o3 = visit_way t i y o o1 o2 o3 τ into l.way q n in
        tail prog T U V o o3 z p p (wait s k) (wait s k) r (e1 ∷ (τ ++ e2 y ∷ [])) (record {
          way = w;
          builds = λ x b v d h. Derives.entered (ahead T (e1 ∷ (τ ++ e2 y ∷ [])) x) p s k t i (ahead T (τ ++ e2 y ∷ []) x) (ahead U (e2 y ∷ []) x) (ahead U [] x) v y d e here_now
              (next T t (In None i) (τ ++ e2 y ∷ []) x) (first prog T U t (prog.entry i) y o1 o2 τ (e2 y ∷ []) x b l) (next U t (Done None y) [] x) nx h;
        }) (g w.goes_on (subst Calm (sym (done_end t y o2 o3 q)) (calm_ending y nx)))
    entered_by V z y r (broke τ w j f S σ l h x st en) s2 nx g a =
        let same : o3 ≡ o2 = done_over U t y f o2 o3 s2 h in
        let b : (V ≡ U) × (z ≡ o3) × IsEnd (Replied r) × (fits U [] s (Come (Replied r)) ≡ true) = a f (ap (λ v. v.fate) same ∙ h) in
        subst (λ v. Result prog T o p (wait s k) v z r) (sym b.0)
        (broke (e1 ∷ τ) w (suc j) f S (λ c. σ c ++ e2 c ∷ e3 c ∷ []) (inside_leads τ w j f S σ (fits_end O U U [] p s (Replied r) b.3) l)
        (ap (λ v. v.fate) (b.1 ∙ same) ∙ h) (ap (λ v. v.outs) (b.1 ∙ same) ∙ x) (stops_more f S σ (λ c. e2 c ∷ e3 c ∷ []) w st) b.2)

  -- that finds nobody
  pub unfound_by : (T V : Tree O) (o u z : Player O) (p : Place) (s : Wait) (k : Said → Prog O I) (t : Path) (i : Entry) (r : Reply) → rise_to (height_of s) p ≡ None → T t ≡ None → FindsNobody o t i (prog.lost t) u →
      (u.fate ≡ None → Calm (last_end u) → Result prog T u p (wait s k) V z r) → Result prog T o p (wait s k) V z r
  unfound_by T V o u z p s k t i r e gone g next_one =
      let w : Way 0 o (event [] (Unfound t i (prog.lost t)) ∷ []) u = unfound_way t i (prog.lost t) o u g in
      tail prog T T V o u z p p (wait s k) (wait s k) r (event [] (Unfound t i (prog.lost t)) ∷ []) (record {
        way = w;
        builds = λ y b v d x. Derives.unfound (ahead T (event [] (Unfound t i (prog.lost t)) ∷ []) y) p s k t i (ahead T [] y) v d e gone (next T [] (Unfound t i (prog.lost t)) [] y) x;
      }) (next_one w.goes_on (subst Calm (sym (unfound_end t i (prog.lost t) o u g)) tt))

  -- and ends by an exit
  module _ (T U : Tree O) (o o1 o2 o3 o4 : Player O) (p : Place) (c : Height × Entry × ℕ) (k : Said → Prog O I) (t : Path) (i : Entry) (n : ℤ) (e : rise_to c.0 p ≡ None) {node : Node O} (here_now : T t ≡ Some node) (into : HandsIn o t i o1)
      (s2 : Crossings plays U o2 None (event t (Done None (Exit n))) o3) where
    abbrev d1 : Event O
    d1 = event t (In None i)

    abbrev d2 : Event O
    d2 = event t (Done None (Exit n))

    abbrev d3 : Reply → Event O
    d3 r = event p (Back c.0 (Replied r))

    exits_so : (τ : List (Event O)) → Leads prog T o1 t (prog.entry i) 0 τ o2 (Comes U (Exit n)) → (y : Rest O) → IsBudget y.grants → (v : World O) (d : Ending) → Exits (ahead U [] y) p (Some c) n y.moves v d → Derives prog (ahead T (d1 ∷ (τ ++ d2 ∷ [])) y) p (wait (Some c) k) v d
    exits_so τ l y b v d x =
        Derives.entered_exiting (ahead T (d1 ∷ (τ ++ d2 ∷ [])) y) p (Some c) k t i (ahead T (τ ++ d2 ∷ []) y) (ahead U (d2 ∷ []) y) (ahead U [] y) v n d e here_now
        (next T t (In None i) (τ ++ d2 ∷ []) y) (first prog T U t (prog.entry i) (Exit n) o1 o2 τ (d2 ∷ []) y b l) (next U t (Done None (Exit n)) [] y) x

    over_exit : (τ : List (Event O)) (f : Fate O) → Leads prog T o1 t (prog.entry i) 0 τ o2 (Comes U (Exit n)) → Way 0 o (d1 ∷ (τ ++ d2 ∷ [])) o3 → last_end o3 ≡ Exited n → calls f 0 ≡ 1 → ((r : Reply) → May f (Exited n) r → r ≡ Exit n) →
        ((y : Rest O) → Halting f o3 y.moves → y.tape ≡ [] → Exits (ahead U [] y) p (Some c) n y.moves (ahead U [] y) None) → Leads prog T o p (wait (Some c) k) 0 (d1 ∷ (τ ++ d2 ∷ [])) o3 (Breaks f U U o3 0 (λ r. d3 r ∷ []))
    over_exit τ f l w last one may halt = record { way = w; runs = runs }
      where
        by_exit : (ms : List (Move O)) (gs : Grants) (ρ : List (Event O)) → IsBudget gs → Derives prog (ahead T (d1 ∷ (τ ++ d2 ∷ [])) (rest (Come (Replied (Exit n)) ∷ ms) gs (d3 (Exit n) ∷ ρ))) p (wait (Some c) k) (world U ms gs ρ) (Some (Exit n))
        by_exit ms gs ρ b =
            exits_so τ l (rest (Come (Replied (Exit n)) ∷ ms) gs (d3 (Exit n) ∷ ρ)) b (world U ms gs ρ) (Some (Exit n))
            (exit_answer (world U (Come (Replied (Exit n)) ∷ ms) gs (d3 (Exit n) ∷ ρ)) p (Some c) n (world U ms gs ρ) e (is_exit_self n) (back_step U p c.0 (Replied (Exit n)) ms gs ρ e))

        runs : (y : Rest O) → IsBudget y.grants → (v : World O) (d : Ending) → Breaks f U U o3 0 (λ r. d3 r ∷ []) y v d → Derives prog (ahead T (d1 ∷ (τ ++ d2 ∷ [])) y) p (wait (Some c) k) v d
        runs y b v d (halts x h z) = exits_so τ l x b (ahead U [] x) None (halt x h z)
        runs y b v d (unwinds r ms gs ρ m g) =
            let x : r ≡ Exit n = may r (subst (λ q. May f q r) last m) in
            subst (λ j. Derives prog (ahead T (d1 ∷ (τ ++ d2 ∷ [])) (rest (copies j (Come (Replied r)) ++ ms) gs (d3 r ∷ ρ))) p (wait (Some c) k) (world U ms gs ρ) (Some r)) (sym one)
            (subst (λ q. Derives prog (ahead T (d1 ∷ (τ ++ d2 ∷ [])) (rest (Come (Replied q) ∷ ms) gs (d3 q ∷ ρ))) p (wait (Some c) k) (world U ms gs ρ) (Some q)) (sym x) (by_exit ms gs ρ b))

    still : (y : Rest O) → y.tape ≡ [] → Halts (ahead U [] y) (ahead U [] y) None
    still y z = record { tape = z; same = refl; ending = refl }

    exit_ran : (τ : List (Event O)) → Leads prog T o1 t (prog.entry i) 0 τ o2 (Comes U (Exit n)) → Way 0 o (d1 ∷ (τ ++ d2 ∷ [])) o3 → last_end o3 ≡ Exited n → Answers U p o3 (Some c) (Replied (Exit n)) o4 → Result prog T o p (wait (Some c) k) U o4 (Exit n)
    exit_ran τ l w last (reads ms g a f b q) =
        ran ((d1 ∷ (τ ++ d2 ∷ [])) ++ d3 (Exit n) ∷ []) (record {
          way = after_way 0 o o3 o4 (d1 ∷ (τ ++ d2 ∷ [])) (d3 (Exit n) ∷ []) w (back_way p c.0 (Replied (Exit n)) o3 o4 ms e g a b q);
          runs = came_to prog T U p (wait (Some c) k) (Exit n) ((d1 ∷ (τ ++ d2 ∷ [])) ++ d3 (Exit n) ∷ []) (λ y h. subst (λ x. Derives prog x p (wait (Some c) k) (ahead U [] y) (Some (Exit n))) (sym (ahead-append T (d1 ∷ (τ ++ d2 ∷ [])) (d3 (Exit n) ∷ []) y))
              (exits_so τ l (later (d3 (Exit n) ∷ []) y) (allowed_budget (d3 (Exit n) ∷ []) y.grants h) (ahead U [] y) (Some (Exit n)) (exit_answer (ahead U (d3 (Exit n) ∷ []) y) p (Some c) n (ahead U [] y) e (is_exit_self n) (next U p (Back c.0 (Replied (Exit n))) [] y))));
        }) tt (λ x. absurd x)
    exit_ran τ l w last (ends b ms g a f x y q) = let z : (d : Cause) × (b ≡ Replied (Cut d)) = cut_of b x in not_exit_cut O U p (last_end o3) n (Some c) b z.0 last z.1 f
    exit_ran τ l w last (waits g a x q) =
        broke (d1 ∷ (τ ++ d2 ∷ [])) o3 0 (Waits U) U (λ r. d3 r ∷ [])
        (over_exit τ (Waits U) l w last refl (λ r m. m) (λ y h z. subst (λ ms. Exits (ahead U [] y) p (Some c) n ms (ahead U [] y) None) (sym h) (still y z)))
        (ap (λ z. z.fate) q) (ap (λ z. z.outs) q) (refl, a) tt
    exit_ran τ l w last (unfits m ms g a f x q) =
        broke (d1 ∷ (τ ++ d2 ∷ [])) o3 0 Unfits U (λ r. d3 r ∷ [])
        (over_exit τ Unfits l w last refl (λ r m2. m2) (λ y h z. subst (λ ms2. Exits (ahead U [] y) p (Some c) n ms2 (ahead U [] y) None) (sym (h ∙ a)) (exits_unfit (ahead U [] y) (ahead U [] y) p c n m ms U p (subst (λ l2. suits l2 U p (Some c) m ≡ false) last f) (still y z))))
        (ap (λ z. z.fate) q) (ap (λ z. z.outs) q) (m, ms, a) tt
    exit_ran τ l w last (passes f g x q) = not_some o3.fate f w.goes_on g

    pub entered_exiting_by : Result prog T o1 t (prog.entry i) U o2 (Exit n) → Crossings plays U o3 (Some c) (event p (Back c.0 (Replied (Exit n)))) o4 → Result prog T o p (wait (Some c) k) U o4 (Exit n)
    entered_exiting_by (ran τ l m g) s3 =
        let q : o3 ≡ telling o2 d2 = done_on U t (Exit n) o2 o3 s2 l.way.goes_on in
        exit_ran τ l (visit_way t i (Exit n) o o1 o2 o3 τ into l.way q tt) (done_end t (Exit n) o2 o3 q) (answers_at U (Some c) p c.0 (Replied (Exit n)) o3 o4 e s3)
    entered_exiting_by (broke τ w j f S σ l h x st en) s3 =
        let same : o3 ≡ o2 = done_over U t (Exit n) f o2 o3 s2 h in
        ended_at_once prog U p o3 o4 (Some c) (Replied (Exit n)) f (answers_at U (Some c) p c.0 (Replied (Exit n)) o3 o4 e s3) (ap (λ v. v.fate) same ∙ h)
        (λ q y. broke (d1 ∷ τ) w (suc j) f S (λ b. σ b ++ event t (Done None b) ∷ d3 b ∷ []) (inside_leads T U o o1 o2 o3 p (Some c) k t i e here_now into τ w j f S σ (fits_open O U p c) l)
        (ap (λ v. v.fate) (q ∙ same) ∙ h) (ap (λ v. v.outs) (q ∙ same) ∙ x) (stops_more f S σ (λ b. event t (Done None b) ∷ d3 b ∷ []) w st) tt)
