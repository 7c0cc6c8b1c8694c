-- Calls within the tree, and calls that leave it, in a run to which moves are played.
use Rattle.std.proofs.Common.{sym, ◌≡◌, ℕ, ℤ, ◌+◌, Bool, true, false, List, [], ◌∷◌, ◌++◌, Some, None, length, refl, ◌∙◌, ap, subst, Option}
use Rattle.std.specs.Prelude.{nat_lt, ◌-◌}
use Rattle.tcl_core.specs.Paths.{falls, together, Path, Place, Height, rise_to}
use Rattle.tcl_core.specs.Endings.{Completion, Reply, IsQuit, Kind}
use Rattle.tcl_core.specs.Endings.Reply.{Completed, Stop, Exit, Cut}
use Rattle.tcl_core.specs.Entries.{Entry, Said}
use Rattle.tcl_core.specs.Entries.Answer.{Replied}
use Rattle.tcl_core.specs.Entries.Said.{Finished}
use Rattle.tcl_core.specs.Trees.{Tree, Event, Move, Grants, depth_of}
use Rattle.tcl_core.specs.Trees.What.{In, Out, Done, Back}
use Rattle.tcl_core.specs.Programs.{Prog, Table, or_lost}
use Rattle.tcl_core.specs.Programs.Prog.{call, wait}
use Rattle.tcl_core.specs.Runs.{Step, carried, lessened, reached, gone, carried_by, ended}
use Rattle.tcl_core.specs.Rules.{Derives, IsNoExit}
use Rattle.tcl_core.specs.Execution.{Crossings, event}
use Rattle.tcl_core.proofs.PathLaws.{rise_back}
use Rattle.tcl_core.proofs.Unended.{NotCut}
use Rattle.tcl_core.proofs.TreeLaws.{reached_at}
use Rattle.tcl_reactions.specs.Playing.{IsEnd, Player, last_end, plays}
use Rattle.tcl_reactions.proofs.Ways.{Calm, Way, ahead, inner_asked, inner_same, inner_way, next, out_way}
use Rattle.tcl_reactions.proofs.Leads.{Result, after_way, around, calls, end_carried, end_quits, first, stops_more, tail, way_end, world}
use Rattle.tcl_reactions.proofs.Leads.Result.{ran, broke}
use Rattle.tcl_reactions.proofs.Plays.{came_to, plus_none}

completed_fine : {A : Type 0} (c : Completion) (r : Reply) → r ≡ Completed c → IsEnd (Replied r) → A
completed_fine c r e f = absurd (subst (λ l. IsEnd (Replied l)) e f)

exit_not : {A : Type 0} (c : Completion) (n : ℤ) → Exit n ≡ Completed c → A
exit_not c n e = absurd (bad e)
  where
    bad : Exit n ≡ Completed c → Prim.⊥
    bad f = cc

pub no_exit_of : (g : Option ℕ) (h : Height) (p : Place) (down : Path) (s : Reply) (c : Completion) → carried g h p down s ≡ Completed c → IsNoExit s
no_exit_of g h p down (Completed d) c e = tt
no_exit_of g h p down (Stop n m) c e = tt
no_exit_of g h p down (Cut d) c e = tt
no_exit_of None h p down (Exit n) c e = exit_not c n e
no_exit_of (Some g) h p down (Exit n) c e = exit_not c n e

pub no_exit_in : (g : Option ℕ) (h : Height) (p : Place) (down : Path) (s r : Reply) → carried g h p down s ≡ r → IsNoExit r → IsNoExit s
no_exit_in g h p down (Completed d) r e f = tt
no_exit_in g h p down (Stop n m) r e f = tt
no_exit_in g h p down (Cut d) r e f = tt
no_exit_in None h p down (Exit n) r e f = subst IsNoExit (sym e) f
no_exit_in (Some g) h p down (Exit n) r e f = subst IsNoExit (sym e) f

lessened_fine : (b : Bool) (n : ℕ) (m : Kind) → NotCut (lessened b n m)
lessened_fine true n m = tt
lessened_fine false n m = tt

carried_by_fine : (h : Height) (p : Place) (down : Path) (s : Reply) → NotCut s → NotCut (carried_by s h p down)
carried_by_fine h p down (Completed d) f = tt
carried_by_fine None p down (Stop n m) f = tt
carried_by_fine (Some h) p down (Stop n m) f = lessened_fine (nat_lt (n + together (falls h p) down) (length down)) (n + h - length down) m
carried_by_fine h p down (Exit n) f = tt
carried_by_fine h p down (Cut d) f = absurd f

ended_fine : (g : Option ℕ) (s : Reply) → NotCut s → NotCut (ended g s)
ended_fine None s f = f
ended_fine (Some g) (Completed d) f = tt
ended_fine (Some g) (Stop n m) f = tt
ended_fine (Some g) (Exit n) f = tt
ended_fine (Some g) (Cut d) f = absurd f

carried_fine : (g : Option ℕ) (h : Height) (p : Place) (down : Path) (s : Reply) → NotCut s → NotCut (carried g h p down s)
carried_fine g h p down s f = ended_fine g (carried_by s h p down) (carried_by_fine h p down s f)

pub within : (O : Type 0) (T : Tree O) (a t : Place) (down : Path) → reached T a down ≡ Some t → rise_to (Some (length down)) t ≡ Some a
within O T a t down e = subst (λ z. rise_to (Some (length down)) z ≡ Some a) (sym (reached_at (T (a ++ down)) t (a ++ down) e)) (rise_back a down)

module _ {O I : Type 0} (prog : Table O I) where
  -- A call goes out to t and comes in there; s is how it was done there.
  module _ (T U : Tree O) (o o1 o2 o3 o4 o5 : Player O) (p a t : Place) (h : Height) (down : Path) (i : Entry) (lost : Completion) (k : Said → Prog O I) (s : Reply)
      (e : rise_to h p ≡ Some a) (there : reached T a down ≡ Some t)
      (s1 : Crossings plays T o None (event p (Out h down i)) o1) (s2 : Crossings plays T o1 None (event t (In (Some (length down)) i)) o2)
      (s3 : Crossings plays U o3 None (event t (Done (Some (length down)) s)) o4) (s4 : Crossings plays U o4 None (event p (Back h (Replied (carried (gone (depth_of (T p)) U p) h p down s)))) o5) where
    abbrev e1 : Event O
    e1 = event p (Out h down i)

    abbrev e2 : Event O
    e2 = event t (In (Some (length down)) i)

    abbrev e3 : Reply → Event O
    e3 r = event t (Done (Some (length down)) r)

    abbrev e4 : Reply → Event O
    e4 r = event p (Back h (Replied (carried (gone (depth_of (T p)) U p) h p down r)))

    up : rise_to (Some (length down)) t ≡ Some a
    up = within O T a t down there

    pub starts : o.fate ≡ None → Way 0 o (e1 ∷ e2 ∷ []) o2
    starts n =
        let w1 : Way 0 o (e1 ∷ []) o1 = inner_way T None p (Out h down i) a o o1 e s1 n in
        after_way 0 o o1 o2 (e1 ∷ []) (e2 ∷ []) w1 (inner_way T None t (In (Some (length down)) i) a o1 o2 up s2 w1.goes_on)

    pub starts_same : o2 ≡ o
    starts_same = inner_same T None t (In (Some (length down)) i) a o1 o2 up s2 ∙ inner_same T None p (Out h down i) a o o1 e s1

    answers_same : o5 ≡ o3
    answers_same = inner_same U None p (Back h (Replied (carried (gone (depth_of (T p)) U p) h p down s))) a o4 o5 e s4 ∙ inner_same U None t (Done (Some (length down)) s) a o3 o4 up s3

    answers_way : o3.fate ≡ None → Way 0 o3 (e3 s ∷ e4 s ∷ []) o5
    answers_way n =
        let w3 : Way 0 o3 (e3 s ∷ []) o4 = inner_way U None t (Done (Some (length down)) s) a o3 o4 up s3 n in
        after_way 0 o3 o4 o5 (e3 s ∷ []) (e4 s ∷ []) w3 (inner_way U None p (Back h (Replied (carried (gone (depth_of (T p)) U p) h p down s))) a o4 o5 e s4 w3.goes_on)

    whole_way : (τ : List (Event O)) → o.fate ≡ None → Way 0 o2 τ o3 → Way 0 o (e1 ∷ e2 ∷ (τ ++ e3 s ∷ e4 s ∷ [])) o5
    whole_way τ n w = after_way 0 o o2 o5 (e1 ∷ e2 ∷ []) (τ ++ e3 s ∷ e4 s ∷ []) (starts n) (after_way 0 o2 o3 o5 τ (e3 s ∷ e4 s ∷ []) w (answers_way w.goes_on))

    calm_after : Calm (last_end o3) → Calm (last_end o5)
    calm_after c = subst (λ z. Calm (last_end z)) (sym answers_same) c

    pub called_by : (V : Tree O) (z : Player O) (c : Completion) (r : Reply) → o.fate ≡ None → carried (gone (depth_of (T p)) U p) h p down s ≡ Completed c → Result prog T o2 t (prog.entry i) U o3 s →
        (o5.fate ≡ None → Calm (last_end o5) → Result prog U o5 p (k (Finished c)) V z r) → Result prog T o p (call h down i lost k) V z r
    called_by V z c r n so (broke τ w j f S σ l q x y d) g = completed_fine c s (sym (end_carried (gone (depth_of (T p)) U p) h p down s d) ∙ so) d
    called_by V z c r n so (ran τ l q m) g =
        let w : Way 0 o (e1 ∷ e2 ∷ (τ ++ e3 s ∷ e4 s ∷ [])) o5 = whole_way τ n l.way in
        tail prog T U V o o5 z p p (call h down i lost k) (k (Finished c)) r (e1 ∷ e2 ∷ (τ ++ e3 s ∷ e4 s ∷ [])) (record {
          way = w;
          builds = λ y b v d x. Derives.called (ahead T (e1 ∷ e2 ∷ (τ ++ e3 s ∷ e4 s ∷ [])) y) p h down i lost k a t (ahead T (e2 ∷ (τ ++ e3 s ∷ e4 s ∷ [])) y) (ahead T (τ ++ e3 s ∷ e4 s ∷ []) y) (ahead U (e3 s ∷ e4 s ∷ []) y) (ahead U (e4 s ∷ []) y) (ahead U [] y) v s c d e
              (next T p (Out h down i) (e2 ∷ (τ ++ e3 s ∷ e4 s ∷ [])) y) there (next T t (In (Some (length down)) i) (τ ++ e3 s ∷ e4 s ∷ []) y)
              (first prog T U t (prog.entry i) s o2 o3 τ (e3 s ∷ e4 s ∷ []) y b l)
              (next U t (Done (Some (length down)) s) (e4 s ∷ []) y) so (next U p (Back h (Replied (carried (gone (depth_of (T p)) U p) h p down s))) [] y) x;
        }) (g w.goes_on (calm_after (m (no_exit_of (gone (depth_of (T p)) U p) h p down s c so))))

    back_step : (ms : List (Move O)) (gs : Grants) (ρ : List (Event O)) (r : Reply) → Step (world U ms gs (e4 r ∷ ρ)) p (Back h (Replied (carried (gone (depth_of (T p)) U p) h p down r))) (world U ms gs ρ)
    back_step ms gs ρ r = record { tape = refl; tree = refl; moves = sym (inner_asked p (Back h (Replied (carried (gone (depth_of (T p)) U p) h p down r))) a e ms); grants = refl }

    pub called_passed_by : (r : Reply) → o.fate ≡ None → carried (gone (depth_of (T p)) U p) h p down s ≡ r → IsQuit r → Result prog T o2 t (prog.entry i) U o3 s → Result prog T o p (call h down i lost k) U o5 r
    called_passed_by r n so q (ran τ l f m) =
        ran (e1 ∷ e2 ∷ (τ ++ e3 s ∷ e4 s ∷ [])) (record {
          way = whole_way τ n l.way;
          runs = came_to prog T U p (call h down i lost k) r (e1 ∷ e2 ∷ (τ ++ e3 s ∷ e4 s ∷ [])) (λ y b. subst (λ x. Derives prog (ahead T (e1 ∷ e2 ∷ (τ ++ e3 s ∷ e4 s ∷ [])) y) p (call h down i lost k) (ahead U [] y) (Some x)) so
              (Derives.called_passed (ahead T (e1 ∷ e2 ∷ (τ ++ e3 s ∷ e4 s ∷ [])) y) p h down i lost k a t (ahead T (e2 ∷ (τ ++ e3 s ∷ e4 s ∷ [])) y) (ahead T (τ ++ e3 s ∷ e4 s ∷ []) y) (ahead U (e3 s ∷ e4 s ∷ []) y) (ahead U (e4 s ∷ []) y) (ahead U [] y) s e
              (next T p (Out h down i) (e2 ∷ (τ ++ e3 s ∷ e4 s ∷ [])) y) there (next T t (In (Some (length down)) i) (τ ++ e3 s ∷ e4 s ∷ []) y)
              (first prog T U t (prog.entry i) s o2 o3 τ (e3 s ∷ e4 s ∷ []) y b l)
              (next U t (Done (Some (length down)) s) (e4 s ∷ []) y) (subst IsQuit (sym so) q) (next U p (Back h (Replied (carried (gone (depth_of (T p)) U p) h p down s))) [] y)));
        }) (subst NotCut so (carried_fine (gone (depth_of (T p)) U p) h p down s f)) (λ x. calm_after (m (no_exit_in (gone (depth_of (T p)) U p) h p down s r so x)))
    called_passed_by r n so q (broke τ w j f S σ l x y d g) =
        broke (e1 ∷ e2 ∷ τ) w j f S (λ b. σ b ++ e3 b ∷ e4 b ∷ [])
        (around prog T T S U U o o2 w p t (call h down i lost k) (prog.entry i) j j 0 f τ (e1 ∷ e2 ∷ τ) σ (λ b. e3 b ∷ e4 b ∷ []) (plus_none (calls f j)) (after_way j o o2 w (e1 ∷ e2 ∷ []) τ (starts n) l.way) l
        (λ y2 b d2. Derives.called_halted (ahead T (e1 ∷ e2 ∷ τ) y2) p h down i lost k a t (ahead T (e2 ∷ τ) y2) (ahead T τ y2) (ahead S [] y2) e
        (next T p (Out h down i) (e2 ∷ τ) y2) there (next T t (In (Some (length down)) i) τ y2) d2)
        (λ b ms y2 ρ c en d2. subst (λ x2. Derives prog (ahead T (e1 ∷ e2 ∷ τ) y2) p (call h down i lost k) (world U ms y2.grants ρ) (Some x2)) (end_carried (gone (depth_of (T p)) U p) h p down b en)
        (Derives.called_passed (ahead T (e1 ∷ e2 ∷ τ) y2) p h down i lost k a t (ahead T (e2 ∷ τ) y2) (ahead T τ y2) (world U ms y2.grants (e3 b ∷ e4 b ∷ ρ)) (world U ms y2.grants (e4 b ∷ ρ)) (world U ms y2.grants ρ) b e
        (next T p (Out h down i) (e2 ∷ τ) y2) there (next T t (In (Some (length down)) i) τ y2) d2
        (record { tape = refl; tree = refl; moves = refl; grants = refl }) (subst IsQuit (sym (end_carried (gone (depth_of (T p)) U p) h p down b en)) (end_quits b en)) (back_step ms y2.grants ρ b))))
        (ap (λ z. z.fate) answers_same ∙ x) (ap (λ z. z.outs) answers_same ∙ y) (stops_more f S σ (λ b. e3 b ∷ e4 b ∷ []) w d) (subst (λ b. IsEnd (Replied b)) (sym (end_carried (gone (depth_of (T p)) U p) h p down s g) ∙ so) g)

  -- nobody is there
  pub unreached_by : (T V : Tree O) (o o1 o2 z : Player O) (p a : Place) (h : Height) (down : Path) (i : Entry) (lost : Completion) (k : Said → Prog O I) (r : Reply) → rise_to h p ≡ Some a → reached T a down ≡ None →
      Crossings plays T o None (event p (Out h down i)) o1 → Crossings plays T o1 None (event p (Back h (Replied (Completed lost)))) o2 → o.fate ≡ None → Calm (last_end o) →
      (o2.fate ≡ None → Calm (last_end o2) → Result prog T o2 p (k (Finished lost)) V z r) → Result prog T o p (call h down i lost k) V z r
  unreached_by T V o o1 o2 z p a h down i lost k r e there s1 s2 n c g =
      let w1 : Way 0 o (event p (Out h down i) ∷ []) o1 = inner_way T None p (Out h down i) a o o1 e s1 n in
      let w2 : Way 0 o1 (event p (Back h (Replied (Completed lost))) ∷ []) o2 = inner_way T None p (Back h (Replied (Completed lost))) a o1 o2 e s2 w1.goes_on in
      let same : o2 ≡ o = inner_same T None p (Back h (Replied (Completed lost))) a o1 o2 e s2 ∙ inner_same T None p (Out h down i) a o o1 e s1 in
      let e2 : Event O = event p (Back h (Replied (Completed lost))) in
      tail prog T T V o o2 z p p (call h down i lost k) (k (Finished lost)) r (event p (Out h down i) ∷ e2 ∷ []) (record {
        way = after_way 0 o o1 o2 (event p (Out h down i) ∷ []) (e2 ∷ []) w1 w2;
        builds = λ y b v d x. Derives.unreached (ahead T (event p (Out h down i) ∷ e2 ∷ []) y) p h down i lost k a (ahead T (e2 ∷ []) y) (ahead T [] y) v d e
            (next T p (Out h down i) (e2 ∷ []) y) there (next T p (Back h (Replied (Completed lost))) [] y) x;
      }) (g w2.goes_on (subst (λ q. Calm (last_end q)) (sym same) c))

  -- it leaves the tree
  pub called_out_by : (T V : Tree O) (o u z : Player O) (p : Place) (h : Height) (down : Path) (i : Entry) (lost : Completion) (k : Said → Prog O I) (r : Reply) → rise_to h p ≡ None →
      Crossings plays T o None (event p (Out h down i)) u → o.fate ≡ None → Calm (last_end o) → (u.fate ≡ None → Calm (last_end u) → Result prog T u p (wait (Some (h, i, depth_of (T p))) (or_lost lost k)) V z r) → Result prog T o p (call h down i lost k) V z r
  called_out_by T V o u z p h down i lost k r e s n c g =
      let w : Way 0 o (event p (Out h down i) ∷ []) u = out_way T None p h down i o u e s n in
      tail prog T T V o u z p p (call h down i lost k) (wait (Some (h, i, depth_of (T p))) (or_lost lost k)) r (event p (Out h down i) ∷ []) (record {
        way = w;
        builds = λ y b v d x. Derives.called_out (ahead T (event p (Out h down i) ∷ []) y) p h down i lost k (ahead T [] y) v d e (next T p (Out h down i) [] y) x;
      }) (g w.goes_on (subst Calm (sym (way_end 0 o u (event p (Out h down i) ∷ []) w)) c))
