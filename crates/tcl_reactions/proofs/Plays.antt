-- A run to which moves are played comes to its end, or to where the playing is over.
use Rattle.std.proofs.Common.{sym, ◌≡◌, ◌⊎◌, inl, inr, ℕ, ◌+◌, List, [], ◌∷◌, ◌++◌, Option, Some, None, refl, ◌∙◌, ap, subst, arith}
use Rattle.tcl_core.specs.Paths.{Place}
use Rattle.tcl_core.specs.Endings.{Completion, Reply, IsQuit, Cause, refusal}
use Rattle.tcl_core.specs.Endings.Meter.{Count, Depth}
use Rattle.tcl_core.specs.Endings.Reply.{Completed, Cut}
use Rattle.tcl_core.specs.Endings.Cause.{Over}
use Rattle.tcl_core.specs.Entries.Answer.{Replied}
use Rattle.tcl_core.specs.Trees.{Tree, Event, at, effect, granted, Node}
use Rattle.tcl_core.specs.Trees.Grants.{Budget, Listed}
use Rattle.tcl_core.specs.Trees.What.{Charged, Refused}
use Rattle.tcl_core.specs.Programs.{Deed, Next, spot, Act, Wrap, Prog, Table, decide, opens, closes, metered, blocked, is_spent}
use Rattle.tcl_core.specs.Programs.Act.{Charge}
use Rattle.tcl_core.specs.Programs.Next.{On, TooDeep, Off}
use Rattle.tcl_core.specs.Programs.Prog.{act, go, inside}
use Rattle.tcl_core.specs.Runs.{World, Ending}
use Rattle.tcl_core.specs.Rules.{Derives, IsNoExit, IsOn}
use Rattle.tcl_core.specs.Execution.{Crossings, Decides, Opens_so, event}
use Rattle.tcl_core.specs.Lives.{spent_at}
use Rattle.tcl_core.proofs.Following.{allowed}
use Rattle.tcl_core.proofs.Parting.{closes_silent}
use Rattle.tcl_core.proofs.Plain.{closes_plain}
use Rattle.tcl_core.proofs.Refusals.{cut_or}
use Rattle.tcl_core.proofs.Unended
use Rattle.tcl_core.proofs.Unended.{NotCut, on_no_cut}
use Rattle.tcl_reactions.specs.Playing.{Fate, IsEnd, Player, Refuses, last_end, plays, stopping}
use Rattle.tcl_reactions.specs.Playing.Fate.{Spends}
use Rattle.tcl_reactions.proofs.Ways.{allowed_budget, Calm, IsBudget, Rest, Way, ahead, closes_same, closes_uncut, here, next, plain_way}
use Rattle.tcl_reactions.proofs.Leads.{Breaks, Comes, Result, after_way, around, calls, closing_step, end_quits, first, stops_more, tail, world}
use Rattle.tcl_reactions.proofs.Leads.Breaks.{halts, unwinds}
use Rattle.tcl_reactions.proofs.Leads.Comes.{came}
use Rattle.tcl_reactions.proofs.Leads.Result.{ran, broke}
use Rattle.tcl_reactions.proofs.Deeds.{act_calm, act_cut, act_uncut, act_way, decided, off_not_cut, open_calm, open_cut, open_uncut, open_way, opened, plain_calm}
use Rattle.tcl_reactions.proofs.Turns.{not_some}
use Rattle.tcl_core.specs.Endings.Kind.{Full}

pub plus_none : (n : ℕ) → n ≡ n + 0
plus_none n = omega arith

module _ {O I : Type 0} (prog : Table O I) where
  pub came_to : (T V : Tree O) (p : Place) (x : Prog O I) (r : Reply) (τ : List (Event O)) → ((y : Rest O) → IsBudget y.grants → Derives prog (ahead T τ y) p x (ahead V [] y) (Some r)) →
      (y : Rest O) → IsBudget y.grants → (v : World O) (e : Ending) → Comes V r y v e → Derives prog (ahead T τ y) p x v e
  came_to T V p x r τ f y b v e (came w) = f w b

  -- ENDS AT ONCE
  pub at_once : (T : Tree O) (o : Player O) (p : Place) (x : Prog O I) (r : Reply) → o.fate ≡ None → NotCut r → (IsNoExit r → Calm (last_end o)) → ((y : Rest O) → Derives prog (ahead T [] y) p x (ahead T [] y) (Some r)) → Result prog T o p x T o r
  at_once T o p x r n f c d = ran [] (record { way = here o n; runs = came_to T T p x r [] (λ y b. d y) }) f c

  -- AN INNER RUN
  pub went_by : (T U V : Tree O) (o u z : Player O) (p : Place) (i : I) (k : Completion → Prog O I) (c : Completion) (r : Reply) → Result prog T o p (prog.program i) U u (Completed c) →
      (u.fate ≡ None → Calm (last_end u) → Result prog U u p (k c) V z r) → Result prog T o p (go i k) V z r
  went_by T U V o u z p i k c r (ran τ l n m) g =
      tail prog T U V o u z p p (go i k) (k c) r τ (record {
        way = l.way;
        builds = λ y b v e d. Derives.went (ahead T τ y) p i k (ahead U [] y) c v e (l.runs y b (ahead U [] y) (Some (Completed c)) (came y)) d;
      }) (g l.way.goes_on (m tt))
  went_by T U V o u z p i k c r (broke τ w j f S σ l h e s n) g = absurd n

  pub passed_by : (T U : Tree O) (o u : Player O) (p : Place) (i : I) (k : Completion → Prog O I) (r : Reply) → IsQuit r → Result prog T o p (prog.program i) U u r → Result prog T o p (go i k) U u r
  passed_by T U o u p i k r q (ran τ l n m) =
      ran τ (record { way = l.way; runs = came_to T U p (go i k) r τ (λ y b. Derives.passed (ahead T τ y) p i k (ahead U [] y) r q (l.runs y b (ahead U [] y) (Some r) (came y))) }) n m
  passed_by T U o u p i k r q (broke τ w j f S σ l h e s n) =
      broke τ w j f S (λ a. σ a ++ [])
      (around prog T T S U U o o w p p (go i k) (prog.program i) j j 0 f τ τ σ (λ a. []) (plus_none (calls f j)) l.way l
      (λ y b d. Derives.halted (ahead T τ y) p i k (ahead S [] y) d)
      (λ a ms y ρ b en d. Derives.passed (ahead T τ y) p i k (world U ms y.grants ρ) a (end_quits a en) d))
      h e (stops_more f S σ (λ a. []) w s) n

  -- AN ACT
  pub acted_by : (T V : Tree O) (o u z : Player O) (p : Place) (d : Act O) (k : Tree O → Prog O I) (r : Reply) (x : Deed O) → Decides d T p x → IsOn x.2 → Way 0 o (event (spot p x.0) x.1 ∷ []) u →
      Result prog (effect (spot p x.0) x.1 T) u p (k (at T p)) V z r → Result prog T o p (act d k) V z r
  acted_by T V o u z p d k r x is_so on w g =
      tail prog T (effect (spot p x.0) x.1 T) V o u z p p (act d k) (k (at T p)) r (event (spot p x.0) x.1 ∷ []) (record {
        way = w;
        builds = λ y b v e h. Derives.acted (ahead T (event (spot p x.0) x.1 ∷ []) y) p d k x (ahead (effect (spot p x.0) x.1 T) [] y) v e
            (decided d T p x is_so (act_uncut d T p x is_so (on_no_cut x.2 on)) y.grants b) on (next T (spot p x.0) x.1 [] y) h;
      }) g

  refused_within : (T : Tree O) (o u : Player O) (p : Place) (d : Act O) (k : Tree O → Prog O I) (r : Reply) (x : Deed O) → Decides d T p x → x.2 ≡ Off r → Unended.IsNoCut x.2 → Way 0 o (event (spot p x.0) x.1 ∷ []) u → Calm (last_end u) →
      Result prog T o p (act d k) (effect (spot p x.0) x.1 T) u r
  refused_within T o u p d k r x is_so off n w c =
      ran (event (spot p x.0) x.1 ∷ []) (record {
        way = w;
        runs = came_to T (effect (spot p x.0) x.1 T) p (act d k) r (event (spot p x.0) x.1 ∷ []) (λ y b. Derives.refused (ahead T (event (spot p x.0) x.1 ∷ []) y) p d k x r (ahead (effect (spot p x.0) x.1 T) [] y)
            (decided d T p x is_so (act_uncut d T p x is_so n) y.grants b) off (next T (spot p x.0) x.1 [] y));
      }) (off_not_cut r (subst Unended.IsNoCut off n)) (λ f. c)

  -- no step is left
  spent_runs : (T : Tree O) (o : Player O) (p : Place) (k : Tree O → Prog O I) → blocked is_spent T p ≡ None → (y : Rest O) → IsBudget y.grants → (v : World O) (e : Ending) → Breaks Spends T T o 0 (λ a. spent_at p ∷ []) y v e → Derives prog (ahead T [] y) p (act Charge k) v e
  spent_runs T o p k f y b v e (halts w h t) = absurd h
  spent_runs T o p k f y b v e (unwinds r ms gs ρ m a) =
      subst (λ q. Derives prog (world T ms gs (spent_at p ∷ ρ)) p (act Charge k) (world T ms gs ρ) (Some q)) (sym m)
      (Derives.refused (world T ms gs (spent_at p ∷ ρ)) p Charge k (None, Refused Count None, Off (Cut Over)) (Cut Over) (world T ms gs ρ)
      (ap (λ g. decide Charge T p g) a ∙ ap (λ l. metered Count Charged l (Budget 0)) f) refl
      (record { tape = refl; tree = refl; moves = refl; grants = a ∙ ap (λ g. granted {O = O} p (Refused Count None) g) (sym a) }))

  off_same : (n : Next) (r : Reply) (c : Cause) → n ≡ Off r → n ≡ Off (Cut c) → r ≡ Cut c
  off_same n r c e f = let g : Off r ≡ Off (Cut c) = sym e ∙ f in cc

  spends_at : (f : Option (Fate O)) (o u : Player O) → f ≡ None → Refuses f o u → (o.steps ≡ 0) × (u ≡ stopping o Spends)
  spends_at None o u e g = g
  spends_at (Some f) o u e g = not_some (Some f) f e refl

  refused_outside : (T : Tree O) (o u : Player O) (p : Place) (d : Act O) (k : Tree O → Prog O I) (r : Reply) (x : Deed O) (c : Cause) → Decides d T p x → x.2 ≡ Off r → x.2 ≡ Off (Cut c) → Crossings plays T o None (event (spot p x.0) x.1) u → o.fate ≡ None →
      Result prog T o p (act d k) (effect (spot p x.0) x.1 T) u r
  refused_outside T o u p d k r x c is_so off cut s n =
      let g : (d ≡ Charge) × (blocked is_spent T p ≡ None) × (x.0 ≡ None) × (x.1 ≡ Refused Count None) = act_cut d T p (granted (spot p x.0) x.1 (Listed [])) x c (is_so []) cut in
      let h : (o.steps ≡ 0) × (u ≡ stopping o Spends) = spends_at o.fate o u n (let c2 : Crossings plays T o None (event (spot p x.0) (Refused Count None)) u = subst (λ q. Crossings plays T o None (event (spot p x.0) q) u) g.3 s in c2.told) in
      let e : effect (spot p x.0) x.1 T ≡ T = ap (λ q. effect (spot p x.0) q T) g.3 in
      let y : Result prog T o p (act Charge k) T u r =
      broke [] o 0 Spends T (λ a. spent_at p ∷ []) (record { way = here o n; runs = spent_runs T o p k g.1 }) (ap (λ z. z.fate) h.1) (ap (λ z. z.outs) h.1) (p, [], h.0, refl) (subst (λ q. IsEnd (Replied q)) (sym (off_same x.2 r c off cut)) tt) in
      subst (λ q. Result prog T o p (act q k) (effect (spot p x.0) x.1 T) u r) (sym g.0) (subst (λ q. Result prog T o p (act Charge k) q u r) (sym e) y)

  pub refused_by : (T : Tree O) (o u : Player O) (p : Place) (d : Act O) (k : Tree O → Prog O I) (r : Reply) (x : Deed O) → Decides d T p x → x.2 ≡ Off r → Crossings plays T o None (event (spot p x.0) x.1) u → o.fate ≡ None → Calm (last_end o) →
      Result prog T o p (act d k) (effect (spot p x.0) x.1 T) u r
  refused_by T o u p d k r x is_so off s n c = by (cut_or x.2)
    where
      by : Unended.IsNoCut x.2 ⊎ ((b : Cause) × (x.2 ≡ Off (Cut b))) → Result prog T o p (act d k) (effect (spot p x.0) x.1 T) u r
      by (inl f) = let w : Way 0 o (event (spot p x.0) x.1 ∷ []) u = act_way d T p x o u is_so f s n in refused_within T o u p d k r x is_so off f w (act_calm d T p x o u is_so w c)
      by (inr f) = refused_outside T o u p d k r x f.0 is_so off f.1 s n

  -- A WRAP
  on_of : (x : Deed O) → x.2 ≡ On → Unended.IsNoCut x.2
  on_of x e = subst Unended.IsNoCut (sym e) tt

  closing_way : (m : Option (Node O)) (U : Tree O) (p : Place) (b : Wrap O) (o u : Player O) → Crossings plays U o None (event p (closes b m (U p))) u → o.fate ≡ None → Way 0 o (event p (closes b m (U p)) ∷ []) u
  closing_way m U p b o u s n = plain_way U None p (closes b m (U p)) o u (closes_plain b m (U p)) (closes_uncut p b m (U p)) (closes_silent p b m (U p)) s n

  closing_calm : (m : Option (Node O)) (U : Tree O) (p : Place) (b : Wrap O) (o u : Player O) → Way 0 o (event p (closes b m (U p)) ∷ []) u → Calm (last_end o) → Calm (last_end u)
  closing_calm m U p b o u w c = plain_calm p (closes b m (U p)) o u (closes_plain b m (U p)) w c

  module _ (T U : Tree O) (o o1 o2 o3 : Player O) (p : Place) (b : Wrap O) (i : I) (k : Completion → Prog O I) (x : Deed O) (is_so : Opens_so b T p x) (on : x.2 ≡ On) (w1 : Way 0 o (event (spot p x.0) x.1 ∷ []) o1) (s2 : Crossings plays U o2 None (event p (closes b (effect (spot p x.0) x.1 T p) (U p))) o3) where
    abbrev T1 : Tree O
    T1 = effect (spot p x.0) x.1 T

    abbrev U1 : Tree O
    U1 = effect p (closes b (T1 p) (U p)) U

    abbrev e1 : Event O
    e1 = event (spot p x.0) x.1

    abbrev e2 : Event O
    e2 = event p (closes b (T1 p) (U p))

    opens_here : (τ : List (Event O)) (y : Rest O) → IsBudget (allowed τ y.grants) → opens b T p (ahead T (e1 ∷ τ) y).grants ≡ Some x
    opens_here τ y n = opened b T p x is_so (open_uncut b T p x is_so (on_of x on)) (allowed τ y.grants) n

    pub wrapped_by : (V : Tree O) (z : Player O) (c : Completion) (r : Reply) → Result prog T1 o1 p (prog.program i) U o2 (Completed c) → (o3.fate ≡ None → Calm (last_end o3) → Result prog U1 o3 p (k c) V z r) → Result prog T o p (inside b i k) V z r
    wrapped_by V z c r (broke τ w j f S σ l h e s n) g = absurd n
    wrapped_by V z c r (ran τ l n m) g =
        let w2 : Way 0 o2 (e2 ∷ []) o3 = closing_way (T1 p) U p b o2 o3 s2 l.way.goes_on in
        tail prog T U1 V o o3 z p p (inside b i k) (k c) r (e1 ∷ (τ ++ e2 ∷ [])) (record {
          way = after_way 0 o o1 o3 (e1 ∷ []) (τ ++ e2 ∷ []) w1 (after_way 0 o1 o2 o3 τ (e2 ∷ []) l.way w2);
          builds = λ y q v e d. Derives.wrapped (ahead T (e1 ∷ (τ ++ e2 ∷ [])) y) p b i k x (ahead T1 (τ ++ e2 ∷ []) y) (ahead U (e2 ∷ []) y) (ahead U1 [] y) v c e
              (opens_here (τ ++ e2 ∷ []) y (allowed_budget (τ ++ e2 ∷ []) y.grants q)) on (next T (spot p x.0) x.1 (τ ++ e2 ∷ []) y)
              (first prog T1 U p (prog.program i) (Completed c) o1 o2 τ (e2 ∷ []) y q l) (next U p (closes b (T1 p) (U p)) [] y) d;
        }) (g w2.goes_on (closing_calm (T1 p) U p b o2 o3 w2 (m tt)))

    pub wrapped_passed_by : (r : Reply) → IsQuit r → Result prog T1 o1 p (prog.program i) U o2 r → Result prog T o p (inside b i k) U1 o3 r
    wrapped_passed_by r q (ran τ l n m) =
        let w2 : Way 0 o2 (e2 ∷ []) o3 = closing_way (T1 p) U p b o2 o3 s2 l.way.goes_on in
        ran (e1 ∷ (τ ++ e2 ∷ [])) (record {
          way = after_way 0 o o1 o3 (e1 ∷ []) (τ ++ e2 ∷ []) w1 (after_way 0 o1 o2 o3 τ (e2 ∷ []) l.way w2);
          runs = came_to T U1 p (inside b i k) r (e1 ∷ (τ ++ e2 ∷ [])) (λ y g. Derives.wrapped_passed (ahead T (e1 ∷ (τ ++ e2 ∷ [])) y) p b i k x (ahead T1 (τ ++ e2 ∷ []) y) (ahead U (e2 ∷ []) y) (ahead U1 [] y) r q
              (opens_here (τ ++ e2 ∷ []) y (allowed_budget (τ ++ e2 ∷ []) y.grants g)) on (next T (spot p x.0) x.1 (τ ++ e2 ∷ []) y)
              (first prog T1 U p (prog.program i) r o1 o2 τ (e2 ∷ []) y g l) (next U p (closes b (T1 p) (U p)) [] y));
        }) n (λ f. closing_calm (T1 p) U p b o2 o3 w2 (m f))
    wrapped_passed_by r q (broke τ w j f S σ l h e s n) =
        let same : o3 ≡ o2 = closes_same U None p b (T1 p) (U p) o2 o3 s2 in
        broke (e1 ∷ τ) w j f S (λ a. σ a ++ e2 ∷ [])
        (around prog T T1 S U U1 o o1 w p p (inside b i k) (prog.program i) j j 0 f τ (e1 ∷ τ) σ (λ a. e2 ∷ []) (plus_none (calls f j)) (after_way j o o1 w (e1 ∷ []) τ w1 l.way) l
        (λ y g d. Derives.wrapped_halted (ahead T (e1 ∷ τ) y) p b i k x (ahead T1 τ y) (ahead S [] y) (opens_here τ y (allowed_budget τ y.grants g)) on (next T (spot p x.0) x.1 τ y) d)
        (λ a ms y ρ g en d. Derives.wrapped_passed (ahead T (e1 ∷ τ) y) p b i k x (ahead T1 τ y) (world U ms y.grants (e2 ∷ ρ)) (world U1 ms y.grants ρ) a (end_quits a en)
        (opens_here τ y (allowed_budget τ y.grants g)) on (next T (spot p x.0) x.1 τ y) d (closing_step (T1 p) U p b ms y.grants ρ)))
        (ap (λ z. z.fate) same ∙ h) (ap (λ z. z.outs) same ∙ e) (stops_more f S σ (λ a. e2 ∷ []) w s) n

  pub too_deep_by : (T V : Tree O) (o u z : Player O) (p : Place) (b : Wrap O) (i : I) (k : Completion → Prog O I) (r : Reply) (x : Deed O) → Opens_so b T p x → x.2 ≡ TooDeep → Way 0 o (event (spot p x.0) x.1 ∷ []) u →
      Result prog (effect (spot p x.0) x.1 T) u p (k (refusal (Full Depth))) V z r → Result prog T o p (inside b i k) V z r
  too_deep_by T V o u z p b i k r x is_so deep w g =
      tail prog T (effect (spot p x.0) x.1 T) V o u z p p (inside b i k) (k (refusal (Full Depth))) r (event (spot p x.0) x.1 ∷ []) (record {
        way = w;
        builds = λ y n v e h. Derives.too_deep (ahead T (event (spot p x.0) x.1 ∷ []) y) p b i k x (ahead (effect (spot p x.0) x.1 T) [] y) v e
            (opened b T p x is_so (open_uncut b T p x is_so (subst Unended.IsNoCut (sym deep) tt)) y.grants n) deep (next T (spot p x.0) x.1 [] y) h;
      }) g

  pub shut_by : (T : Tree O) (o u : Player O) (p : Place) (b : Wrap O) (i : I) (k : Completion → Prog O I) (r : Reply) (x : Deed O) → Opens_so b T p x → x.2 ≡ Off r → Crossings plays T o None (event (spot p x.0) x.1) u → o.fate ≡ None → Calm (last_end o) →
      Result prog T o p (inside b i k) (effect (spot p x.0) x.1 T) u r
  shut_by T o u p b i k r x is_so off s n c = by (cut_or x.2)
    where
      by : Unended.IsNoCut x.2 ⊎ ((a : Cause) × (x.2 ≡ Off (Cut a))) → Result prog T o p (inside b i k) (effect (spot p x.0) x.1 T) u r
      by (inl f) =
          let w : Way 0 o (event (spot p x.0) x.1 ∷ []) u = open_way b T p x o u is_so f s n in
          ran (event (spot p x.0) x.1 ∷ []) (record {
            way = w;
            runs = came_to T (effect (spot p x.0) x.1 T) p (inside b i k) r (event (spot p x.0) x.1 ∷ []) (λ y g. Derives.shut (ahead T (event (spot p x.0) x.1 ∷ []) y) p b i k x r (ahead (effect (spot p x.0) x.1 T) [] y)
                (opened b T p x is_so (open_uncut b T p x is_so f) y.grants g) off (next T (spot p x.0) x.1 [] y));
          }) (off_not_cut r (subst Unended.IsNoCut off f)) (λ g. open_calm b T p x o u is_so w c)
      by (inr f) =
          let g : x.1 ≡ Refused Depth None = open_cut b T p (granted (spot p x.0) x.1 (Listed [])) x f.0 (is_so []) f.1 in
          let h : Crossings plays T o None (event (spot p x.0) (Refused Depth None)) u = subst (λ q. Crossings plays T o None (event (spot p x.0) q) u) g s in
          absurd h.told
