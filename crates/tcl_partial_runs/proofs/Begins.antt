-- What is told of a program until it is given up is what its runs begin with.
use Rattle.std.proofs.Common.{◌≡◌, true, List, [], ◌∷◌, ◌++◌, Option, Some, None, length, refl, sym, ap, subst, append-nil}
use Rattle.tcl_core.specs.Paths.{Path, Place, Height, rise_to}
use Rattle.tcl_core.specs.Endings.{Completion, Reply, refusal}
use Rattle.tcl_core.specs.Endings.Meter.{Depth}
use Rattle.tcl_core.specs.Entries.Said.{Finished, Told, Missed}
use Rattle.tcl_core.specs.Endings.Reply.{Completed, Stop, Exit, Cut}
use Rattle.tcl_core.specs.Entries.{Entry, Answer, Said}
use Rattle.tcl_core.specs.Entries.Answer.{Replied, Heard, Nobody}
use Rattle.tcl_core.specs.Trees.{Tree, Event, Move, Grants, at, effect, where_none, depth_of, Node}
use Rattle.tcl_core.specs.Trees.Grants.{Listed}
use Rattle.tcl_core.specs.Trees.What.{Out, In, Done, Back, Unfound}
use Rattle.tcl_core.specs.Trees.Move.{Come}
use Rattle.tcl_core.specs.Programs.{Deed, spot, Act, Wrap, Wait, Next, Prog, Table, closes, Calls_only}
use Rattle.tcl_core.specs.Programs.Next.{On, TooDeep, Off}
use Rattle.tcl_core.specs.Programs.Prog.{act, go, inside, call, wait}
use Rattle.tcl_core.specs.Runs.{World, Ending, Runs, Then, Closes, Acted, Acts, Opened, Opens, Hears, Answered, Leaves, Visits, Returns, Reaches, Calls, Stays, Fitting, Waits, carried, reached, fits, height_of, gone, gone_from, Enters}
use Rattle.tcl_core.specs.Rules.{IsOn, IsNoExit}
use Rattle.tcl_core.specs.Execution.{Executes, Chain, Open, none, more, Decides, Opens_so, event, pending, with_call}
use Rattle.tcl_core.proofs.Folding.{unroll}
use Rattle.tcl_core.proofs.Callers.{Fits, fit, or_lost_all}
use Rattle.tcl_core.proofs.Following.{back_within, called_on, chain-append, goes_out, goes_within, plain_deed, plain_more, plain_open, replied, waiting}
use Rattle.tcl_core.proofs.Plain.{closes_plain}
use Rattle.tcl_partial_runs.specs.Beginnings.{Begun, handed, handing, Begins, BeginsEach}
use Rattle.tcl_partial_runs.specs.Beginnings.Begun.{stopped, ended, acted, going, went, within, wrapped, too_deep, calling_out, calling, returning, called, unreached, called_out, answered, heard, missed, entering_in, leaving, left, entered, unfound}
use Rattle.tcl_partial_runs.proofs.Worlds.{Suits, suits_after, suits_next, decided, opened, after_step, after_run, Whole}
use Rattle.tcl_partial_runs.proofs.Worlds.Suits.{as_listed, as_granted}
use Rattle.tcl_partial_runs.proofs.Wholes.{came}
use Rattle.tcl_core.specs.Endings.Kind.{Full}

module _ {O I : Type 0} (prog : Table O I) where
  -- each run that is handed what these read begins with them
  abbrev pub Leads : Tree O → Place → Prog O I → List (Event O) → Type 0
  Leads T p x τ = (ms : List (Move O)) (g : Grants) → Suits g τ → (t : List (Event O)) (v : World O) (e : Ending) → Runs prog (handing T τ ms g t) p x v e → Begins t τ

  -- the same of a run that is at this point: D says where
  abbrev Leads_at : Tree O → (World O → World O → Ending → Type 0) → List (Event O) → Type 0
  Leads_at T D τ = (ms : List (Move O)) (g : Grants) → Suits g τ → (t : List (Event O)) (v : World O) (e : Ending) → D (handing T τ ms g t) v e → Begins t τ

  on_acted : (w u : World O) (p : Place) (k : Tree O → Prog O I) (x : Next) (v : World O) (e : Ending) → IsOn x → Acted (Runs prog) w u p k x v e → Runs prog u p (k (at w.tree p)) v e
  on_acted w u p k On v e f a = a
  on_acted w u p k TooDeep v e f a = a
  on_acted w u p k (Off r) v e f a = absurd f

  stays_on : (w : World O) (p : Place) (s : Wait) (k : Said → Prog O I) (r : Reply) (v : World O) (e : Ending) → IsNoExit r → Stays (Runs prog) w p s k (Some r) v e → Runs prog w p (wait s k) v e
  stays_on w p s k (Completed c) v e f a = a
  stays_on w p s k (Stop n m) v e f a = a
  stays_on w p s k (Cut c) v e f a = a
  stays_on w p s k (Exit n) v e f a = absurd f

  act_leads : (T : Tree O) (p : Place) (d : Act O) (k : Tree O → Prog O I) (x : Deed O) (τ : List (Event O)) → Decides d T p x → IsOn x.2 → Leads (effect (spot p x.0) x.1 T) p (k (at T p)) τ → Leads T p (act d k) (event (spot p x.0) x.1 ∷ τ)
  act_leads T p d k x τ is_so on h ms g su t v e run =
      let w : World O = handing T (event (spot p x.0) x.1 ∷ τ) ms g t in
      let a : Acts (Runs prog) w p (Some x) k v e = subst (λ y. Acts (Runs prog) w p y k v e) (decided d T p x is_so τ g su) (unroll prog w p (act d k) v e run) in
      after_step (λ y. Acted (Runs prog) w y p k x.2 v e) T (spot p x.0) x.1 τ ms g t a.0 a.1 a.2
      (λ s b. h ms g (suits_next (event (spot p x.0) x.1) τ g su) s v e (on_acted w (handing (effect (spot p x.0) x.1 T) τ ms g s) p k x.2 v e on b))

  go_leads : (T : Tree O) (p : Place) (i : I) (k : Completion → Prog O I) (τ : List (Event O)) → Leads T p (prog.program i) τ → Leads T p (go i k) τ
  go_leads T p i k τ h ms g su t v e run = let a = unroll prog (handing T τ ms g t) p (go i k) v e run in h ms g su t a.0 a.1 a.2

  went_leads : (T U : Tree O) (p : Place) (i : I) (k : Completion → Prog O I) (c : Completion) (a b : List (Event O)) → Whole prog T p (prog.program i) U (Completed c) a → Leads U p (k c) b → Leads T p (go i k) (a ++ b)
  went_leads T U p i k c a b whole h ms g su t v e run =
      let y = unroll prog (handing T (a ++ b) ms g t) p (go i k) v e run in
      after_run prog (λ u o. Then (Runs prog) u p k o v e) T U p (prog.program i) (Completed c) a b ms g t y.0 y.1 whole su y.2 y.3 (λ s q. h ms g (suits_after a b g su) s v e q)

  open_leads : (T : Tree O) (p : Place) (b : Wrap O) (i : I) (k : Completion → Prog O I) (x : Deed O) (n : Next) (τ : List (Event O)) → Opens_so b T p x → x.2 ≡ n →
      Leads_at (effect (spot p x.0) x.1 T) (λ u v e. Opened prog (Runs prog) u p b i k n v e) τ → Leads T p (inside b i k) (event (spot p x.0) x.1 ∷ τ)
  open_leads T p b i k x n τ is_so so h ms g su t v e run =
      let w : World O = handing T (event (spot p x.0) x.1 ∷ τ) ms g t in
      let a : Opens prog (Runs prog) w p (Some x) b i k v e = subst (λ y. Opens prog (Runs prog) w p y b i k v e) (opened b T p x is_so τ g su) (unroll prog w p (inside b i k) v e run) in
      after_step (λ u. Opened prog (Runs prog) u p b i k n v e) T (spot p x.0) x.1 τ ms g t a.0 a.1 (subst (λ m. Opened prog (Runs prog) a.0 p b i k m v e) so a.2)
      (λ s q. h ms g (suits_next (event (spot p x.0) x.1) τ g su) s v e q)

  within_leads : (T : Tree O) (p : Place) (b : Wrap O) (i : I) (k : Completion → Prog O I) (τ : List (Event O)) → Leads T p (prog.program i) τ → Leads_at T (λ u v e. Opened prog (Runs prog) u p b i k On v e) τ
  within_leads T p b i k τ h ms g su t v e c = h ms g su t c.0 c.1 c.2

  wrapped_leads : (T U : Tree O) (p : Place) (b : Wrap O) (i : I) (k : Completion → Prog O I) (c : Completion) (a τ : List (Event O)) → Whole prog T p (prog.program i) U (Completed c) a → Leads (effect p (closes b (T p) (U p)) U) p (k c) τ →
      Leads_at T (λ u v e. Opened prog (Runs prog) u p b i k On v e) (a ++ event p (closes b (T p) (U p)) ∷ τ)
  wrapped_leads T U p b i k c a τ whole h ms g su t v e y =
      after_run prog (λ u o. Closes (Runs prog) (T p) u p b k o v e) T U p (prog.program i) (Completed c) a (event p (closes b (T p) (U p)) ∷ τ) ms g t y.0 y.1 whole su y.2 y.3
      (λ s q. after_step (λ u. Runs prog u p (k c) v e) U p (closes b (T p) (U p)) τ ms g s q.0 q.1 q.2
      (λ l z. h ms g (suits_next (event p (closes b (T p) (U p))) τ g (suits_after a (event p (closes b (T p) (U p)) ∷ τ) g su)) l v e z))

  -- a call went out, to whom it goes
  out_leads : (T : Tree O) (p : Place) (h : Height) (down : Path) (i : Entry) (lost : Completion) (k : Said → Prog O I) (a : Option Place) (τ : List (Event O)) → rise_to h p ≡ a →
      Leads_at T (λ u v e. Calls prog (Runs prog) u p h down i lost k a v e) τ → Leads T p (call h down i lost k) (event p (Out h down i) ∷ τ)
  out_leads T p h down i lost k a τ f j ms g su t v e run =
      let y = unroll prog (handing T (event p (Out h down i) ∷ τ) ms g t) p (call h down i lost k) v e run in
      after_step (λ u. Calls prog (Runs prog) u p h down i lost k a v e) T p (Out h down i) τ ms g t y.0 y.1 (subst (λ m. Calls prog (Runs prog) y.0 p h down i lost k m v e) f y.2)
      (λ s q. j ms g (suits_next (event p (Out h down i)) τ g su) s v e q)

  reach_leads : (T : Tree O) (p : Place) (h : Height) (down : Path) (i : Entry) (lost : Completion) (k : Said → Prog O I) (a : Place) (b : Option Place) (τ : List (Event O)) → rise_to h p ≡ Some a → reached T a down ≡ b →
      Leads_at T (λ u v e. Reaches prog (Runs prog) u p h down i lost k b v e) τ → Leads T p (call h down i lost k) (event p (Out h down i) ∷ τ)
  reach_leads T p h down i lost k a b τ f there j =
      out_leads T p h down i lost k (Some a) τ f (λ ms g su t v e y. j ms g su t v e (subst (λ m. Reaches prog (Runs prog) (handing T τ ms g t) p h down i lost k m v e) there y))

  -- an entry came in, and what is asked for is being done
  visit_leads : (T : Tree O) (h : Height) (t : Place) (i : Entry) (τ : List (Event O)) → Leads T t (prog.entry i) τ → Leads_at T (λ u v e. Visits prog (Runs prog) u h t i v e) (event t (In h i) ∷ τ)
  visit_leads T h t i τ j ms g su l v e y =
      after_step (λ u. Runs prog u t (prog.entry i) y.left e) T t (In h i) τ ms g l y.entered y.entry y.run (λ s q. j ms g (suits_next (event t (In h i)) τ g su) s y.left e q)

  -- it was done, and what follows is at this point: D says where
  visited_leads : (T U : Tree O) (h : Height) (t : Place) (i : Entry) (r : Reply) (a τ : List (Event O)) (D : World O → Ending → World O → Ending → Type 0) → Whole prog T t (prog.entry i) U r a →
      Leads_at U (λ u v e. D u (Some r) v e) τ → Leads_at T (λ w v e. (u : World O) × (o : Ending) × Visits prog (Runs prog) w h t i u o × D u o v e) (event t (In h i) ∷ (a ++ event t (Done h r) ∷ τ))
  visited_leads T U h t i r a τ D whole j ms g su l v e y =
      let tail : List (Event O) = event t (Done h r) ∷ τ in
      let su2 : Suits g (a ++ tail) = suits_next (event t (In h i)) (a ++ tail) g su in
      after_step (λ u. Runs prog u t (prog.entry i) y.2.left y.1) T t (In h i) (a ++ tail) ms g l y.2.entered y.2.entry y.2.run
      (λ s q. after_run prog (λ u o. Leaves u h t o y.0 × D y.0 o v e) T U t (prog.entry i) r a tail ms g s y.2.left y.1 whole su2 q (y.2.leaving, y.3)
      (λ s2 q2. after_step (λ u. D u (Some r) v e) U t (Done h r) τ ms g s2 y.0 q2.0 q2.1
      (λ s3 q3. j ms g (suits_next (event t (Done h r)) τ g (suits_after a tail g su2)) s3 v e q3)))

  -- an answer came back
  back_leads : (T : Tree O) (p : Place) (h : Height) (k : Said → Prog O I) (a : Answer) (τ : List (Event O)) → Leads_at T (λ u v e. Hears (Runs prog) u p k a v e) τ → Leads_at T (λ u v e. Answered (Runs prog) u p h k a v e) (event p (Back h a) ∷ τ)
  back_leads T p h k a τ j ms g su t v e y =
      after_step (λ u. Hears (Runs prog) u p k a v e) T p (Back h a) τ ms g t y.0 y.1 y.2 (λ s q. j ms g (suits_next (event p (Back h a)) τ g su) s v e q)

  -- control waits, and is handed an answer, or an entry
  answer_leads : (T : Tree O) (p : Place) (s : Wait) (k : Said → Prog O I) (a : Answer) (τ : List (Event O)) → rise_to (height_of s) p ≡ None → fits T p s (Come a) ≡ true →
      Leads_at T (λ u v e. Hears (Runs prog) u p k a v e) τ → Leads T p (wait s k) (event p (Back (height_of s) a) ∷ τ)
  answer_leads T p s k a τ f fit j ms g su t v e run =
      let w : World O = handing T (event p (Back (height_of s) a) ∷ τ) ms g t in
      let y = unroll prog w p (wait s k) v e run in
      let moves : w.moves ≡ Come a ∷ handed τ ms = ap (λ o. where_none o (Come a) (handed τ ms)) f in
      let z : Waits prog (Runs prog) w p s k (Come a ∷ handed τ ms) v e = subst (λ l. Waits prog (Runs prog) w p s k l v e) moves y.1 in
      back_leads T p (height_of s) k a τ j ms g su t v e (subst (λ l. Fitting prog (Runs prog) w p s k l (Come a) v e) fit z)

  entry_leads : (T : Tree O) (p : Place) (s : Wait) (k : Said → Prog O I) (t : Path) (i : Entry) (τ : List (Event O)) {node : Node O} → T t ≡ Some node →
      Leads_at T (λ w v e. (u : World O) × (o : Ending) × Visits prog (Runs prog) w None t i u o × Stays (Runs prog) u p s k o v e) (event t (In None i) ∷ τ) → Leads T p (wait s k) (event t (In None i) ∷ τ)
  entry_leads T p s k t i τ here j ms g su l v e run =
      let w : World O = handing T (event t (In None i) ∷ τ) ms g l in
      let y = unroll prog w p (wait s k) v e run in
      j ms g su l v e (subst (λ n. Enters prog (Runs prog) w p s k t i n v e) here y.1)

  -- an entry that finds nobody
  unfound_leads : (T : Tree O) (p : Place) (s : Wait) (k : Said → Prog O I) (t : Path) (i : Entry) (τ : List (Event O)) → T t ≡ None → Leads T p (wait s k) τ → Leads T p (wait s k) (event [] (Unfound t i (prog.lost t)) ∷ τ)
  unfound_leads T p s k t i τ here j ms g su l v e run =
      let w : World O = handing T (event [] (Unfound t i (prog.lost t)) ∷ τ) ms g l in
      let y = unroll prog w p (wait s k) v e run in
      let z : Enters prog (Runs prog) w p s k t i None v e = subst (λ n. Enters prog (Runs prog) w p s k t i n v e) here y.1 in
      after_step (λ u. Runs prog u p (wait s k) v e) T [] (Unfound t i (prog.lost t)) τ ms g l z.0 z.1 z.2 (λ s2 q. j ms g (suits_next (event [] (Unfound t i (prog.lost t))) τ g su) s2 v e q)

  -- nothing more is asked
  at_end : (T : Tree O) (D : World O → World O → Ending → Type 0) → Leads_at T D []
  at_end T D ms g su t v e y = (t, refl)

module _ {O I S : Type 0} (step : Tree O → S → Wait → Event O → S → Type 0) (prog : Table O I) where
  pub record Goes (T : Tree O) (o : S) (p : Place) (x : Prog O I) (z : S) : Type 0 where
    pub told : List (Event O)
    pub last : Tree O
    -- the calls that are open by then, beside those that were
    pub calls : Open → Open
    pub chain : (cs : Open) → Chain step (waiting x cs) T o told (calls cs) last z
    pub leads : Leads prog T p x told

  -- what came to its end
  over : {T V : Tree O} {o z : S} {p : Place} {x : Prog O I} {r : Reply} → Fits x → Executes step prog T o p x V z r → Goes T o p x z
  over {T} {V} {o} {z} {p} {x} {r} f t = let h = came step prog f t in record { told = h.events; last = V; calls = λ cs. cs; chain = h.chain; leads = λ ms g su s v e run. over_so h.events ms g su s v e h.whole run }
    where
      over_so : (a : List (Event O)) (ms : List (Move O)) (g : Grants) → Suits g a → (s : List (Event O)) (v : World O) (e : Ending) → Whole prog T p x V r a → Runs prog (handing T a ms g s) p x v e → Begins s a
      over_so a ms g su s v e whole run =
          let same : a ++ [] ≡ a = append-nil a in
          subst (Begins s) same (after_run prog (λ u o. Unit {0}) T V p x r a [] ms g s v e whole (subst (Suits g) (sym same) su) (subst (λ l. Runs prog (handing T l ms g s) p x v e) (sym same) run) tt (λ l q. (l, refl)))

  pub goes : {T : Tree O} {o z : S} {p : Place} {x : Prog O I} → Fits x → Begun step prog T o p x z → Goes T o p x z
  goes f (stopped {T} {x = x}) = record { told = []; last = T; calls = λ cs. waiting x cs; chain = λ cs. none; leads = λ ms g su t v e y. (t, refl) }
  goes f (ended t) = over f t
  goes f (acted {T} {p = p} {d = d} {k = k} x is_so on s b) =
      let h = goes (fit (k (at T p)) (f (at T p))) b in
      record { told = event (spot p x.0) x.1 ∷ h.told; last = h.last; calls = h.calls; chain = λ cs. plain_more step (plain_deed d T p x is_so) s (called_on step (k (at T p)) (f (at T p)) (h.chain cs)); leads = act_leads prog T p d k x h.told is_so on h.leads }
  goes f (going {T} {p = p} {i = i} {k = k} b) = let h = goes (fit (prog.program i) (prog.programs_call i)) b in record { told = h.told; last = h.last; calls = h.calls; chain = λ cs. called_on step (prog.program i) (prog.programs_call i) (h.chain cs); leads = go_leads prog T p i k h.told h.leads }
  goes calls (went {T} {U} {p = p} {i = i} {k = k} {c = c} t b) =
      let f = came step prog (fit (prog.program i) (prog.programs_call i)) t in
      let h = goes (fit (k c) (calls c)) b in
      record { told = f.events ++ h.told; last = h.last; calls = h.calls; chain = λ cs. chain-append step (called_on step (prog.program i) (prog.programs_call i) (f.chain cs)) (called_on step (k c) (calls c) (h.chain cs)); leads = went_leads prog T U p i k c f.events h.told f.whole h.leads }
  goes f (within {T} {p = p} {b = b} {i = i} {k = k} x is_so on s c) =
      let h = goes (fit (prog.program i) (prog.programs_call i)) c in
      let T2 : Tree O = effect (spot p x.0) x.1 T in
      record { told = event (spot p x.0) x.1 ∷ h.told; last = h.last; calls = h.calls; chain = λ cs. plain_more step (plain_open b T p x is_so) s (called_on step (prog.program i) (prog.programs_call i) (h.chain cs)); leads = open_leads prog T p b i k x On h.told is_so on (within_leads prog T2 p b i k h.told h.leads) }
  goes calls (wrapped {T} {U} {p = p} {b = b} {i = i} {k = k} {c = c} x is_so on s1 t s2 d) =
      let f = came step prog (fit (prog.program i) (prog.programs_call i)) t in
      let h = goes (fit (k c) (calls c)) d in
      let T2 : Tree O = effect (spot p x.0) x.1 T in
      let tail : List (Event O) = event p (closes b (effect (spot p x.0) x.1 T p) (U p)) ∷ h.told in
      record {
        told = event (spot p x.0) x.1 ∷ (f.events ++ tail);
        last = h.last;
        calls = h.calls;
        chain = λ cs. plain_more step (plain_open b T p x is_so) s1 (chain-append step (called_on step (prog.program i) (prog.programs_call i) (f.chain cs)) (plain_more step (closes_plain b (effect (spot p x.0) x.1 T p) (U p)) s2 (called_on step (k c) (calls c) (h.chain cs))));
        leads = open_leads prog T p b i k x On (f.events ++ tail) is_so on (wrapped_leads prog T2 U p b i k c f.events h.told f.whole h.leads);
      }
  goes f (too_deep {T} {p = p} {b = b} {i = i} {k = k} x is_so deep s c) =
      let h = goes (fit (k (refusal (Full Depth))) (f (refusal (Full Depth)))) c in
      record { told = event (spot p x.0) x.1 ∷ h.told; last = h.last; calls = h.calls; chain = λ cs. plain_more step (plain_open b T p x is_so) s (called_on step (k (refusal (Full Depth))) (f (refusal (Full Depth))) (h.chain cs)); leads = open_leads prog T p b i k x TooDeep h.told is_so deep h.leads }
  goes f (calling_out {T} {p = p} {h = h} {down = down} {i = i} {lost = lost} {k = k} s) =
      record { told = event p (Out h down i) ∷ []; last = T; calls = with_call (rise_to h p) (h, i, depth_of (T p)); chain = λ cs. more s none; leads = out_leads prog T p h down i lost k (rise_to h p) [] refl (at_end prog T (λ u v e. Calls prog (Runs prog) u p h down i lost k (rise_to h p) v e)) }
  goes calls (calling {T} {p = p} {h = h} {down = down} {i = i} {lost = lost} {k = k} a t e there s1 s2 b) =
      let f = goes (fit (prog.entry i) (prog.entries_call i)) b in
      let tail : List (Event O) = event t (In (Some (length down)) i) ∷ f.told in
      record {
        told = event p (Out h down i) ∷ tail;
        last = f.last;
        calls = f.calls;
        chain = λ cs. goes_within step e s1 (more s2 (called_on step (prog.entry i) (prog.entries_call i) (f.chain cs)));
        leads = reach_leads prog T p h down i lost k a (Some t) tail e there (λ ms g su l v o y. visit_leads prog T (Some (length down)) t i f.told f.leads ms g su l y.0 y.1 y.2);
      }
  goes calls (returning {T} {U} {p = p} {h = h} {down = down} {i = i} {lost = lost} {k = k} {s = s} a t e there s1 s2 m s3) =
      let f = came step prog (fit (prog.entry i) (prog.entries_call i)) m in
      let tail : List (Event O) = event t (In (Some (length down)) i) ∷ (f.events ++ event t (Done (Some (length down)) s) ∷ []) in
      record {
        told = event p (Out h down i) ∷ tail;
        last = U;
        calls = λ cs. cs;
        chain = λ cs. goes_within step e s1 (more s2 (chain-append step (called_on step (prog.entry i) (prog.entries_call i) (f.chain cs)) (more s3 none)));
        leads = reach_leads prog T p h down i lost k a (Some t) tail e there
            (visited_leads prog T U (Some (length down)) t i s f.events [] (λ u o v y. Returns (Runs prog) (depth_of (T p)) u p h down k o v y) f.whole (at_end prog U (λ u v y. Returns (Runs prog) (depth_of (T p)) u p h down k (Some s) v y)));
      }
  goes calls (called {T} {U} {p = p} {h = h} {down = down} {i = i} {lost = lost} {k = k} {s = s} {c = c} a t e there s1 s2 m s3 so s4 b) =
      let f = came step prog (fit (prog.entry i) (prog.entries_call i)) m in
      let n = goes (fit (k (Finished c)) (calls (Finished c))) b in
      let last : List (Event O) = event p (Back h (Replied (carried (gone (depth_of (T p)) U p) h p down s))) ∷ n.told in
      let tail : List (Event O) = event t (In (Some (length down)) i) ∷ (f.events ++ event t (Done (Some (length down)) s) ∷ last) in
      record {
        told = event p (Out h down i) ∷ tail;
        last = n.last;
        calls = n.calls;
        chain = λ cs. goes_within step e s1 (more s2 (chain-append step (called_on step (prog.entry i) (prog.entries_call i) (f.chain cs)) (more s3 (back_within step e s4 (called_on step (k (Finished c)) (calls (Finished c)) (n.chain cs))))));
        leads = reach_leads prog T p h down i lost k a (Some t) tail e there
            (visited_leads prog T U (Some (length down)) t i s f.events last (λ u o v y. Returns (Runs prog) (depth_of (T p)) u p h down k o v y) f.whole
            (back_leads prog U p h k (Replied (carried (gone (depth_of (T p)) U p) h p down s)) n.told (λ ms g su l v y z. n.leads ms g su l v y (subst (λ r. Hears (Runs prog) (handing U n.told ms g l) p k (Replied r) v y) so z))));
      }
  goes calls (unreached {T} {p = p} {h = h} {down = down} {i = i} {lost = lost} {k = k} a e there s1 s2 b) =
      let n = goes (fit (k (Finished lost)) (calls (Finished lost))) b in
      let tail : List (Event O) = event p (Back h (Replied (Completed lost))) ∷ n.told in
      record {
        told = event p (Out h down i) ∷ tail;
        last = n.last;
        calls = n.calls;
        chain = λ cs. goes_within step e s1 (back_within step e s2 (called_on step (k (Finished lost)) (calls (Finished lost)) (n.chain cs)));
        leads = reach_leads prog T p h down i lost k a None tail e there (back_leads prog T p h k (Replied (Completed lost)) n.told n.leads);
      }
  goes calls (called_out {T} {p = p} {h = h} {down = down} {i = i} {lost = lost} {k = k} e s b) =
      let n = goes (or_lost_all Calls_only lost k calls) b in
      record { told = event p (Out h down i) ∷ n.told; last = n.last; calls = n.calls; chain = λ cs. goes_out step e s (n.chain cs); leads = out_leads prog T p h down i lost k None n.told e n.leads }
  goes calls (answered {T} {p = p} {s = s} {k = k} {c = c} e own j b) =
      let n = goes (fit (k (Finished c)) (calls (Finished c))) b in
      record { told = event p (Back (height_of s) (Replied (Completed c))) ∷ n.told; last = n.last; calls = n.calls; chain = λ cs. replied step s p e (Replied (Completed c)) (gone_from s T p) own j (called_on step (k (Finished c)) (calls (Finished c)) (n.chain cs)); leads = answer_leads prog T p s k (Replied (Completed c)) n.told e own n.leads }
  goes calls (heard {T} {p = p} {s = s} {k = k} {a = a} e own j b) =
      let n = goes (fit (k (Told a)) (calls (Told a))) b in
      record { told = event p (Back (height_of s) (Heard a)) ∷ n.told; last = n.last; calls = n.calls; chain = λ cs. replied step s p e (Heard a) (gone_from s T p) own j (called_on step (k (Told a)) (calls (Told a)) (n.chain cs)); leads = answer_leads prog T p s k (Heard a) n.told e own n.leads }
  goes calls (missed {T} {p = p} {s = s} {k = k} e own j b) =
      let n = goes (fit (k Missed) (calls Missed)) b in
      record { told = event p (Back (height_of s) Nobody) ∷ n.told; last = n.last; calls = n.calls; chain = λ cs. replied step s p e Nobody (gone_from s T p) own j (called_on step (k Missed) (calls Missed) (n.chain cs)); leads = answer_leads prog T p s k Nobody n.told e own n.leads }
  goes calls (entering_in {T} {p = p} {s = s} {k = k} t i e here s1 b) =
      let n = goes (fit (prog.entry i) (prog.entries_call i)) b in
      record {
        told = event t (In None i) ∷ n.told;
        last = n.last;
        calls = λ cs. n.calls (pending s cs);
        chain = λ cs. more s1 (called_on step (prog.entry i) (prog.entries_call i) (n.chain (pending s cs)));
        leads = entry_leads prog T p s k t i n.told here (λ ms g su l v o y. visit_leads prog T None t i n.told n.leads ms g su l y.0 y.1 y.2);
      }
  goes calls (leaving {T} {U} {p = p} {s = s} {k = k} {y = y} t i e here s1 m) =
      let n = over (fit (prog.entry i) (prog.entries_call i)) m in
      record {
        told = event t (In None i) ∷ n.told;
        last = n.last;
        calls = λ cs. n.calls (pending s cs);
        chain = λ cs. more s1 (called_on step (prog.entry i) (prog.entries_call i) (n.chain (pending s cs)));
        leads = entry_leads prog T p s k t i n.told here (λ ms g su l v o y. visit_leads prog T None t i n.told n.leads ms g su l y.0 y.1 y.2);
      }
  goes calls (left {T} {U} {p = p} {s = s} {k = k} {y = y} t i e here s1 m s2) =
      let f = came step prog (fit (prog.entry i) (prog.entries_call i)) m in
      record {
        told = event t (In None i) ∷ (f.events ++ event t (Done None y) ∷ []);
        last = U;
        calls = pending s;
        chain = λ cs. more s1 (chain-append step (called_on step (prog.entry i) (prog.entries_call i) (f.chain (pending s cs))) (more s2 none));
        leads = entry_leads prog T p s k t i (f.events ++ event t (Done None y) ∷ []) here
            (visited_leads prog T U None t i y f.events [] (λ u o v z. Stays (Runs prog) u p s k o v z) f.whole (at_end prog U (λ u v z. Stays (Runs prog) u p s k (Some y) v z)));
      }
  goes calls (entered {T} {U} {p = p} {s = s} {k = k} {y = y} t i e here s1 m s2 calm b) =
      let f = came step prog (fit (prog.entry i) (prog.entries_call i)) m in
      let n = goes calls b in
      let tail : List (Event O) = event t (Done None y) ∷ n.told in
      record {
        told = event t (In None i) ∷ (f.events ++ tail);
        last = n.last;
        calls = n.calls;
        chain = λ cs. more s1 (chain-append step (called_on step (prog.entry i) (prog.entries_call i) (f.chain (pending s cs))) (more s2 (n.chain cs)));
        leads = entry_leads prog T p s k t i (f.events ++ tail) here
            (visited_leads prog T U None t i y f.events n.told (λ u o v z. Stays (Runs prog) u p s k o v z) f.whole
            (λ ms g su l v z q. n.leads ms g su l v z (stays_on prog (handing U n.told ms g l) p s k y v z calm q)));
      }
  goes calls (unfound {T} {p = p} {s = s} {k = k} t i e here s1 b) =
      let n = goes calls b in
      record { told = event [] (Unfound t i (prog.lost t)) ∷ n.told; last = n.last; calls = n.calls; chain = λ cs. more s1 (n.chain cs); leads = unfound_leads prog T p s k t i n.told here n.leads }

  pub begins : {T : Tree O} {o z : S} {p : Place} {x : Prog O I} → Fits x → Begun step prog T o p x z → BeginsEach step prog T o p x z
  begins f b =
      let h = goes f b in
      record {
        told = h.told;
        last = h.last;
        calls = h.calls [];
        chain = h.chain [];
        first = λ ms gs t v e run. h.leads ms (Listed gs) (as_listed gs refl) t v e run;
        first_of_any = λ ms gs t v e calm run. h.leads ms gs (as_granted calm) t v e run;
      }
