-- From the end of a life to its beginning: which moves and how many steps a player must have had to go along with an outside that has a budget.
use Rattle.std.proofs.Common.{sym, ◌≡◌, inl, inr, ℕ, suc, ◌+◌, ℤ, true, List, [], ◌∷◌, ◌++◌, Option, Some, None, refl, ◌∙◌, ap, subst, arith, append-nil}
use Rattle.tcl_core.specs.Paths.{Path, Place, Height, rise_to}
use Rattle.tcl_core.specs.Endings.{Completion, Reply}
use Rattle.tcl_core.specs.Endings.Meter.{Count, Depth}
use Rattle.tcl_core.specs.Endings.Reply.{Completed, Stop, Exit, Cut}
use Rattle.tcl_core.specs.Entries.{Answer, Entry}
use Rattle.tcl_core.specs.Entries.Answer.{Replied, Heard, Nobody}
use Rattle.tcl_core.specs.Trees.{Tree, Event, Move, What, asked, paid, where_none}
use Rattle.tcl_core.specs.Trees.Move.{Enter, Come}
use Rattle.tcl_core.specs.Trees.What.{Seen, Changed, Charged, Nested, Unnested, Refused, Limited, DepthLimited, Made, Dropped, Out, In, Done, Back, Unfound}
use Rattle.tcl_core.specs.Programs.{Wait}
use Rattle.tcl_core.specs.Runs.{fits}
use Rattle.tcl_core.specs.Rules.{IsNoExit}
use Rattle.tcl_core.specs.Execution.{Crossings, event, hears}
use Rattle.tcl_core.specs.Lives.{Outcome, ending_of, outcome_of, put, told}
use Rattle.tcl_core.specs.Lives.Outcome.{Finished}
use Rattle.tcl_core.proofs.Plain.{IsPlain}
use Rattle.tcl_core.proofs.Seeing.{is_exit_self}
use Rattle.tcl_reactions.specs.Moving
use Rattle.tcl_reactions.specs.Moving.{Budgeted, Goes, Halt, IsSpent, budgeted, halt_by, meets_by, unwinds}
use Rattle.tcl_reactions.specs.Moving.Halt.{Cuts, Spends, Refuses}
use Rattle.tcl_reactions.specs.Playing as playing
use Rattle.tcl_reactions.specs.Playing.{Answers, Fate, IsEnd, IsNoCut, Player, plays, suits, telling}
use Rattle.tcl_reactions.specs.Playing.Answers.{reads, ends, passes}
use Rattle.tcl_reactions.specs.Playing.Fate.{EndsAbove}
use Rattle.tcl_reactions.proofs.Turns.{calm_ending}
use Rattle.tcl_reactions.proofs.Ways.{Calm, calm_suits, outcome_append}

-- no step is left where one is refused
abbrev pub None_left : Option Halt → ℕ → Type 0
None_left (Some Spends) k = k ≡ 0
None_left (Some Refuses) k = k ≡ 0
None_left h k = Unit {0}

module _ {O : Type 0} where
  abbrev pub fate_by : Option Halt → Option (Fate O)
  fate_by None = None
  fate_by (Some Cuts) = Some playing.EndsAbove
  fate_by (Some Spends) = Some playing.Spends
  fate_by (Some Refuses) = Some playing.Spends

  -- the player that goes along: with these moves and steps, told this
  abbrev pub player : Option Halt → List (Move O) → ℕ → List (Event O) → Player O
  player h ms k outs = record { left = ms; steps = k; outs = outs; fate = fate_by h }

  abbrev pub last : List (Event O) → Outcome
  last outs = outcome_of outs Finished

  -- the last entry didn't end by an exit, where the life goes on
  abbrev pub Calmly : Option Halt → List (Event O) → Type 0
  Calmly None outs = Calm (last outs)
  Calmly (Some f) outs = Unit {0}

  -- the last entry ended by this reply, where the life goes on
  abbrev pub Ended_by : Reply → Option Halt → List (Event O) → Type 0
  Ended_by r None outs = last outs ≡ ending_of r
  Ended_by r (Some f) outs = Unit {0}

  ended_by : (r : Reply) (h : Option Halt) (t : Path) (outs : List (Event O)) → Ended_by r h (outs ++ event t (Done None r) ∷ [])
  ended_by r None t outs = outcome_append outs (event t (Done None r) ∷ []) Finished
  ended_by r (Some f) t outs = tt

  pub calm_after : (r : Reply) → IsNoExit r → (h : Option Halt) (outs : List (Event O)) → Ended_by r h outs → Calmly h outs
  calm_after r n None outs e = subst Calm (sym e) (calm_ending r n)
  calm_after r n (Some f) outs e = tt

  calm_more : (h g : Option Halt) (outs : List (Event O)) (e : Event O) → h ≡ None → outcome_of (e ∷ []) (last outs) ≡ last outs → Calmly h outs → Calmly g (outs ++ e ∷ [])
  calm_more h None outs e off same a = subst Calm (sym (outcome_append outs (e ∷ []) Finished ∙ same)) (subst (λ (g : Option Halt). Calmly g outs) off a)
  calm_more h (Some f) outs e off same a = tt

module _ {O S : Type 0} (goes : Tree O → S → Wait → Event O → S → Type 0) where
  abbrev pub Both : Type 0
  Both = Budgeted S × Player O

  -- A happening is one of those that the outside goes through; or it comes once the life is over.
  pub data Marks (T : Tree O) (s : Wait) (ev : Event O) (x y : Both) : Type 0 where
    counts : x.0.halt ≡ None → Crossings goes T x.0.outside s ev y.0.outside → x.1.left ≡ asked ev.place ev.what y.1.left → x.1.steps ≡ paid ev.what y.1.steps → y.1.outs ≡ x.1.outs ++ told ev.place ev.what [] → Marks T s ev x y
    passes_by : (f : Halt) → y.0.halt ≡ Some f → y.0.outside ≡ x.0.outside → x.1.left ≡ y.1.left → x.1.steps ≡ y.1.steps → y.1.outs ≡ x.1.outs → Marks T s ev x y

  pub record both (T : Tree O) (x : Both) (s : Wait) (ev : Event O) (y : Both) : Type 0 where
    pub along : Crossings plays T x.1 s ev y.1
    pub marks : Marks T s ev x y

  -- From b to c: whatever the player is to have at c, it can have had something at b from which it goes along, where it was told what A says, and is told then what B says.
  pub record After (b c : Budgeted S) (ms ns : List (Move O)) (k n : ℕ) (outs : List (Event O)) (P : Both → Both → Type 0) (B : List (Event O) → Type 0) : Type 0 where
    pub outs_then : List (Event O)
    pub run : P (b, player b.halt ns n outs) (c, player c.halt ms k outs_then)
    pub holds : B outs_then

  pub record Ready (b c : Budgeted S) (ms : List (Move O)) (k : ℕ) (A : List (Event O) → Type 0) (P : Both → Both → Type 0) (B : List (Event O) → Type 0) : Type 0 where
    pub moves : List (Move O)
    pub steps : ℕ
    pub none_left : None_left b.halt steps
    pub paid_so : (d : ℕ) → k + d ≡ c.left → steps + d ≡ b.left
    pub after : (outs : List (Event O)) → A outs → After b c ms moves k steps outs P B

  pub record Leads (b c : Budgeted S) (A : List (Event O) → Type 0) (P : Both → Both → Type 0) (B : List (Event O) → Type 0) : Type 0 where
    pub back : (ms : List (Move O)) (k : ℕ) → None_left c.halt k → Ready b c ms k A P B
    pub zero_stays : (b.halt ≡ Some Spends → b.left ≡ 0) → c.halt ≡ Some Spends → c.left ≡ 0

  pub stands : (b : Budgeted S) (A B : List (Event O) → Type 0) (P : Both → Both → Type 0) → ((x : Both) → P x x) → ((outs : List (Event O)) → A outs → B outs) → Leads b b A P B
  stands b A B P f g = record {
    back = λ ms k n. record { moves = ms; steps = k; none_left = n; paid_so = λ d e. e; after = λ outs a. record { outs_then = outs; run = f (b, player b.halt ms k outs); holds = g outs a } };
    zero_stays = λ z. z;
  }

  pub then_leads : {b u c : Budgeted S} {A B C D : List (Event O) → Type 0} {P Q R : Both → Both → Type 0} → Leads b u A P B → ((outs : List (Event O)) → B outs → C outs) → Leads u c C Q D → ((x m y : Both) → P x m → Q m y → R x y) → Leads b c A R D
  then_leads {b} {u} {c} {A} {B} {C} {D} {P} {Q} {R} f g h j = record {
    back = λ ms k n.
        let y : Ready u c ms k C Q D = h.back ms k n in
        let x : Ready b u y.moves y.steps A P B = f.back y.moves y.steps y.none_left in
        record {
          moves = x.moves;
          steps = x.steps;
          none_left = x.none_left;
          paid_so = λ d e. x.paid_so d (y.paid_so d e);
          after = λ outs a.
              let l : After b u y.moves x.moves y.steps x.steps outs P B = x.after outs a in
              let r : After u c ms y.moves k y.steps l.outs_then Q D = y.after l.outs_then (g l.outs_then l.holds) in
              record { outs_then = r.outs_then; run = j _ _ _ l.run r.run; holds = r.holds };
        };
    zero_stays = λ z. h.zero_stays (f.zero_stays z);
  }

  pub changed : {b c : Budgeted S} {A B D : List (Event O) → Type 0} {P R : Both → Both → Type 0} → Leads b c A P B → ((x y : Both) → P x y → R x y) → ((outs : List (Event O)) → B outs → D outs) → Leads b c A R D
  changed {b} {c} {A} {B} {D} {P} {R} f j g = record {
    back = λ ms k n.
        let x : Ready b c ms k A P B = f.back ms k n in
        record {
          moves = x.moves;
          steps = x.steps;
          none_left = x.none_left;
          paid_so = x.paid_so;
          after = λ outs a. let l : After b c ms x.moves k x.steps outs P B = x.after outs a in record { outs_then = l.outs_then; run = j _ _ l.run; holds = g l.outs_then l.holds };
        };
    zero_stays = f.zero_stays;
  }

  -- ## A happening once the life is over

  abbrev Quietly : Place → What O → Type 0
  Quietly p (Refused m (Some n)) = Unit {0}
  Quietly p x = unwinds p x

  over_told : (T : Tree O) (b : Budgeted S) (s : Wait) (p : Place) (x : What O) (c : Budgeted S) (f : Halt) → b.halt ≡ Some f → hears (budgeted goes) T b s p x c → Quietly p x × (c ≡ b)
  over_told T b s p (Out h down i) c f e t = subst (λ g. meets_by goes g T b s p (Out h down i) c) e t
  over_told T b s p (In h i) c f e t = subst (λ g. meets_by goes g T b s p (In h i) c) e t
  over_told T b s p (Done h r) c f e t = subst (λ g. meets_by goes g T b s p (Done h r) c) e t
  over_told T b s p (Back h a) c f e t = subst (λ g. meets_by goes g T b s p (Back h a) c) e t
  over_told T b s p Charged c f e t = subst (λ g. meets_by goes g T b s p Charged c) e t
  over_told T b s p (Refused m None) c f e t = subst (λ g. meets_by goes g T b s p (Refused m None) c) e t
  over_told T b s p Dropped c f e t = subst (λ g. meets_by goes g T b s p Dropped c) e t
  over_told T b s p (Unfound q i d) c f e t = subst (λ g. meets_by goes g T b s p (Unfound q i d) c) e t
  over_told T b s p (Refused m (Some n)) c f e t = (tt, t)
  over_told T b s p Seen c f e t = (tt, t)
  over_told T b s p (Changed o) c f e t = (tt, t)
  over_told T b s p Nested c f e t = (tt, t)
  over_told T b s p Unnested c f e t = (tt, t)
  over_told T b s p (Limited l) c f e t = (tt, t)
  over_told T b s p (DepthLimited l) c f e t = (tt, t)
  over_told T b s p (Made o k) c f e t = (tt, t)

  some_fate : (f : Halt) → (g : Fate O) × (fate_by (Some f) ≡ Some g)
  some_fate Cuts = (playing.EndsAbove, refl)
  some_fate Spends = (playing.Spends, refl)
  some_fate Refuses = (playing.Spends, refl)

  past_same : (l : Option Place) (o : Player O) (t : Type 0) → t → playing.past l o o t
  past_same None o t x = x
  past_same (Some a) o t x = refl

  past_end : (l : Option Place) (o : Player O) (t u : Type 0) → (t → u) → Moving.past l t → playing.past l o o u
  past_end None o t u f x = f x
  past_end (Some a) o t u f x = refl

  tells_over : (g : Option (Fate O)) (f : Fate O) (o : Player O) (ev : Event O) → g ≡ Some f → playing.Tells g o ev o
  tells_over g f o ev e = subst (λ h. playing.Tells h o ev o) (sym e) refl

  refuses_over : (g : Option (Fate O)) (f : Fate O) (o : Player O) → g ≡ Some f → playing.Refuses g o o
  refuses_over g f o e = subst (λ h. playing.Refuses h o o) (sym e) refl

  over_plays : (T : Tree O) (o : Player O) (s : Wait) (p : Place) (x : What O) (f : Fate O) → o.fate ≡ Some f → Quietly p x → hears plays T o s p x o
  over_plays T o s p (Out h down i) f e q = past_same (rise_to h p) o _ (tells_over o.fate f o _ e)
  over_plays T o s p (Done h r) f e q = past_same (rise_to h p) o _ (tells_over o.fate f o _ e)
  over_plays T o s p (In h i) f e q = past_end (rise_to h p) o Prim.⊥ _ (λ n. elim n [ ]) q
  over_plays T o s p (Back h a) f e q = past_end (rise_to h p) o (IsEnd a) _ (λ n. passes f e n refl) q
  over_plays T o s p Charged f e q = absurd q
  over_plays T o s p (Unfound t i d) f e q = absurd q
  over_plays T o s p (Refused Count None) f e q = refuses_over o.fate f o e
  over_plays T o s p (Refused Depth None) f e q = absurd q
  over_plays T o s p (Refused m (Some n)) f e q = refl
  over_plays T o s p Dropped f e q = refl
  over_plays T o s p Seen f e q = refl
  over_plays T o s p (Changed own) f e q = refl
  over_plays T o s p Nested f e q = refl
  over_plays T o s p Unnested f e q = refl
  over_plays T o s p (Limited l) f e q = refl
  over_plays T o s p (DepthLimited l) f e q = refl
  over_plays T o s p (Made own k) f e q = refl

  same_player : (h g : Option Halt) (ms : List (Move O)) (k : ℕ) (outs : List (Event O)) → h ≡ g → player h ms k outs ≡ player g ms k outs
  same_player h g ms k outs e = ap (λ l. player l ms k outs) e

  over_step : (T : Tree O) (b : Budgeted S) (s : Wait) (p : Place) (x : What O) (c : Budgeted S) (f : Halt) (A B : List (Event O) → Type 0) → b.halt ≡ Some f → Crossings (budgeted goes) T b s (event p x) c → ((outs : List (Event O)) → c.halt ≡ Some f → B outs) →
      Leads b c A (λ y z. both T y s (event p x) z) B
  over_step T b s p x c f A B e t g =
      let q : Quietly p x × (c ≡ b) = over_told T b s p x c f e t.told in
      let same : c.halt ≡ b.halt = ap (λ (y : Budgeted S). y.halt) q.1 in
      let fate = some_fate f in
      record {
        back = λ ms k n. record {
          moves = ms;
          steps = k;
          none_left = subst (λ h. None_left h k) same n;
          paid_so = λ d u. u ∙ ap (λ (y : Budgeted S). y.left) q.1;
          after = λ outs a. record {
            outs_then = outs;
            run = record {
              along = record { told = subst (λ z. hears plays T (player b.halt ms k outs) s p x z) (same_player b.halt c.halt ms k outs (sym same)) (over_plays T (player b.halt ms k outs) s p x fate.0 (ap fate_by e ∙ fate.1) q.0) };
              marks = passes_by f (same ∙ e) (ap (λ (y : Budgeted S). y.outside) q.1) refl refl refl;
            };
            holds = g outs (same ∙ e);
          };
        };
        zero_stays = λ z u. ap (λ (y : Budgeted S). y.left) q.1 ∙ z (sym same ∙ u);
      }

  -- ## And before

  -- one that the outside goes through, by which no step is paid
  counted : (T : Tree O) (b : Budgeted S) (s : Wait) (p : Place) (x : What O) (c : Budgeted S) (A B : List (Event O) → Type 0) (f : List (Move O) → List (Move O)) (g : List (Event O) → List (Event O)) →
      b.halt ≡ None → c.left ≡ b.left → (c.halt ≡ Some Spends → c.left ≡ 0) → Crossings goes T b.outside s (event p x) c.outside → ((ms : List (Move O)) → f ms ≡ asked p x ms) → ((k : ℕ) → k ≡ paid x k) →
      ((outs : List (Event O)) → g outs ≡ outs ++ told p x []) → ((outs : List (Event O)) → A outs → B (g outs)) →
      ((ms : List (Move O)) (k : ℕ) (outs : List (Event O)) → None_left c.halt k → A outs → hears plays T (player b.halt (f ms) k outs) s p x (player c.halt ms k (g outs))) →
      Leads b c A (λ y z. both T y s (event p x) z) B
  counted T b s p x c A B f g on left zero t read paid_all tell holds plays_so = record {
    back = λ ms k n. record {
      moves = f ms;
      steps = k;
      none_left = subst (λ h. None_left h k) (sym on) tt;
      paid_so = λ d u. u ∙ left;
      after = λ outs a. record {
        outs_then = g outs;
        run = record { along = record { told = plays_so ms k outs n a }; marks = counts on t (read ms) (paid_all k) (tell outs) };
        holds = holds outs a;
      };
    };
    zero_stays = λ z u. zero u;
  }

  calmly : (h g : Option Halt) (outs : List (Event O)) → h ≡ None → Calmly h outs → Calmly g outs
  calmly h None outs e c = subst (λ k. Calmly k outs) e c
  calmly h (Some f) outs e c = tt

  not_spent : (b c : Budgeted S) (h : Option Halt) → c.halt ≡ h → (h ≡ Some Spends → Prim.⊥) → c.halt ≡ Some Spends → c.left ≡ 0
  not_spent b c h e f u = absurd (f (sym e ∙ u))

  on_told : (T : Tree O) (b : Budgeted S) (s : Wait) (p : Place) (x : What O) (c : Budgeted S) → b.halt ≡ None → meets_by goes b.halt T b s p x c → Moving.meets goes T b s p x c
  on_told T b s p x c e t = subst (λ h. meets_by goes h T b s p x c) e t

  -- ## What is no crossing

  -- where N holds, the last entry didn't end by an exit, before and after
  abbrev pub Plainly : Type 0 → Tree O → Wait → Place → What O → Budgeted S → Budgeted S → Type 0
  Plainly N T s p x b c = Leads b c (λ outs. N → Calmly b.halt outs) (λ y z. both T y s (event p x) z) (λ outs. N → Calmly c.halt outs)

  untold : (N : Type 0) (T : Tree O) (b : Budgeted S) (s : Wait) (p : Place) (x : What O) (c : Budgeted S) → b.halt ≡ None → c ≡ b → ((ms : List (Move O)) → asked p x ms ≡ ms) → ((k : ℕ) → k ≡ paid x k) → ((outs : List (Event O)) → outs ≡ outs ++ told p x []) →
      (c.outside ≡ b.outside → hears goes T b.outside s p x c.outside) → ((o z : Player O) → z ≡ o → hears plays T o s p x z) → Plainly N T s p x b c
  untold N T b s p x c on same silent pays tell goes_so plays_so =
      let halt : c.halt ≡ b.halt = ap (λ (y : Budgeted S). y.halt) same in
      counted T b s p x c (λ outs. N → Calmly b.halt outs) (λ outs. N → Calmly c.halt outs) (λ ms. ms) (λ outs. outs) on (ap (λ (y : Budgeted S). y.left) same) (not_spent b c None (halt ∙ on) (λ u. cc))
      (record { told = goes_so (ap (λ (y : Budgeted S). y.outside) same) }) (λ ms. sym (silent ms)) pays tell (λ outs a n. calmly b.halt c.halt outs on (a n))
      (λ ms k outs n a. plays_so (player b.halt ms k outs) (player c.halt ms k outs) (same_player c.halt b.halt ms k outs halt))

  charged : (N : Type 0) (T : Tree O) (b : Budgeted S) (s : Wait) (p : Place) (c : Budgeted S) → b.halt ≡ None → Moving.meets goes T b s p Charged c → Plainly N T s p Charged b c
  charged N T b s p c on t =
      let g : Goes goes T b s (event p Charged) t.0 None c = t.2 in
      record {
        back = λ ms k n. record {
          moves = ms;
          steps = suc k;
          none_left = subst (λ h. None_left h (suc k)) (sym on) tt;
          paid_so = λ d u. let e1 : c.left ≡ t.0 = g.left_so in let e2 : b.left ≡ suc t.0 = t.1 in omega arith;
          after = λ outs a. record {
            outs_then = outs;
            run = record {
              along = record { told = (ap fate_by on, refl, ap (λ l. record { left = ms; steps = k; outs = outs; fate = fate_by l }) (g.halt_so ∙ sym on)) };
              marks = counts on (record { told = g.told }) refl refl (sym (append-nil outs));
            };
            holds = λ n2. calmly b.halt c.halt outs on (a n2);
          };
        };
        zero_stays = λ z u. not_spent b c None g.halt_so (λ v. cc) u;
      }

  refused_plays : (b : Budgeted S) (c : Budgeted S) (f : Halt) (ms : List (Move O)) (k : ℕ) (outs : List (Event O)) → b.halt ≡ None → c.halt ≡ Some f → fate_by {O = O} (Some f) ≡ Some playing.Spends → k ≡ 0 → playing.Refuses (fate_by {O = O} b.halt) (player b.halt ms k outs) (player c.halt ms k outs)
  refused_plays b c f ms k outs on off spends zero = subst (λ h. playing.Refuses (fate_by {O = O} h) (player b.halt ms k outs) (player c.halt ms k outs)) (sym on)
      (zero, ap (λ h. record { left = ms; steps = k; outs = outs; fate = h }) (ap fate_by off ∙ spends))

  refused_step : (N : Type 0) (T : Tree O) (b : Budgeted S) (s : Wait) (p : Place) (c : Budgeted S) → b.halt ≡ None → Moving.meets goes T b s p (Refused Count None) c → Plainly N T s p (Refused Count None) b c
  refused_step N T b s p c on (inl t) =
      let off : c.halt ≡ Some Spends = ap (λ (y : Budgeted S). y.halt) t.1 in
      let none : c.left ≡ 0 = ap (λ (y : Budgeted S). y.left) t.1 in
      record {
        back = λ ms k n. record {
          moves = ms;
          steps = k;
          none_left = subst (λ h. None_left h k) (sym on) tt;
          paid_so = λ d u. u ∙ none ∙ sym t.0;
          after = λ outs a. record {
            outs_then = outs;
            run = record {
              along = record { told = refused_plays b c Spends ms k outs on off refl (subst (λ h. None_left h k) off n) };
              marks = passes_by Spends off (ap (λ (y : Budgeted S). y.outside) t.1) refl refl refl;
            };
            holds = λ n2. calmly b.halt c.halt outs on (a n2);
          };
        };
        zero_stays = λ z u. none;
      }
  refused_step N T b s p c on (inr g) = counted T b s p (Refused Count None) c (λ outs. N → Calmly b.halt outs) (λ outs. N → Calmly c.halt outs) (λ ms. ms) (λ outs. outs) on g.left_so (not_spent b c (Some Refuses) g.halt_so (λ v. cc)) (record { told = g.told }) (λ ms. refl) (λ k. refl) (λ outs. sym (append-nil outs))
      (λ outs a n. calmly b.halt c.halt outs on (a n)) (λ ms k outs n a. refused_plays b c Refuses ms k outs on g.halt_so refl (subst (λ h. None_left h k) g.halt_so n))

  dropped : (N : Type 0) (T : Tree O) (b : Budgeted S) (s : Wait) (p : Place) (c : Budgeted S) → b.halt ≡ None → ((ms : List (Move O)) → asked {O = O} p Dropped ms ≡ ms) → Moving.meets goes T b s p Dropped c → Plainly N T s p Dropped b c
  dropped N T b s p c on silent g = counted T b s p Dropped c (λ outs. N → Calmly b.halt outs) (λ outs. N → Calmly c.halt outs) (λ ms. ms) (λ outs. outs) on g.left_so (not_spent b c None g.halt_so (λ v. cc)) (record { told = g.told }) (λ ms. sym (silent ms)) (λ k. refl) (λ outs. sym (append-nil outs))
      (λ outs a n. calmly b.halt c.halt outs on (a n)) (λ ms k outs n a. same_player c.halt b.halt ms k outs (g.halt_so ∙ sym on))

  plain_on : (N : Type 0) (T : Tree O) (b : Budgeted S) (s : Wait) (p : Place) (x : What O) (c : Budgeted S) → b.halt ≡ None → IsPlain x → ((ms : List (Move O)) → asked p x ms ≡ ms) → hears (budgeted goes) T b s p x c → Plainly N T s p x b c
  plain_on N T b s p (Out h down i) c on l silent t = absurd l
  plain_on N T b s p (In h i) c on l silent t = absurd l
  plain_on N T b s p (Done h r) c on l silent t = absurd l
  plain_on N T b s p (Back h a) c on l silent t = absurd l
  plain_on N T b s p (Unfound q i d) c on l silent t = absurd l
  plain_on N T b s p Charged c on l silent t = charged N T b s p c on (on_told T b s p Charged c on t)
  plain_on N T b s p (Refused Count None) c on l silent t = refused_step N T b s p c on (on_told T b s p (Refused Count None) c on t)
  plain_on N T b s p (Refused Depth None) c on l silent t = absurd (on_told T b s p (Refused Depth None) c on t)
  plain_on N T b s p Dropped c on l silent t = dropped N T b s p c on silent (on_told T b s p Dropped c on t)
  plain_on N T b s p (Refused m (Some n)) c on l silent t = untold N T b s p (Refused m (Some n)) c on t silent (λ k. refl) (λ outs. sym (append-nil outs)) (λ e. e) (λ o z e. e)
  plain_on N T b s p Seen c on l silent t = untold N T b s p Seen c on t silent (λ k. refl) (λ outs. sym (append-nil outs)) (λ e. e) (λ o z e. e)
  plain_on N T b s p (Changed o) c on l silent t = untold N T b s p (Changed o) c on t silent (λ k. refl) (λ outs. sym (append-nil outs)) (λ e. e) (λ o z e. e)
  plain_on N T b s p Nested c on l silent t = untold N T b s p Nested c on t silent (λ k. refl) (λ outs. sym (append-nil outs)) (λ e. e) (λ o z e. e)
  plain_on N T b s p Unnested c on l silent t = untold N T b s p Unnested c on t silent (λ k. refl) (λ outs. sym (append-nil outs)) (λ e. e) (λ o z e. e)
  plain_on N T b s p (Limited l) c on g silent t = untold N T b s p (Limited l) c on t silent (λ k. refl) (λ outs. sym (append-nil outs)) (λ e. e) (λ o z e. e)
  plain_on N T b s p (DepthLimited l) c on g silent t = untold N T b s p (DepthLimited l) c on t silent (λ k. refl) (λ outs. sym (append-nil outs)) (λ e. e) (λ o z e. e)
  plain_on N T b s p (Made o k) c on g silent t = untold N T b s p (Made o k) c on t silent (λ n. refl) (λ outs. sym (append-nil outs)) (λ e. e) (λ u z e. e)

  over_calm : (c : Budgeted S) (f : Halt) (outs : List (Event O)) → c.halt ≡ Some f → Calmly c.halt outs
  over_calm c f outs e = subst (λ h. Calmly h outs) (sym e) tt

  pub plainly : (N : Type 0) (T : Tree O) (b : Budgeted S) (s : Wait) (p : Place) (x : What O) (c : Budgeted S) → IsPlain x → ((ms : List (Move O)) → asked p x ms ≡ ms) → Crossings (budgeted goes) T b s (event p x) c → Plainly N T s p x b c
  plainly N T b s p x c l silent t = by b.halt refl
    where
      by : (h : Option Halt) → b.halt ≡ h → Plainly N T s p x b c
      by None e = plain_on N T b s p x c e l silent t.told
      by (Some f) e = over_step T b s p x c f (λ outs. N → Calmly b.halt outs) (λ outs. N → Calmly c.halt outs) e t (λ outs u n. over_calm c f outs u)

  -- ## Crossings within the tree

  abbrev pub IsInner : Place → Place → What O → Type 0
  IsInner a p (Out h down i) = rise_to h p ≡ Some a
  IsInner a p (In h i) = rise_to h p ≡ Some a
  IsInner a p (Done h r) = rise_to h p ≡ Some a
  IsInner a p (Back h y) = rise_to h p ≡ Some a
  IsInner a p x = Prim.⊥

  inner_by : (N : Type 0) (T : Tree O) (b : Budgeted S) (s : Wait) (p : Place) (x : What O) (c : Budgeted S) → b.halt ≡ None → c.left ≡ b.left → c.halt ≡ None → Crossings goes T b.outside s (event p x) c.outside → ((ms : List (Move O)) → ms ≡ asked p x ms) →
      ((k : ℕ) → k ≡ paid x k) → told p x [] ≡ [] → ((o z : Player O) → z ≡ o → hears plays T o s p x z) → Plainly N T s p x b c
  inner_by N T b s p x c on left halt t read pays none plays_so = counted T b s p x c (λ outs. N → Calmly b.halt outs) (λ outs. N → Calmly c.halt outs) (λ ms. ms) (λ outs. outs) on left (not_spent b c None halt (λ v. cc)) t read pays
      (λ outs. sym (ap (λ l. outs ++ l) none ∙ append-nil outs)) (λ outs a n. calmly b.halt c.halt outs on (a n)) (λ ms k outs n a. plays_so (player b.halt ms k outs) (player c.halt ms k outs) (same_player c.halt b.halt ms k outs (halt ∙ sym on)))

  past_inner : (l : Option Place) (a : Place) (o z : Player O) (t : Type 0) → l ≡ Some a → z ≡ o → playing.past l o z t
  past_inner l a o z t e same = subst (λ k. playing.past k o z t) (sym e) same

  inner_on : (N : Type 0) (T : Tree O) (b : Budgeted S) (s : Wait) (p a : Place) (x : What O) (c : Budgeted S) → b.halt ≡ None → IsInner a p x → hears (budgeted goes) T b s p x c → Plainly N T s p x b c
  inner_on N T b s p a (Out h down i) c on e t =
      let g : Goes goes T b s (event p (Out h down i)) b.left None c = on_told T b s p (Out h down i) c on t in
      inner_by N T b s p (Out h down i) c on g.left_so g.halt_so (record { told = g.told }) (λ ms. refl) (λ k. refl) (ap (λ l. put l p (Out h down i) []) e) (λ o z same. past_inner (rise_to h p) a o z _ e same)
  inner_on N T b s p a (In h i) c on e t =
      let g : Goes goes T b s (event p (In h i)) b.left None c = on_told T b s p (In h i) c on t in
      inner_by N T b s p (In h i) c on g.left_so g.halt_so (record { told = g.told }) (λ ms. sym (ap (λ l. where_none l (Enter p i) ms) e)) (λ k. refl) refl (λ o z same. past_inner (rise_to h p) a o z _ e same)
  inner_on N T b s p a (Done h r) c on e t =
      let g : Goes goes T b s (event p (Done h r)) b.left None c = on_told T b s p (Done h r) c on t in
      inner_by N T b s p (Done h r) c on g.left_so g.halt_so (record { told = g.told }) (λ ms. refl) (λ k. refl) (ap (λ l. put l p (Done h r) []) e) (λ o z same. past_inner (rise_to h p) a o z _ e same)
  inner_on N T b s p a (Back h y) c on e t =
      let g : Goes goes T b s (event p (Back h y)) b.left (halt_by (rise_to h p) y) c = on_told T b s p (Back h y) c on t in
      inner_by N T b s p (Back h y) c on g.left_so (g.halt_so ∙ ap (λ l. halt_by l y) e) (record { told = g.told }) (λ ms. sym (ap (λ l. where_none l (Come y) ms) e)) (λ k. refl) refl (λ o z same. past_inner (rise_to h p) a o z _ e same)
  inner_on N T b s p a (Unfound q i d) c on e t = absurd e
  inner_on N T b s p a Charged c on e t = absurd e
  inner_on N T b s p a (Refused m h) c on e t = absurd e
  inner_on N T b s p a Dropped c on e t = absurd e
  inner_on N T b s p a Seen c on e t = absurd e
  inner_on N T b s p a (Changed o) c on e t = absurd e
  inner_on N T b s p a Nested c on e t = absurd e
  inner_on N T b s p a Unnested c on e t = absurd e
  inner_on N T b s p a (Limited l) c on e t = absurd e
  inner_on N T b s p a (DepthLimited l) c on e t = absurd e
  inner_on N T b s p a (Made o k) c on e t = absurd e

  pub inner : (N : Type 0) (T : Tree O) (b : Budgeted S) (s : Wait) (p a : Place) (x : What O) (c : Budgeted S) → IsInner a p x → Crossings (budgeted goes) T b s (event p x) c → Plainly N T s p x b c
  inner N T b s p a x c up t = by b.halt refl
    where
      by : (h : Option Halt) → b.halt ≡ h → Plainly N T s p x b c
      by None e = inner_on N T b s p a x c e up t.told
      by (Some f) e = over_step T b s p x c f (λ outs. N → Calmly b.halt outs) (λ outs. N → Calmly c.halt outs) e t (λ outs u n. over_calm c f outs u)

  -- ## Crossings of the top

  past_top : (l : Option Place) (o z : Player O) (t : Type 0) → l ≡ None → t → playing.past l o z t
  past_top l o z t e x = subst (λ k. playing.past k o z t) (sym e) x

  tells_on : (h g : Option Halt) (ms : List (Move O)) (k : ℕ) (outs : List (Event O)) (ev : Event O) → h ≡ None → g ≡ None → playing.Tells (fate_by h) (player h ms k outs) ev (player g ms k (outs ++ ev ∷ []))
  tells_on h g ms k outs ev e f = subst (λ j. playing.Tells (fate_by j) (player h ms k outs) ev (player g ms k (outs ++ ev ∷ []))) (sym e) (same_player g h ms k (outs ++ ev ∷ []) (f ∙ sym e))

  pub goes_out : (T : Tree O) (b : Budgeted S) (p : Place) (h : Height) (down : Path) (i : Entry) (c : Budgeted S) → rise_to h p ≡ None → Crossings (budgeted goes) T b None (event p (Out h down i)) c →
      Leads b c (Calmly b.halt) (λ y z. both T y None (event p (Out h down i)) z) (Calmly c.halt)
  goes_out T b p h down i c up t = by b.halt refl
    where
      by : (f : Option Halt) → b.halt ≡ f → Leads b c (Calmly b.halt) (λ y z. both T y None (event p (Out h down i)) z) (Calmly c.halt)
      by None on =
          let g : Goes goes T b None (event p (Out h down i)) b.left None c = on_told T b None p (Out h down i) c on t.told in
          counted T b None p (Out h down i) c (Calmly b.halt) (Calmly c.halt) (λ ms. ms) (λ outs. outs ++ event p (Out h down i) ∷ []) on g.left_so (not_spent b c None g.halt_so (λ v. cc)) (record { told = g.told }) (λ ms. refl) (λ k. refl)
          (λ outs. ap (λ l. outs ++ put l p (Out h down i) []) (sym up))
          (λ outs a. calm_more b.halt c.halt outs (event p (Out h down i)) on refl a)
          (λ ms k outs n a. past_top (rise_to h p) (player b.halt ms k outs) (player c.halt ms k (outs ++ event p (Out h down i) ∷ [])) _ up (tells_on b.halt c.halt ms k outs (event p (Out h down i)) on g.halt_so))
      by (Some f) e = over_step T b None p (Out h down i) c f (Calmly b.halt) (Calmly c.halt) e t (λ outs u. over_calm c f outs u)

  pub comes_in : (T : Tree O) (b : Budgeted S) (t : Path) (i : Entry) (c : Budgeted S) → Crossings (budgeted goes) T b None (event t (In None i)) c → Leads b c (Calmly b.halt) (λ y z. both T y None (event t (In None i)) z) (Calmly c.halt)
  comes_in T b t i c s = by b.halt refl
    where
      by : (f : Option Halt) → b.halt ≡ f → Leads b c (Calmly b.halt) (λ y z. both T y None (event t (In None i)) z) (Calmly c.halt)
      by None on =
          let g : Goes goes T b None (event t (In None i)) b.left None c = on_told T b None t (In None i) c on s.told in
          counted T b None t (In None i) c (Calmly b.halt) (Calmly c.halt) (λ ms. Enter t i ∷ ms) (λ outs. outs) on g.left_so (not_spent b c None g.halt_so (λ v. cc)) (record { told = g.told }) (λ ms. refl) (λ k. refl) (λ outs. sym (append-nil outs))
          (λ outs a. calmly b.halt c.halt outs on a) (λ ms k outs n a. (ap fate_by on, refl, same_player c.halt b.halt ms k outs (g.halt_so ∙ sym on)))
      by (Some f) e = over_step T b None t (In None i) c f (Calmly b.halt) (Calmly c.halt) e s (λ outs u. over_calm c f outs u)

  pub is_done : (T : Tree O) (b : Budgeted S) (t : Path) (r : Reply) (c : Budgeted S) → Crossings (budgeted goes) T b None (event t (Done None r)) c → Leads b c (λ outs. Unit {0}) (λ y z. both T y None (event t (Done None r)) z) (Ended_by r c.halt)
  is_done T b t r c s = by b.halt refl
    where
      by : (f : Option Halt) → b.halt ≡ f → Leads b c (λ outs. Unit {0}) (λ y z. both T y None (event t (Done None r)) z) (Ended_by r c.halt)
      by None on =
          let g : Goes goes T b None (event t (Done None r)) b.left None c = on_told T b None t (Done None r) c on s.told in
          counted T b None t (Done None r) c (λ outs. Unit {0}) (Ended_by r c.halt) (λ ms. ms) (λ outs. outs ++ event t (Done None r) ∷ []) on g.left_so (not_spent b c None g.halt_so (λ v. cc)) (record { told = g.told }) (λ ms. refl) (λ k. refl) (λ outs. refl)
          (λ outs a. ended_by r c.halt t outs) (λ ms k outs n a. tells_on b.halt c.halt ms k outs (event t (Done None r)) on g.halt_so)
      by (Some f) e = over_step T b None t (Done None r) c f (λ outs. Unit {0}) (Ended_by r c.halt) e s (λ outs u. subst (λ h. Ended_by r h outs) (sym u) tt)

  -- an entry that finds nobody, and its end
  pub finds_nobody : (T : Tree O) (b : Budgeted S) (t : Path) (i : Entry) (d : Completion) (c : Budgeted S) → Crossings (budgeted goes) T b None (event [] (Unfound t i d)) c →
      Leads b c (Calmly b.halt) (λ y z. both T y None (event [] (Unfound t i d)) z) (Ended_by (Completed d) c.halt)
  finds_nobody T b t i d c s = by b.halt refl
    where
      by : (f : Option Halt) → b.halt ≡ f → Leads b c (Calmly b.halt) (λ y z. both T y None (event [] (Unfound t i d)) z) (Ended_by (Completed d) c.halt)
      by None on =
          let g : Goes goes T b None (event [] (Unfound t i d)) b.left None c = on_told T b None [] (Unfound t i d) c on s.told in
          counted T b None [] (Unfound t i d) c (Calmly b.halt) (Ended_by (Completed d) c.halt) (λ ms. Enter t i ∷ ms) (λ outs. outs ++ event t (Done None (Completed d)) ∷ []) on g.left_so (not_spent b c None g.halt_so (λ v. cc)) (record { told = g.told }) (λ ms. refl) (λ k. refl) (λ outs. refl)
          (λ outs a. ended_by (Completed d) c.halt t outs)
          (λ ms k outs n a. (player b.halt ms k outs, (ap fate_by on, refl, refl), same_player c.halt b.halt ms k (outs ++ event t (Done None (Completed d)) ∷ []) (g.halt_so ∙ sym on)))
      by (Some f) e = over_step T b None [] (Unfound t i d) c f (Calmly b.halt) (Ended_by (Completed d) c.halt) e s (λ outs u. subst (λ h. Ended_by (Completed d) h outs) (sym u) tt)

  -- the answer that comes back
  answers_on : (T : Tree O) (p : Place) (s : Wait) (h g : Option Halt) (a : Answer) (ms : List (Move O)) (k : ℕ) (outs : List (Event O)) → h ≡ None → g ≡ halt_by None a → suits (last outs) T p s (Come a) ≡ true → Answers T p (player h (Come a ∷ ms) k outs) s a (player g ms k outs)
  answers_on T p s h g (Replied (Cut x)) ms k outs on off suit = ends (Replied (Cut x)) ms (ap fate_by on) refl suit tt tt (same_player g (Some Cuts) ms k outs off)
  answers_on T p s h g (Replied (Completed x)) ms k outs on off suit = reads ms (ap fate_by on) refl suit tt (same_player g h ms k outs (off ∙ sym on))
  answers_on T p s h g (Replied (Stop n m)) ms k outs on off suit = reads ms (ap fate_by on) refl suit tt (same_player g h ms k outs (off ∙ sym on))
  answers_on T p s h g (Replied (Exit n)) ms k outs on off suit = reads ms (ap fate_by on) refl suit tt (same_player g h ms k outs (off ∙ sym on))
  answers_on T p s h g (Heard x) ms k outs on off suit = reads ms (ap fate_by on) refl suit tt (same_player g h ms k outs (off ∙ sym on))
  answers_on T p s h g Nobody ms k outs on off suit = reads ms (ap fate_by on) refl suit tt (same_player g h ms k outs (off ∙ sym on))

  not_spent_by : (b c : Budgeted S) (a : Answer) → c.halt ≡ halt_by None a → c.halt ≡ Some Spends → c.left ≡ 0
  not_spent_by b c (Replied (Cut x)) e u = not_spent b c (Some Cuts) e (λ v. cc) u
  not_spent_by b c (Replied (Completed x)) e u = not_spent b c None e (λ v. cc) u
  not_spent_by b c (Replied (Stop n m)) e u = not_spent b c None e (λ v. cc) u
  not_spent_by b c (Replied (Exit n)) e u = not_spent b c None e (λ v. cc) u
  not_spent_by b c (Heard x) e u = not_spent b c None e (λ v. cc) u
  not_spent_by b c Nobody e u = not_spent b c None e (λ v. cc) u

  comes_back : (T : Tree O) (b : Budgeted S) (s : Wait) (p : Place) (h : Height) (a : Answer) (c : Budgeted S) (A B : List (Event O) → Type 0) → rise_to h p ≡ None → ((outs : List (Event O)) → b.halt ≡ None → A outs → suits (last outs) T p s (Come a) ≡ true) →
      ((outs : List (Event O)) → b.halt ≡ None → A outs → B outs) → ((f : Halt) (outs : List (Event O)) → c.halt ≡ Some f → B outs) → Crossings (budgeted goes) T b s (event p (Back h a)) c → Leads b c A (λ y z. both T y s (event p (Back h a)) z) B
  comes_back T b s p h a c A B up suit holds over t = by b.halt refl
    where
      by : (f : Option Halt) → b.halt ≡ f → Leads b c A (λ y z. both T y s (event p (Back h a)) z) B
      by None on =
          let g : Goes goes T b s (event p (Back h a)) b.left (halt_by (rise_to h p) a) c = on_told T b s p (Back h a) c on t.told in
          let off : c.halt ≡ halt_by None a = g.halt_so ∙ ap (λ l. halt_by l a) up in
          counted T b s p (Back h a) c A B (λ ms. Come a ∷ ms) (λ outs. outs) on g.left_so (not_spent_by b c a off) (record { told = g.told }) (λ ms. sym (ap (λ l. where_none l (Come a) ms) up)) (λ k. refl) (λ outs. sym (append-nil outs))
          (λ outs x. holds outs on x) (λ ms k outs n x. past_top (rise_to h p) (player b.halt (Come a ∷ ms) k outs) (player c.halt ms k outs) _ up (answers_on T p s b.halt c.halt a ms k outs on off (suit outs on x)))
      by (Some f) e = over_step T b s p (Back h a) c f A B e t (λ outs u. over f outs u)

  pub answered_back : (T : Tree O) (b : Budgeted S) (s : Wait) (p : Place) (h : Height) (a : Answer) (c : Budgeted S) → rise_to h p ≡ None → fits T p s (Come a) ≡ true → Crossings (budgeted goes) T b s (event p (Back h a)) c →
      Leads b c (Calmly b.halt) (λ y z. both T y s (event p (Back h a)) z) (Calmly c.halt)
  answered_back T b s p h a c up fit t = comes_back T b s p h a c (Calmly b.halt) (Calmly c.halt) up (λ outs on x. calm_suits O (last outs) T p s (Come a) (subst (λ (g : Option Halt). Calmly g outs) on x) ∙ fit)
      (λ outs on x. calmly b.halt c.halt outs on x) (λ f outs u. over_calm c f outs u) t

  pub exit_back : (T : Tree O) (b : Budgeted S) (s : Wait) (p : Place) (h : Height) (n : ℤ) (c : Budgeted S) → rise_to h p ≡ None → Crossings (budgeted goes) T b s (event p (Back h (Replied (Exit n)))) c →
      Leads b c (Ended_by (Exit n) b.halt) (λ y z. both T y s (event p (Back h (Replied (Exit n)))) z) (λ outs. Unit {0})
  exit_back T b s p h n c up t = comes_back T b s p h (Replied (Exit n)) c (Ended_by (Exit n) b.halt) (λ outs. Unit {0}) up
      (λ outs on x. ap (λ y. suits y T p s (Come (Replied (Exit n)))) (subst (λ (g : Option Halt). Ended_by (Exit n) g outs) on x) ∙ is_exit_self n) (λ outs on x. tt) (λ f outs u. tt) t
