-- What an outside with a budget goes through: which steps it pays for, and where it refused one.
use Rattle.std.proofs.Common.{◌≡◌, ℕ, suc, pred, List, [], ◌∷◌, ◌++◌, ◌≤◌, ◌+◌, Option, Some, None, refl, sym, ap, subst, ◌∙◌, arith, inl, inr}
use Rattle.tcl_core.specs.Endings.Meter.{Count, Depth}
use Rattle.tcl_core.specs.Endings.Reply.{Completed, Stop, Exit, Cut}
use Rattle.tcl_core.specs.Entries.{Answer}
use Rattle.tcl_core.specs.Entries.Answer.{Replied, Heard, Nobody}
use Rattle.tcl_core.specs.Execution.{Chain, Crossings, Open, answers_to, calls_after, event, hears, more, none}
use Rattle.tcl_core.specs.Lives.{Outcome, count_at}
use Rattle.tcl_core.specs.Paths.{Path, Place, rise_to, strip}
use Rattle.tcl_core.specs.Programs.{Table, Wait}
use Rattle.tcl_core.specs.Trees.{Event, Node, Tree, What, at_end, counted, deeper, effect, fresh, on_some, paid, shallower, where_some, with_depth_limit, with_limit, with_own}
use Rattle.tcl_core.specs.Trees.What.{Seen, Changed, Charged, Nested, Unnested, Refused, Limited, DepthLimited, Made, Dropped, Out, In, Done, Back, Unfound}
use Rattle.tcl_core.specs.Views.{steps_of}
use Rattle.tcl_core.proofs.Callers.{fit}
use Rattle.tcl_core.proofs.Following.{called_on, chain-append, makes}
use Rattle.tcl_core.proofs.PathLaws.{Some-inj, not_both}
use Rattle.tcl_reactions.specs.Moving.{Budgeted, Goes, Halt, Lived, budgeted, halt_by, meets_by}
use Rattle.tcl_reactions.specs.Moving.Halt.{Cuts, Spends, Refuses}

-- an answer is no refusal of a step
cuts_only : (o : Option Place) (a : Answer) (f : Halt) → halt_by o a ≡ Some f → f ≡ Cuts
cuts_only (Some b) a f e = absurd (not_both refl e)
cuts_only None (Replied (Cut c)) f e = sym (Some-inj Cuts e)
cuts_only None (Replied (Completed c)) f e = absurd (not_both refl e)
cuts_only None (Replied (Stop n k)) f e = absurd (not_both refl e)
cuts_only None (Replied (Exit n)) f e = absurd (not_both refl e)
cuts_only None (Heard a) f e = absurd (not_both refl e)
cuts_only None Nobody f e = absurd (not_both refl e)

cuts_not : (f : Halt) → f ≡ Cuts → f ≡ Refuses → Prim.⊥
cuts_not f e g = let clash : Cuts ≡ Refuses = sym e ∙ g in cc

spends_not : (f : Halt) → f ≡ Spends → f ≡ Refuses → Prim.⊥
spends_not f e g = let clash : Spends ≡ Refuses = sym e ∙ g in cc

module _ {O : Type 0} where
  -- ## Counts of the top

  count_on : (f : Node O → Node O) → ((n : Node O) → (f n).count ≡ n.count) → (o : Option (Node O)) → count_at (on_some f o) ≤ count_at o
  count_on f g None = omega arith
  count_on f g (Some n) = let e : (f n).count ≡ n.count = g n in omega arith

  count_end : (f : Option (Node O) → Option (Node O)) (s : Option Path) (o : Option (Node O)) → count_at (f o) ≤ count_at o → count_at (at_end s f o) ≤ count_at o
  count_end f None o l = omega arith
  count_end f (Some []) o l = l
  count_end f (Some (x ∷ q)) o l = omega arith

  count_where : (f : Option (Node O) → Option (Node O)) (s : Option Path) (o : Option (Node O)) → count_at (f o) ≤ count_at o → count_at (where_some s f o) ≤ count_at o
  count_where f None o l = omega arith
  count_where f (Some q) o l = l

  count_one : (o : Option (Node O)) → count_at (counted o) ≤ suc (count_at o)
  count_one None = omega arith
  count_one (Some n) = omega arith

  none_more : (o : Option (Node O)) → 0 ≤ count_at o
  none_more o = omega arith

  -- a happening counts at most its step in the top
  count_step : (p : Place) (x : What O) (T : Tree O) → count_at (effect p x T []) ≤ paid x (count_at (T []))
  count_step p (Changed o) T = count_end (with_own o) (strip p []) (T []) (count_on (λ n. record n { own = o }) (λ n. refl) (T []))
  count_step p Charged T = count_one (T [])
  count_step p Nested T = count_where deeper (strip [] p) (T []) (count_on (λ n. record n { depth = suc n.depth }) (λ n. refl) (T []))
  count_step p Unnested T = count_where shallower (strip [] p) (T []) (count_on (λ n. record n { depth = pred n.depth }) (λ n. refl) (T []))
  count_step p (Limited l) T = count_end (with_limit l) (strip p []) (T []) (count_on (λ n. record n { limit = l }) (λ n. refl) (T []))
  count_step p (DepthLimited l) T = count_end (with_depth_limit l) (strip p []) (T []) (count_on (λ n. record n { depth_limit = l }) (λ n. refl) (T []))
  count_step p (Made o s) T = count_end (λ x. Some (fresh o s)) (strip p []) (T []) (none_more (T []))
  count_step p Dropped T = count_where (λ x. None) (strip p []) (T []) (none_more (T []))
  count_step p x T = let same : count_at (T []) ≤ count_at (T []) = omega arith in same

  paid_on : (x : What O) (a b c : ℕ) → a ≤ paid x b → a + c ≤ b + paid x c
  paid_on Charged a b c l = omega (arith, l)
  paid_on x a b c l = omega (arith, l)

  paid_plus : (x : What O) (a b : ℕ) → paid x a + b ≡ paid x (a + b)
  paid_plus Charged a b = omega arith
  paid_plus x a b = refl

  paid_most : (x : What O) (a b c : ℕ) → c ≡ paid x b → a ≤ b → paid x a ≤ c
  paid_most Charged a b c e l = omega (arith, e, l)
  paid_most x a b c e l = omega (arith, e, l)

module _ {O S : Type 0} (step : Tree O → S → Wait → Event O → S → Type 0) where
  -- the top is counted at most by the steps that are made
  pub counted_at_most : {cs ds : Open} {T V : Tree O} {o z : S} {τ : List (Event O)} → Chain step cs T o τ ds V z → count_at (V []) ≤ count_at (T []) + steps_of τ
  counted_at_most {T = T} none = let same : count_at (T []) ≤ count_at (T []) + 0 = omega arith in same
  counted_at_most {T = T} {V = V} (more {ev = ev} {τ = τ} a rest) =
      let later : count_at (V []) ≤ count_at (effect ev.place ev.what T []) + steps_of τ = counted_at_most rest in
      let now : count_at (effect ev.place ev.what T []) + steps_of τ ≤ count_at (T []) + paid ev.what (steps_of τ) = paid_on ev.what (count_at (effect ev.place ev.what T [])) (count_at (T [])) (steps_of τ) (count_step ev.place ev.what T) in
      omega (arith, later, now)

module _ {O S : Type 0} (goes : Tree O → S → Wait → Event O → S → Type 0) where
  abbrev told_so : Tree O → Budgeted S → Wait → Place → What O → Budgeted S → Type 0
  told_so T y s p x u = hears (budgeted goes) T y s p x u

  by_halt : (h : Option Halt) (T : Tree O) (y : Budgeted S) (s : Wait) (p : Place) (x : What O) (u : Budgeted S) → y.halt ≡ h → meets_by goes y.halt T y s p x u → meets_by goes h T y s p x u
  by_halt h T y s p x u e g = subst (λ l. meets_by goes l T y s p x u) e g

  -- once it is over nothing changes, and no step is made
  over_step : (T : Tree O) (y : Budgeted S) (s : Wait) (p : Place) (x : What O) (u : Budgeted S) (f : Halt) → y.halt ≡ Some f → told_so T y s p x u → (u ≡ y) × ((k : ℕ) → paid x k ≡ k)
  over_step T y s p (Out h down i) u f e g = ((by_halt (Some f) T y s p (Out h down i) u e g).1, λ k. refl)
  over_step T y s p (In h i) u f e g = ((by_halt (Some f) T y s p (In h i) u e g).1, λ k. refl)
  over_step T y s p (Done h r) u f e g = ((by_halt (Some f) T y s p (Done h r) u e g).1, λ k. refl)
  over_step T y s p (Back h a) u f e g = ((by_halt (Some f) T y s p (Back h a) u e g).1, λ k. refl)
  over_step T y s p Charged u f e g = absurd (by_halt (Some f) T y s p Charged u e g).0
  over_step T y s p (Refused m None) u f e g = ((by_halt (Some f) T y s p (Refused m None) u e g).1, λ k. refl)
  over_step T y s p (Refused m (Some n)) u f e g = (g, λ k. refl)
  over_step T y s p Dropped u f e g = ((by_halt (Some f) T y s p Dropped u e g).1, λ k. refl)
  over_step T y s p (Unfound t i c) u f e g = ((by_halt (Some f) T y s p (Unfound t i c) u e g).1, λ k. refl)
  over_step T y s p x u f e g = (g, λ k. refl)

  -- and nothing more
  over : {cs ds : Open} {T V : Tree O} {y z : Budgeted S} {τ : List (Event O)} → Chain (Crossings (budgeted goes)) cs T y τ ds V z → (f : Halt) → y.halt ≡ Some f → z ≡ y
  over none f e = refl
  over {cs} {ds} {T} {V} {y} (more {u = u} {ev = ev} a rest) f e =
      let same : u ≡ y = (over_step T y (answers_to ev.place ev.what cs) ev.place ev.what u f e a.told).0 in
      over rest f (ap (λ (w : Budgeted S). w.halt) same ∙ e) ∙ same

  -- What a happening does while it isn't over: it goes on, or it is over by it, and in one way since the outside refuses a step.
  data Meets (T : Tree O) (y : Budgeted S) (s : Wait) (p : Place) (x : What O) (u : Budgeted S) : Type 0 where
    goes_on : u.halt ≡ None → Crossings goes T y.outside s (event p x) u.outside → y.left ≡ paid x u.left → Meets T y s p x u
    is_over : (f : Halt) → u.halt ≡ Some f → (f ≡ Refuses → Prim.⊥) → y.left ≡ paid x u.left → Meets T y s p x u
    is_refused : x ≡ Refused Count None → u.halt ≡ Some Refuses → goes T y.outside s (event p (Refused Count None)) u.outside → y.left ≡ paid x u.left → Meets T y s p x u

  paid_then : {T : Tree O} {y : Budgeted S} {s : Wait} {p : Place} {x : What O} {u : Budgeted S} → Meets T y s p x u → y.left ≡ paid x u.left
  paid_then (goes_on e t k) = k
  paid_then (is_over f e not k) = k
  paid_then (is_refused x e t k) = k

  -- one of which the outside isn't told
  unheard : (T : Tree O) (y : Budgeted S) (s : Wait) (p : Place) (x : What O) (u : Budgeted S) → y.halt ≡ None → u ≡ y → (u.outside ≡ y.outside → Crossings goes T y.outside s (event p x) u.outside) → (u.left ≡ paid x u.left) → Meets T y s p x u
  unheard T y s p x u on same t k = goes_on (ap (λ (w : Budgeted S). w.halt) same ∙ on) (t (ap (λ (w : Budgeted S). w.outside) same)) (sym (ap (λ (w : Budgeted S). w.left) same) ∙ k)

  on_step : (T : Tree O) (y : Budgeted S) (s : Wait) (p : Place) (x : What O) (u : Budgeted S) → y.halt ≡ None → told_so T y s p x u → Meets T y s p x u
  on_step T y s p (Out h down i) u on g = let m : Goes goes T y s (event p (Out h down i)) y.left None u = by_halt None T y s p (Out h down i) u on g in goes_on m.halt_so (record { told = m.told }) (sym m.left_so)
  on_step T y s p (In h i) u on g = let m : Goes goes T y s (event p (In h i)) y.left None u = by_halt None T y s p (In h i) u on g in goes_on m.halt_so (record { told = m.told }) (sym m.left_so)
  on_step T y s p (Done h r) u on g = let m : Goes goes T y s (event p (Done h r)) y.left None u = by_halt None T y s p (Done h r) u on g in goes_on m.halt_so (record { told = m.told }) (sym m.left_so)
  on_step T y s p Dropped u on g = let m : Goes goes T y s (event p Dropped) y.left None u = by_halt None T y s p Dropped u on g in goes_on m.halt_so (record { told = m.told }) (sym m.left_so)
  on_step T y s p (Unfound t i c) u on g = let m : Goes goes T y s (event p (Unfound t i c)) y.left None u = by_halt None T y s p (Unfound t i c) u on g in goes_on m.halt_so (record { told = m.told }) (sym m.left_so)
  on_step T y s p (Back h a) u on g =
      let m : Goes goes T y s (event p (Back h a)) y.left (halt_by (rise_to h p) a) u = by_halt None T y s p (Back h a) u on g in
      by (halt_by (rise_to h p) a) refl m.halt_so (record { told = m.told }) (sym m.left_so)
    where
      by : (l : Option Halt) → halt_by (rise_to h p) a ≡ l → u.halt ≡ halt_by (rise_to h p) a → Crossings goes T y.outside s (event p (Back h a)) u.outside → y.left ≡ u.left → Meets T y s p (Back h a) u
      by None is e t k = goes_on (e ∙ is) t k
      by (Some f) is e t k = is_over f (e ∙ is) (cuts_not f (cuts_only (rise_to h p) a f is)) k
  on_step T y s p Charged u on g = let m = by_halt None T y s p Charged u on g in goes_on m.2.halt_so (record { told = m.2.told }) (m.1 ∙ ap suc (sym m.2.left_so))
  on_step T y s p (Refused Count None) u on g = by (by_halt None T y s p (Refused Count None) u on g)
    where
      by : meets_by goes None T y s p (Refused Count None) u → Meets T y s p (Refused Count None) u
      by (inl e) = is_over Spends (ap (λ (w : Budgeted S). w.halt) e.1) (spends_not Spends refl) (e.0 ∙ sym (ap (λ (w : Budgeted S). w.left) e.1))
      by (inr m) = is_refused refl m.halt_so m.told (sym m.left_so)
  on_step T y s p (Refused Depth None) u on g = let no : Prim.⊥ = by_halt None T y s p (Refused Depth None) u on g in absurd no
  on_step T y s p (Refused m (Some n)) u on g = unheard T y s p (Refused m (Some n)) u on g (λ e. record { told = e }) refl
  on_step T y s p Seen u on g = unheard T y s p Seen u on g (λ e. record { told = e }) refl
  on_step T y s p (Changed o) u on g = unheard T y s p (Changed o) u on g (λ e. record { told = e }) refl
  on_step T y s p Nested u on g = unheard T y s p Nested u on g (λ e. record { told = e }) refl
  on_step T y s p Unnested u on g = unheard T y s p Unnested u on g (λ e. record { told = e }) refl
  on_step T y s p (Limited l) u on g = unheard T y s p (Limited l) u on g (λ e. record { told = e }) refl
  on_step T y s p (DepthLimited l) u on g = unheard T y s p (DepthLimited l) u on g (λ e. record { told = e }) refl
  on_step T y s p (Made o b) u on g = unheard T y s p (Made o b) u on g (λ e. record { told = e }) refl

  -- each step is paid for
  paid_step : (T : Tree O) (y : Budgeted S) (s : Wait) (p : Place) (x : What O) (u : Budgeted S) → told_so T y s p x u → y.left ≡ paid x u.left
  paid_step T y s p x u g = by y.halt refl
    where
      by : (h : Option Halt) → y.halt ≡ h → y.left ≡ paid x u.left
      by None e = paid_then (on_step T y s p x u e g)
      by (Some f) e = let a = over_step T y s p x u f e g in sym (ap (λ (w : Budgeted S). w.left) a.0) ∙ sym (a.1 u.left)

  pub all_paid : {cs ds : Open} {T V : Tree O} {y z : Budgeted S} {τ : List (Event O)} → Chain (Crossings (budgeted goes)) cs T y τ ds V z → steps_of τ + z.left ≡ y.left
  all_paid {y = y} none = let e : 0 + y.left ≡ y.left = omega arith in e
  all_paid {cs} {ds} {T} {V} {y} {z} (more {u = u} {ev = ev} {τ = τ} a rest) =
      paid_plus ev.what (steps_of τ) z.left ∙ ap (paid ev.what) (all_paid rest) ∙ sym (paid_step T y (answers_to ev.place ev.what cs) ev.place ev.what u a.told)

  -- What the outside went through until it refused a step.
  pub record Denies (cs : Open) (T : Tree O) (o : S) (most : ℕ) (z : S) : Type 0 where
    pub tape : List (Event O)
    pub calls : Open
    pub during : Tree O
    pub last : S
    pub place : Place
    pub chain : Chain (Crossings goes) cs T o tape calls during last
    pub refused : goes during last None (event place (Refused Count None)) z
    pub within : steps_of tape ≤ most

  pub denied : {cs ds : Open} {T V : Tree O} {y z : Budgeted S} {τ : List (Event O)} → Chain (Crossings (budgeted goes)) cs T y τ ds V z → y.halt ≡ None → z.halt ≡ Some Refuses → Denies cs T y.outside y.left z.outside
  denied none on is = absurd (not_both on is)
  denied {cs} {ds} {T} {V} {y} {z} (more {u = u} {ev = ev} a rest) on is =
      by (on_step T y (answers_to ev.place ev.what cs) ev.place ev.what u on a.told) (λ e. denied rest e is) (λ f e. over rest f e)
    where
      by : Meets T y (answers_to ev.place ev.what cs) ev.place ev.what u → (u.halt ≡ None → Denies (calls_after T ev.place ev.what cs) (effect ev.place ev.what T) u.outside u.left z.outside) → ((f : Halt) → u.halt ≡ Some f → z ≡ u) → Denies cs T y.outside y.left z.outside
      by (goes_on e t k) later ended =
          let r = later e in
          record {
            tape = ev ∷ r.tape;
            calls = r.calls;
            during = r.during;
            last = r.last;
            place = r.place;
            chain = more t r.chain;
            refused = r.refused;
            within = paid_most ev.what (steps_of r.tape) u.left y.left k r.within;
          }
      by (is_over f e not k) later ended = absurd (not (Some-inj f (sym e ∙ sym (ap (λ (w : Budgeted S). w.halt) (ended f e)) ∙ is)))
      by (is_refused x e t k) later ended =
          let none_open : answers_to ev.place ev.what cs ≡ None = ap (λ w. answers_to ev.place w cs) x in
          let then : goes T y.outside None (event ev.place (Refused Count None)) u.outside = subst (λ s. goes T y.outside s (event ev.place (Refused Count None)) u.outside) none_open t in
          record {
            tape = [];
            calls = cs;
            during = T;
            last = y.outside;
            place = ev.place;
            chain = none;
            refused = subst (λ w. goes T y.outside None (event ev.place (Refused Count None)) w) (sym (ap (λ (w : Budgeted S). w.outside) (ended Refuses e))) then;
            within = let no_steps : 0 ≤ y.left = omega arith in no_steps;
          }

module _ {O I S : Type 0} (goes : Tree O → S → Wait → Event O → S → Type 0) (prog : Table O I) where
  -- all that an outside with a budget goes through in a life
  pub record All (T : Tree O) (b : Budgeted S) (V : Tree O) (c : Budgeted S) : Type 0 where
    pub events : List (Event O)
    pub chain : Chain (Crossings (budgeted goes)) [] T b events [] V c

  pub all_of : {T : Tree O} {b : Budgeted S} {V : Tree O} {c : Budgeted S} {x : Outcome} → Lived (budgeted goes) prog T b V c x → All T b V c
  all_of Lived.begun = record { events = []; chain = none }
  all_of (Lived.entered {U} {V} {u} {w} {v} {z} t i r l here s1 run s2) =
      let h = all_of l in
      let made = makes (Crossings (budgeted goes)) prog (fit (prog.entry i) (prog.entries_call i)) run in
      record {
        events = h.events ++ event t (In None i) ∷ (made.events ++ event t (Done None r) ∷ []);
        chain = chain-append (Crossings (budgeted goes)) h.chain (more (record { told = s1 }) (chain-append (Crossings (budgeted goes)) (called_on (Crossings (budgeted goes)) (prog.entry i) (prog.entries_call i) made.chain) (more (record { told = s2 }) none)));
      }
  all_of (Lived.unfound {U} {u} {z} t i l nobody s) =
      let h = all_of l in
      record {
        events = h.events ++ event [] (Unfound t i (prog.lost t)) ∷ [];
        chain = chain-append (Crossings (budgeted goes)) h.chain (more (record { told = s }) none);
      }
