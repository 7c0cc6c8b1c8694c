-- Runs inside runs: a run is what `Unrolled` says of runs.
use Rattle.std.proofs.Common.{ℕ, zero, suc, ◌≡◌, ◌+◌, Bool, true, false, List, [], ◌∷◌, Option, Some, None, length, arith}
use Rattle.tcl_core.specs.Paths.{Path, Place, Height, rise_to}
use Rattle.tcl_core.specs.Endings.{Completion, Reply}
use Rattle.tcl_core.specs.Endings.Reply.{Completed, Exit}
use Rattle.tcl_core.specs.Entries.{Entry, Answer, Said}
use Rattle.tcl_core.specs.Entries.Answer.{Replied, Heard, Nobody}
use Rattle.tcl_core.specs.Trees.{Move, Tree, depth_of, Node}
use Rattle.tcl_core.specs.Trees.Move.{Born, Fall, Enter, Come}
use Rattle.tcl_core.specs.Programs.{Deed, Wrap, Wait, Next, Prog, Table, decide, opens}
use Rattle.tcl_core.specs.Programs.Next.{On, TooDeep, Off}
use Rattle.tcl_core.specs.Programs.Prog.{done, exit, act, go, inside, call, wait}
use Rattle.tcl_core.specs.Runs.{World, Ending, Run, Follows, Then, Closes, Acted, Acts, Opened, Opens, Hears, Answered, Visits, Returns, Reaches, Calls, Stays, Moves, Fitting, Waits, Unrolled, RunsIn, Runs, carried, reached, fits, height_of, gone, Enters}

module _ {O I : Type 0} where
  abbrev pub Implies : Run O I → Run O I → Type 0
  Implies R S = (w : World O) (p : Place) (x : Prog O I) (v : World O) (e : Ending) → R w p x v e → S w p x v e

  module _ (R S : Run O I) (f : Implies R S) where
    follows_map : (w : World O) (p : Place) (k : Completion → Prog O I) (r : Reply) (v : World O) (e : Ending) → Follows R w p k r v e → Follows S w p k r v e
    follows_map w p k (Completed c) v e a = f w p (k c) v e a
    follows_map w p k _ v e a = a

    then_map : (w : World O) (p : Place) (k : Completion → Prog O I) (o : Ending) (v : World O) (e : Ending) → Then R w p k o v e → Then S w p k o v e
    then_map w p k None v e a = a
    then_map w p k (Some r) v e a = follows_map w p k r v e a

    closes_map : (n : Option (Node O)) (w : World O) (p : Place) (b : Wrap O) (k : Completion → Prog O I) (o : Ending) (v : World O) (e : Ending) → Closes R n w p b k o v e → Closes S n w p b k o v e
    closes_map n w p b k None v e a = a
    closes_map n w p b k (Some r) v e (u, s, a) = (u, s, follows_map u p k r v e a)

    acted_map : (w u : World O) (p : Place) (k : Tree O → Prog O I) (x : Next) (v : World O) (e : Ending) → Acted R w u p k x v e → Acted S w u p k x v e
    acted_map w u p k (Off r) v e a = a
    acted_map w u p k _ v e a = f u p _ v e a

    acts_map : (w : World O) (p : Place) (x : Option (Deed O)) (k : Tree O → Prog O I) (v : World O) (e : Ending) → Acts R w p x k v e → Acts S w p x k v e
    acts_map w p None k v e a = a
    acts_map w p (Some x) k v e (u, s, a) = (u, s, acted_map w u p k x.2 v e a)

    hears_map : (w : World O) (p : Place) (k : Said → Prog O I) (a : Answer) (v : World O) (e : Ending) → Hears R w p k a v e → Hears S w p k a v e
    hears_map w p k (Heard a) v e b = f w p _ v e b
    hears_map w p k Nobody v e b = f w p _ v e b
    hears_map w p k (Replied (Completed c)) v e b = f w p _ v e b
    hears_map w p k (Replied _) v e b = b

    answered_map : (w : World O) (p : Place) (h : Height) (k : Said → Prog O I) (a : Answer) (v : World O) (e : Ending) → Answered R w p h k a v e → Answered S w p h k a v e
    answered_map w p h k a v e (u, s, b) = (u, s, hears_map u p k a v e b)

    returns_map : (d : ℕ) (w : World O) (p : Place) (h : Height) (down : Path) (k : Said → Prog O I) (o : Ending) (v : World O) (e : Ending) → Returns R d w p h down k o v e → Returns S d w p h down k o v e
    returns_map d w p h down k None v e a = a
    returns_map d w p h down k (Some r) v e a = answered_map w p h k _ v e a

    stays_map : (w : World O) (p : Place) (s : Wait) (k : Said → Prog O I) (o : Ending) (v : World O) (e : Ending) → Stays R w p s k o v e → Stays S w p s k o v e
    stays_map w p s k None v e a = a
    stays_map w p s k (Some (Exit n)) v e a = a
    stays_map w p s k (Some _) v e a = f w p _ v e a

    module _ (prog : Table O I) where
      visits_map : (w : World O) (h : Height) (t : Place) (i : Entry) (v : World O) (e : Ending) → Visits prog R w h t i v e → Visits prog S w h t i v e
      visits_map w h t i v e a = record { node = a.node; stands = a.stands; entered = a.entered; left = a.left; entry = a.entry; run = f a.entered t _ a.left e a.run; leaving = a.leaving }

      opened_map : (w : World O) (p : Place) (b : Wrap O) (i : I) (k : Completion → Prog O I) (x : Next) (v : World O) (e : Ending) → Opened prog R w p b i k x v e → Opened prog S w p b i k x v e
      opened_map w p b i k (Off r) v e a = a
      opened_map w p b i k TooDeep v e a = f w p _ v e a
      opened_map w p b i k On v e (u, o, a, c) = (u, o, f w p _ u o a, closes_map (w.tree p) u p b k o v e c)

      opens_map : (w : World O) (p : Place) (x : Option (Deed O)) (b : Wrap O) (i : I) (k : Completion → Prog O I) (v : World O) (e : Ending) → Opens prog R w p x b i k v e → Opens prog S w p x b i k v e
      opens_map w p None b i k v e a = a
      opens_map w p (Some x) b i k v e (u, s, a) = (u, s, opened_map u p b i k x.2 v e a)

      reaches_map : (w : World O) (p : Place) (h : Height) (down : Path) (i : Entry) (lost : Completion) (k : Said → Prog O I) (t : Option Place) (v : World O) (e : Ending) → Reaches prog R w p h down i lost k t v e → Reaches prog S w p h down i lost k t v e
      reaches_map w p h down i lost k None v e a = answered_map w p h k _ v e a
      reaches_map w p h down i lost k (Some t) v e (u, o, a, b) = (u, o, visits_map w (Some (length down)) t i u o a, returns_map (depth_of (w.tree p)) u p h down k o v e b)

      calls_map : (w : World O) (p : Place) (h : Height) (down : Path) (i : Entry) (lost : Completion) (k : Said → Prog O I) (a : Option Place) (v : World O) (e : Ending) → Calls prog R w p h down i lost k a v e → Calls prog S w p h down i lost k a v e
      calls_map w p h down i lost k None v e a = f w p _ v e a
      calls_map w p h down i lost k (Some t) v e a = reaches_map w p h down i lost k (reached w.tree t down) v e a

      enters_map : (w : World O) (p : Place) (s : Wait) (k : Said → Prog O I) (t : Path) (i : Entry) (n : Option (Node O)) (v : World O) (e : Ending) → Enters prog R w p s k t i n v e → Enters prog S w p s k t i n v e
      enters_map w p s k t i None v e (u, a, b) = (u, a, f u p _ v e b)
      enters_map w p s k t i (Some n) v e (u, o, a, b) = (u, o, visits_map w None t i u o a, stays_map u p s k o v e b)

      moves_map : (w : World O) (p : Place) (s : Wait) (k : Said → Prog O I) (m : Move O) (v : World O) (e : Ending) → Moves prog R w p s k m v e → Moves prog S w p s k m v e
      moves_map w p s k (Come a) v e b = answered_map w p (height_of s) k a v e b
      moves_map w p s k (Born o b) v e (u, t, a) = (u, t, f u p _ v e a)
      moves_map w p s k Fall v e (u, t, a) = (u, t, f u p _ v e a)
      moves_map w p s k (Enter t i) v e a = enters_map w p s k t i (w.tree t) v e a

      fitting_map : (w : World O) (p : Place) (s : Wait) (k : Said → Prog O I) (b : Bool) (m : Move O) (v : World O) (e : Ending) → Fitting prog R w p s k b m v e → Fitting prog S w p s k b m v e
      fitting_map w p s k false m v e a = a
      fitting_map w p s k true m v e a = moves_map w p s k m v e a

      waits_map : (w : World O) (p : Place) (s : Wait) (k : Said → Prog O I) (ms : List (Move O)) (v : World O) (e : Ending) → Waits prog R w p s k ms v e → Waits prog S w p s k ms v e
      waits_map w p s k [] v e a = a
      waits_map w p s k (m ∷ ms) v e a = fitting_map w p s k (fits w.tree p s m) m v e a

      pub unrolled_map : (w : World O) (p : Place) (x : Prog O I) (v : World O) (e : Ending) → Unrolled prog R w p x v e → Unrolled prog S w p x v e
      unrolled_map w p (done c) v e a = a
      unrolled_map w p (exit n) v e a = a
      unrolled_map w p (act d k) v e a = acts_map w p (decide d w.tree p w.grants) k v e a
      unrolled_map w p (go i k) v e (u, o, a, b) = (u, o, f w p _ u o a, then_map u p k o v e b)
      unrolled_map w p (inside b i k) v e a = opens_map w p (opens b w.tree p w.grants) b i k v e a
      unrolled_map w p (call h down i lost k) v e (u, s, a) = (u, s, calls_map u p h down i lost k (rise_to h p) v e a)
      unrolled_map w p (wait s k) v e (g, a) = (g, waits_map w p s k w.moves v e a)

  module _ (prog : Table O I) where
    -- deeper is more
    deeper_one : (n : ℕ) → Implies (RunsIn prog n) (RunsIn prog (suc n))
    deeper_one zero w p x v e a = absurd a
    deeper_one (suc n) w p x v e a = unrolled_map (RunsIn prog n) (RunsIn prog (suc n)) (deeper_one n) prog w p x v e a

    deeper_by : (m n : ℕ) → Implies (RunsIn prog n) (RunsIn prog (m + n))
    deeper_by zero n w p x v e a = rw (zero_plus n) a
      where
        zero_plus : (n : ℕ) → zero + n ≡ n
        zero_plus n = omega arith
    deeper_by (suc m) n w p x v e a = rw (suc_plus m n) (deeper_one (m + n) w p x v e (deeper_by m n w p x v e a))
      where
        suc_plus : (m n : ℕ) → suc m + n ≡ suc (m + n)
        suc_plus m n = omega arith

    left_of : (m n : ℕ) → Implies (RunsIn prog m) (RunsIn prog (m + n))
    left_of m n w p x v e a = rw (turn m n) (deeper_by n m w p x v e a)
      where
        turn : (m n : ℕ) → m + n ≡ n + m
        turn m n = omega arith

    follows_deep : (w : World O) (p : Place) (k : Completion → Prog O I) (r : Reply) (v : World O) (e : Ending) → Follows (Runs prog) w p k r v e → (n : ℕ) × Follows (RunsIn prog n) w p k r v e
    follows_deep w p k (Completed c) v e a = a
    follows_deep w p k _ v e a = (0, a)

    then_deep : (w : World O) (p : Place) (k : Completion → Prog O I) (o : Ending) (v : World O) (e : Ending) → Then (Runs prog) w p k o v e → (n : ℕ) × Then (RunsIn prog n) w p k o v e
    then_deep w p k None v e a = (0, a)
    then_deep w p k (Some r) v e a = follows_deep w p k r v e a

    closes_deep : (n : Option (Node O)) (w : World O) (p : Place) (b : Wrap O) (k : Completion → Prog O I) (o : Ending) (v : World O) (e : Ending) → Closes (Runs prog) n w p b k o v e → (m : ℕ) × Closes (RunsIn prog m) n w p b k o v e
    closes_deep n w p b k None v e a = (0, a)
    closes_deep n w p b k (Some r) v e (u, s, a) = let d : (n : ℕ) × Follows (RunsIn prog n) u p k r v e = follows_deep u p k r v e a in (d.0, (u, s, d.1))

    acted_deep : (w u : World O) (p : Place) (k : Tree O → Prog O I) (x : Next) (v : World O) (e : Ending) → Acted (Runs prog) w u p k x v e → (n : ℕ) × Acted (RunsIn prog n) w u p k x v e
    acted_deep w u p k (Off r) v e a = (0, a)
    acted_deep w u p k _ v e a = a

    acts_deep : (w : World O) (p : Place) (x : Option (Deed O)) (k : Tree O → Prog O I) (v : World O) (e : Ending) → Acts (Runs prog) w p x k v e → (n : ℕ) × Acts (RunsIn prog n) w p x k v e
    acts_deep w p None k v e a = (0, a)
    acts_deep w p (Some x) k v e (u, s, a) = let d : (n : ℕ) × Acted (RunsIn prog n) w u p k x.2 v e = acted_deep w u p k x.2 v e a in (d.0, (u, s, d.1))

    opened_deep : (w : World O) (p : Place) (b : Wrap O) (i : I) (k : Completion → Prog O I) (x : Next) (v : World O) (e : Ending) → Opened prog (Runs prog) w p b i k x v e → (n : ℕ) × Opened prog (RunsIn prog n) w p b i k x v e
    opened_deep w p b i k (Off r) v e a = (0, a)
    opened_deep w p b i k TooDeep v e a = a
    opened_deep w p b i k On v e (u, o, (m, a), c) =
        let d : (n : ℕ) × Closes (RunsIn prog n) (w.tree p) u p b k o v e = closes_deep (w.tree p) u p b k o v e c in
        (m + d.0, (u, o, left_of m d.0 w p _ u o a, closes_map (RunsIn prog d.0) (RunsIn prog (m + d.0)) (deeper_by m d.0) (w.tree p) u p b k o v e d.1))

    opens_deep : (w : World O) (p : Place) (x : Option (Deed O)) (b : Wrap O) (i : I) (k : Completion → Prog O I) (v : World O) (e : Ending) → Opens prog (Runs prog) w p x b i k v e → (n : ℕ) × Opens prog (RunsIn prog n) w p x b i k v e
    opens_deep w p None b i k v e a = (0, a)
    opens_deep w p (Some x) b i k v e (u, s, a) = let d : (n : ℕ) × Opened prog (RunsIn prog n) u p b i k x.2 v e = opened_deep u p b i k x.2 v e a in (d.0, (u, s, d.1))

    hears_deep : (w : World O) (p : Place) (k : Said → Prog O I) (a : Answer) (v : World O) (e : Ending) → Hears (Runs prog) w p k a v e → (n : ℕ) × Hears (RunsIn prog n) w p k a v e
    hears_deep w p k (Heard a) v e b = b
    hears_deep w p k Nobody v e b = b
    hears_deep w p k (Replied (Completed c)) v e b = b
    hears_deep w p k (Replied _) v e b = (0, b)

    answered_deep : (w : World O) (p : Place) (h : Height) (k : Said → Prog O I) (a : Answer) (v : World O) (e : Ending) → Answered (Runs prog) w p h k a v e → (n : ℕ) × Answered (RunsIn prog n) w p h k a v e
    answered_deep w p h k a v e (u, s, b) = let d : (n : ℕ) × Hears (RunsIn prog n) u p k a v e = hears_deep u p k a v e b in (d.0, (u, s, d.1))

    visits_deep : (w : World O) (h : Height) (t : Place) (i : Entry) (v : World O) (e : Ending) → Visits prog (Runs prog) w h t i v e → (n : ℕ) × Visits prog (RunsIn prog n) w h t i v e
    visits_deep w h t i v e a = (a.run.0, record { node = a.node; stands = a.stands; entered = a.entered; left = a.left; entry = a.entry; run = a.run.1; leaving = a.leaving })

    returns_deep : (d : ℕ) (w : World O) (p : Place) (h : Height) (down : Path) (k : Said → Prog O I) (o : Ending) (v : World O) (e : Ending) → Returns (Runs prog) d w p h down k o v e → (n : ℕ) × Returns (RunsIn prog n) d w p h down k o v e
    returns_deep d w p h down k None v e a = (0, a)
    returns_deep d w p h down k (Some r) v e a = answered_deep w p h k (Replied (carried (gone d w.tree p) h p down r)) v e a

    stays_deep : (w : World O) (p : Place) (s : Wait) (k : Said → Prog O I) (o : Ending) (v : World O) (e : Ending) → Stays (Runs prog) w p s k o v e → (n : ℕ) × Stays (RunsIn prog n) w p s k o v e
    stays_deep w p s k None v e a = (0, a)
    stays_deep w p s k (Some (Exit n)) v e a = (0, a)
    stays_deep w p s k (Some _) v e a = a

    reaches_deep : (w : World O) (p : Place) (h : Height) (down : Path) (i : Entry) (lost : Completion) (k : Said → Prog O I) (t : Option Place) (v : World O) (e : Ending) → Reaches prog (Runs prog) w p h down i lost k t v e → (n : ℕ) × Reaches prog (RunsIn prog n) w p h down i lost k t v e
    reaches_deep w p h down i lost k None v e a = answered_deep w p h k (Replied (Completed lost)) v e a
    reaches_deep w p h down i lost k (Some t) v e (u, o, a, b) =
        let c : (n : ℕ) × Visits prog (RunsIn prog n) w (Some (length down)) t i u o = visits_deep w (Some (length down)) t i u o a in
        let d : (n : ℕ) × Returns (RunsIn prog n) (depth_of (w.tree p)) u p h down k o v e = returns_deep (depth_of (w.tree p)) u p h down k o v e b in
        (c.0 + d.0, (u, o, visits_map (RunsIn prog c.0) (RunsIn prog (c.0 + d.0)) (left_of c.0 d.0) prog w (Some (length down)) t i u o c.1, returns_map (RunsIn prog d.0) (RunsIn prog (c.0 + d.0)) (deeper_by c.0 d.0) (depth_of (w.tree p)) u p h down k o v e d.1))

    calls_deep : (w : World O) (p : Place) (h : Height) (down : Path) (i : Entry) (lost : Completion) (k : Said → Prog O I) (a : Option Place) (v : World O) (e : Ending) → Calls prog (Runs prog) w p h down i lost k a v e → (n : ℕ) × Calls prog (RunsIn prog n) w p h down i lost k a v e
    calls_deep w p h down i lost k None v e a = a
    calls_deep w p h down i lost k (Some t) v e a = reaches_deep w p h down i lost k (reached w.tree t down) v e a

    enters_deep : (w : World O) (p : Place) (s : Wait) (k : Said → Prog O I) (t : Path) (i : Entry) (n : Option (Node O)) (v : World O) (e : Ending) → Enters prog (Runs prog) w p s k t i n v e → (n2 : ℕ) × Enters prog (RunsIn prog n2) w p s k t i n v e
    enters_deep w p s k t i None v e (u, a, (n2, b)) = (n2, (u, a, b))
    enters_deep w p s k t i (Some n) v e (u, o, a, b) =
        let c : (n : ℕ) × Visits prog (RunsIn prog n) w None t i u o = visits_deep w None t i u o a in
        let d : (n : ℕ) × Stays (RunsIn prog n) u p s k o v e = stays_deep u p s k o v e b in
        (c.0 + d.0, (u, o, visits_map (RunsIn prog c.0) (RunsIn prog (c.0 + d.0)) (left_of c.0 d.0) prog w None t i u o c.1, stays_map (RunsIn prog d.0) (RunsIn prog (c.0 + d.0)) (deeper_by c.0 d.0) u p s k o v e d.1))

    moves_deep : (w : World O) (p : Place) (s : Wait) (k : Said → Prog O I) (m : Move O) (v : World O) (e : Ending) → Moves prog (Runs prog) w p s k m v e → (n : ℕ) × Moves prog (RunsIn prog n) w p s k m v e
    moves_deep w p s k (Come a) v e b = answered_deep w p (height_of s) k a v e b
    moves_deep w p s k (Born o b) v e (u, t, (n, a)) = (n, (u, t, a))
    moves_deep w p s k Fall v e (u, t, (n, a)) = (n, (u, t, a))
    moves_deep w p s k (Enter t i) v e a = enters_deep w p s k t i (w.tree t) v e a

    fitting_deep : (w : World O) (p : Place) (s : Wait) (k : Said → Prog O I) (b : Bool) (m : Move O) (v : World O) (e : Ending) → Fitting prog (Runs prog) w p s k b m v e → (n : ℕ) × Fitting prog (RunsIn prog n) w p s k b m v e
    fitting_deep w p s k false m v e a = (0, a)
    fitting_deep w p s k true m v e a = moves_deep w p s k m v e a

    waits_deep : (w : World O) (p : Place) (s : Wait) (k : Said → Prog O I) (ms : List (Move O)) (v : World O) (e : Ending) → Waits prog (Runs prog) w p s k ms v e → (n : ℕ) × Waits prog (RunsIn prog n) w p s k ms v e
    waits_deep w p s k [] v e a = (0, a)
    waits_deep w p s k (m ∷ ms) v e a = fitting_deep w p s k (fits w.tree p s m) m v e a

    unrolled_deep : (w : World O) (p : Place) (x : Prog O I) (v : World O) (e : Ending) → Unrolled prog (Runs prog) w p x v e → (n : ℕ) × Unrolled prog (RunsIn prog n) w p x v e
    unrolled_deep w p (done c) v e a = (0, a)
    unrolled_deep w p (exit n) v e a = (0, a)
    unrolled_deep w p (act d k) v e a = acts_deep w p (decide d w.tree p w.grants) k v e a
    unrolled_deep w p (go i k) v e (u, o, (m, a), b) =
        let d : (n : ℕ) × Then (RunsIn prog n) u p k o v e = then_deep u p k o v e b in
        (m + d.0, (u, o, left_of m d.0 w p _ u o a, then_map (RunsIn prog d.0) (RunsIn prog (m + d.0)) (deeper_by m d.0) u p k o v e d.1))
    unrolled_deep w p (inside b i k) v e a = opens_deep w p (opens b w.tree p w.grants) b i k v e a
    unrolled_deep w p (call h down i lost k) v e (u, s, a) = let d : (n : ℕ) × Calls prog (RunsIn prog n) u p h down i lost k (rise_to h p) v e = calls_deep u p h down i lost k (rise_to h p) v e a in (d.0, (u, s, d.1))
    unrolled_deep w p (wait s k) v e (g, a) = let d : (n : ℕ) × Waits prog (RunsIn prog n) w p s k w.moves v e = waits_deep w p s k w.moves v e a in (d.0, (g, d.1))

    pub roll : (w : World O) (p : Place) (x : Prog O I) (v : World O) (e : Ending) → Unrolled prog (Runs prog) w p x v e → Runs prog w p x v e
    roll w p x v e a = let d : (n : ℕ) × Unrolled prog (RunsIn prog n) w p x v e = unrolled_deep w p x v e a in (suc d.0, d.1)

    pub unroll : (w : World O) (p : Place) (x : Prog O I) (v : World O) (e : Ending) → Runs prog w p x v e → Unrolled prog (Runs prog) w p x v e
    unroll w p x v e (zero, a) = absurd a
    unroll w p x v e (suc n, a) = unrolled_map (RunsIn prog n) (Runs prog) (λ w2 p2 x2 v2 e2 b. (n, b)) prog w p x v e a
