-- From the same world the same happens.
use Rattle.std.proofs.Common.{◌≡◌, ℕ, zero, suc, ℤ, Bool, true, false, List, [], ◌∷◌, ◌++◌, Option, Some, None, length, refl, sym, ◌∙◌, ap, append_assoc, subst}
use Rattle.tcl_core.specs.Paths.{Path, Place, Height, rise_to}
use Rattle.tcl_core.specs.Endings.{Meter, Completion, Reply, refusal}
use Rattle.tcl_core.specs.Endings.Meter.{Count, Depth}
use Rattle.tcl_core.specs.Endings.Reply.{Completed, Stop, Exit, Cut}
use Rattle.tcl_core.specs.Entries.{Entry, Answer, Said}
use Rattle.tcl_core.specs.Entries.Answer.{Replied, Heard, Nobody}
use Rattle.tcl_core.specs.Entries.Said.{Finished, Told, Missed}
use Rattle.tcl_core.specs.Trees.{Tree, Grants, Grant, granted, denied, allowing, What, Event, Move, asked, at_top, where_none, at, depth_of, Node}
use Rattle.tcl_core.specs.Trees.Grant.{Allow, Deny}
use Rattle.tcl_core.specs.Trees.Grants.{Listed, Budget}
use Rattle.tcl_core.specs.Trees.What.{Made, Dropped, Charged, Refused, Nested, Out, In, Done, Back, Unfound}
use Rattle.tcl_core.specs.Trees.Move.{Born, Fall, Enter, Come}
use Rattle.tcl_core.specs.Programs.{Deed, spot, Wrap, Wait, Next, Prog, Table, decide, opens, closes, or_lost}
use Rattle.tcl_core.specs.Programs.Next.{On, TooDeep, Off}
use Rattle.tcl_core.specs.Programs.Prog.{done, exit, act, go, inside, call, wait}
use Rattle.tcl_core.specs.Runs.{World, Step, Ending, Run, Halts, Follows, Then, Closes, Acted, Acts, Opened, Opens, Hears, Answered, Leaves, Visits, Returns, Reaches, Calls, Exiting, Exits, Stays, Moves, Fitting, Waits, Unrolled, RunsIn, Runs, carried, reached, fits, ends_call, height_of, gone, Enters}
use Rattle.tcl_core.specs.Laws.{retape, Agrees}
use Rattle.tcl_core.proofs.Folding.{unroll}
use Rattle.tcl_core.specs.Endings.Kind.{Full}

module _ {O : Type 0} where
  at_top-inj : (p : Place) (m : Move O) (a b : List (Move O)) → at_top p m a ≡ at_top p m b → a ≡ b
  at_top-inj [] m a b e = cc
  at_top-inj (x ∷ p) m a b e = e

  where_none-inj : (o : Option Place) (m : Move O) (a b : List (Move O)) → where_none o m a ≡ where_none o m b → a ≡ b
  where_none-inj None m a b e = cc
  where_none-inj (Some z) m a b e = e

  enter-inj : (t : Path) (i : Entry) (a b : List (Move O)) → Enter t i ∷ a ≡ Enter t i ∷ b → a ≡ b
  enter-inj t i a b e = cc

  pub asked-inj : (p : Place) (x : What O) (a b : List (Move O)) → asked p x a ≡ asked p x b → a ≡ b
  asked-inj p (In h i) a b e = where_none-inj (rise_to h p) (Enter p i) a b e
  asked-inj p (Back h r) a b e = where_none-inj (rise_to h p) (Come r) a b e
  asked-inj p (Made o s) a b e = at_top-inj p (Born o s) a b e
  asked-inj p Dropped a b e = at_top-inj p Fall a b e
  asked-inj p (Unfound t i c) a b e = enter-inj t i a b e
  asked-inj p _ a b e = e

listed-inj : (a b : List Grant) (g : Grant) → Listed (g ∷ a) ≡ Listed (g ∷ b) → Listed a ≡ Listed b
listed-inj a b g e = cc

budget-inj : (a b : ℕ) → Budget (suc a) ≡ Budget (suc b) → Budget a ≡ Budget b
budget-inj a b e = cc

not_one : {A : Type 0} (a : List Grant) (b : ℕ) → Listed a ≡ Budget b → A
not_one a b e = absurd (no2 e)
  where
    no2 : Listed a ≡ Budget b → Prim.⊥
    no2 e = cc

allowing-inj : (m : Meter) (a b : Grants) → allowing m a ≡ allowing m b → a ≡ b
allowing-inj m (Listed a) (Listed b) e = listed-inj a b Allow e
allowing-inj Count (Budget a) (Budget b) e = budget-inj a b e
allowing-inj Depth (Budget a) (Budget b) e = e
allowing-inj Count (Listed a) (Budget b) e = not_one (Allow ∷ a) (suc b) e
allowing-inj Depth (Listed a) (Budget b) e = not_one (Allow ∷ a) b e
allowing-inj Count (Budget b) (Listed a) e = not_one (Allow ∷ a) (suc b) (sym e)
allowing-inj Depth (Budget b) (Listed a) e = not_one (Allow ∷ a) b (sym e)

denied-inj : (o : Option Place) (a b : Grants) → denied o a ≡ denied o b → a ≡ b
denied-inj None (Listed a) (Listed b) e = listed-inj a b Deny e
denied-inj None (Budget a) (Budget b) e = e
denied-inj None (Listed a) (Budget b) e = not_one (Deny ∷ a) b e
denied-inj None (Budget b) (Listed a) e = not_one (Deny ∷ a) b (sym e)
denied-inj (Some z) a b e = e

module _ {O : Type 0} where
  pub granted-inj : (p : Place) (x : What O) (a b : Grants) → granted p x a ≡ granted p x b → a ≡ b
  granted-inj p Charged a b e = allowing-inj Count a b e
  granted-inj p Nested a b e = allowing-inj Depth a b e
  granted-inj p (Refused m h) a b e = denied-inj (rise_to h p) a b e
  granted-inj p _ a b e = e

  pub same_step : (w : World O) (τ : List (Event O)) (p : Place) (x : What O) (u z : World O) → Step w p x u → Step (retape w τ) p x z → z ≡ retape u z.tape
  same_step w τ p x u z s t =
      let a : z.tree ≡ u.tree = t.tree ∙ sym s.tree in
      let b : z.moves ≡ u.moves = asked-inj p x z.moves u.moves (sym t.moves ∙ s.moves) in
      let c : z.grants ≡ u.grants = granted-inj p x z.grants u.grants (sym t.grants ∙ s.grants) in
      λ i. record { tree = a i; moves = b i; grants = c i; tape = z.tape }

  -- after one happening
  after_step : (w : World O) (τ : List (Event O)) (p : Place) (x : What O) (u z : World O) → Step w p x u → Step (retape w τ) p x z → (v : World O) (e : Ending) (y : World O) (o : Ending) → Agrees u z.tape v e y o → Agrees w τ v e y o
  after_step w τ p x u z s t v e y o a = record {
    rest = a.rest;
    made = record { place = p; what = x } ∷ a.made;
    world = a.world;
    ending = a.ending;
    first = s.tape ∙ ap (λ l. record { place = p; what = x } ∷ l) a.first;
    second = t.tape ∙ ap (λ l. record { place = p; what = x } ∷ l) a.second;
  }

  -- after a run
  after_run : (w : World O) (τ : List (Event O)) (u : World O) (o : Ending) (z : World O) (m : Ending) → (a : Agrees w τ u o z m) → (v : World O) (e : Ending) (y : World O) (l : Ending) → Agrees u a.rest v e y l → Agrees w τ v e y l
  after_run w τ u o z m a v e y l b = record {
    rest = b.rest;
    made = a.made ++ b.made;
    world = b.world;
    ending = b.ending;
    first = a.first ∙ ap (λ t. a.made ++ t) b.first ∙ sym (append_assoc a.made b.made v.tape);
    second = a.second ∙ ap (λ t. a.made ++ t) b.second ∙ sym (append_assoc a.made b.made b.rest);
  }

  -- nothing happens
  at_once : (w : World O) (τ : List (Event O)) (v : World O) (e : Ending) (y : World O) (o : Ending) → v ≡ w → y ≡ retape w τ → e ≡ o → Agrees w τ v e y o
  at_once w τ v e y o a b c = record {
    rest = τ;
    made = [];
    world = b ∙ ap (λ u. retape u τ) (sym a);
    ending = sym c;
    first = ap (λ u. u.tape) (sym a);
    second = refl;
  }

  both_end : (w : World O) (τ : List (Event O)) (v : World O) (e : Ending) (y : World O) (o r : Ending) → v ≡ w → e ≡ r → y ≡ retape w τ → o ≡ r → Agrees w τ v e y o
  both_end w τ v e y o r a b c d = at_once w τ v e y o a c (b ∙ sym d)

  both_halt : (w : World O) (τ : List (Event O)) (v : World O) (e : Ending) (y : World O) (o : Ending) → Halts w v e → Halts (retape w τ) y o → Agrees w τ v e y o
  both_halt w τ v e y o a b = at_once w τ v e y o a.same b.same (a.ending ∙ sym b.ending)

  -- a happening, and then the end
  step_end : (w : World O) (τ : List (Event O)) (p : Place) (x : What O) (u z : World O) → Step w p x u → Step (retape w τ) p x z → (v : World O) (e : Ending) (y : World O) (o r : Ending) → v ≡ u → e ≡ r → y ≡ z → o ≡ r → Agrees w τ v e y o
  step_end w τ p x u z s t v e y o r a b c d = after_step w τ p x u z s t v e y o (both_end u z.tape v e y o r a b (c ∙ same_step w τ p x u z s t) d)

module _ {O I : Type 0} where
  abbrev pub Determines : Run O I → Run O I → Type 0
  Determines R S = (w : World O) (τ : List (Event O)) (p : Place) (x : Prog O I) (v : World O) (e : Ending) (y : World O) (o : Ending) → R w p x v e → S (retape w τ) p x y o → Agrees w τ v e y o

  module _ (prog : Table O I) (R S : Run O I) (det : Determines R S) where
    -- a happening, here or elsewhere, and then a run
    step_goes_on : (w : World O) (τ : List (Event O)) (p t : Place) (x : What O) (u z : World O) (k : Prog O I) (v : World O) (e : Ending) (y : World O) (o : Ending) → Step w t x u → Step (retape w τ) t x z → R u p k v e → S z p k y o → Agrees w τ v e y o
    step_goes_on w τ p t x u z k v e y o s s2 a b =
        after_step w τ t x u z s s2 v e y o (det u z.tape p k v e y o a (subst (λ m. S m p k y o) (same_step w τ t x u z s s2) b))

    follows_same : (w : World O) (τ : List (Event O)) (p : Place) (k : Completion → Prog O I) (r : Reply) (v : World O) (e : Ending) (y : World O) (o : Ending) → Follows R w p k r v e → Follows S (retape w τ) p k r y o → Agrees w τ v e y o
    follows_same w τ p k (Completed c) v e y o a b = det w τ p (k c) v e y o a b
    follows_same w τ p k (Stop n m) v e y o a b = both_end w τ v e y o (Some (Stop n m)) a.0 a.1 b.0 b.1
    follows_same w τ p k (Exit n) v e y o a b = both_end w τ v e y o (Some (Exit n)) a.0 a.1 b.0 b.1
    follows_same w τ p k (Cut c) v e y o a b = both_end w τ v e y o (Some (Cut c)) a.0 a.1 b.0 b.1

    then_same : (w : World O) (τ : List (Event O)) (p : Place) (k : Completion → Prog O I) (m : Ending) (v : World O) (e : Ending) (y : World O) (o : Ending) → Then R w p k m v e → Then S (retape w τ) p k m y o → Agrees w τ v e y o
    then_same w τ p k None v e y o a b = both_end w τ v e y o None a.0 a.1 b.0 b.1
    then_same w τ p k (Some r) v e y o a b = follows_same w τ p k r v e y o a b

    closes_same : (g : Option (Node O)) (w : World O) (τ : List (Event O)) (p : Place) (l : Wrap O) (k : Completion → Prog O I) (m : Ending) (v : World O) (e : Ending) (y : World O) (o : Ending) → Closes R g w p l k m v e → Closes S g (retape w τ) p l k m y o → Agrees w τ v e y o
    closes_same g w τ p l k None v e y o a b = both_end w τ v e y o None a.0 a.1 b.0 b.1
    closes_same g w τ p l k (Some r) v e y o (u, s, a) (z, t, b) =
        after_step w τ p (closes l g (w.tree p)) u z s t v e y o (follows_same u z.tape p k r v e y o a (subst (λ m. Follows S m p k r y o) (same_step w τ p (closes l g (w.tree p)) u z s t) b))

    hears_same : (w : World O) (τ : List (Event O)) (p : Place) (k : Said → Prog O I) (a : Answer) (v : World O) (e : Ending) (y : World O) (o : Ending) → Hears R w p k a v e → Hears S (retape w τ) p k a y o → Agrees w τ v e y o
    hears_same w τ p k (Heard x) v e y o a b = det w τ p (k (Told x)) v e y o a b
    hears_same w τ p k Nobody v e y o a b = det w τ p (k Missed) v e y o a b
    hears_same w τ p k (Replied (Completed c)) v e y o a b = det w τ p (k (Finished c)) v e y o a b
    hears_same w τ p k (Replied (Stop n m)) v e y o a b = both_end w τ v e y o (Some (Stop n m)) a.0 a.1 b.0 b.1
    hears_same w τ p k (Replied (Exit n)) v e y o a b = both_end w τ v e y o (Some (Exit n)) a.0 a.1 b.0 b.1
    hears_same w τ p k (Replied (Cut c)) v e y o a b = both_end w τ v e y o (Some (Cut c)) a.0 a.1 b.0 b.1

    answered_same : (w : World O) (τ : List (Event O)) (p : Place) (h : Height) (k : Said → Prog O I) (a : Answer) (v : World O) (e : Ending) (y : World O) (o : Ending) → Answered R w p h k a v e → Answered S (retape w τ) p h k a y o → Agrees w τ v e y o
    answered_same w τ p h k a v e y o (u, s, b) (z, t, c) =
        after_step w τ p (Back h a) u z s t v e y o (hears_same u z.tape p k a v e y o b (subst (λ m. Hears S m p k a y o) (same_step w τ p (Back h a) u z s t) c))

    returns_same : (d : ℕ) (w : World O) (τ : List (Event O)) (p : Place) (h : Height) (down : Path) (k : Said → Prog O I) (m : Ending) (v : World O) (e : Ending) (y : World O) (o : Ending) → Returns R d w p h down k m v e → Returns S d (retape w τ) p h down k m y o → Agrees w τ v e y o
    returns_same d w τ p h down k None v e y o a b = both_end w τ v e y o None a.0 a.1 b.0 b.1
    returns_same d w τ p h down k (Some r) v e y o a b = answered_same w τ p h k (Replied (carried (gone d w.tree p) h p down r)) v e y o a b

    leaves_same : (w : World O) (τ : List (Event O)) (g : Height) (t : Place) (m : Ending) (v y : World O) → Leaves w g t m v → Leaves (retape w τ) g t m y → Agrees w τ v m y m
    leaves_same w τ g t None v y a b = at_once w τ v None y None a b refl
    leaves_same w τ g t (Some r) v y a b = step_end w τ t (Done g r) v y a b v (Some r) y (Some r) (Some r) refl refl refl refl

    pub visits_same : (w : World O) (τ : List (Event O)) (g : Height) (t : Place) (i : Entry) (v : World O) (e : Ending) (y : World O) (o : Ending) → Visits prog R w g t i v e → Visits prog S (retape w τ) g t i y o → Agrees w τ v e y o
    visits_same w τ g t i v e y o a b =
        let inner : Agrees w τ a.left e b.left o = step_goes_on w τ t t (In g i) a.entered b.entered (prog.entry i) a.left e b.left o a.entry b.entry a.run b.run in
        let out : Leaves (retape a.left inner.rest) g t e y = subst (λ l. Leaves (retape a.left inner.rest) g t l y) inner.ending (subst (λ l. Leaves l g t o y) inner.world b.leaving) in
        let whole : Agrees w τ v e y e = after_run w τ a.left e b.left o inner v e y e (leaves_same a.left inner.rest g t e v y a.leaving out) in
        subst (λ l. Agrees w τ v e y l) (sym inner.ending) whole

    reaches_same : (w : World O) (τ : List (Event O)) (p : Place) (h : Height) (down : Path) (i : Entry) (lost : Completion) (k : Said → Prog O I) (t : Option Place) (v : World O) (e : Ending) (y : World O) (o : Ending) → Reaches prog R w p h down i lost k t v e → Reaches prog S (retape w τ) p h down i lost k t y o → Agrees w τ v e y o
    reaches_same w τ p h down i lost k None v e y o a b = answered_same w τ p h k (Replied (Completed lost)) v e y o a b
    reaches_same w τ p h down i lost k (Some t) v e y o (u, m, a, a2) (z, n, b, b2) =
        let vis : Agrees w τ u m z n = visits_same w τ (Some (length down)) t i u m z n a b in
        after_run w τ u m z n vis v e y o (returns_same (depth_of (w.tree p)) u vis.rest p h down k m v e y o a2
        (subst (λ l. Returns S (depth_of (w.tree p)) (retape u vis.rest) p h down k l y o) vis.ending (subst (λ l. Returns S (depth_of (w.tree p)) l p h down k n y o) vis.world b2)))

    calls_same : (w : World O) (τ : List (Event O)) (p : Place) (h : Height) (down : Path) (i : Entry) (lost : Completion) (k : Said → Prog O I) (a : Option Place) (v : World O) (e : Ending) (y : World O) (o : Ending) → Calls prog R w p h down i lost k a v e → Calls prog S (retape w τ) p h down i lost k a y o → Agrees w τ v e y o
    calls_same w τ p h down i lost k None v e y o a b = det w τ p (wait (Some (h, i, depth_of (w.tree p))) (or_lost lost k)) v e y o a b
    calls_same w τ p h down i lost k (Some t) v e y o a b = reaches_same w τ p h down i lost k (reached w.tree t down) v e y o a b

    exits_same : (w : World O) (τ : List (Event O)) (p : Place) (s : Wait) (n : ℤ) (ms : List (Move O)) (v : World O) (e : Ending) (y : World O) (o : Ending) → Exits w p s n ms v e → Exits (retape w τ) p s n ms y o → Agrees w τ v e y o
    exits_same w τ p s n [] v e y o a b = both_halt w τ v e y o a b
    exits_same w τ p s n (Come x ∷ ms) v e y o a b = by (ends_call s n x) a b
      where
        by : (l : Bool) → Exiting w p s n l v e → Exiting (retape w τ) p s n l y o → Agrees w τ v e y o
        by false a b = both_halt w τ v e y o a b
        by true (s1, f) (s2, g) = step_end w τ p (Back (height_of s) (Replied (Exit n))) v y s1 s2 v e y o (Some (Exit n)) refl f refl g
    exits_same w τ p s n (Born x l ∷ ms) v e y o a b = both_halt w τ v e y o a b
    exits_same w τ p s n (Fall ∷ ms) v e y o a b = both_halt w τ v e y o a b
    exits_same w τ p s n (Enter t i ∷ ms) v e y o a b = both_halt w τ v e y o a b

    stays_same : (w : World O) (τ : List (Event O)) (p : Place) (s : Wait) (k : Said → Prog O I) (m : Ending) (v : World O) (e : Ending) (y : World O) (o : Ending) → Stays R w p s k m v e → Stays S (retape w τ) p s k m y o → Agrees w τ v e y o
    stays_same w τ p s k None v e y o a b = both_end w τ v e y o None a.0 a.1 b.0 b.1
    stays_same w τ p s k (Some (Exit n)) v e y o a b = exits_same w τ p s n w.moves v e y o a b
    stays_same w τ p s k (Some (Completed c)) v e y o a b = det w τ p (wait s k) v e y o a b
    stays_same w τ p s k (Some (Stop n m)) v e y o a b = det w τ p (wait s k) v e y o a b
    stays_same w τ p s k (Some (Cut c)) v e y o a b = det w τ p (wait s k) v e y o a b

    enters_same : (w : World O) (τ : List (Event O)) (p : Place) (s : Wait) (k : Said → Prog O I) (t : Path) (i : Entry) (n : Option (Node O)) (v : World O) (e : Ending) (y : World O) (o : Ending) → Enters prog R w p s k t i n v e → Enters prog S (retape w τ) p s k t i n y o → Agrees w τ v e y o
    enters_same w τ p s k t i None v e y o (u, a, b) (z, a2, b2) = step_goes_on w τ p [] (Unfound t i (prog.lost t)) u z (wait s k) v e y o a a2 b b2
    enters_same w τ p s k t i (Some x) v e y o (u, m, a, a2) (z, n, b, b2) =
        let vis : Agrees w τ u m z n = visits_same w τ None t i u m z n a b in
        after_run w τ u m z n vis v e y o (stays_same u vis.rest p s k m v e y o a2
        (subst (λ l. Stays S (retape u vis.rest) p s k l y o) vis.ending (subst (λ l. Stays S l p s k n y o) vis.world b2)))

    moves_same : (w : World O) (τ : List (Event O)) (p : Place) (s : Wait) (k : Said → Prog O I) (m : Move O) (v : World O) (e : Ending) (y : World O) (o : Ending) → Moves prog R w p s k m v e → Moves prog S (retape w τ) p s k m y o → Agrees w τ v e y o
    moves_same w τ p s k (Come a) v e y o b c = answered_same w τ p (height_of s) k a v e y o b c
    moves_same w τ p s k (Born x l) v e y o (u, t, a) (z, t2, b) = step_goes_on w τ p [] (Made x l) u z (wait s k) v e y o t t2 a b
    moves_same w τ p s k Fall v e y o (u, t, a) (z, t2, b) = step_goes_on w τ p [] Dropped u z (wait s k) v e y o t t2 a b
    moves_same w τ p s k (Enter t i) v e y o a b = enters_same w τ p s k t i (w.tree t) v e y o a b

    fitting_same : (w : World O) (τ : List (Event O)) (p : Place) (s : Wait) (k : Said → Prog O I) (l : Bool) (m : Move O) (v : World O) (e : Ending) (y : World O) (o : Ending) → Fitting prog R w p s k l m v e → Fitting prog S (retape w τ) p s k l m y o → Agrees w τ v e y o
    fitting_same w τ p s k false m v e y o a b = both_halt w τ v e y o a b
    fitting_same w τ p s k true m v e y o a b = moves_same w τ p s k m v e y o a b

    waits_same : (w : World O) (τ : List (Event O)) (p : Place) (s : Wait) (k : Said → Prog O I) (ms : List (Move O)) (v : World O) (e : Ending) (y : World O) (o : Ending) → Waits prog R w p s k ms v e → Waits prog S (retape w τ) p s k ms y o → Agrees w τ v e y o
    waits_same w τ p s k [] v e y o a b = both_halt w τ v e y o a b
    waits_same w τ p s k (m ∷ ms) v e y o a b = fitting_same w τ p s k (fits w.tree p s m) m v e y o a b

    acted_same : (w u : World O) (τ : List (Event O)) (p : Place) (k : Tree O → Prog O I) (x : Next) (v : World O) (e : Ending) (y : World O) (o : Ending) → Acted R w u p k x v e → Acted S w (retape u τ) p k x y o → Agrees u τ v e y o
    acted_same w u τ p k (Off r) v e y o a b = both_end u τ v e y o (Some r) a.0 a.1 b.0 b.1
    acted_same w u τ p k On v e y o a b = det u τ p (k (at w.tree p)) v e y o a b
    acted_same w u τ p k TooDeep v e y o a b = det u τ p (k (at w.tree p)) v e y o a b

    acts_same : (w : World O) (τ : List (Event O)) (p : Place) (x : Option (Deed O)) (k : Tree O → Prog O I) (v : World O) (e : Ending) (y : World O) (o : Ending) → Acts R w p x k v e → Acts S (retape w τ) p x k y o → Agrees w τ v e y o
    acts_same w τ p None k v e y o a b = both_halt w τ v e y o a b
    acts_same w τ p (Some x) k v e y o (u, s, a) (z, t, b) =
        after_step w τ (spot p x.0) x.1 u z s t v e y o (acted_same w u z.tape p k x.2 v e y o a (subst (λ m. Acted S w m p k x.2 y o) (same_step w τ (spot p x.0) x.1 u z s t) (retaped x.2 b)))
      where
        retaped : (n : Next) → Acted S (retape w τ) z p k n y o → Acted S w z p k n y o
        retaped (Off r) b = b
        retaped On b = b
        retaped TooDeep b = b

    opened_same : (w : World O) (τ : List (Event O)) (p : Place) (l : Wrap O) (i : I) (k : Completion → Prog O I) (x : Next) (v : World O) (e : Ending) (y : World O) (o : Ending) → Opened prog R w p l i k x v e → Opened prog S (retape w τ) p l i k x y o → Agrees w τ v e y o
    opened_same w τ p l i k (Off r) v e y o a b = both_end w τ v e y o (Some r) a.0 a.1 b.0 b.1
    opened_same w τ p l i k TooDeep v e y o a b = det w τ p (k (refusal (Full Depth))) v e y o a b
    opened_same w τ p l i k On v e y o (u, m, a, a2) (z, n, b, b2) =
        let r : Agrees w τ u m z n = det w τ p (prog.program i) u m z n a b in
        after_run w τ u m z n r v e y o (closes_same (w.tree p) u r.rest p l k m v e y o a2 (subst (λ j. Closes S (w.tree p) (retape u r.rest) p l k j y o) r.ending (subst (λ j. Closes S (w.tree p) j p l k n y o) r.world b2)))

    opens_same : (w : World O) (τ : List (Event O)) (p : Place) (x : Option (Deed O)) (l : Wrap O) (i : I) (k : Completion → Prog O I) (v : World O) (e : Ending) (y : World O) (o : Ending) → Opens prog R w p x l i k v e → Opens prog S (retape w τ) p x l i k y o → Agrees w τ v e y o
    opens_same w τ p None l i k v e y o a b = both_halt w τ v e y o a b
    opens_same w τ p (Some x) l i k v e y o (u, s, a) (z, t, b) =
        after_step w τ (spot p x.0) x.1 u z s t v e y o (opened_same u z.tape p l i k x.2 v e y o a (subst (λ m. Opened prog S m p l i k x.2 y o) (same_step w τ (spot p x.0) x.1 u z s t) b))

    pub unrolled_same : (w : World O) (τ : List (Event O)) (p : Place) (x : Prog O I) (v : World O) (e : Ending) (y : World O) (o : Ending) → Unrolled prog R w p x v e → Unrolled prog S (retape w τ) p x y o → Agrees w τ v e y o
    unrolled_same w τ p (done c) v e y o a b = both_end w τ v e y o (Some (Completed c)) a.0 a.1 b.0 b.1
    unrolled_same w τ p (exit n) v e y o a b = both_end w τ v e y o (Some (Exit n)) a.0 a.1 b.0 b.1
    unrolled_same w τ p (act d k) v e y o a b = acts_same w τ p (decide d w.tree p w.grants) k v e y o a b
    unrolled_same w τ p (go i k) v e y o (u, m, a, a2) (z, n, b, b2) =
        let r : Agrees w τ u m z n = det w τ p (prog.program i) u m z n a b in
        after_run w τ u m z n r v e y o (then_same u r.rest p k m v e y o a2 (subst (λ l. Then S (retape u r.rest) p k l y o) r.ending (subst (λ l. Then S l p k n y o) r.world b2)))
    unrolled_same w τ p (inside l i k) v e y o a b = opens_same w τ p (opens l w.tree p w.grants) l i k v e y o a b
    unrolled_same w τ p (call h down i lost k) v e y o (u, s, a) (z, t, b) =
        after_step w τ p (Out h down i) u z s t v e y o (calls_same u z.tape p h down i lost k (rise_to h p) v e y o a (subst (λ m. Calls prog S m p h down i lost k (rise_to h p) y o) (same_step w τ p (Out h down i) u z s t) b))
    unrolled_same w τ p (wait s k) v e y o (f, a) (g, b) = waits_same w τ p s k w.moves v e y o a b

  same_in : (prog : Table O I) (n : ℕ) → Determines (RunsIn prog n) (Runs prog)
  same_in prog zero w τ p x v e y o a b = absurd a
  same_in prog (suc n) w τ p x v e y o a b = unrolled_same prog (RunsIn prog n) (Runs prog) (same_in prog n) w τ p x v e y o a (unroll prog (retape w τ) p x y o b)

  pub runs_same : (prog : Table O I) → Determines (Runs prog) (Runs prog)
  runs_same prog w τ p x v e y o (n, a) b = same_in prog n w τ p x v e y o a b
