-- What a player reads and is told at the top of the tree: an entry and its end, an answer.
use Rattle.std.proofs.Common.{sym, ◌≡◌, ℕ, suc, ◌+◌, true, List, [], ◌∷◌, ◌++◌, Option, Some, None, refl, ◌∙◌, ap, subst, arith, append-nil, append_assoc}
use Rattle.tcl_core.specs.Paths.{Path, Place, Height, rise_to}
use Rattle.tcl_core.specs.Endings.{Reply, Cause, Completion}
use Rattle.tcl_core.specs.Endings.Reply.{Completed, Stop, Exit, Cut}
use Rattle.tcl_core.specs.Entries.{Entry, Answer}
use Rattle.tcl_core.specs.Entries.Answer.{Replied, Heard, Nobody}
use Rattle.tcl_core.specs.Trees.{Tree, Event, Move, where_none}
use Rattle.tcl_core.specs.Trees.Grants.{Budget}
use Rattle.tcl_core.specs.Trees.What.{In, Done, Back, Unfound}
use Rattle.tcl_core.specs.Trees.Move.{Enter, Come}
use Rattle.tcl_core.specs.Programs.{Wait, Prog, Table}
use Rattle.tcl_core.specs.Programs.Prog.{wait}
use Rattle.tcl_core.specs.Runs.{fits, height_of}
use Rattle.tcl_core.specs.Rules.{IsNoExit}
use Rattle.tcl_core.specs.Execution.{Crossings, Executes, event}
use Rattle.tcl_core.specs.Execution.Executes.{completed, exited, acted, refused, went, passed, wrapped, wrapped_passed, too_deep, shut, called, called_passed, unreached, called_out, answered, heard, missed, answered_passed, entered, entered_exiting, unfound}
use Rattle.tcl_core.specs.Lives.{Uncut, begun, ended, ending_of, outs_of}
use Rattle.tcl_core.specs.Lives.Outcome.{Finished}
use Rattle.tcl_core.proofs.Beginnings.{outs_append}
use Rattle.tcl_core.proofs.Following.{handed, allowed, handed-append, allowed-append}
use Rattle.tcl_core.proofs.Unended.{NotCut}
use Rattle.tcl_reactions.specs.Playing.{Answers, Fate, HandsIn, IsCut, IsEnd, IsNoCut, Player, last_end, past, plays, reading, telling, FindsNobody}
use Rattle.tcl_reactions.specs.Playing.Answers.{reads, ends, waits, unfits, passes}
use Rattle.tcl_reactions.proofs.Ways.{Calm, Way, begun_append, ended_append, outcome_append, tells_on, tells_over, uncut_append}
use Rattle.tcl_reactions.proofs.Ways.{fits_end}

pub not_some : {A B : Type 0} (o : Option A) (x : A) → o ≡ None → o ≡ Some x → B
not_some o x e f = absurd (bad e f)
  where
    bad : o ≡ None → o ≡ Some x → Prim.⊥
    bad g h = cc

pub cut_of : (b : Answer) → IsCut b → (c : Cause) × (b ≡ Replied (Cut c))
cut_of (Heard a) f = absurd f
cut_of Nobody f = absurd f
cut_of (Replied (Completed c)) f = absurd f
cut_of (Replied (Stop n m)) f = absurd f
cut_of (Replied (Exit n)) f = absurd f
cut_of (Replied (Cut c)) f = (c, refl)

pub reply_no_cut : (r : Reply) → IsNoCut (Replied r) → NotCut r
reply_no_cut (Completed c) f = tt
reply_no_cut (Stop n m) f = tt
reply_no_cut (Exit n) f = tt
reply_no_cut (Cut c) f = f

back_uncut : (O : Type 0) (p : Place) (h : Height) (a : Answer) → IsNoCut a → Uncut {O = O} p (Back h a)
back_uncut O p h (Heard x) f = tt
back_uncut O p h Nobody f = tt
back_uncut O p h (Replied (Completed c)) f = tt
back_uncut O p h (Replied (Stop n m)) f = tt
back_uncut O p h (Replied (Exit n)) f = tt
back_uncut O p h (Replied (Cut c)) f = absurd f

done_uncut : (O : Type 0) (p : Place) (r : Reply) → NotCut r → Uncut {O = O} p (Done None r)
done_uncut O p (Completed c) f = tt
done_uncut O p (Stop n m) f = tt
done_uncut O p (Exit n) f = tt
done_uncut O p (Cut c) f = absurd f

pub calm_ending : (r : Reply) → IsNoExit r → Calm (ending_of r)
calm_ending (Completed c) f = tt
calm_ending (Stop n m) f = tt
calm_ending (Cut c) f = tt
calm_ending (Exit n) f = f

module _ {O : Type 0} where
  -- WHAT PASSES THE TOP
  pub answers_at : (T : Tree O) (s : Wait) (p : Place) (h : Height) (a : Answer) (o u : Player O) → rise_to h p ≡ None → Crossings plays T o s (event p (Back h a)) u → Answers T p o s a u
  answers_at T s p h a o u e c = subst (λ l. past l o u (Answers T p o s a u)) e c.told

  pub back_way : (p : Place) (h : Height) (a : Answer) (o u : Player O) (ms : List (Move O)) → rise_to h p ≡ None → o.fate ≡ None → o.left ≡ Come a ∷ ms → IsNoCut a → u ≡ reading o ms → Way 0 o (event p (Back h a) ∷ []) u
  back_way p h a o u ms e n l f q = record {
    moves = l ∙ ap (λ z. Come a ∷ z.left) (sym q) ∙ sym (ap (λ l2. where_none l2 (Come a) u.left) e);
    steps = ap (λ z. Budget z.steps) (sym q);
    outs = ap (λ z. z.outs) q ∙ sym (append-nil o.outs);
    goes_on = ap (λ z. z.fate) q ∙ n;
    uncut = (back_uncut O p h a f, tt);
    owed = let z : begun (event {O = O} p (Back h a) ∷ []) ≡ 0 = refl in let y : ended (event {O = O} p (Back h a) ∷ []) ≡ 0 = refl in omega arith;
  }

  pub same_end : (o u : Player O) (ms : List (Move O)) → u ≡ reading o ms → last_end u ≡ last_end o
  same_end o u ms q = ap last_end q

  -- an entry begins
  pub in_way : (j : ℕ) (t : Path) (i : Entry) (o o1 u : Player O) (τ : List (Event O)) → HandsIn o t i o1 → Way j o1 τ u → Way (suc j) o (event t (In None i) ∷ τ) u
  in_way j t i o o1 u τ h w =
      let q : o1 ≡ reading o o1.left = h.2 in
      record {
        moves = h.1 ∙ ap (λ l. Enter t i ∷ l) w.moves;
        steps = ap (λ z. Budget z.steps) (sym q) ∙ w.steps;
        outs = w.outs ∙ ap (λ z. z.outs ++ outs_of τ) q;
        goes_on = w.goes_on;
        uncut = (tt, w.uncut);
        owed =
            let e : begun τ ≡ ended τ + j = w.owed in
            let f : begun (event t (In None i) ∷ τ) ≡ suc (begun τ) = refl in
            let g : ended (event t (In None i) ∷ τ) ≡ ended τ = refl in
            omega arith;
      }

  -- and comes to its end
  pub visit_way : (t : Path) (i : Entry) (y : Reply) (o o1 o2 o3 : Player O) (τ : List (Event O)) → HandsIn o t i o1 → Way 0 o1 τ o2 → o3 ≡ telling o2 (event t (Done None y)) → NotCut y → Way 0 o (event t (In None i) ∷ (τ ++ event t (Done None y) ∷ [])) o3
  visit_way t i y o o1 o2 o3 τ h w q n =
      let dn : Event O = event t (Done None y) in
      let w1 : Way 1 o (event t (In None i) ∷ τ) o2 = in_way 0 t i o o1 o2 τ h w in
      record {
        moves = w1.moves ∙ ap (λ l. Enter t i ∷ l) (ap (λ z. handed τ z.left) (sym q) ∙ sym (handed-append τ (dn ∷ []) o3.left));
        steps = w1.steps ∙ ap (λ z. allowed τ (Budget z.steps)) (sym q) ∙ sym (allowed-append τ (dn ∷ []) (Budget o3.steps));
        outs = ap (λ z. z.outs) q ∙ ap (λ l. l ++ dn ∷ []) w1.outs ∙ append_assoc o.outs (outs_of τ) (dn ∷ []) ∙ ap (λ l. o.outs ++ l) (sym (outs_append τ (dn ∷ [])));
        goes_on = ap (λ z. z.fate) q ∙ w.goes_on;
        uncut = (tt, uncut_append τ (dn ∷ []) w.uncut (done_uncut O t y n, tt));
        owed =
            let e : begun τ ≡ ended τ + 0 = w.owed in
            let f : begun (event t (In None i) ∷ (τ ++ dn ∷ [])) ≡ suc (begun (τ ++ dn ∷ [])) = refl in
            let g : ended (event t (In None i) ∷ (τ ++ dn ∷ [])) ≡ ended (τ ++ dn ∷ []) = refl in
            let a : begun (τ ++ dn ∷ []) ≡ begun τ + begun (dn ∷ []) = begun_append τ (dn ∷ []) in
            let b : ended (τ ++ dn ∷ []) ≡ ended τ + ended (dn ∷ []) = ended_append τ (dn ∷ []) in
            let c : begun (dn ∷ []) ≡ 0 = refl in
            let d : ended (dn ∷ []) ≡ 1 = refl in
            omega arith;
      }

  pub done_end : (t : Path) (y : Reply) (o u : Player O) → u ≡ telling o (event t (Done None y)) → last_end u ≡ ending_of y
  done_end t y o u q = ap last_end q ∙ outcome_append o.outs (event t (Done None y) ∷ []) Finished

  -- an entry that finds nobody
  pub unfound_way : (t : Path) (i : Entry) (c : Completion) (o u : Player O) → FindsNobody o t i c u → Way 0 o (event [] (Unfound t i c) ∷ []) u
  unfound_way t i c o u (o1, h, q) =
      let r : o1 ≡ reading o o1.left = h.2 in
      record {
        moves = h.1 ∙ ap (λ z. Enter t i ∷ z.left) (sym q);
        steps = ap (λ z. Budget z.steps) (sym r) ∙ ap (λ z. Budget z.steps) (sym q);
        outs = ap (λ z. z.outs) q ∙ ap (λ z. z.outs ++ event t (Done None (Completed c)) ∷ []) r;
        goes_on = ap (λ z. z.fate) q ∙ ap (λ z. z.fate) r ∙ h.0;
        uncut = (tt, tt);
        owed = refl;
      }

  pub unfound_end : (t : Path) (i : Entry) (c : Completion) (o u : Player O) → FindsNobody o t i c u → last_end u ≡ Finished
  unfound_end t i c o u (o1, h, q) = done_end t (Completed c) o1 u q

  pub done_on : (T : Tree O) (t : Path) (y : Reply) (o u : Player O) → Crossings plays T o None (event t (Done None y)) u → o.fate ≡ None → u ≡ telling o (event t (Done None y))
  done_on T t y o u c n = tells_on o.fate o u (event t (Done None y)) n c.told

  pub done_over : (T : Tree O) (t : Path) (y : Reply) (f : Fate O) (o u : Player O) → Crossings plays T o None (event t (Done None y)) u → o.fate ≡ Some f → u ≡ o
  done_over T t y f o u c n = tells_over o.fate f o u (event t (Done None y)) n c.told

module _ {O I : Type 0} (prog : Table O I) where
  -- once the playing is over, an open call is ended at once
  abbrev pub After : Tree O → Player O → Prog O I → Tree O → Player O → Reply → Type 0
  After T o (wait s k) V z r = (f : Fate O) → o.fate ≡ Some f → (V ≡ T) × (z ≡ o) × IsEnd (Replied r) × (fits T [] s (Come (Replied r)) ≡ true)
  After T o x V z r = Unit {0}

  pub ended_at_once : {A : Type 0} (T : Tree O) (p : Place) (o u : Player O) (s : Wait) (a : Answer) (f : Fate O) → Answers T p o s a u → o.fate ≡ Some f → (u ≡ o → IsEnd a → A) → A
  ended_at_once T p o u s a f (reads ms n l e c q) g k = not_some o.fate f n g
  ended_at_once T p o u s a f (ends b ms n l e c d q) g k = not_some o.fate f n g
  ended_at_once T p o u s a f (waits n l d q) g k = not_some o.fate f n g
  ended_at_once T p o u s a f (unfits m ms n l e d q) g k = not_some o.fate f n g
  ended_at_once T p o u s a f (passes h n d q) g k = k q d

  pub after_end : {T : Tree O} {o : Player O} {p : Place} {x : Prog O I} {V : Tree O} {z : Player O} {r : Reply} → Executes (Crossings plays) prog T o p x V z r → After T o x V z r
  after_end (completed) = tt
  after_end (exited) = tt
  after_end (acted x is_so on s t) = tt
  after_end (refused x is_so off s) = tt
  after_end (went a b) = tt
  after_end (passed q a) = tt
  after_end (wrapped x is_so on s1 a s2 t) = tt
  after_end (wrapped_passed x q is_so on s1 a s2) = tt
  after_end (too_deep x is_so deep s t) = tt
  after_end (shut x is_so off s) = tt
  after_end (called a t e there s1 s2 m s3 so s4 n) = tt
  after_end (called_passed a t e there s1 s2 m s3 so q s4) = tt
  after_end (unreached a e there s1 s2 t) = tt
  after_end (called_out e s t) = tt
  after_end (answered {T} {V} {o} {u} {z} {p} {s} {k} {c} {r} e fit st t) = λ f g. ended_at_once T p o u s (Replied (Completed c)) f (answers_at T s p (height_of s) (Replied (Completed c)) o u e st) g (λ q d. absurd d)
  after_end (heard {T} {V} {o} {u} {z} {p} {s} {k} {a} {r} e fit st t) = λ f g. ended_at_once T p o u s (Heard a) f (answers_at T s p (height_of s) (Heard a) o u e st) g (λ q d. absurd d)
  after_end (missed {T} {V} {o} {u} {z} {p} {s} {k} {r} e fit st t) = λ f g. ended_at_once T p o u s Nobody f (answers_at T s p (height_of s) Nobody o u e st) g (λ q d. absurd d)
  after_end (answered_passed {T} {o} {u} {p} {s} {k} {r} q e fit st) = λ f g. ended_at_once T p o u s (Replied r) f (answers_at T s p (height_of s) (Replied r) o u e st) g (λ q2 d. (refl, q2, d, fits_end O T T p [] s (Replied r) fit r d))
  after_end (entered {o = o} t i e here s1 a s2 n b) = λ f g. not_some o.fate f s1.told.0 g
  after_end (entered_exiting {o = o} t i e here s1 a s2 s3) = λ f g. not_some o.fate f s1.told.0 g
  after_end (unfound {o = o} t i e here s1 b) = λ f g. not_some o.fate f s1.told.1.0 g
