-- A subtree is a whole: what runs do to it is what runs of its own do.
use Rattle.std.proofs.lemmas.Bool.Decides.{nat_tests}
use Rattle.std.proofs.Common.{◌≡◌, ℕ, zero, suc, ℤ, Bool, true, false, List, [], ◌∷◌, ◌++◌, Option, Some, None, length, refl, sym, ◌∙◌, ap, arith, length-append, append_assoc, subst, nat_lt}
use mathlib.Core.Path.{fun_ext}
use Rattle.tcl_core.specs.Paths.{Path, Place, Height, strip, rise_to, seen_height}
use Rattle.tcl_core.specs.Endings.{Completion, Reply, IsQuit, refusal}
use Rattle.tcl_core.specs.Endings.Meter.{Depth}
use Rattle.tcl_core.specs.Endings.Reply.{Completed, Stop, Exit, Cut}
use Rattle.tcl_core.specs.Entries.{Entry, Answer, Said}
use Rattle.tcl_core.specs.Entries.Answer.{Replied, Heard, Nobody}
use Rattle.tcl_core.specs.Entries.Said.{Finished, Told, Missed}
use Rattle.tcl_core.specs.Trees.{Tree, Node, Grants, Grant, granted, at, What, Move, where_none, seen_reply, seen_answer, seen_what, stopped, depth_of}
use Rattle.tcl_core.specs.Trees.Grants.{Listed}
use Rattle.tcl_core.specs.Trees.What.{Made, Dropped, Out, In, Done, Back, Unfound}
use Rattle.tcl_core.specs.Trees.Move.{Born, Fall, Enter, Come}
use Rattle.tcl_core.specs.Programs.{Deed, spot, Act, Wrap, Wait, Next, Prog, Table, decide, opens, closes, brought_back, or_lost}
use Rattle.tcl_core.specs.Programs.Next.{On, TooDeep, Off}
use Rattle.tcl_core.specs.Programs.Wrap.{Deeper, Framed}
use Rattle.tcl_core.specs.Programs.Prog.{done, exit, act, go, inside, call, wait}
use Rattle.tcl_core.specs.Runs.{World, Step, Ending, Run, Halts, Follows, Then, Closes, Acted, Acts, Opened, Opens, Hears, Answered, Leaves, Visits, Returns, Reaches, Calls, Exiting, Exits, Stays, Moves, Fitting, Waits, Unrolled, RunsIn, Runs, carried, where_stands, fits, answers_call, ends_call, height_of, gone, gone_from, is_told, carried_by, gone_by, levels, idle_up, Enters}
use Rattle.tcl_core.specs.Views.{grants_of, moves_of, view, inside_of}
use Rattle.tcl_core.proofs.PathLaws.{child_in, not_both, Some-inj, strip-sound, rise_to_within, rise_to_out, rise_to_elsewhere, rise_to_past, rise_into, seen_out, seen_near}
use Rattle.tcl_core.proofs.TreeLaws.{seen_next, listed, decide_none, opens_none, decide_within, opens_within, closes_seen, step_within, step_apart, step_fall, spot_within, IsBeside, IsLife, elsewhere_life, opens_here}
use Rattle.tcl_core.proofs.Seeing.{carried_within, seen_end, seen_quit, answers_seen, is_exit_self, told_own, gone_from_within, gone_within}
use Rattle.tcl_core.proofs.Folding.{roll}
use Rattle.tcl_core.specs.Endings.Kind.{Full, Gone}

pub top_only : (c q : Place) → strip c [] ≡ Some q → q ≡ []
top_only [] q e = sym (Some-inj [] e)
top_only (x ∷ c) q e = cc

module _ {O : Type 0} where
  -- after an exit the open call ends by it
  pub exit_answer : (w : World O) (q : Place) (s : Wait) (n : ℤ) (v : World O) → rise_to (height_of s) q ≡ None → ends_call s n (Replied (Exit n)) ≡ true → Step w q (Back (height_of s) (Replied (Exit n))) v → Exits w q s n w.moves v (Some (Exit n))
  exit_answer w q s n v f g t =
      let m : w.moves ≡ Come (Replied (Exit n)) ∷ v.moves = t.moves ∙ ap (λ o. where_none o (Come (Replied (Exit n))) v.moves) f in
      subst (λ l. Exits w q s n l v (Some (Exit n))) (sym m) (subst (λ b. Exiting w q s n b v (Some (Exit n))) (sym g) (t, refl))

  exit_halt : (w : World O) (q : Place) (s : Wait) (n : ℤ) (v : World O) (e : Ending) → w.moves ≡ [] → Halts w v e → Exits w q s n w.moves v e
  exit_halt w q s n v e m a = subst (λ l. Exits w q s n l v e) (sym m) a

  halts_within : (c : Place) (w v : World O) (e : Ending) (q : Place) → Halts w v e → Halts (inside_of c w) (inside_of c v) (seen_end q e)
  halts_within c w v e q a = record { tape = ap (view c) a.tape; same = ap (inside_of c) a.same; ending = ap (seen_end q) a.ending }

  no_moves : (c : Place) (w v : World O) (e : Ending) → Halts w v e → (inside_of c w).moves ≡ []
  no_moves c w v e a = ap (λ τ. moves_of (view c τ)) a.tape

  spot_only : (c p : Place) (d : Act O) (T : Tree O) (gs : Grants) (x : Deed O) → decide d T p gs ≡ Some x → strip c p ≡ None → (s : Option (List ℕ)) → x.0 ≡ s → (q : Place) → strip c (spot p s) ≡ Some q → (q ≡ []) × IsLife x.1
  spot_only c p d T gs x e f None g q h = absurd (not_both f h)
  spot_only c p d T gs x e f (Some name) g q h = (child_in c p q name f h, elsewhere_life d T p gs x name e g)

  -- what a wrap undoes elsewhere
  closes_beside : (c p : Place) (b : Wrap O) (m n : Option (Node O)) → IsBeside c p (closes b m n)
  closes_beside c p Deeper m n = tt
  closes_beside c p (Framed o back) m n = by (nat_lt (depth_of n) (depth_of m)) n
    where
      by : (t : Bool) (n : Option (Node O)) → IsBeside c p (brought_back t back n)
      by t None = tt
      by true (Some n) = tt
      by false (Some n) = tt

  at_at : (c q : Place) (T : Tree O) → at T (c ++ q) ≡ at (at T c) q
  at_at c q T = fun_ext λ r. ap T (append_assoc c q r)

module _ {O I : Type 0} where
  -- c's call stays open, or control at its top stays outside, after a run elsewhere or an entry that ended so
  abbrev pub Stands : Table O I → World O → Place → Wait → (Said → Prog O I) → Ending → World O → Ending → Type 0
  Stands prog w q s k None z o = (z ≡ w) × (o ≡ None)
  Stands prog w q s k (Some r) z o = Runs prog w q (wait s k) z o × Stays (Runs prog) w q s k (Some r) z o

  -- runs in c are runs of c's own
  abbrev pub Projects : Table O I → Place → Run O I → Type 0
  Projects prog c R = (w : World O) (q : Place) (x : Prog O I) (v : World O) (e : Ending) → R w (c ++ q) x v e → Runs prog (inside_of c w) q x (inside_of c v) (seen_end q e)

  -- runs elsewhere are what c, waiting for an answer from outside, does meanwhile
  abbrev pub Resumes : Table O I → Place → Run O I → Type 0
  Resumes prog c R = (w : World O) (p : Place) (x : Prog O I) (v : World O) (e : Ending) → strip c p ≡ None → R w p x v e →
      (q : Place) (s : Wait) (k : Said → Prog O I) (z : World O) (o : Ending) → rise_to (height_of s) q ≡ None → Stands prog (inside_of c v) q s k e z o → Runs prog (inside_of c w) q (wait s k) z o

  -- what a wait can do
  pub wait_halt : (prog : Table O I) (w : World O) (q : Place) (s : Wait) (k : Said → Prog O I) (v : World O) (e : Ending) → rise_to (height_of s) q ≡ None → w.moves ≡ [] → Halts w v e → Runs prog w q (wait s k) v e
  wait_halt prog w q s k v e f m a = roll prog w q (wait s k) v e (f, subst (λ ms. Waits prog (Runs prog) w q s k ms v e) (sym m) a)

  fitted : (prog : Table O I) (w : World O) (q : Place) (s : Wait) (k : Said → Prog O I) (m : Move O) (ms : List (Move O)) (v : World O) (e : Ending) → rise_to (height_of s) q ≡ None → w.moves ≡ m ∷ ms → fits w.tree q s m ≡ true → Moves prog (Runs prog) w q s k m v e → Runs prog w q (wait s k) v e
  fitted prog w q s k m ms v e f g h a =
      roll prog w q (wait s k) v e (f, subst (λ l. Waits prog (Runs prog) w q s k l v e) (sym g) (subst (λ b. Fitting prog (Runs prog) w q s k b m v e) (sym h) a))

  pub wait_answer : (prog : Table O I) (w : World O) (q : Place) (s : Wait) (k : Said → Prog O I) (a : Answer) (v : World O) (e : Ending) → rise_to (height_of s) q ≡ None → answers_call (gone_from s w.tree q) s a ≡ true → Answered (Runs prog) w q (height_of s) k a v e → Runs prog w q (wait s k) v e
  wait_answer prog w q s k a v e f g (u, t, b) =
      fitted prog w q s k (Come a) u.moves v e f (t.moves ∙ ap (λ o. where_none o (Come a) u.moves) f) g (u, t, b)

  pub wait_enter : (prog : Table O I) (w : World O) (q : Place) (s : Wait) (k : Said → Prog O I) (t : Place) (i : Entry) (u : World O) (o : Ending) (v : World O) (e : Ending) → rise_to (height_of s) q ≡ None → Visits prog (Runs prog) w None t i u o → Stays (Runs prog) u q s k o v e → Runs prog w q (wait s k) v e
  wait_enter prog w q s k t i u o v e f a b = fitted prog w q s k (Enter t i) a.entered.moves v e f a.entry.moves refl (subst (λ n. Enters prog (Runs prog) w q s k t i n v e) (sym a.stands) (u, o, a, b))

  pub wait_unfound : (prog : Table O I) (w : World O) (q : Place) (s : Wait) (k : Said → Prog O I) (t : Path) (i : Entry) (u v : World O) (e : Ending) → rise_to (height_of s) q ≡ None → w.tree t ≡ None → Step w [] (Unfound t i (prog.lost t)) u → Runs prog u q (wait s k) v e → Runs prog w q (wait s k) v e
  wait_unfound prog w q s k t i u v e f g a b = fitted prog w q s k (Enter t i) u.moves v e f a.moves refl (subst (λ n. Enters prog (Runs prog) w q s k t i n v e) (sym g) (u, a, b))

  pub wait_born : (prog : Table O I) (w : World O) (q : Place) (s : Wait) (k : Said → Prog O I) (o : O) (b : Bool) (u v : World O) (e : Ending) → rise_to (height_of s) q ≡ None → Step w [] (Made o b) u → Runs prog u q (wait s k) v e → Runs prog w q (wait s k) v e
  wait_born prog w q s k o b u v e f t a = fitted prog w q s k (Born o b) u.moves v e f t.moves refl (u, t, a)

  pub wait_fall : (prog : Table O I) (w : World O) (q : Place) (s : Wait) (k : Said → Prog O I) (u v : World O) (e : Ending) → rise_to (height_of s) q ≡ None → Step w [] Dropped u → Runs prog u q (wait s k) v e → Runs prog w q (wait s k) v e
  wait_fall prog w q s k u v e f t a = fitted prog w q s k Fall u.moves v e f t.moves refl (u, t, a)

  -- c stands still where the rest halts
  stands_halt : (prog : Table O I) (c : Place) (w v : World O) (e : Ending) (q : Place) (s : Wait) (k : Said → Prog O I) (z : World O) (o : Ending) → Halts w v e → Stands prog (inside_of c v) q s k e z o → Halts (inside_of c w) z o
  stands_halt prog c w v e q s k z o a b =
      let b2 : (z ≡ inside_of c v) × (o ≡ None) = subst (λ e2. Stands prog (inside_of c v) q s k e2 z o) a.ending b in
      record { tape = ap (view c) a.tape; same = b2.0 ∙ ap (inside_of c) a.same; ending = b2.1 }

  -- c's wait, where the whole halts or has ended
  stands_wait : (prog : Table O I) (w : World O) (q : Place) (s : Wait) (k : Said → Prog O I) (r : Reply) (z : World O) (o : Ending) → Stands prog w q s k (Some r) z o → Runs prog w q (wait s k) z o
  stands_wait prog w q s k r z o a = a.0

  -- where no exit is due the wait just goes on
  stands_on : (prog : Table O I) (w : World O) (q : Place) (s : Wait) (k : Said → Prog O I) (c : Completion) (z : World O) (o : Ending) → Runs prog w q (wait s k) z o → Stands prog w q s k (Some (Completed c)) z o
  stands_on prog w q s k c z o a = (a, a)

  -- an entry into c, after which c stands as it is seen
  stays_seen : (prog : Table O I) (w : World O) (q2 q : Place) (s : Wait) (k : Said → Prog O I) (e : Ending) (z : World O) (o : Ending) → Stands prog w q s k e z o → Stays (Runs prog) w q s k (seen_end q2 e) z o
  stays_seen prog w q2 q s k None z o a = a
  stays_seen prog w q2 q s k (Some (Completed c)) z o a = a.1
  stays_seen prog w q2 q s k (Some (Exit n)) z o a = a.1
  stays_seen prog w q2 q s k (Some (Cut c)) z o a = a.0
  stays_seen prog w q2 q s k (Some (Stop n Gone)) z o a = a.0
  stays_seen prog w q2 q s k (Some (Stop n (Full m))) z o a = go (nat_lt (length q2) n)
    where
      go : (b : Bool) → Stays (Runs prog) w q s k (Some (stopped b n m)) z o
      go true = a.0
      go false = a.0

  -- c, waiting while something happens elsewhere
  wait_apart : (prog : Table O I) (c t : Place) (x : What O) (w u : World O) (q : Place) (s : Wait) (k : Said → Prog O I) (z : World O) (o : Ending) → Step w t x u → strip c t ≡ None → rise_to (height_of s) q ≡ None → Runs prog (inside_of c u) q (wait s k) z o → (b : Option Place) → strip t c ≡ b → Runs prog (inside_of c w) q (wait s k) z o
  wait_apart prog c t Dropped w u q s k z o a e f r None g = subst (λ m. Runs prog m q (wait s k) z o) (step_apart c t Dropped w u a e g) r
  wait_apart prog c t Dropped w u q s k z o a e f r (Some y) g = wait_fall prog (inside_of c w) q s k (inside_of c u) z o f (step_fall c t y w u a e g) r
  wait_apart prog c t x w u q s k z o a e f r b g = subst (λ m. Runs prog m q (wait s k) z o) (step_apart c t x w u a e tt) r

  -- c, waiting while it is made or dropped
  wait_life : (prog : Table O I) (w : World O) (q2 : Place) (x : What O) (u : World O) (q : Place) (s : Wait) (k : Said → Prog O I) (z : World O) (o : Ending) → Step w q2 (seen_what q2 x) u → q2 ≡ [] → IsLife x → rise_to (height_of s) q ≡ None → Runs prog u q (wait s k) z o → Runs prog w q (wait s k) z o
  wait_life prog w q2 (Made y b) u q s k z o a e l f r = wait_born prog w q s k y b u z o f (subst (λ p. Step w p (Made y b) u) e a) r
  wait_life prog w q2 Dropped u q s k z o a e l f r = wait_fall prog w q s k u z o f (subst (λ p. Step w p Dropped u) e a) r
  wait_life prog w q2 x u q s k z o a e l f r = absurd l

  -- c, waiting while anything happens that is no step of its own
  meanwhile : (prog : Table O I) (c t : Place) (x : What O) (w u : World O) (q : Place) (s : Wait) (k : Said → Prog O I) (z : World O) (o : Ending) → Step w t x u → ((q2 : Place) → strip c t ≡ Some q2 → (q2 ≡ []) × IsLife x) → rise_to (height_of s) q ≡ None → Runs prog (inside_of c u) q (wait s k) z o → Runs prog (inside_of c w) q (wait s k) z o
  meanwhile prog c t x w u q s k z o a l f r = go (strip c t) refl
    where
      go : (b : Option Place) → strip c t ≡ b → Runs prog (inside_of c w) q (wait s k) z o
      go None e = wait_apart prog c t x w u q s k z o a e f r (strip t c) refl
      go (Some q2) e =
          let y : (q2 ≡ []) × IsLife x = l q2 e in
          wait_life prog (inside_of c w) q2 x (inside_of c u) q s k z o (step_within c q2 x w u (subst (λ p. Step w p x u) (strip-sound c t q2 e) a)) y.0 y.1 f r

  -- c, waiting while an entry into the whole finds nobody
  unfound_meanwhile : (prog : Table O I) (c : Place) (t : Path) (i : Entry) (w u : World O) (q : Place) (s : Wait) (k : Said → Prog O I) (z : World O) (o : Ending) → w.tree t ≡ None → Step w [] (Unfound t i (prog.lost t)) u → rise_to (height_of s) q ≡ None → Runs prog (inside_of c u) q (wait s k) z o → Runs prog (inside_of c w) q (wait s k) z o
  unfound_meanwhile prog [] t i w u q s k z o g a f r = wait_unfound prog (inside_of [] w) q s k t i (inside_of [] u) z o f g (step_within [] [] (Unfound t i (prog.lost t)) w u a) r
  unfound_meanwhile prog (x ∷ c) t i w u q s k z o g a f r = subst (λ m. Runs prog m q (wait s k) z o) (step_apart (x ∷ c) [] (Unfound t i (prog.lost t)) w u a refl tt) r

  pub quits : (prog : Table O I) (w : World O) (q : Place) (k : Completion → Prog O I) (r : Reply) (v : World O) (e : Ending) → IsQuit r → v ≡ w → e ≡ Some r → Follows (Runs prog) w q k r v e
  quits prog w q k (Completed c) v e f a b = absurd f
  quits prog w q k (Stop n m) v e f a b = (a, b)
  quits prog w q k (Exit n) v e f a b = (a, b)
  quits prog w q k (Cut c) v e f a b = (a, b)

  pub hears_quit : (prog : Table O I) (w : World O) (q : Place) (k : Said → Prog O I) (r : Reply) (v : World O) (e : Ending) → IsQuit r → v ≡ w → e ≡ Some r → Hears (Runs prog) w q k (Replied r) v e
  hears_quit prog w q k (Completed c) v e f a b = absurd f
  hears_quit prog w q k (Stop n m) v e f a b = (a, b)
  hears_quit prog w q k (Exit n) v e f a b = (a, b)
  hears_quit prog w q k (Cut c) v e f a b = (a, b)

  module _ (prog : Table O I) (c : Place) (R : Run O I) (ins : Projects prog c R) (out : Resumes prog c R) where
    -- how c goes on
    follows_within : (w : World O) (q : Place) (k : Completion → Prog O I) (r : Reply) (v : World O) (e : Ending) → Follows R w (c ++ q) k r v e → Follows (Runs prog) (inside_of c w) q k (seen_reply q r) (inside_of c v) (seen_end q e)
    follows_within w q k (Completed x) v e a = ins w q (k x) v e a
    follows_within w q k (Stop n m) v e a = quits prog (inside_of c w) q k (seen_reply q (Stop n m)) (inside_of c v) (seen_end q e) (seen_quit q (Stop n m) tt) (ap (inside_of c) a.0) (ap (seen_end q) a.1)
    follows_within w q k (Exit n) v e a = (ap (inside_of c) a.0, ap (seen_end q) a.1)
    follows_within w q k (Cut x) v e a = (ap (inside_of c) a.0, ap (seen_end q) a.1)

    then_within : (w : World O) (q : Place) (k : Completion → Prog O I) (o : Ending) (v : World O) (e : Ending) → Then R w (c ++ q) k o v e → Then (Runs prog) (inside_of c w) q k (seen_end q o) (inside_of c v) (seen_end q e)
    then_within w q k None v e a = (ap (inside_of c) a.0, ap (seen_end q) a.1)
    then_within w q k (Some r) v e a = follows_within w q k r v e a

    closes_within : (n : Option (Node O)) (w : World O) (q : Place) (b : Wrap O) (k : Completion → Prog O I) (o : Ending) (v : World O) (e : Ending) → Closes R n w (c ++ q) b k o v e → Closes (Runs prog) n (inside_of c w) q b k (seen_end q o) (inside_of c v) (seen_end q e)
    closes_within n w q b k None v e a = (ap (inside_of c) a.0, ap (seen_end q) a.1)
    closes_within n w q b k (Some r) v e (u, s, a) =
        (inside_of c u, subst (λ x. Step (inside_of c w) q x (inside_of c u)) (closes_seen q b n (w.tree (c ++ q))) (step_within c q (closes b n (w.tree (c ++ q))) w u s), follows_within u q k r v e a)

    hears_within : (w : World O) (q : Place) (k : Said → Prog O I) (a : Answer) (v : World O) (e : Ending) → Hears R w (c ++ q) k a v e → Hears (Runs prog) (inside_of c w) q k (seen_answer q a) (inside_of c v) (seen_end q e)
    hears_within w q k (Heard x) v e a = ins w q (k (Told x)) v e a
    hears_within w q k Nobody v e a = ins w q (k Missed) v e a
    hears_within w q k (Replied (Completed x)) v e a = ins w q (k (Finished x)) v e a
    hears_within w q k (Replied (Stop n m)) v e a = hears_quit prog (inside_of c w) q k (seen_reply q (Stop n m)) (inside_of c v) (seen_end q e) (seen_quit q (Stop n m) tt) (ap (inside_of c) a.0) (ap (seen_end q) a.1)
    hears_within w q k (Replied (Exit n)) v e a = (ap (inside_of c) a.0, ap (seen_end q) a.1)
    hears_within w q k (Replied (Cut x)) v e a = (ap (inside_of c) a.0, ap (seen_end q) a.1)

    answered_within : (w : World O) (q : Place) (h : Height) (k : Said → Prog O I) (a : Answer) (v : World O) (e : Ending) → Answered R w (c ++ q) h k a v e → Answered (Runs prog) (inside_of c w) q h k (seen_answer q a) (inside_of c v) (seen_end q e)
    answered_within w q h k a v e (u, s, b) = (inside_of c u, step_within c q (Back h a) w u s, hears_within u q k a v e b)

    leaves_within : (w : World O) (g : Height) (q : Place) (e : Ending) (v : World O) → Leaves w g (c ++ q) e v → Leaves (inside_of c w) (seen_height q g) q (seen_end q e) (inside_of c v)
    leaves_within w g q None v a = ap (inside_of c) a
    leaves_within w g q (Some r) v a = step_within c q (Done g r) w v a

    leaves_apart : (w : World O) (g : Height) (p : Place) (e : Ending) (v : World O) → strip c p ≡ None → Leaves w g p e v → inside_of c v ≡ inside_of c w
    leaves_apart w g p None v d a = ap (inside_of c) a
    leaves_apart w g p (Some r) v d a = step_apart c p (Done g r) w v a d tt

    visits_within : (w : World O) (g : Height) (q : Place) (i : Entry) (v : World O) (e : Ending) → Visits prog R w g (c ++ q) i v e → Visits prog (Runs prog) (inside_of c w) (seen_height q g) q i (inside_of c v) (seen_end q e)
    visits_within w g q i v e a = record {
      node = a.node;
      stands = a.stands;
      entered = inside_of c a.entered;
      left = inside_of c a.left;
      entry = step_within c q (In g i) w a.entered a.entry;
      run = ins a.entered q (prog.entry i) a.left e a.run;
      leaving = leaves_within a.left g q e v a.leaving;
    }

    -- control that comes from outside c goes anywhere, while c waits
    visits_around : (w : World O) (g : Height) (t : Place) (i : Entry) (v : World O) (e : Ending) → Visits prog R w g t i v e → ((q2 : Place) → strip c t ≡ Some q2 → rise_to g q2 ≡ None) →
        (q : Place) (s : Wait) (k : Said → Prog O I) (z : World O) (o : Ending) → rise_to (height_of s) q ≡ None → Stands prog (inside_of c v) q s k e z o → Runs prog (inside_of c w) q (wait s k) z o
    visits_around w g t i v e a past q s k z o f b = by (strip c t) refl
      where
        by : (y : Option Place) → strip c t ≡ y → Runs prog (inside_of c w) q (wait s k) z o
        by None y =
            let l : Stands prog (inside_of c a.left) q s k e z o = subst (λ u. Stands prog u q s k e z o) (leaves_apart a.left g t e v y a.leaving) b in
            let m : Runs prog (inside_of c a.entered) q (wait s k) z o = out a.entered t (prog.entry i) a.left e y a.run q s k z o f l in
            subst (λ u. Runs prog u q (wait s k) z o) (step_apart c t (In g i) w a.entered a.entry y tt) m
        by (Some q2) y =
            let a2 : Visits prog R w g (c ++ q2) i v e = subst (λ t2. Visits prog R w g t2 i v e) (strip-sound c t q2 y) a in
            let a3 : Visits prog (Runs prog) (inside_of c w) None q2 i (inside_of c v) (seen_end q2 e) = subst (λ h. Visits prog (Runs prog) (inside_of c w) h q2 i (inside_of c v) (seen_end q2 e)) (seen_out q2 g (past q2 y)) (visits_within w g q2 i v e a2) in
            wait_enter prog (inside_of c w) q s k q2 i (inside_of c v) (seen_end q2 e) z o f a3 (stays_seen prog (inside_of c v) q2 q s k e z o b)

    -- how the rest goes on, while c waits
    follows_apart : (w : World O) (p : Place) (k2 : Completion → Prog O I) (r : Reply) (v : World O) (e : Ending) → strip c p ≡ None → Follows R w p k2 r v e →
        (q : Place) (s : Wait) (k : Said → Prog O I) (z : World O) (o : Ending) → rise_to (height_of s) q ≡ None → Stands prog (inside_of c v) q s k e z o → Stands prog (inside_of c w) q s k (Some r) z o
    follows_apart w p k2 (Completed x) v e d a q s k z o f b = stands_on prog (inside_of c w) q s k x z o (out w p (k2 x) v e d a q s k z o f b)
    follows_apart w p k2 (Stop n m) v e d a q s k z o f b = subst (λ u. Stands prog u q s k (Some (Stop n m)) z o) (ap (inside_of c) a.0) (subst (λ e2. Stands prog (inside_of c v) q s k e2 z o) a.1 b)
    follows_apart w p k2 (Exit n) v e d a q s k z o f b = subst (λ u. Stands prog u q s k (Some (Exit n)) z o) (ap (inside_of c) a.0) (subst (λ e2. Stands prog (inside_of c v) q s k e2 z o) a.1 b)
    follows_apart w p k2 (Cut x) v e d a q s k z o f b = subst (λ u. Stands prog u q s k (Some (Cut x)) z o) (ap (inside_of c) a.0) (subst (λ e2. Stands prog (inside_of c v) q s k e2 z o) a.1 b)

    nothing_apart : (w v : World O) (e : Ending) → v ≡ w → e ≡ None → (q : Place) (s : Wait) (k : Said → Prog O I) (z : World O) (o : Ending) → Stands prog (inside_of c v) q s k e z o → Stands prog (inside_of c w) q s k None z o
    nothing_apart w v e a a2 q s k z o b = let b2 : (z ≡ inside_of c v) × (o ≡ None) = subst (λ e2. Stands prog (inside_of c v) q s k e2 z o) a2 b in (b2.0 ∙ ap (inside_of c) a, b2.1)

    then_apart : (w : World O) (p : Place) (k2 : Completion → Prog O I) (o2 : Ending) (v : World O) (e : Ending) → strip c p ≡ None → Then R w p k2 o2 v e →
        (q : Place) (s : Wait) (k : Said → Prog O I) (z : World O) (o : Ending) → rise_to (height_of s) q ≡ None → Stands prog (inside_of c v) q s k e z o → Stands prog (inside_of c w) q s k o2 z o
    then_apart w p k2 None v e d a q s k z o f b = nothing_apart w v e a.0 a.1 q s k z o b
    then_apart w p k2 (Some r) v e d a q s k z o f b = follows_apart w p k2 r v e d a q s k z o f b

    closes_apart : (n : Option (Node O)) (w : World O) (p : Place) (y : Wrap O) (k2 : Completion → Prog O I) (o2 : Ending) (v : World O) (e : Ending) → strip c p ≡ None → Closes R n w p y k2 o2 v e →
        (q : Place) (s : Wait) (k : Said → Prog O I) (z : World O) (o : Ending) → rise_to (height_of s) q ≡ None → Stands prog (inside_of c v) q s k e z o → Stands prog (inside_of c w) q s k o2 z o
    closes_apart n w p y k2 None v e d a q s k z o f b = nothing_apart w v e a.0 a.1 q s k z o b
    closes_apart n w p y k2 (Some r) v e d (u, t, a) q s k z o f b =
        subst (λ m. Stands prog m q s k (Some r) z o) (step_apart c p (closes y n (w.tree p)) w u t d (closes_beside c p y n (w.tree p))) (follows_apart u p k2 r v e d a q s k z o f b)

    hears_apart : (w : World O) (p : Place) (k2 : Said → Prog O I) (r : Reply) (v : World O) (e : Ending) → strip c p ≡ None → Hears R w p k2 (Replied r) v e →
        (q : Place) (s : Wait) (k : Said → Prog O I) (z : World O) (o : Ending) → rise_to (height_of s) q ≡ None → Stands prog (inside_of c v) q s k e z o → Stands prog (inside_of c w) q s k (Some r) z o
    hears_apart w p k2 (Completed x) v e d a q s k z o f b = stands_on prog (inside_of c w) q s k x z o (out w p (k2 (Finished x)) v e d a q s k z o f b)
    hears_apart w p k2 (Stop n m) v e d a q s k z o f b = subst (λ u. Stands prog u q s k (Some (Stop n m)) z o) (ap (inside_of c) a.0) (subst (λ e2. Stands prog (inside_of c v) q s k e2 z o) a.1 b)
    hears_apart w p k2 (Exit n) v e d a q s k z o f b = subst (λ u. Stands prog u q s k (Some (Exit n)) z o) (ap (inside_of c) a.0) (subst (λ e2. Stands prog (inside_of c v) q s k e2 z o) a.1 b)
    hears_apart w p k2 (Cut x) v e d a q s k z o f b = subst (λ u. Stands prog u q s k (Some (Cut x)) z o) (ap (inside_of c) a.0) (subst (λ e2. Stands prog (inside_of c v) q s k e2 z o) a.1 b)

    -- an answer elsewhere: c waits on, or waits for the exit that it was
    answer_apart : (w : World O) (p : Place) (h : Height) (k2 : Said → Prog O I) (a : Answer) (v : World O) (e : Ending) → strip c p ≡ None → Answered R w p h k2 a v e →
        (q : Place) (s : Wait) (k : Said → Prog O I) (z : World O) (o : Ending) → rise_to (height_of s) q ≡ None → Stands prog (inside_of c v) q s k e z o → Runs prog (inside_of c w) q (wait s k) z o
    answer_apart w p h k2 (Heard x) v e d (u, t, a) q s k z o f b = subst (λ m. Runs prog m q (wait s k) z o) (step_apart c p (Back h (Heard x)) w u t d tt) (out u p (k2 (Told x)) v e d a q s k z o f b)
    answer_apart w p h k2 Nobody v e d (u, t, a) q s k z o f b = subst (λ m. Runs prog m q (wait s k) z o) (step_apart c p (Back h Nobody) w u t d tt) (out u p (k2 Missed) v e d a q s k z o f b)
    answer_apart w p h k2 (Replied r) v e d (u, t, a) q s k z o f b =
        stands_wait prog (inside_of c w) q s k r z o (subst (λ m. Stands prog m q s k (Some r) z o) (step_apart c p (Back h (Replied r)) w u t d tt) (hears_apart u p k2 r v e d a q s k z o f b))

    -- a reply, as the caller is told it, is an exit where it was one
    stands_carried : (y : Option ℕ) (h : Height) (p : Place) (down : Path) (r : Reply) (w : World O) (q : Place) (s : Wait) (k : Said → Prog O I) (z : World O) (o : Ending) → Stands prog w q s k (Some (carried y h p down r)) z o → Stands prog w q s k (Some r) z o
    stands_carried y h p down (Completed x) w q s k z o b = (b.0, b.0)
    stands_carried None h p down (Exit n) w q s k z o b = b
    stands_carried (Some y) h p down (Exit n) w q s k z o b = b
    stands_carried y h p down (Cut x) w q s k z o b = (b.0, b.0)
    stands_carried y h p down (Stop n m) w q s k z o b = (b.0, b.0)

    returns_apart : (l : ℕ) (w : World O) (p : Place) (h2 : Height) (down : Path) (k2 : Said → Prog O I) (o2 : Ending) (v : World O) (e : Ending) → strip c p ≡ None → Returns R l w p h2 down k2 o2 v e →
        (q : Place) (s : Wait) (k : Said → Prog O I) (z : World O) (o : Ending) → rise_to (height_of s) q ≡ None → Stands prog (inside_of c v) q s k e z o → Stands prog (inside_of c w) q s k o2 z o
    returns_apart l w p h2 down k2 None v e d a q s k z o f b = nothing_apart w v e a.0 a.1 q s k z o b
    returns_apart l w p h2 down k2 (Some r) v e d (u, t, a) q s k z o f b =
        stands_carried (gone l w.tree p) h2 p down r (inside_of c w) q s k z o (subst (λ m. Stands prog m q s k (Some (carried (gone l w.tree p) h2 p down r)) z o) (step_apart c p (Back h2 (Replied (carried (gone l w.tree p) h2 p down r))) w u t d tt)
        (hears_apart u p k2 (carried (gone l w.tree p) h2 p down r) v e d a q s k z o f b))

    -- the other end of a call, within
    returns_within : (l : ℕ) (w : World O) (q : Place) (h : Height) (down : Path) (k : Said → Prog O I) (o : Ending) (v : World O) (e : Ending) (b : Place) → rise_to h q ≡ Some b → Returns R l w (c ++ q) h down k o v e → Returns (Runs prog) l (inside_of c w) q h down k (seen_end (b ++ down) o) (inside_of c v) (seen_end q e)
    returns_within l w q h down k None v e b f a = (ap (inside_of c) a.0, ap (seen_end q) a.1)
    returns_within l w q h down k (Some r) v e b f a =
        subst (λ y. Answered (Runs prog) (inside_of c w) q h k (Replied y) (inside_of c v) (seen_end q e)) (carried_within c q (gone l w.tree (c ++ q)) (gone l (at w.tree c) q) h down r b (gone_within c q w.tree l) f) (answered_within w q h k (Replied (carried (gone l w.tree (c ++ q)) h (c ++ q) down r)) v e a)

    -- a call of c's that was answered from elsewhere
    returned_stands : (d : ℕ) (w : World O) (q : Place) (h : Height) (i : Entry) (k : Said → Prog O I) (r r2 : Reply) (v : World O) (e : Ending) → rise_to h q ≡ None → answers_call (gone d (at w.tree c) q) (Some (h, i, d)) (Replied (seen_reply q r2)) ≡ true →
        ((n : ℤ) → r ≡ Exit n → r2 ≡ Exit n) → Answered R w (c ++ q) h k (Replied r2) v e → Stands prog (inside_of c w) q (Some (h, i, d)) k (Some r) (inside_of c v) (seen_end q e)
    returned_stands d w q h i k (Completed x) r2 v e f g l a = let y : Runs prog (inside_of c w) q (wait (Some (h, i, d)) k) (inside_of c v) (seen_end q e) = wait_answer prog (inside_of c w) q (Some (h, i, d)) k (Replied (seen_reply q r2)) (inside_of c v) (seen_end q e) f g (answered_within w q h k (Replied r2) v e a) in (y, y)
    returned_stands d w q h i k (Stop n m) r2 v e f g l a = let y : Runs prog (inside_of c w) q (wait (Some (h, i, d)) k) (inside_of c v) (seen_end q e) = wait_answer prog (inside_of c w) q (Some (h, i, d)) k (Replied (seen_reply q r2)) (inside_of c v) (seen_end q e) f g (answered_within w q h k (Replied r2) v e a) in (y, y)
    returned_stands d w q h i k (Cut x) r2 v e f g l a = let y : Runs prog (inside_of c w) q (wait (Some (h, i, d)) k) (inside_of c v) (seen_end q e) = wait_answer prog (inside_of c w) q (Some (h, i, d)) k (Replied (seen_reply q r2)) (inside_of c v) (seen_end q e) f g (answered_within w q h k (Replied r2) v e a) in (y, y)
    returned_stands d w q h i k (Exit n) r2 v e f g l a =
        let y : Runs prog (inside_of c w) q (wait (Some (h, i, d)) k) (inside_of c v) (seen_end q e) = wait_answer prog (inside_of c w) q (Some (h, i, d)) k (Replied (seen_reply q r2)) (inside_of c v) (seen_end q e) f g (answered_within w q h k (Replied r2) v e a) in
        let a2 : Answered R w (c ++ q) h k (Replied (Exit n)) v e = subst (λ r3. Answered R w (c ++ q) h k (Replied r3) v e) (l n refl) a in
        (y, exiting a2)
      where
        exiting : Answered R w (c ++ q) h k (Replied (Exit n)) v e → Exits (inside_of c w) q (Some (h, i, d)) n (inside_of c w).moves (inside_of c v) (seen_end q e)
        exiting (u, t, b) =
            let t2 : Step (inside_of c w) q (Back h (Replied (Exit n))) (inside_of c v) = subst (λ x. Step (inside_of c w) q (Back h (Replied (Exit n))) (inside_of c x)) (sym b.0) (step_within c q (Back h (Replied (Exit n))) w u t) in
            subst (λ e2. Exits (inside_of c w) q (Some (h, i, d)) n (inside_of c w).moves (inside_of c v) (seen_end q e2)) (sym b.1) (exit_answer (inside_of c w) q (Some (h, i, d)) n (inside_of c v) f (is_exit_self n) t2)

    carried_exit : (y : Option ℕ) (h : Height) (p : Place) (down : Path) (r : Reply) (n : ℤ) → r ≡ Exit n → carried y h p down r ≡ Exit n
    carried_exit None h p down r n e = ap (carried None h p down) e
    carried_exit (Some y) h p down r n e = ap (carried (Some y) h p down) e

    returns_answer : (d : ℕ) (w : World O) (q : Place) (n : ℕ) (down : Path) (i : Entry) (k : Said → Prog O I) (o : Ending) (v : World O) (e : Ending) → rise_to (Some n) q ≡ None → Returns R d w (c ++ q) (Some n) down k o v e → Stands prog (inside_of c w) q (Some (Some n, i, d)) k o (inside_of c v) (seen_end q e)
    returns_answer d w q n down i k None v e f a = (ap (inside_of c) a.0, ap (seen_end q) a.1)
    returns_answer d w q n down i k (Some r) v e f a =
        returned_stands d w q (Some n) i k r (carried (gone d w.tree (c ++ q)) (Some n) (c ++ q) down r) v e f (told_own n q i (gone d w.tree (c ++ q)) (gone d (at w.tree c) q) (carried_by r (Some n) (c ++ q) down) (gone_within c q w.tree d) f) (carried_exit (gone d w.tree (c ++ q)) (Some n) (c ++ q) down r) a

    -- after an answer that is a reply a call that left c goes on as one that didn't
    hears_or : (w : World O) (p : Place) (lost : Completion) (k : Said → Prog O I) (r : Reply) (v : World O) (e : Ending) → Hears R w p k (Replied r) v e → Hears R w p (or_lost lost k) (Replied r) v e
    hears_or w p lost k (Completed x) v e a = a
    hears_or w p lost k (Stop n m) v e a = a
    hears_or w p lost k (Exit n) v e a = a
    hears_or w p lost k (Cut x) v e a = a

    returns_or : (d : ℕ) (w : World O) (p : Place) (h : Height) (down : Path) (lost : Completion) (k : Said → Prog O I) (o : Ending) (v : World O) (e : Ending) → Returns R d w p h down k o v e → Returns R d w p h down (or_lost lost k) o v e
    returns_or d w p h down lost k None v e a = a
    returns_or d w p h down lost k (Some r) v e (u, t, a) = (u, t, hears_or u p lost k (carried (gone d w.tree p) h p down r) v e a)

    halted_wait : (w v : World O) (e : Ending) (q : Place) (s : Wait) (k : Said → Prog O I) (z : World O) (o : Ending) → Halts w v e → rise_to (height_of s) q ≡ None → Stands prog (inside_of c v) q s k e z o → Runs prog (inside_of c w) q (wait s k) z o
    halted_wait w v e q s k z o a f b = wait_halt prog (inside_of c w) q s k z o f (no_moves c w v e a) (stands_halt prog c w v e q s k z o a b)

    -- WITHIN
    acted_within : (w u : World O) (q : Place) (k : Tree O → Prog O I) (x : Next) (v : World O) (e : Ending) → Acted R w u (c ++ q) k x v e → Acted (Runs prog) (inside_of c w) (inside_of c u) q k (seen_next q x) (inside_of c v) (seen_end q e)
    acted_within w u q k (Off r) v e a = (ap (inside_of c) a.0, ap (seen_end q) a.1)
    acted_within w u q k On v e a = subst (λ T. Runs prog (inside_of c u) q (k T) (inside_of c v) (seen_end q e)) (at_at c q w.tree) (ins u q (k (at w.tree (c ++ q))) v e a)
    acted_within w u q k TooDeep v e a = subst (λ T. Runs prog (inside_of c u) q (k T) (inside_of c v) (seen_end q e)) (at_at c q w.tree) (ins u q (k (at w.tree (c ++ q))) v e a)

    spotted : (w u : World O) (q : Place) (x : Deed O) → Step w (spot (c ++ q) x.0) x.1 u → Step (inside_of c w) (spot q x.0) (seen_what (spot q x.0) x.1) (inside_of c u)
    spotted w u q x s = step_within c (spot q x.0) x.1 w u (subst (λ z. Step w z x.1 u) (spot_within c q x.0) s)

    acts_within : (w : World O) (q : Place) (d : Act O) (x : Option (Deed O)) → decide d w.tree (c ++ q) w.grants ≡ x → (k : Tree O → Prog O I) (v : World O) (e : Ending) → Acts R w (c ++ q) x k v e →
        Acts (Runs prog) (inside_of c w) q (decide d (at w.tree c) q (grants_of (view c w.tape))) k (inside_of c v) (seen_end q e)
    acts_within w q d None g k v e a =
        subst (λ o. Acts (Runs prog) (inside_of c w) q o k (inside_of c v) (seen_end q e))
        (sym (ap (λ τ. decide d (at w.tree c) q (grants_of (view c τ))) a.tape ∙ decide_none c q d w.tree w.grants g)) (halts_within c w v e q a)
    acts_within w q d (Some x) g k v e (u, s, a) =
        let t : Step (inside_of c w) (spot q x.0) (seen_what (spot q x.0) x.1) (inside_of c u) = spotted w u q x s in
        let l : (gs : List Grant) × (grants_of (view c u.tape) ≡ Listed gs) = listed (view c u.tape) in
        subst (λ o. Acts (Runs prog) (inside_of c w) q o k (inside_of c v) (seen_end q e))
        (sym (ap (decide d (at w.tree c) q) (t.grants ∙ ap (granted (spot q x.0) (seen_what (spot q x.0) x.1)) l.1) ∙ decide_within c q d w.tree w.grants x l.0 g))
        (inside_of c u, t, acted_within w u q k x.2 v e a)

    opened_within : (w : World O) (q : Place) (b : Wrap O) (i : I) (k : Completion → Prog O I) (x : Next) (v : World O) (e : Ending) → Opened prog R w (c ++ q) b i k x v e → Opened prog (Runs prog) (inside_of c w) q b i k (seen_next q x) (inside_of c v) (seen_end q e)
    opened_within w q b i k (Off r) v e a = (ap (inside_of c) a.0, ap (seen_end q) a.1)
    opened_within w q b i k TooDeep v e a = ins w q (k (refusal (Full Depth))) v e a
    opened_within w q b i k On v e (u, o, a, y) = (inside_of c u, seen_end q o, ins w q (prog.program i) u o a, closes_within (w.tree (c ++ q)) u q b k o v e y)

    opens_in : (w : World O) (q : Place) (b : Wrap O) (x : Option (Deed O)) → opens b w.tree (c ++ q) w.grants ≡ x → (i : I) (k : Completion → Prog O I) (v : World O) (e : Ending) → Opens prog R w (c ++ q) x b i k v e →
        Opens prog (Runs prog) (inside_of c w) q (opens b (at w.tree c) q (grants_of (view c w.tape))) b i k (inside_of c v) (seen_end q e)
    opens_in w q b None g i k v e a =
        subst (λ o. Opens prog (Runs prog) (inside_of c w) q o b i k (inside_of c v) (seen_end q e))
        (sym (ap (λ τ. opens b (at w.tree c) q (grants_of (view c τ))) a.tape ∙ opens_none c q b w.tree w.grants g)) (halts_within c w v e q a)
    opens_in w q b (Some x) g i k v e (u, s, a) =
        let t : Step (inside_of c w) (spot q x.0) (seen_what (spot q x.0) x.1) (inside_of c u) = spotted w u q x s in
        let l : (gs : List Grant) × (grants_of (view c u.tape) ≡ Listed gs) = listed (view c u.tape) in
        subst (λ o. Opens prog (Runs prog) (inside_of c w) q o b i k (inside_of c v) (seen_end q e))
        (sym (ap (opens b (at w.tree c) q) (t.grants ∙ ap (granted (spot q x.0) (seen_what (spot q x.0) x.1)) l.1) ∙ opens_within c q b w.tree w.grants x l.0 g))
        (inside_of c u, t, opened_within u q b i k x.2 v e a)

    down_near : (b down : List (List ℕ)) → seen_height (b ++ down) (Some (length down)) ≡ Some (length down)
    down_near b down = seen_near (b ++ down) (length down) (omega (arith, length-append b down))

    reaches_in : (w : World O) (q : Place) (h : Height) (down : Path) (i : Entry) (lost : Completion) (k : Said → Prog O I) (v : World O) (e : Ending) (b : Place) → rise_to h q ≡ Some b → (n : Option (Node O)) →
        Reaches prog R w (c ++ q) h down i lost k (where_stands n (c ++ (b ++ down))) v e → Reaches prog (Runs prog) (inside_of c w) q h down i lost k (where_stands n (b ++ down)) (inside_of c v) (seen_end q e)
    reaches_in w q h down i lost k v e b f None a = answered_within w q h k (Replied (Completed lost)) v e a
    reaches_in w q h down i lost k v e b f (Some n) (u, o, x, y) =
        (inside_of c u, seen_end (b ++ down) o, subst (λ g. Visits prog (Runs prog) (inside_of c w) g (b ++ down) i (inside_of c u) (seen_end (b ++ down) o)) (down_near b down) (visits_within w (Some (length down)) (b ++ down) i u o x), returns_within (depth_of (w.tree (c ++ q))) u q h down k o v e b f y)

    -- who just called is not gone
    lost_told : (q : Place) (n : ℕ) (i : Entry) (lost : Completion) (T : Tree O) → is_told (gone (depth_of (T q)) T q) (Some n) i (Replied (Completed lost)) ≡ true
    lost_told q n i lost T =
        let e : nat_lt (depth_of (T q)) (depth_of (T q)) ≡ false = grind (arith, nat_tests) in
        ap (λ b. is_told (gone_by b (levels (idle_up T q))) (Some n) i (Replied (Completed lost))) e

    reaches_out : (w : World O) (q : Place) (n : ℕ) (down : Path) (i : Entry) (lost : Completion) (k : Said → Prog O I) (v : World O) (e : Ending) (a : Place) → rise_to (Some n) q ≡ None → strip c a ≡ None → (t : Option (Node O)) →
        Reaches prog R w (c ++ q) (Some n) down i lost k (where_stands t (a ++ down)) v e → Runs prog (inside_of c w) q (wait (Some (Some n, i, depth_of (w.tree (c ++ q)))) (or_lost lost k)) (inside_of c v) (seen_end q e)
    reaches_out w q n down i lost k v e a g f None x =
        wait_answer prog (inside_of c w) q (Some (Some n, i, depth_of (w.tree (c ++ q)))) (or_lost lost k) (Replied (Completed lost)) (inside_of c v) (seen_end q e) g (lost_told q n i lost (at w.tree c)) (answered_within w q (Some n) k (Replied (Completed lost)) v e x)
    reaches_out w q n down i lost k v e a g f (Some t) (u, o, x, y) =
        visits_around w (Some (length down)) (a ++ down) i u o x (λ q2 s. rise_into c a down q2 f s) q (Some (Some n, i, depth_of (w.tree (c ++ q)))) (or_lost lost k) (inside_of c v) (seen_end q e) g (returns_answer (depth_of (w.tree (c ++ q))) u q n down i (or_lost lost k) o v e g (returns_or (depth_of (w.tree (c ++ q))) u (c ++ q) (Some n) down lost k o v e y))

    calls_within : (w : World O) (q : Place) (h : Height) (down : Path) (i : Entry) (lost : Completion) (k : Said → Prog O I) (v : World O) (e : Ending) (a : Option Place) → rise_to h (c ++ q) ≡ a → Calls prog R w (c ++ q) h down i lost k a v e →
        (b : Option Place) → rise_to h q ≡ b → Calls prog (Runs prog) (inside_of c w) q h down i lost k b (inside_of c v) (seen_end q e)
    calls_within w q h down i lost k v e None f x None g = ins w q (wait (Some (h, i, depth_of (w.tree (c ++ q)))) (or_lost lost k)) v e x
    calls_within w q h down i lost k v e None f x (Some b) g = absurd (not_both f (rise_to_within c q h b g))
    calls_within w q None down i lost k v e (Some a) f x None g = absurd (not_both refl f)
    calls_within w q (Some n) down i lost k v e (Some a) f x None g =
        reaches_out w q n down i lost k v e a g (rise_to_out c q (Some n) a g f) (w.tree (a ++ down)) x
    calls_within w q h down i lost k v e (Some a) f x (Some b) g =
        let same : a ≡ c ++ b = Some-inj a (sym f ∙ rise_to_within c q h b g) in
        let there : a ++ down ≡ c ++ (b ++ down) = ap (λ z. z ++ down) same ∙ append_assoc c b down in
        reaches_in w q h down i lost k v e b g (w.tree (c ++ (b ++ down))) (subst (λ t. Reaches prog R w (c ++ q) h down i lost k (where_stands (w.tree t) t) v e) there x)

    ends_own : (y : Option ℕ) (s : Wait) (n : ℤ) (a : Answer) → ends_call s n a ≡ true → (answers_call y s (Replied (Exit n)) ≡ true) × (ends_call s n (Replied (Exit n)) ≡ true)
    ends_own y None n a e = let x : false ≡ true = e in cc
    ends_own None (Some (None, i, d)) n a e = (refl, is_exit_self n)
    ends_own None (Some (Some h, i, d)) n a e = (refl, is_exit_self n)
    ends_own (Some y) (Some s) n a e = (refl, is_exit_self n)

    exits_within : (w : World O) (q : Place) (s : Wait) (k : Said → Prog O I) (n : ℤ) (ms : List (Move O)) (v : World O) (e : Ending) → rise_to (height_of s) q ≡ None → Exits w (c ++ q) s n ms v e → Stands prog (inside_of c w) q s k (Some (Exit n)) (inside_of c v) (seen_end q e)
    exits_within w q s k n ms v e f a = by ms a
      where
        halt : Halts w v e → Stands prog (inside_of c w) q s k (Some (Exit n)) (inside_of c v) (seen_end q e)
        halt x = (wait_halt prog (inside_of c w) q s k (inside_of c v) (seen_end q e) f (no_moves c w v e x) (halts_within c w v e q x), exit_halt (inside_of c w) q s n (inside_of c v) (seen_end q e) (no_moves c w v e x) (halts_within c w v e q x))

        back : (a : Answer) (b : Bool) → ends_call s n a ≡ b → Exiting w (c ++ q) s n b v e → Stands prog (inside_of c w) q s k (Some (Exit n)) (inside_of c v) (seen_end q e)
        back a false g x = halt x
        back a true g (t, y) =
            let own : (answers_call (gone_from s (at w.tree c) q) s (Replied (Exit n)) ≡ true) × (ends_call s n (Replied (Exit n)) ≡ true) = ends_own (gone_from s (at w.tree c) q) s n a g in
            let t2 : Step (inside_of c w) q (Back (height_of s) (Replied (Exit n))) (inside_of c v) = step_within c q (Back (height_of s) (Replied (Exit n))) w v t in
            subst (λ o. Stands prog (inside_of c w) q s k (Some (Exit n)) (inside_of c v) (seen_end q o)) (sym y)
            (wait_answer prog (inside_of c w) q s k (Replied (Exit n)) (inside_of c v) (Some (Exit n)) f own.0 (inside_of c v, t2, (refl, refl)), exit_answer (inside_of c w) q s n (inside_of c v) f own.1 t2)

        by : (ms : List (Move O)) → Exits w (c ++ q) s n ms v e → Stands prog (inside_of c w) q s k (Some (Exit n)) (inside_of c v) (seen_end q e)
        by [] x = halt x
        by (Come a ∷ ms) x = back a (ends_call s n a) refl x
        by (Born o b ∷ ms) x = halt x
        by (Fall ∷ ms) x = halt x
        by (Enter t i ∷ ms) x = halt x

    stays_within : (w : World O) (q : Place) (s : Wait) (k : Said → Prog O I) (o : Ending) (v : World O) (e : Ending) → rise_to (height_of s) q ≡ None → Stays R w (c ++ q) s k o v e → Stands prog (inside_of c w) q s k o (inside_of c v) (seen_end q e)
    stays_within w q s k None v e f a = (ap (inside_of c) a.0, ap (seen_end q) a.1)
    stays_within w q s k (Some (Exit n)) v e f a = exits_within w q s k n w.moves v e f a
    stays_within w q s k (Some (Completed x)) v e f a = let y : Runs prog (inside_of c w) q (wait s k) (inside_of c v) (seen_end q e) = ins w q (wait s k) v e a in (y, y)
    stays_within w q s k (Some (Stop n m)) v e f a = let y : Runs prog (inside_of c w) q (wait s k) (inside_of c v) (seen_end q e) = ins w q (wait s k) v e a in (y, y)
    stays_within w q s k (Some (Cut x)) v e f a = let y : Runs prog (inside_of c w) q (wait s k) (inside_of c v) (seen_end q e) = ins w q (wait s k) v e a in (y, y)

    enters_within : (w : World O) (q : Place) (s : Wait) (k : Said → Prog O I) (t : Path) (i : Entry) (n : Option (Node O)) (v : World O) (e : Ending) → rise_to (height_of s) q ≡ None → w.tree t ≡ n → Enters prog R w (c ++ q) s k t i n v e → Runs prog (inside_of c w) q (wait s k) (inside_of c v) (seen_end q e)
    enters_within w q s k t i None v e f g (u, a, b) = unfound_meanwhile prog c t i w u q s k (inside_of c v) (seen_end q e) g a f (ins u q (wait s k) v e b)
    enters_within w q s k t i (Some n) v e f g (u, o, x, y) = visits_around w None t i u o x (λ q2 z. refl) q s k (inside_of c v) (seen_end q e) f (stays_within u q s k o v e f y)

    moves_within : (w : World O) (q : Place) (s : Wait) (k : Said → Prog O I) (m : Move O) (v : World O) (e : Ending) → rise_to (height_of s) q ≡ None → fits w.tree (c ++ q) s m ≡ true → Moves prog R w (c ++ q) s k m v e → Runs prog (inside_of c w) q (wait s k) (inside_of c v) (seen_end q e)
    moves_within w q s k (Come a) v e f g x = wait_answer prog (inside_of c w) q s k (seen_answer q a) (inside_of c v) (seen_end q e) f (answers_seen q (gone_from s w.tree (c ++ q)) (gone_from s (at w.tree c) q) s a (gone_from_within c q w.tree s) g) (answered_within w q (height_of s) k a v e x)
    moves_within w q s k (Born o b) v e f g (u, t, a) = meanwhile prog c [] (Made o b) w u q s k (inside_of c v) (seen_end q e) t (λ q2 y. (top_only c q2 y, tt)) f (ins u q (wait s k) v e a)
    moves_within w q s k Fall v e f g (u, t, a) = meanwhile prog c [] Dropped w u q s k (inside_of c v) (seen_end q e) t (λ q2 y. (top_only c q2 y, tt)) f (ins u q (wait s k) v e a)
    moves_within w q s k (Enter t i) v e f g a = enters_within w q s k t i (w.tree t) v e f refl a

    fitting_within : (w : World O) (q : Place) (s : Wait) (k : Said → Prog O I) (b : Bool) (m : Move O) (v : World O) (e : Ending) → rise_to (height_of s) q ≡ None → fits w.tree (c ++ q) s m ≡ b → Fitting prog R w (c ++ q) s k b m v e → Runs prog (inside_of c w) q (wait s k) (inside_of c v) (seen_end q e)
    fitting_within w q s k false m v e f g a = wait_halt prog (inside_of c w) q s k (inside_of c v) (seen_end q e) f (no_moves c w v e a) (halts_within c w v e q a)
    fitting_within w q s k true m v e f g a = moves_within w q s k m v e f g a

    waits_within : (w : World O) (q : Place) (s : Wait) (k : Said → Prog O I) (ms : List (Move O)) (v : World O) (e : Ending) → rise_to (height_of s) q ≡ None → Waits prog R w (c ++ q) s k ms v e → Runs prog (inside_of c w) q (wait s k) (inside_of c v) (seen_end q e)
    waits_within w q s k [] v e f a = wait_halt prog (inside_of c w) q s k (inside_of c v) (seen_end q e) f (no_moves c w v e a) (halts_within c w v e q a)
    waits_within w q s k (m ∷ ms) v e f a = fitting_within w q s k (fits w.tree (c ++ q) s m) m v e f refl a

    pub unrolled_within : (w : World O) (q : Place) (x : Prog O I) (v : World O) (e : Ending) → Unrolled prog R w (c ++ q) x v e → Runs prog (inside_of c w) q x (inside_of c v) (seen_end q e)
    unrolled_within w q (done y) v e a = roll prog (inside_of c w) q (done y) (inside_of c v) (seen_end q e) (ap (inside_of c) a.0, ap (seen_end q) a.1)
    unrolled_within w q (exit n) v e a = roll prog (inside_of c w) q (exit n) (inside_of c v) (seen_end q e) (ap (inside_of c) a.0, ap (seen_end q) a.1)
    unrolled_within w q (act d k) v e a = roll prog (inside_of c w) q (act d k) (inside_of c v) (seen_end q e) (acts_within w q d (decide d w.tree (c ++ q) w.grants) refl k v e a)
    unrolled_within w q (go i k) v e (u, o, a, b) = roll prog (inside_of c w) q (go i k) (inside_of c v) (seen_end q e) (inside_of c u, seen_end q o, ins w q (prog.program i) u o a, then_within u q k o v e b)
    unrolled_within w q (inside b i k) v e a = roll prog (inside_of c w) q (inside b i k) (inside_of c v) (seen_end q e) (opens_in w q b (opens b w.tree (c ++ q) w.grants) refl i k v e a)
    unrolled_within w q (call h down i lost k) v e (u, s, a) =
        roll prog (inside_of c w) q (call h down i lost k) (inside_of c v) (seen_end q e) (inside_of c u, step_within c q (Out h down i) w u s, calls_within u q h down i lost k v e (rise_to h (c ++ q)) refl a (rise_to h q) refl)
    unrolled_within w q (wait s k) v e (f, a) = waits_within w q s k w.moves v e (rise_to_past c q (height_of s) f) a

    -- APART
    acted_apart : (w u : World O) (p : Place) (k2 : Tree O → Prog O I) (x : Next) (v : World O) (e : Ending) → strip c p ≡ None → Acted R w u p k2 x v e →
        (q : Place) (s : Wait) (k : Said → Prog O I) (z : World O) (o : Ending) → rise_to (height_of s) q ≡ None → Stands prog (inside_of c v) q s k e z o → Runs prog (inside_of c u) q (wait s k) z o
    acted_apart w u p k2 (Off r) v e d a q s k z o f b = stands_wait prog (inside_of c u) q s k r z o (subst (λ m. Stands prog m q s k (Some r) z o) (ap (inside_of c) a.0) (subst (λ e2. Stands prog (inside_of c v) q s k e2 z o) a.1 b))
    acted_apart w u p k2 On v e d a q s k z o f b = out u p (k2 (at w.tree p)) v e d a q s k z o f b
    acted_apart w u p k2 TooDeep v e d a q s k z o f b = out u p (k2 (at w.tree p)) v e d a q s k z o f b

    acts_apart : (w : World O) (p : Place) (d : Act O) (x : Option (Deed O)) → decide d w.tree p w.grants ≡ x → (k2 : Tree O → Prog O I) (v : World O) (e : Ending) → strip c p ≡ None → Acts R w p x k2 v e →
        (q : Place) (s : Wait) (k : Said → Prog O I) (z : World O) (o : Ending) → rise_to (height_of s) q ≡ None → Stands prog (inside_of c v) q s k e z o → Runs prog (inside_of c w) q (wait s k) z o
    acts_apart w p d (Some x) g k2 v e n (u, t, a) q s k z o f b =
        meanwhile prog c (spot p x.0) x.1 w u q s k z o t (spot_only c p d w.tree w.grants x g n x.0 refl) f (acted_apart w u p k2 x.2 v e n a q s k z o f b)
    acts_apart w p d None g k2 v e n a q s k z o f b = halted_wait w v e q s k z o a f b

    opened_apart : (w : World O) (p : Place) (y : Wrap O) (i : I) (k2 : Completion → Prog O I) (x : Next) (v : World O) (e : Ending) → strip c p ≡ None → Opened prog R w p y i k2 x v e →
        (q : Place) (s : Wait) (k : Said → Prog O I) (z : World O) (o : Ending) → rise_to (height_of s) q ≡ None → Stands prog (inside_of c v) q s k e z o → Runs prog (inside_of c w) q (wait s k) z o
    opened_apart w p y i k2 (Off r) v e d a q s k z o f b = stands_wait prog (inside_of c w) q s k r z o (subst (λ m. Stands prog m q s k (Some r) z o) (ap (inside_of c) a.0) (subst (λ e2. Stands prog (inside_of c v) q s k e2 z o) a.1 b))
    opened_apart w p y i k2 TooDeep v e d a q s k z o f b = out w p (k2 (refusal (Full Depth))) v e d a q s k z o f b
    opened_apart w p y i k2 On v e d (u, o2, a, x) q s k z o f b = out w p (prog.program i) u o2 d a q s k z o f (closes_apart (w.tree p) u p y k2 o2 v e d x q s k z o f b)

    opens_only : (p : Place) (y : Wrap O) (T : Tree O) (gs : Grants) (x : Deed O) → opens y T p gs ≡ Some x → strip c p ≡ None → (q : Place) → strip c (spot p x.0) ≡ Some q → (q ≡ []) × IsLife x.1
    opens_only p y T gs x e d q g = absurd (not_both d (subst (λ l. strip c (spot p l) ≡ Some q) (opens_here y T p gs x e) g))

    opens_apart : (w : World O) (p : Place) (y : Wrap O) (x : Option (Deed O)) → opens y w.tree p w.grants ≡ x → (i : I) (k2 : Completion → Prog O I) (v : World O) (e : Ending) → strip c p ≡ None → Opens prog R w p x y i k2 v e →
        (q : Place) (s : Wait) (k : Said → Prog O I) (z : World O) (o : Ending) → rise_to (height_of s) q ≡ None → Stands prog (inside_of c v) q s k e z o → Runs prog (inside_of c w) q (wait s k) z o
    opens_apart w p y (Some x) g i k2 v e n (u, t, a) q s k z o f b =
        meanwhile prog c (spot p x.0) x.1 w u q s k z o t (opens_only p y w.tree w.grants x g n) f (opened_apart u p y i k2 x.2 v e n a q s k z o f b)
    opens_apart w p y None g i k2 v e n a q s k z o f b = halted_wait w v e q s k z o a f b

    reaches_apart : (w : World O) (p : Place) (h2 : Height) (down : Path) (i : Entry) (lost : Completion) (k2 : Said → Prog O I) (v : World O) (e : Ending) (a : Place) → strip c p ≡ None → strip c a ≡ None → (t : Option (Node O)) →
        Reaches prog R w p h2 down i lost k2 (where_stands t (a ++ down)) v e →
        (q : Place) (s : Wait) (k : Said → Prog O I) (z : World O) (o : Ending) → rise_to (height_of s) q ≡ None → Stands prog (inside_of c v) q s k e z o → Runs prog (inside_of c w) q (wait s k) z o
    reaches_apart w p h2 down i lost k2 v e a d f2 None x q s k z o f b = answer_apart w p h2 k2 (Replied (Completed lost)) v e d x q s k z o f b
    reaches_apart w p h2 down i lost k2 v e a d f2 (Some t) (u, o2, x, y) q s k z o f b =
        visits_around w (Some (length down)) (a ++ down) i u o2 x (λ q2 j. rise_into c a down q2 f2 j) q s k z o f (returns_apart (depth_of (w.tree p)) u p h2 down k2 o2 v e d y q s k z o f b)

    calls_apart : (w : World O) (p : Place) (h2 : Height) (down : Path) (i : Entry) (lost : Completion) (k2 : Said → Prog O I) (v : World O) (e : Ending) → strip c p ≡ None → (a : Option Place) → rise_to h2 p ≡ a → Calls prog R w p h2 down i lost k2 a v e →
        (q : Place) (s : Wait) (k : Said → Prog O I) (z : World O) (o : Ending) → rise_to (height_of s) q ≡ None → Stands prog (inside_of c v) q s k e z o → Runs prog (inside_of c w) q (wait s k) z o
    calls_apart w p h2 down i lost k2 v e d None f2 x q s k z o f b = out w p (wait (Some (h2, i, depth_of (w.tree p))) (or_lost lost k2)) v e d x q s k z o f b
    calls_apart w p h2 down i lost k2 v e d (Some a) f2 x q s k z o f b = reaches_apart w p h2 down i lost k2 v e a d (rise_to_elsewhere c p h2 a d f2) (w.tree (a ++ down)) x q s k z o f b

    exits_apart : (w : World O) (p : Place) (s2 : Wait) (n : ℤ) (ms : List (Move O)) (v : World O) (e : Ending) → strip c p ≡ None → Exits w p s2 n ms v e →
        (q : Place) (s : Wait) (k : Said → Prog O I) (z : World O) (o : Ending) → rise_to (height_of s) q ≡ None → Stands prog (inside_of c v) q s k e z o → Stands prog (inside_of c w) q s k (Some (Exit n)) z o
    exits_apart w p s2 n ms v e d a q s k z o f b = by ms a
      where
        halt : Halts w v e → Stands prog (inside_of c w) q s k (Some (Exit n)) z o
        halt x =
            let y : Halts (inside_of c w) z o = stands_halt prog c w v e q s k z o x b in
            (wait_halt prog (inside_of c w) q s k z o f (no_moves c w v e x) y, exit_halt (inside_of c w) q s n z o (no_moves c w v e x) y)

        back : (l : Bool) → Exiting w p s2 n l v e → Stands prog (inside_of c w) q s k (Some (Exit n)) z o
        back false x = halt x
        back true (t, y) = subst (λ m. Stands prog m q s k (Some (Exit n)) z o) (step_apart c p (Back (height_of s2) (Replied (Exit n))) w v t d tt) (subst (λ e2. Stands prog (inside_of c v) q s k e2 z o) y b)

        by : (ms : List (Move O)) → Exits w p s2 n ms v e → Stands prog (inside_of c w) q s k (Some (Exit n)) z o
        by [] x = halt x
        by (Come a ∷ ms) x = back (ends_call s2 n a) x
        by (Born y l ∷ ms) x = halt x
        by (Fall ∷ ms) x = halt x
        by (Enter t i ∷ ms) x = halt x

    stays_apart : (w : World O) (p : Place) (s2 : Wait) (k2 : Said → Prog O I) (o2 : Ending) (v : World O) (e : Ending) → strip c p ≡ None → Stays R w p s2 k2 o2 v e →
        (q : Place) (s : Wait) (k : Said → Prog O I) (z : World O) (o : Ending) → rise_to (height_of s) q ≡ None → Stands prog (inside_of c v) q s k e z o → Stands prog (inside_of c w) q s k o2 z o
    stays_apart w p s2 k2 None v e d a q s k z o f b = nothing_apart w v e a.0 a.1 q s k z o b
    stays_apart w p s2 k2 (Some (Exit n)) v e d a q s k z o f b = exits_apart w p s2 n w.moves v e d a q s k z o f b
    stays_apart w p s2 k2 (Some (Completed x)) v e d a q s k z o f b = let y : Runs prog (inside_of c w) q (wait s k) z o = out w p (wait s2 k2) v e d a q s k z o f b in (y, y)
    stays_apart w p s2 k2 (Some (Stop n m)) v e d a q s k z o f b = let y : Runs prog (inside_of c w) q (wait s k) z o = out w p (wait s2 k2) v e d a q s k z o f b in (y, y)
    stays_apart w p s2 k2 (Some (Cut x)) v e d a q s k z o f b = let y : Runs prog (inside_of c w) q (wait s k) z o = out w p (wait s2 k2) v e d a q s k z o f b in (y, y)

    enters_apart : (w : World O) (p : Place) (s2 : Wait) (k2 : Said → Prog O I) (t : Path) (i : Entry) (n : Option (Node O)) (v : World O) (e : Ending) → strip c p ≡ None → w.tree t ≡ n → Enters prog R w p s2 k2 t i n v e →
        (q : Place) (s : Wait) (k : Said → Prog O I) (z : World O) (o : Ending) → rise_to (height_of s) q ≡ None → Stands prog (inside_of c v) q s k e z o → Runs prog (inside_of c w) q (wait s k) z o
    enters_apart w p s2 k2 t i None v e d g (u, a, x) q s k z o f b = unfound_meanwhile prog c t i w u q s k z o g a f (out u p (wait s2 k2) v e d x q s k z o f b)
    enters_apart w p s2 k2 t i (Some n) v e d g (u, o2, x, y) q s k z o f b = visits_around w None t i u o2 x (λ q2 j. refl) q s k z o f (stays_apart u p s2 k2 o2 v e d y q s k z o f b)

    moves_apart : (w : World O) (p : Place) (s2 : Wait) (k2 : Said → Prog O I) (m : Move O) (v : World O) (e : Ending) → strip c p ≡ None → Moves prog R w p s2 k2 m v e →
        (q : Place) (s : Wait) (k : Said → Prog O I) (z : World O) (o : Ending) → rise_to (height_of s) q ≡ None → Stands prog (inside_of c v) q s k e z o → Runs prog (inside_of c w) q (wait s k) z o
    moves_apart w p s2 k2 (Come a) v e d x q s k z o f b = answer_apart w p (height_of s2) k2 a v e d x q s k z o f b
    moves_apart w p s2 k2 (Born y l) v e d (u, t, a) q s k z o f b = meanwhile prog c [] (Made y l) w u q s k z o t (λ q2 g. (top_only c q2 g, tt)) f (out u p (wait s2 k2) v e d a q s k z o f b)
    moves_apart w p s2 k2 Fall v e d (u, t, a) q s k z o f b = meanwhile prog c [] Dropped w u q s k z o t (λ q2 g. (top_only c q2 g, tt)) f (out u p (wait s2 k2) v e d a q s k z o f b)
    moves_apart w p s2 k2 (Enter t i) v e d a q s k z o f b = enters_apart w p s2 k2 t i (w.tree t) v e d refl a q s k z o f b

    fitting_apart : (w : World O) (p : Place) (s2 : Wait) (k2 : Said → Prog O I) (l : Bool) (m : Move O) (v : World O) (e : Ending) → strip c p ≡ None → Fitting prog R w p s2 k2 l m v e →
        (q : Place) (s : Wait) (k : Said → Prog O I) (z : World O) (o : Ending) → rise_to (height_of s) q ≡ None → Stands prog (inside_of c v) q s k e z o → Runs prog (inside_of c w) q (wait s k) z o
    fitting_apart w p s2 k2 false m v e d a q s k z o f b = halted_wait w v e q s k z o a f b
    fitting_apart w p s2 k2 true m v e d a q s k z o f b = moves_apart w p s2 k2 m v e d a q s k z o f b

    waits_apart : (w : World O) (p : Place) (s2 : Wait) (k2 : Said → Prog O I) (ms : List (Move O)) (v : World O) (e : Ending) → strip c p ≡ None → Waits prog R w p s2 k2 ms v e →
        (q : Place) (s : Wait) (k : Said → Prog O I) (z : World O) (o : Ending) → rise_to (height_of s) q ≡ None → Stands prog (inside_of c v) q s k e z o → Runs prog (inside_of c w) q (wait s k) z o
    waits_apart w p s2 k2 [] v e d a q s k z o f b = halted_wait w v e q s k z o a f b
    waits_apart w p s2 k2 (m ∷ ms) v e d a q s k z o f b = fitting_apart w p s2 k2 (fits w.tree p s2 m) m v e d a q s k z o f b

    pub unrolled_apart : (w : World O) (p : Place) (x : Prog O I) (v : World O) (e : Ending) → strip c p ≡ None → Unrolled prog R w p x v e →
        (q : Place) (s : Wait) (k : Said → Prog O I) (z : World O) (o : Ending) → rise_to (height_of s) q ≡ None → Stands prog (inside_of c v) q s k e z o → Runs prog (inside_of c w) q (wait s k) z o
    unrolled_apart w p (done y) v e d a q s k z o f b = stands_wait prog (inside_of c w) q s k (Completed y) z o (subst (λ m. Stands prog m q s k (Some (Completed y)) z o) (ap (inside_of c) a.0) (subst (λ e2. Stands prog (inside_of c v) q s k e2 z o) a.1 b))
    unrolled_apart w p (exit n) v e d a q s k z o f b = stands_wait prog (inside_of c w) q s k (Exit n) z o (subst (λ m. Stands prog m q s k (Some (Exit n)) z o) (ap (inside_of c) a.0) (subst (λ e2. Stands prog (inside_of c v) q s k e2 z o) a.1 b))
    unrolled_apart w p (act y k2) v e d a q s k z o f b = acts_apart w p y (decide y w.tree p w.grants) refl k2 v e d a q s k z o f b
    unrolled_apart w p (go i k2) v e d (u, o2, a, a2) q s k z o f b = out w p (prog.program i) u o2 d a q s k z o f (then_apart u p k2 o2 v e d a2 q s k z o f b)
    unrolled_apart w p (inside y i k2) v e d a q s k z o f b = opens_apart w p y (opens y w.tree p w.grants) refl i k2 v e d a q s k z o f b
    unrolled_apart w p (call h2 down i lost k2) v e d (u, t, a) q s k z o f b =
        subst (λ m. Runs prog m q (wait s k) z o) (step_apart c p (Out h2 down i) w u t d tt) (calls_apart u p h2 down i lost k2 v e d (rise_to h2 p) refl a q s k z o f b)
    unrolled_apart w p (wait s2 k2) v e d (g, a) q s k z o f b = waits_apart w p s2 k2 w.moves v e d a q s k z o f b

  both : (prog : Table O I) (c : Place) (n : ℕ) → Projects prog c (RunsIn prog n) × Resumes prog c (RunsIn prog n)
  both prog c zero = ((λ w q x v e a. absurd a), (λ w p x v e d a q s k z o f b. absurd a))
  both prog c (suc n) =
      let ih : Projects prog c (RunsIn prog n) × Resumes prog c (RunsIn prog n) = both prog c n in
      (unrolled_within prog c (RunsIn prog n) ih.0 ih.1, unrolled_apart prog c (RunsIn prog n) ih.0 ih.1)

  pub runs_within : (prog : Table O I) (c : Place) → Projects prog c (Runs prog)
  runs_within prog c w q x v e (n, a) = (both prog c n).0 w q x v e a

  pub runs_apart : (prog : Table O I) (c : Place) → Resumes prog c (Runs prog)
  runs_apart prog c w p x v e d (n, a) q s k z o f b = (both prog c n).1 w p x v e d a q s k z o f b
