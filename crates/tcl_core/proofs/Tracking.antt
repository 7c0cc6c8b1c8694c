-- Where control is: in a subtree, or outside it.
use Rattle.std.proofs.Common.{sym, ◌≡◌, ℕ, ℤ, Bool, true, false, List, [], ◌∷◌, ◌++◌, Option, Some, None, length, refl, ◌∙◌, ap, subst, append_assoc}
use Rattle.tcl_core.specs.Paths.{Path, Place, Height, strip, rise_to}
use Rattle.tcl_core.specs.Endings.{Reply, Completion}
use Rattle.tcl_core.specs.Endings.Reply.{Exit}
use Rattle.tcl_core.specs.Entries.{Entry, Answer}
use Rattle.tcl_core.specs.Entries.Answer.{Replied}
use Rattle.tcl_core.specs.Trees.{Grants, Tree, What, Event, Move, Node}
use Rattle.tcl_core.specs.Trees.What.{Made, Dropped, Out, In, Done, Back, Unfound}
use Rattle.tcl_core.specs.Trees.Move.{Born, Fall, Enter, Come}
use Rattle.tcl_core.specs.Programs.{Deed, spot, Act, Wrap, Wait, Prog, Table, decide, opens, closes, Calls_only}
use Rattle.tcl_core.specs.Programs.Prog.{done, exit, act, go, inside, call, wait}
use Rattle.tcl_core.specs.Programs.{Calls_only}
use Rattle.tcl_core.specs.Runs.{World, Step, Ending, Halts, Exits, Exiting, reached, ends_call, height_of}
use Rattle.tcl_core.specs.Rules.{Derives}
use Rattle.tcl_core.specs.Rules.Derives.{completed, exited, acted, refused, unheard, went, passed, halted, wrapped, wrapped_passed, wrapped_halted, too_deep, shut, unheard_inside, called, called_passed, called_halted, unreached, called_out, unanswered, unfit, answered, heard, missed, answered_passed, entered, entered_halted, entered_exiting, born, fallen, unfound}
use Rattle.tcl_core.specs.Laws.{Turn, comes_in, goes_out, life_at, turn_in, turn_at, turn}
use Rattle.tcl_core.specs.Laws.Turn.{Enters, Leaves, Inside, Elsewhere, Life}
use Rattle.tcl_core.proofs.PathLaws.{not_both, Some-inj, strip_own, strip-sound, child_in, rise_to_within, rise_to_out, rise_to_elsewhere, rise_to_past, rise_into, rise_back}
use Rattle.tcl_core.proofs.TreeLaws.{IsLife, elsewhere_life, opens_here, reached_at, spot_in}
use Rattle.tcl_core.proofs.Subtrees.{top_only}
use Rattle.tcl_core.proofs.Plain.{IsPlain, decide_plain, opens_plain, closes_plain}
use Rattle.tcl_core.proofs.Callers.{Fits, fit, or_lost_all}
use Rattle.tcl_core.proofs.Halts.{halted_tape}

abbrev pub is_in : Option Place → Bool
is_in None = false
is_in (Some q) = true

abbrev pub Turned : (Bool → Type 0) → Turn → Bool → Type 0
Turned f Enters b = (b ≡ false) × f true
Turned f Leaves b = (b ≡ true) × f false
Turned f Inside b = (b ≡ true) × f true
Turned f Elsewhere b = (b ≡ false) × f false
Turned f Life b = f b

-- where control is while a call at p is out
abbrev pub gone : Option Place → Height → Bool
gone None h = false
gone (Some q) h = is_in (rise_to h q)

-- control comes to t from where b says, and goes back there
abbrev Comes : Bool → Option Place → Height → Type 0
Comes b None h = b ≡ false
Comes b (Some q) h = is_in (rise_to h q) ≡ b

module _ (c : Place) where
  -- a call within the tree comes from where its caller went
  call_comes : (p a : Place) (h : Height) (down : Path) → rise_to h p ≡ Some a → Comes (gone (strip c p) h) (strip c (a ++ down)) (Some (length down))
  call_comes p a h down e = by (strip c p) refl
    where
      away : (o : Option Place) → strip c a ≡ None → strip c (a ++ down) ≡ o → Comes false o (Some (length down))
      away None f g = refl
      away (Some q) f g = ap is_in (rise_into c a down q f g)

      inner : (q b : Place) → rise_to h q ≡ Some b → a ≡ c ++ b → Comes (is_in (rise_to h q)) (strip c (a ++ down)) (Some (length down))
      inner q b f g =
          let d : strip c (a ++ down) ≡ Some (b ++ down) = ap (λ z. strip c (z ++ down)) g ∙ ap (strip c) (append_assoc c b down) ∙ strip_own c (b ++ down) in
          subst (λ o. Comes (is_in (rise_to h q)) o (Some (length down))) (sym d) (ap is_in (rise_back b down) ∙ ap is_in (sym f))

      out : (q : Place) → rise_to h q ≡ None → strip c a ≡ None → Comes (is_in (rise_to h q)) (strip c (a ++ down)) (Some (length down))
      out q f g = subst (λ o. Comes (is_in o) (strip c (a ++ down)) (Some (length down))) (sym f) (away (strip c (a ++ down)) g refl)

      within : (q : Place) → strip c p ≡ Some q → (o : Option Place) → rise_to h q ≡ o → Comes (is_in (rise_to h q)) (strip c (a ++ down)) (Some (length down))
      within q f None g = out q g (rise_to_out c q h a g (subst (λ r. rise_to h r ≡ Some a) (strip-sound c p q f) e))
      within q f (Some b) g = inner q b g (Some-inj a (sym (subst (λ r. rise_to h r ≡ Some a) (strip-sound c p q f) e) ∙ rise_to_within c q h b g))

      by : (o : Option Place) → strip c p ≡ o → Comes (gone o h) (strip c (a ++ down)) (Some (length down))
      by None f = away (strip c (a ++ down)) (rise_to_elsewhere c p h a f e) refl
      by (Some q) f = within q f (rise_to h q) refl

  -- what comes from outside the tree comes from outside c
  outer_comes : (t : Place) → Comes false (strip c t) None
  outer_comes t = by (strip c t)
    where
      by : (o : Option Place) → Comes false o None
      by None = refl
      by (Some q) = refl

  -- control that waits for the outside of the tree is outside c
  gone_out : (p : Place) (h : Height) → rise_to h p ≡ None → gone (strip c p) h ≡ false
  gone_out p h e = by (strip c p) refl
    where
      by : (o : Option Place) → strip c p ≡ o → gone o h ≡ false
      by None f = refl
      by (Some q) f = ap is_in (rise_to_past c q h (subst (λ r. rise_to h r ≡ None) (strip-sound c p q f) e))

module _ {O : Type 0} where
  -- the tape from here, where control is in c or not
  abbrev pub Tracked : Place → List (Event O) → Bool → Type 0
  Tracked c [] b = Unit {0}
  Tracked c (ev ∷ τ) b = Turned (Tracked c τ) (turn c ev) b

module _ {O : Type 0} (c : Place) where
  abbrev Here : World O → Place → Type 0
  Here w p = Tracked c w.tape (is_in (strip c p))

  -- one happening
  turned : (w : World O) (p : Place) (x : What O) (u : World O) (b : Bool) → Step w p x u → Turned (Tracked c u.tape) (turn_at (strip c p) x) b → Tracked c w.tape b
  turned w p x u b s t = subst (λ τ. Tracked c τ b) (sym s.tape) t

  plain_inside : (q : Place) (x : What O) (f : Bool → Type 0) → IsPlain x → f true → Turned f (turn_in q x) true
  plain_inside q (In h i) f g t = absurd g
  plain_inside q (Done h i) f g t = absurd g
  plain_inside q (Out h d i) f g t = absurd g
  plain_inside q (Back h i) f g t = absurd g
  plain_inside q (Unfound t2 i y) f g t = absurd g
  plain_inside [] (Made o s) f g t = t
  plain_inside (y ∷ q) (Made o s) f g t = (refl, t)
  plain_inside [] Dropped f g t = t
  plain_inside (y ∷ q) Dropped f g t = (refl, t)
  plain_inside q _ f g t = (refl, t)

  life_elsewhere : (q : Place) (x : What O) (f : Bool → Type 0) → q ≡ [] → IsLife x → f false → Turned f (turn_in q x) false
  life_elsewhere q (Made o s) f e g t = subst (λ r. Turned f (life_at r) false) (sym e) t
  life_elsewhere q Dropped f e g t = subst (λ r. Turned f (life_at r) false) (sym e) t
  life_elsewhere q x f e g t = absurd g

  -- an act done here
  plain_here : (w : World O) (p : Place) (s : Option (List ℕ)) (x : What O) (u : World O) → IsPlain x → ((q : Place) → strip c p ≡ None → strip c (spot p s) ≡ Some q → (q ≡ []) × IsLife x) → Step w (spot p s) x u → Here u p → Here w p
  plain_here w p s x u f g t h = by (strip c p) refl h
    where
      away : (o : Option Place) → strip c p ≡ None → strip c (spot p s) ≡ o → Tracked c u.tape false → Turned (Tracked c u.tape) (turn_at o x) false
      away None e d j = (refl, j)
      away (Some q) e d j = let y : (q ≡ []) × IsLife x = g q e d in life_elsewhere q x (Tracked c u.tape) y.0 y.1 j

      by : (o : Option Place) → strip c p ≡ o → Tracked c u.tape (is_in o) → Tracked c w.tape (is_in o)
      by None e j = turned w (spot p s) x u false t (away (strip c (spot p s)) e refl j)
      by (Some q) e j =
          let d : strip c (spot p s) ≡ Some (spot q s) = spot_in c p q s e in
          turned w (spot p s) x u true t (subst (λ o. Turned (Tracked c u.tape) (turn_at o x) true) (sym d) (plain_inside (spot q s) x (Tracked c u.tape) f j))

  spot_life : (p : Place) (d : Act O) (T : Tree O) (gs : Grants) (x : Deed O) → decide d T p gs ≡ Some x → (s : Option (List ℕ)) → x.0 ≡ s → (q : Place) → strip c p ≡ None → strip c (spot p s) ≡ Some q → (q ≡ []) × IsLife x.1
  spot_life p d T gs x e None g q f h = absurd (not_both f h)
  spot_life p d T gs x e (Some name) g q f h = (child_in c p q name f h, elsewhere_life d T p gs x name e g)

  act_here : (w : World O) (p : Place) (d : Act O) (x : Deed O) (u : World O) → decide d w.tree p w.grants ≡ Some x → Step w (spot p x.0) x.1 u → Here u p → Here w p
  act_here w p d x u g s h = plain_here w p x.0 x.1 u (decide_plain d w.tree p w.grants x g) (spot_life p d w.tree w.grants x g x.0 refl) s h

  open_here : (w : World O) (p : Place) (b : Wrap O) (x : Deed O) (u : World O) → opens b w.tree p w.grants ≡ Some x → Step w (spot p x.0) x.1 u → Here u p → Here w p
  open_here w p b x u g s h = plain_here w p x.0 x.1 u (opens_plain b w.tree p w.grants x g) (λ q e f. absurd (not_both e (subst (λ l. strip c (spot p l) ≡ Some q) (opens_here b w.tree p w.grants x g) f))) s h

  close_here : (n : Option (Node O)) (w : World O) (p : Place) (b : Wrap O) (u : World O) → Step w p (closes b n (w.tree p)) u → Here u p → Here w p
  close_here n w p b u s h = plain_here w p None (closes b n (w.tree p)) u (closes_plain b n (w.tree p)) (λ q e f. absurd (not_both e f)) s h

  out_here : (w : World O) (p : Place) (h : Height) (down : Path) (i : Entry) (u : World O) → Step w p (Out h down i) u → Tracked c u.tape (gone (strip c p) h) → Here w p
  out_here w p h down i u s t = turned w p (Out h down i) u (is_in (strip c p)) s (by (strip c p) t)
    where
      goes : (o : Option Place) → Tracked c u.tape (is_in o) → Turned (Tracked c u.tape) (goes_out o) true
      goes None t = (refl, t)
      goes (Some a) t = (refl, t)

      by : (o : Option Place) → Tracked c u.tape (gone o h) → Turned (Tracked c u.tape) (turn_at {O = O} o (Out h down i)) (is_in o)
      by None t = (refl, t)
      by (Some q) t = goes (rise_to h q) t

  back_here : (w : World O) (p : Place) (h : Height) (a : Answer) (u : World O) → Step w p (Back h a) u → Here u p → Tracked c w.tape (gone (strip c p) h)
  back_here w p h a u s t = turned w p (Back h a) u (gone (strip c p) h) s (by (strip c p) t)
    where
      comes : (o : Option Place) → Tracked c u.tape true → Turned (Tracked c u.tape) (comes_in o) (is_in o)
      comes None t = (refl, t)
      comes (Some a) t = (refl, t)

      by : (o : Option Place) → Tracked c u.tape (is_in o) → Turned (Tracked c u.tape) (turn_at {O = O} o (Back h a)) (gone o h)
      by None t = (refl, t)
      by (Some q) t = comes (rise_to h q) t

  in_here : (w : World O) (t : Place) (h : Height) (i : Entry) (u : World O) (b : Bool) → Comes b (strip c t) h → Step w t (In h i) u → Here u t → Tracked c w.tape b
  in_here w t h i u b f s j = turned w t (In h i) u b s (by (strip c t) f j)
    where
      comes : (o : Option Place) → is_in o ≡ b → Tracked c u.tape true → Turned (Tracked c u.tape) (comes_in o) b
      comes None e t = (sym e, t)
      comes (Some a) e t = (sym e, t)

      by : (o : Option Place) → Comes b o h → Tracked c u.tape (is_in o) → Turned (Tracked c u.tape) (turn_at {O = O} o (In h i)) b
      by None f t = (f, t)
      by (Some q) f t = comes (rise_to h q) f t

  done_here : (w : World O) (t : Place) (h : Height) (r : Reply) (u : World O) (b : Bool) → Comes b (strip c t) h → Step w t (Done h r) u → Tracked c u.tape b → Here w t
  done_here w t h r u b f s j = turned w t (Done h r) u (is_in (strip c t)) s (by (strip c t) f)
    where
      goes : (o : Option Place) → is_in o ≡ b → Turned (Tracked c u.tape) (goes_out o) true
      goes None e = (refl, subst (Tracked c u.tape) (sym e) j)
      goes (Some a) e = (refl, subst (Tracked c u.tape) (sym e) j)

      by : (o : Option Place) → Comes b o h → Turned (Tracked c u.tape) (turn_at {O = O} o (Done h r)) (is_in o)
      by None f = (refl, subst (Tracked c u.tape) f j)
      by (Some q) f = goes (rise_to h q) f

  exits_here : (w : World O) (p : Place) (s : Wait) (n : ℤ) (ms : List (Move O)) (v : World O) (e : Ending) → Exits w p s n ms v e → Here v p → Tracked c w.tape (gone (strip c p) (height_of s))
  exits_here w p s n ms v e a h = by ms a
    where
      halt : Halts w v e → Tracked c w.tape (gone (strip c p) (height_of s))
      halt x = subst (λ τ. Tracked c τ (gone (strip c p) (height_of s))) (sym x.tape) tt

      back : (l : Bool) → Exiting w p s n l v e → Tracked c w.tape (gone (strip c p) (height_of s))
      back false x = halt x
      back true x = back_here w p (height_of s) (Replied (Exit n)) v x.0 h

      by : (ms : List (Move O)) → Exits w p s n ms v e → Tracked c w.tape (gone (strip c p) (height_of s))
      by [] x = halt x
      by (Come y ∷ ms) x = back (ends_call s n y) x
      by (Born o l ∷ ms) x = halt x
      by (Fall ∷ ms) x = halt x
      by (Enter u i ∷ ms) x = halt x

module _ {O I : Type 0} (top : Place) (prog : Table O I) where
  -- where a program's control is: at p, or outside while it waits
  abbrev pub Control : World O → Place → Prog O I → Type 0
  Control w p (wait s k) = Tracked top w.tape (gone (strip top p) (height_of s))
  Control w p _ = Here top w p

  control_here : (w : World O) (p : Place) (x : Prog O I) → Calls_only x → Control w p x → Here top w p
  control_here w p (wait s k) f t = absurd f
  control_here w p (done c) f t = t
  control_here w p (exit n) f t = t
  control_here w p (act d k) f t = t
  control_here w p (go i k) f t = t
  control_here w p (inside b i k) f t = t
  control_here w p (call h down i lost k) f t = t

  pub no_tape : (w : World O) (b : Bool) → w.tape ≡ [] → Tracked top w.tape b
  no_tape w b e = subst (λ τ. Tracked top τ b) (sym e) tt

  -- a visit, from where b says
  visit_here : (w inner left told : World O) (h : Height) (t : Place) (i : Entry) (r : Reply) (b : Bool) → Comes b (strip top t) h → Step w t (In h i) inner → (Here top left t → Here top inner t) → Step left t (Done h r) told → Tracked top told.tape b → Tracked top w.tape b
  visit_here w inner left told h t i r b f s g s2 j = in_here top w t h i inner b f s (g (done_here top left t h r told b f s2 j))

  called_comes : (u : World O) (p a t : Place) (h : Height) (down : Path) → rise_to h p ≡ Some a → reached u.tree a down ≡ Some t → Comes (gone (strip top p) h) (strip top t) (Some (length down))
  called_comes u p a t h down e f =
      subst (λ r. Comes (gone (strip top p) h) (strip top r) (Some (length down))) (sym (reached_at (u.tree (a ++ down)) t (a ++ down) f)) (call_comes top p a h down e)

  waits_out : (w : World O) (p : Place) (s : Wait) → rise_to (height_of s) p ≡ None → Tracked top w.tape false → Tracked top w.tape (gone (strip top p) (height_of s))
  waits_out w p s e t = subst (Tracked top w.tape) (sym (gone_out top p (height_of s) e)) t

  waits_in : (w : World O) (p : Place) (s : Wait) → rise_to (height_of s) p ≡ None → Tracked top w.tape (gone (strip top p) (height_of s)) → Tracked top w.tape false
  waits_in w p s e t = subst (Tracked top w.tape) (gone_out top p (height_of s) e) t

  life_here : (w : World O) (x : What O) (u : World O) → IsLife x → Step w [] x u → Tracked top u.tape false → Tracked top w.tape false
  life_here w x u l s t = turned top w [] x u false s (by (strip top []) refl)
    where
      by : (o : Option Place) → strip top [] ≡ o → Turned (Tracked top u.tape) (turn_at o x) false
      by None e = (refl, t)
      by (Some q) e = life_elsewhere top q x (Tracked top u.tape) (top_only top q e) l t

  -- an entry that finds nobody leaves control outside
  unfound_here : (w : World O) (t : Path) (i : Entry) (y : Completion) (u : World O) → Step w [] (Unfound t i y) u → Tracked top u.tape false → Tracked top w.tape false
  unfound_here w t i y u s j = turned top w [] (Unfound t i y) u false s (by (strip top []) refl)
    where
      by : (o : Option Place) → strip top [] ≡ o → Turned (Tracked top u.tape) (turn_at {O = O} o (Unfound t i y)) false
      by None e = (refl, j)
      by (Some q) e = subst (λ r. Turned (Tracked top u.tape) (life_at r) false) (sym (top_only top q e)) j

  pub track : {w : World O} {p : Place} {x : Prog O I} {v : World O} {e : Ending} → Derives prog w p x v e → Fits x → Here top v p → Control w p x
  track (completed w p c) f h = h
  track (exited w p n) f h = h
  track (acted w p d k x u v e g on s a) f h = act_here top w p d x u g s (control_here u p _ (f _) (track a (fit _ (f _)) h))
  track (refused w p d k x r u g off s) f h = act_here top w p d x u g s h
  track (unheard w p d k g t) f h = h
  track (went w p i k u c v e a b) f h = control_here w p _ (prog.programs_call i) (track a (fit _ (prog.programs_call i)) (control_here u p _ (f c) (track b (fit _ (f c)) h)))
  track (passed w p i k u r q a) f h = control_here w p _ (prog.programs_call i) (track a (fit _ (prog.programs_call i)) h)
  track (halted w p i k u a) f h = control_here w p _ (prog.programs_call i) (track a (fit _ (prog.programs_call i)) h)
  track (wrapped w p b i k x inner left closed v c e g on s a t d) f h =
      open_here top w p b x inner g s (control_here inner p _ (prog.programs_call i) (track a (fit _ (prog.programs_call i)) (close_here top (inner.tree p) left p b closed t (control_here closed p _ (f c) (track d (fit _ (f c)) h)))))
  track (wrapped_passed w p b i k x inner left closed r q g on s a t) f h =
      open_here top w p b x inner g s (control_here inner p _ (prog.programs_call i) (track a (fit _ (prog.programs_call i)) (close_here top (inner.tree p) left p b closed t h)))
  track (wrapped_halted w p b i k x inner left g on s a) f h = open_here top w p b x inner g s (control_here inner p _ (prog.programs_call i) (track a (fit _ (prog.programs_call i)) h))
  track (too_deep w p b i k x u v e g deep s a) f h = open_here top w p b x u g s (control_here u p _ (f _) (track a (fit _ (f _)) h))
  track (shut w p b i k x r u g off s) f h = open_here top w p b x u g s h
  track (unheard_inside w p b i k g t) f h = h
  track (called w p h down i lost k a t out inner left told back v r c e g s1 j s2 x s3 so s4 b) f n =
      out_here top w p h down i out s1 (visit_here out inner left told (Some (length down)) t i r (gone (strip top p) h) (called_comes out p a t h down g j) s2
      (λ l. control_here inner t _ (prog.entries_call i) (track x (fit _ (prog.entries_call i)) l)) s3
      (back_here top told p h _ back s4 (control_here back p _ (f _) (track b (fit _ (f _)) n))))
  track (called_passed w p h down i lost k a t out inner left told back r g s1 j s2 x s3 q s4) f n =
      out_here top w p h down i out s1 (visit_here out inner left told (Some (length down)) t i r (gone (strip top p) h) (called_comes out p a t h down g j) s2
      (λ l. control_here inner t _ (prog.entries_call i) (track x (fit _ (prog.entries_call i)) l)) s3 (back_here top told p h _ back s4 n))
  track (called_halted w p h down i lost k a t out inner left g s1 j s2 x) f n =
      out_here top w p h down i out s1 (in_here top out t (Some (length down)) i inner (gone (strip top p) h) (called_comes out p a t h down g j) s2
      (control_here inner t _ (prog.entries_call i) (track x (fit _ (prog.entries_call i)) (no_tape left _ (halted_tape prog x refl)))))
  track (unreached w p h down i lost k a out back v e g s1 j s2 x) f n = out_here top w p h down i out s1 (back_here top out p h _ back s2 (control_here back p _ (f _) (track x (fit _ (f _)) n)))
  track (called_out w p h down i lost k u v e g s a) f n = out_here top w p h down i u s (track a (or_lost_all Calls_only lost k f) n)
  track (unanswered w p s k g m t) f h = no_tape w _ t
  track (unfit w p s k m ms g j l t) f h = no_tape w _ t
  track (answered w p s k c u v e g j t a) f h = back_here top w p (height_of s) _ u t (control_here u p _ (f _) (track a (fit _ (f _)) h))
  track (heard w p s k y u v e g j t a) f h = back_here top w p (height_of s) _ u t (control_here u p _ (f _) (track a (fit _ (f _)) h))
  track (missed w p s k u v e g j t a) f h = back_here top w p (height_of s) _ u t (control_here u p _ (f _) (track a (fit _ (f _)) h))
  track (answered_passed w p s k r u q g j t) f h = back_here top w p (height_of s) _ u t h
  track (entered w p s k t i inner left told v r e g here s1 a s2 n b) f h =
      waits_out w p s g (visit_here w inner left told None t i r false (outer_comes top t) s1 (λ l. control_here inner t _ (prog.entries_call i) (track a (fit _ (prog.entries_call i)) l)) s2 (waits_in told p s g (track b f h)))
  track (entered_halted w p s k t i inner left g here s1 a) f h =
      waits_out w p s g (in_here top w t None i inner false (outer_comes top t) s1 (control_here inner t _ (prog.entries_call i) (track a (fit _ (prog.entries_call i)) (no_tape left _ (halted_tape prog a refl)))))
  track (entered_exiting w p s k t i inner left told v n e g here s1 a s2 b) f h =
      waits_out w p s g (visit_here w inner left told None t i (Exit n) false (outer_comes top t) s1 (λ l. control_here inner t _ (prog.entries_call i) (track a (fit _ (prog.entries_call i)) l)) s2 (waits_in told p s g (exits_here top told p s n told.moves v e b h)))
  track (born w p s k o b u v e g t a) f h = waits_out w p s g (life_here w (Made o b) u tt t (waits_in u p s g (track a f h)))
  track (unfound w p s k t i u v e g here b a) f h = waits_out w p s g (unfound_here w t i (prog.lost t) u b (waits_in u p s g (track a f h)))
  track (fallen w p s k u v e g t a) f h = waits_out w p s g (life_here w Dropped u tt t (waits_in u p s g (track a f h)))

-- along the tape
module _ {O : Type 0} (c : Place) where
  later : (τ : List (Event O)) (x : Turn) (b : Bool) → Turned (Tracked c τ) x b → (d : Bool) × Tracked c τ d
  later τ Enters b y = (true, y.1)
  later τ Leaves b y = (false, y.1)
  later τ Inside b y = (true, y.1)
  later τ Elsewhere b y = (false, y.1)
  later τ Life b y = (b, y)

  pub tracked_after : (σ τ : List (Event O)) (b : Bool) → Tracked c (σ ++ τ) b → (d : Bool) × Tracked c τ d
  tracked_after [] τ b t = (b, t)
  tracked_after (ev ∷ σ) τ b t =
      let n : (d : Bool) × Tracked c (σ ++ τ) d = later (σ ++ τ) (turn c ev) b t in
      tracked_after σ τ n.0 n.1
