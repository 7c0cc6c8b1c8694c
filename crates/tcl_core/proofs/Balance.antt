-- Entries into a tree and their ends, in pairs.
use Rattle.std.proofs.Common.{sym, ◌≡◌, ℕ, suc, ℤ, ◌+◌, Bool, true, false, List, [], ◌∷◌, ◌++◌, Option, Some, None, length, refl, ◌∙◌, ap, subst, arith}
use Rattle.tcl_core.specs.Paths.{Path, Place, Height, strip, rise_to}
use Rattle.tcl_core.specs.Endings.{Reply}
use Rattle.tcl_core.specs.Endings.Reply.{Exit}
use Rattle.tcl_core.specs.Entries.{Entry, Answer}
use Rattle.tcl_core.specs.Entries.Answer.{Replied}
use Rattle.tcl_core.specs.Trees.{What, Event, Move, seen_what, Node}
use Rattle.tcl_core.specs.Trees.What.{Made, Dropped, Out, In, Done, Back, Unfound}
use Rattle.tcl_core.specs.Trees.Move.{Born, Fall, Enter, Come}
use Rattle.tcl_core.specs.Programs.{Deed, spot, Act, Wrap, Wait, Prog, Table, decide, opens, closes}
use Rattle.tcl_core.specs.Runs.{World, Step, Ending, Halts, Exits, Exiting, ends_call, height_of}
use Rattle.tcl_core.specs.Rules.{Derives}
use Rattle.tcl_core.specs.Rules.Derives.{completed, exited, acted, refused, unheard, went, passed, halted, wrapped, wrapped_passed, wrapped_halted, too_deep, shut, unheard_inside, called, called_passed, called_halted, unreached, called_out, unanswered, unfit, answered, heard, missed, answered_passed, entered, entered_halted, entered_exiting, born, fallen, unfound}
use Rattle.tcl_core.specs.Views.{view, kept, from_above}
use Rattle.tcl_core.proofs.PathLaws.{seen_rise, strip_own, strip-sound}
use Rattle.tcl_core.proofs.MoreMoves.{none_not}
use Rattle.tcl_core.proofs.Plain.{IsPlain, decide_plain, opens_plain, closes_plain}

abbrev pub one_more : Option Place → ℕ → ℕ
one_more None n = suc n
one_more (Some a) n = n

-- whether a height, counted from p, passes the top of the subtree at c; where p is elsewhere it doesn't count
abbrev pub passes : Option Place → Height → Option Place
passes None h = Some []
passes (Some q) h = rise_to h q

abbrev pub through : Place → Place → Height → Option Place
through c p h = passes (strip c p) h

module _ {O : Type 0} (c : Place) where
  -- entries into c from outside, and their ends
  abbrev pub in_at : Place → What O → ℕ → ℕ
  in_at p (In h i) n = one_more (through c p h) n
  in_at p _ n = n

  abbrev pub done_at : Place → What O → ℕ → ℕ
  done_at p (Done h r) n = one_more (through c p h) n
  done_at p _ n = n

  abbrev pub ins : List (Event O) → ℕ
  ins [] = 0
  ins (ev ∷ τ) = in_at ev.place ev.what (ins τ)

  abbrev pub dones : List (Event O) → ℕ
  dones [] = 0
  dones (ev ∷ τ) = done_at ev.place ev.what (dones τ)

  -- how many entries are begun here and not ended: k, and none where it came to an end
  pub record Owes (w v : World O) (e : Ending) : Type 0 where
    pub open_ins : ℕ
    pub sum : ins w.tape + dones v.tape ≡ dones w.tape + ins v.tape + open_ins
    pub none_left : (r : Reply) → e ≡ Some r → open_ins ≡ 0

  at_once : (w : World O) (e : Ending) → Owes w w e
  at_once w e = record { open_ins = 0; sum = omega arith; none_left = λ r q. refl }

  -- a happening that is no entry and no end
  plain_in : (p : Place) (x : What O) (n : ℕ) → IsPlain x → in_at p x n ≡ n
  plain_in p (In h i) n f = absurd f
  plain_in p _ n f = refl

  plain_done : (p : Place) (x : What O) (n : ℕ) → IsPlain x → done_at p x n ≡ n
  plain_done p (Done h r) n f = absurd f
  plain_done p _ n f = refl

  step_owes : (w : World O) (p : Place) (x : What O) (u v : World O) (e : Ending) → Step w p x u → ((n : ℕ) → in_at p x n ≡ n) → ((n : ℕ) → done_at p x n ≡ n) → Owes u v e → Owes w v e
  step_owes w p x u v e s f g a =
      let i : ins w.tape ≡ ins u.tape = ap ins s.tape ∙ f (ins u.tape) in
      let d : dones w.tape ≡ dones u.tape = ap dones s.tape ∙ g (dones u.tape) in
      let h : ins u.tape + dones v.tape ≡ dones u.tape + ins v.tape + a.open_ins = a.sum in
      record { open_ins = a.open_ins; sum = omega arith; none_left = a.none_left }

  plain_owes : (w : World O) (p : Place) (x : What O) (u v : World O) (e : Ending) → IsPlain x → Step w p x u → Owes u v e → Owes w v e
  plain_owes w p x u v e f s a = step_owes w p x u v e s (λ n. plain_in p x n f) (λ n. plain_done p x n f) a

  -- one run after another that came to an end
  then_owes : (w u v : World O) (r : Reply) (e : Ending) → Owes w u (Some r) → Owes u v e → Owes w v e
  then_owes w u v r e a b =
      let f : ins w.tape + dones u.tape ≡ dones w.tape + ins u.tape + a.open_ins = a.sum in
      let z : a.open_ins ≡ 0 = a.none_left r refl in
      let g : ins u.tape + dones v.tape ≡ dones u.tape + ins v.tape + b.open_ins = b.sum in
      record { open_ins = b.open_ins; sum = omega arith; none_left = b.none_left }

  same_end : (w v : World O) (r : Reply) (e : Ending) → Owes w v (Some r) → Owes w v e
  same_end w v r e a = record { open_ins = a.open_ins; sum = a.sum; none_left = λ l q. a.none_left r refl }

  pub visit_owes : (w inner left told : World O) (h : Height) (t : Place) (i : Entry) (r : Reply) → Step w t (In h i) inner → Owes inner left (Some r) → Step left t (Done h r) told → Owes w told (Some r)
  visit_owes w inner left told h t i r s a s2 = by (through c t h) refl
    where
      by : (o : Option Place) → through c t h ≡ o → Owes w told (Some r)
      by (Some z) q =
          let i1 : ins w.tape ≡ ins inner.tape = ap ins s.tape ∙ ap (λ o. one_more o (ins inner.tape)) q in
          let d1 : dones w.tape ≡ dones inner.tape = ap dones s.tape in
          let i2 : ins left.tape ≡ ins told.tape = ap ins s2.tape in
          let d2 : dones left.tape ≡ dones told.tape = ap dones s2.tape ∙ ap (λ o. one_more o (dones told.tape)) q in
          let f : ins inner.tape + dones left.tape ≡ dones inner.tape + ins left.tape + a.open_ins = a.sum in
          record { open_ins = a.open_ins; sum = omega arith; none_left = a.none_left }
      by None q =
          let i1 : ins w.tape ≡ suc (ins inner.tape) = ap ins s.tape ∙ ap (λ o. one_more o (ins inner.tape)) q in
          let d1 : dones w.tape ≡ dones inner.tape = ap dones s.tape in
          let i2 : ins left.tape ≡ ins told.tape = ap ins s2.tape in
          let d2 : dones left.tape ≡ suc (dones told.tape) = ap dones s2.tape ∙ ap (λ o. one_more o (dones told.tape)) q in
          let f : ins inner.tape + dones left.tape ≡ dones inner.tape + ins left.tape + a.open_ins = a.sum in
          record { open_ins = a.open_ins; sum = omega arith; none_left = a.none_left }

  -- an entry that halts
  halted_owes : (w inner left : World O) (h : Height) (t : Place) (i : Entry) → Step w t (In h i) inner → Owes inner left None → Owes w left None
  halted_owes w inner left h t i s a = by (through c t h) refl
    where
      by : (o : Option Place) → through c t h ≡ o → Owes w left None
      by (Some z) q =
          let i1 : ins w.tape ≡ ins inner.tape = ap ins s.tape ∙ ap (λ o. one_more o (ins inner.tape)) q in
          let d1 : dones w.tape ≡ dones inner.tape = ap dones s.tape in
          let f : ins inner.tape + dones left.tape ≡ dones inner.tape + ins left.tape + a.open_ins = a.sum in
          record { open_ins = a.open_ins; sum = omega arith; none_left = a.none_left }
      by None q =
          let i1 : ins w.tape ≡ suc (ins inner.tape) = ap ins s.tape ∙ ap (λ o. one_more o (ins inner.tape)) q in
          let d1 : dones w.tape ≡ dones inner.tape = ap dones s.tape in
          let f : ins inner.tape + dones left.tape ≡ dones inner.tape + ins left.tape + a.open_ins = a.sum in
          record { open_ins = suc a.open_ins; sum = omega arith; none_left = λ r q2. none_not r q2 }

  pub halted_more : (w inner left : World O) (h : Height) (t : Place) (i : Entry) → through c t h ≡ None → Step w t (In h i) inner → (a : Owes inner left None) → ins w.tape + dones left.tape ≡ dones w.tape + ins left.tape + suc a.open_ins
  halted_more w inner left h t i q s a =
      let i1 : ins w.tape ≡ suc (ins inner.tape) = ap ins s.tape ∙ ap (λ o. one_more o (ins inner.tape)) q in
      let d1 : dones w.tape ≡ dones inner.tape = ap dones s.tape in
      let f : ins inner.tape + dones left.tape ≡ dones inner.tape + ins left.tape + a.open_ins = a.sum in
      omega arith

  exits_owe : (w : World O) (p : Place) (s : Wait) (n : ℤ) (ms : List (Move O)) (v : World O) (e : Ending) → Exits w p s n ms v e → Owes w v e
  exits_owe w p s n ms v e a = by ms a
    where
      halt : Halts w v e → Owes w v e
      halt x = subst (λ u. Owes w u e) (sym x.same) (at_once w e)

      back : (l : Bool) → Exiting w p s n l v e → Owes w v e
      back false x = halt x
      back true x = step_owes w p (Back (height_of s) (Replied (Exit n))) v v e x.0 (λ n. refl) (λ n. refl) (at_once v e)

      by : (ms : List (Move O)) → Exits w p s n ms v e → Owes w v e
      by [] x = halt x
      by (Come y ∷ ms) x = back (ends_call s n y) x
      by (Born o l ∷ ms) x = halt x
      by (Fall ∷ ms) x = halt x
      by (Enter u i ∷ ms) x = halt x

  crossing_owes : (w : World O) (p : Place) (h : Height) (down : Path) (i : Entry) (u v : World O) (e : Ending) → Step w p (Out h down i) u → Owes u v e → Owes w v e
  crossing_owes w p h down i u v e s a = step_owes w p (Out h down i) u v e s (λ n. refl) (λ n. refl) a

  answer_owes : (w : World O) (p : Place) (h : Height) (y : Answer) (u v : World O) (e : Ending) → Step w p (Back h y) u → Owes u v e → Owes w v e
  answer_owes w p h y u v e s a = step_owes w p (Back h y) u v e s (λ n. refl) (λ n. refl) a

module _ {O I : Type 0} (top : Place) (prog : Table O I) where
  acts : (w : World O) (p : Place) (d : Act O) (x : Deed O) (u v : World O) (e : Ending) → decide d w.tree p w.grants ≡ Some x → Step w (spot p x.0) x.1 u → Owes top u v e → Owes top w v e
  acts w p d x u v e g s a = plain_owes top w (spot p x.0) x.1 u v e (decide_plain d w.tree p w.grants x g) s a

  begins : (w : World O) (p : Place) (b : Wrap O) (x : Deed O) (u v : World O) (e : Ending) → opens b w.tree p w.grants ≡ Some x → Step w (spot p x.0) x.1 u → Owes top u v e → Owes top w v e
  begins w p b x u v e g s a = plain_owes top w (spot p x.0) x.1 u v e (opens_plain b w.tree p w.grants x g) s a

  ends : (n : Option (Node O)) (w : World O) (p : Place) (b : Wrap O) (u v : World O) (e : Ending) → Step w p (closes b n (w.tree p)) u → Owes top u v e → Owes top w v e
  ends n w p b u v e s a = plain_owes top w p (closes b n (w.tree p)) u v e (closes_plain b n (w.tree p)) s a

  pub owes : {w : World O} {p : Place} {x : Prog O I} {v : World O} {e : Ending} → Derives prog w p x v e → Owes top w v e
  owes (completed w p c) = at_once top w _
  owes (exited w p n) = at_once top w _
  owes (acted w p d k x u v e g on s a) = acts w p d x u v e g s (owes a)
  owes (refused w p d k x r u g off s) = acts w p d x u u _ g s (at_once top u _)
  owes (unheard w p d k g t) = at_once top w None
  owes (went w p i k u c v e a b) = then_owes top w u v _ e (owes a) (owes b)
  owes (passed w p i k u r q a) = owes a
  owes (halted w p i k u a) = owes a
  owes (wrapped w p b i k x inner left closed v c e g on s a t d) = begins w p b x inner v e g s (then_owes top inner left v _ e (owes a) (ends (inner.tree p) left p b closed v e t (owes d)))
  owes (wrapped_passed w p b i k x inner left closed r q g on s a t) = begins w p b x inner closed _ g s (then_owes top inner left closed r _ (owes a) (ends (inner.tree p) left p b closed closed _ t (at_once top closed _)))
  owes (wrapped_halted w p b i k x inner left g on s a) = begins w p b x inner left None g s (owes a)
  owes (too_deep w p b i k x u v e g deep s a) = begins w p b x u v e g s (owes a)
  owes (shut w p b i k x r u g off s) = begins w p b x u u _ g s (at_once top u _)
  owes (unheard_inside w p b i k g t) = at_once top w None
  owes (called w p h down i lost k a t out inner left told back v r c e f s1 g s2 x s3 so s4 b) =
      crossing_owes top w p h down i out v e s1 (then_owes top out told v r e (visit_owes top out inner left told (Some (length down)) t i r s2 (owes x) s3) (answer_owes top told p h _ back v e s4 (owes b)))
  owes (called_passed w p h down i lost k a t out inner left told back r f s1 g s2 x s3 q s4) =
      crossing_owes top w p h down i out back _ s1 (then_owes top out told back r _ (visit_owes top out inner left told (Some (length down)) t i r s2 (owes x) s3) (answer_owes top told p h _ back back _ s4 (at_once top back _)))
  owes (called_halted w p h down i lost k a t out inner left f s1 g s2 x) = crossing_owes top w p h down i out left None s1 (halted_owes top out inner left (Some (length down)) t i s2 (owes x))
  owes (unreached w p h down i lost k a out back v e f s1 g s2 x) = crossing_owes top w p h down i out v e s1 (answer_owes top out p h _ back v e s2 (owes x))
  owes (called_out w p h down i lost k u v e f s a) = crossing_owes top w p h down i u v e s (owes a)
  owes (unanswered w p s k f m t) = at_once top w None
  owes (unfit w p s k m ms f g h t) = at_once top w None
  owes (answered w p s k c u v e f g t a) = answer_owes top w p (height_of s) _ u v e t (owes a)
  owes (heard w p s k y u v e f g t a) = answer_owes top w p (height_of s) _ u v e t (owes a)
  owes (missed w p s k u v e f g t a) = answer_owes top w p (height_of s) _ u v e t (owes a)
  owes (answered_passed w p s k r u q f g t) = answer_owes top w p (height_of s) _ u u _ t (at_once top u _)
  owes (entered w p s k t i inner left told v r e f here s1 a s2 n b) = then_owes top w told v r e (visit_owes top w inner left told None t i r s1 (owes a) s2) (owes b)
  owes (entered_halted w p s k t i inner left f here s1 a) = halted_owes top w inner left None t i s1 (owes a)
  owes (entered_exiting w p s k t i inner left told v n e f here s1 a s2 b) = then_owes top w told v (Exit n) e (visit_owes top w inner left told None t i (Exit n) s1 (owes a) s2) (exits_owe top told p s n told.moves v e b)
  owes (born w p s k o b u v e f t a) = plain_owes top w [] (Made o b) u v e tt t (owes a)
  owes (fallen w p s k u v e f t a) = plain_owes top w [] Dropped u v e tt t (owes a)
  owes (unfound w p s k t i u v e f here b a) = step_owes top w [] (Unfound t i (prog.lost t)) u v e b (λ n. refl) (λ n. refl) (owes a)

-- in a subtree they are seen as they are
module _ {O : Type 0} where
  in_seen : (c q : Place) (x : What O) (n : ℕ) → in_at [] q (seen_what q x) n ≡ in_at c (c ++ q) x n
  in_seen c q (In h i) n = ap (λ o. one_more o n) (seen_rise q h) ∙ ap (λ o. one_more (passes o h) n) (sym (strip_own c q))
  in_seen c q _ n = refl

  done_seen : (c q : Place) (x : What O) (n : ℕ) → done_at [] q (seen_what q x) n ≡ done_at c (c ++ q) x n
  done_seen c q (Done h r) n = ap (λ o. one_more o n) (seen_rise q h) ∙ ap (λ o. one_more (passes o h) n) (sym (strip_own c q))
  done_seen c q _ n = refl

  in_apart : (c p : Place) (x : What O) (n : ℕ) → strip c p ≡ None → in_at c p x n ≡ n
  in_apart c p (In h i) n e = ap (λ o. one_more (passes o h) n) e
  in_apart c p _ n e = refl

  done_apart : (c p : Place) (x : What O) (n : ℕ) → strip c p ≡ None → done_at c p x n ≡ n
  done_apart c p (Done h r) n e = ap (λ o. one_more (passes o h) n) e
  done_apart c p _ n e = refl

  above_ins : (b : Option Place) (x : What O) (τ : List (Event O)) → ins [] (from_above b x τ) ≡ ins [] τ
  above_ins (Some z) Dropped τ = refl
  above_ins b x τ = refl

  above_dones : (b : Option Place) (x : What O) (τ : List (Event O)) → dones [] (from_above b x τ) ≡ dones [] τ
  above_dones (Some z) Dropped τ = refl
  above_dones b x τ = refl

  kept_ins : (c p : Place) (x : What O) (τ : List (Event O)) (n : ℕ) → ins [] τ ≡ n → (s : Option Place) → strip c p ≡ s → ins [] (kept s (strip p c) x τ) ≡ in_at c p x n
  kept_ins c p x τ n f None e = above_ins (strip p c) x τ ∙ f ∙ sym (in_apart c p x n e)
  kept_ins c p x τ n f (Some q) e = ap (in_at [] q (seen_what q x)) f ∙ in_seen c q x n ∙ ap (λ r. in_at c r x n) (sym (strip-sound c p q e))

  kept_dones : (c p : Place) (x : What O) (τ : List (Event O)) (n : ℕ) → dones [] τ ≡ n → (s : Option Place) → strip c p ≡ s → dones [] (kept s (strip p c) x τ) ≡ done_at c p x n
  kept_dones c p x τ n f None e = above_dones (strip p c) x τ ∙ f ∙ sym (done_apart c p x n e)
  kept_dones c p x τ n f (Some q) e = ap (done_at [] q (seen_what q x)) f ∙ done_seen c q x n ∙ ap (λ r. done_at c r x n) (sym (strip-sound c p q e))

  pub view_ins : (c : Place) (τ : List (Event O)) → ins [] (view c τ) ≡ ins c τ
  view_ins c [] = refl
  view_ins c (ev ∷ τ) = kept_ins c ev.place ev.what (view c τ) (ins c τ) (view_ins c τ) (strip c ev.place) refl

  pub view_dones : (c : Place) (τ : List (Event O)) → dones [] (view c τ) ≡ dones c τ
  view_dones c [] = refl
  view_dones c (ev ∷ τ) = kept_dones c ev.place ev.what (view c τ) (dones c τ) (view_dones c τ) (strip c ev.place) refl
