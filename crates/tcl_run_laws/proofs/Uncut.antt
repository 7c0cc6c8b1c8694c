-- Where answers alone are handed in, what isn't cut off in the end was nowhere.
use Rattle.std.proofs.Common.{sym, ℕ, ◌∷◌, [], List, Option, Some, None, length, subst}
use Rattle.tcl_core.specs.Endings.{Completion, Reply}
use Rattle.tcl_core.specs.Endings.Reply.{Completed, Stop, Exit, Cut}
use Rattle.tcl_core.specs.Entries.{Answer, Entry}
use Rattle.tcl_core.specs.Entries.Answer.{Replied}
use Rattle.tcl_core.specs.Lives.{IsUncut, Uncut, comes}
use Rattle.tcl_core.specs.Paths.{Path, Place, Height, rise_to}
use Rattle.tcl_core.specs.Programs.{Prog, Table, Wrap, closes}
use Rattle.tcl_core.specs.Rules.{Derives, IsOn}
use Rattle.tcl_core.specs.Rules.Derives.{completed, exited, acted, refused, unheard, went, passed, halted, wrapped, wrapped_passed, wrapped_halted, too_deep, shut, unheard_inside, called, called_passed, called_halted, unreached, called_out, unanswered, unfit, answered, heard, missed, answered_passed, entered, entered_halted, entered_exiting, unfound, born, fallen}
use Rattle.tcl_core.specs.Runs.{Ending, Step, World, carried, gone, height_of}
use Rattle.tcl_core.specs.Trees.{Move, Node, What, asked, at_top, depth_of, where_none}
use Rattle.tcl_core.specs.Trees.Move.{Born, Fall, Enter, Come}
use Rattle.tcl_core.specs.Trees.What.{Made, Dropped, In, Done, Back, Unfound}
use Rattle.tcl_core.proofs.Keeping.{KeepsSteps, derived_keep}
use Rattle.tcl_core.proofs.TreeLaws.{any_close}
use Rattle.tcl_core.proofs.Unended.{NotCut, carried_cut, decide_uncut, opens_uncut, on_no_cut, off_no_cut}

-- the run halts, or isn't cut off
abbrev pub Unended : Ending → Type 0
Unended None = Unit {0}
Unended (Some r) = NotCut r

module _ {O : Type 0} where
  -- what is handed in are answers
  abbrev pub AreAnswers : List (Move O) → Type 0
  AreAnswers [] = Unit {0}
  AreAnswers (Come a ∷ ms) = AreAnswers ms
  AreAnswers (m ∷ ms) = Prim.⊥

  enters_left : (o : Option Place) (p : Path) (i : Entry) (ms : List (Move O)) → AreAnswers (where_none o (Enter p i) ms) → AreAnswers ms
  enters_left None p i ms f = absurd f
  enters_left (Some a) p i ms f = f

  comes_left : (o : Option Place) (a : Answer) (ms : List (Move O)) → AreAnswers (where_none o (Come a) ms) → AreAnswers ms
  comes_left None a ms f = f
  comes_left (Some b) a ms f = f

  born_left : (p : Path) (o : O) (s : _) (ms : List (Move O)) → AreAnswers (at_top p (Born o s) ms) → AreAnswers ms
  born_left [] o s ms f = absurd f
  born_left (x ∷ p) o s ms f = f

  fall_left : (p : Path) (ms : List (Move O)) → AreAnswers (at_top p Fall ms) → AreAnswers ms
  fall_left [] ms f = absurd f
  fall_left (x ∷ p) ms f = f

  -- after what is read answers alone are left
  asked_left : (p : Place) (x : What O) (ms : List (Move O)) → AreAnswers (asked p x ms) → AreAnswers ms
  asked_left p (In h i) ms f = enters_left (rise_to h p) p i ms f
  asked_left p (Back h a) ms f = comes_left (rise_to h p) a ms f
  asked_left p (Made o s) ms f = born_left p o s ms f
  asked_left p Dropped ms f = fall_left p ms f
  asked_left p (Unfound t i c) ms f = absurd f
  asked_left p x ms f = f

  next : (w : World O) (p : Place) (x : What O) (u : World O) → Step w p x u → AreAnswers w.moves → AreAnswers u.moves
  next w p x u s f = asked_left p x u.moves (subst AreAnswers s.moves f)

  answers_keep : KeepsSteps {O = O} (λ w. AreAnswers w.moves)
  answers_keep w p x v due s f = next w p x v s f

  -- so no entry comes in, none finds nobody, and the tree is neither made nor dropped
  no_entry : {A : Type 0} (w : World O) (t : Place) (i : Entry) (u : World O) → Step w t (In None i) u → AreAnswers w.moves → A
  no_entry w t i u s f = let g : AreAnswers (Enter t i ∷ u.moves) = subst AreAnswers s.moves f in absurd g

  no_one_unfound : {A : Type 0} (w : World O) (t : Path) (i : Entry) (c : Completion) (u : World O) → Step w [] (Unfound t i c) u → AreAnswers w.moves → A
  no_one_unfound w t i c u s f = let g : AreAnswers (Enter t i ∷ u.moves) = subst AreAnswers s.moves f in absurd g

  no_birth : {A : Type 0} (w : World O) (o : O) (b : _) (u : World O) → Step w [] (Made o b) u → AreAnswers w.moves → A
  no_birth w o b u s f = let g : AreAnswers (Born o b ∷ u.moves) = subst AreAnswers s.moves f in absurd g

  no_fall : {A : Type 0} (w : World O) (u : World O) → Step w [] Dropped u → AreAnswers w.moves → A
  no_fall w u s f = let g : AreAnswers (Fall ∷ u.moves) = subst AreAnswers s.moves f in absurd g

  before : (w : World O) (p : Place) (x : What O) (u : World O) → Step w p x u → Uncut p x → IsUncut u.tape → IsUncut w.tape
  before w p x u s f g = subst IsUncut (sym s.tape) (f, g)

  closes_uncut : (p : Place) (b : Wrap O) (m n : Option (Node O)) → Uncut p (closes b m n)
  closes_uncut p b m n = any_close (Uncut p) b m n tt tt (λ own. tt)

-- answers that come are answers
pub comes_answers : (O : Type 0) (as2 : List Answer) → AreAnswers {O = O} (comes as2)
comes_answers O [] = tt
comes_answers O (a ∷ as2) = comes_answers O as2

-- an entry that ends otherwise is not cut off
pub done_uncut : (O : Type 0) (p : Place) (h : Height) (r : Reply) → NotCut r → Uncut {O = O} p (Done h r)
done_uncut O p h (Completed c) f = tt
done_uncut O p h (Stop n m) f = tt
done_uncut O p h (Exit n) f = tt
done_uncut O p h (Cut c) f = absurd f

-- nor is a call
back_uncut : (O : Type 0) (p : Place) (h : Height) (r : Reply) → NotCut r → Uncut {O = O} p (Back h (Replied r))
back_uncut O p h (Completed c) f = tt
back_uncut O p h (Stop n m) f = tt
back_uncut O p h (Exit n) f = tt
back_uncut O p h (Cut c) f = absurd f

module _ {O I : Type 0} (prog : Table O I) where
  -- after a run answers alone are left
  rest_of : {w : World O} {p : Place} {x : Prog O I} {v : World O} {e : Ending} → Derives prog w p x v e → AreAnswers w.moves → AreAnswers v.moves
  rest_of a f = derived_keep (λ w. AreAnswers w.moves) answers_keep prog a f

  -- a run that is not cut off in the end is cut off nowhere
  pub uncut : {w : World O} {p : Place} {x : Prog O I} {v : World O} {e : Ending} → Derives prog w p x v e → AreAnswers w.moves → Unended e → IsUncut v.tape → IsUncut w.tape
  uncut (completed w p y) f n h = h
  uncut (exited w p y) f n h = h
  uncut (acted w p d k x u v e g on s a) f n h = before w _ x.1 u s (decide_uncut d w.tree p w.grants x g (on_no_cut x.2 on)) (uncut a (next w _ x.1 u s f) n h)
  uncut (refused w p d k x r u g off s) f n h = before w _ x.1 u s (decide_uncut d w.tree p w.grants x g (off_no_cut x.2 r off n)) h
  uncut (unheard w p d k g t) f n h = h
  uncut (went w p i k u c v e a b) f n h = uncut a f tt (uncut b (rest_of a f) n h)
  uncut (passed w p i k u r q a) f n h = uncut a f n h
  uncut (halted w p i k u a) f n h = uncut a f n h
  uncut (wrapped w p b i k x inner left closed v c e g on s a t d) f n h =
      let f1 = next w _ x.1 inner s f in
      before w _ x.1 inner s (opens_uncut b w.tree p w.grants x g (on_no_cut x.2 (subst IsOn (sym on) tt)))
      (uncut a f1 tt (before left p _ closed t (closes_uncut p b (inner.tree p) (left.tree p)) (uncut d (next left p _ closed t (rest_of a f1)) n h)))
  uncut (wrapped_passed w p b i k x inner left closed r q g on s a t) f n h =
      before w _ x.1 inner s (opens_uncut b w.tree p w.grants x g (on_no_cut x.2 (subst IsOn (sym on) tt)))
      (uncut a (next w _ x.1 inner s f) n (before left p _ closed t (closes_uncut p b (inner.tree p) (left.tree p)) h))
  uncut (wrapped_halted w p b i k x inner left g on s a) f n h =
      before w _ x.1 inner s (opens_uncut b w.tree p w.grants x g (on_no_cut x.2 (subst IsOn (sym on) tt))) (uncut a (next w _ x.1 inner s f) n h)
  uncut (too_deep w p b i k x u v e g deep s a) f n h =
      before w _ x.1 u s (opens_uncut b w.tree p w.grants x g (on_no_cut x.2 (subst IsOn (sym deep) tt))) (uncut a (next w _ x.1 u s f) n h)
  uncut (shut w p b i k x r u g off s) f n h = before w _ x.1 u s (opens_uncut b w.tree p w.grants x g (off_no_cut x.2 r off n)) h
  uncut (unheard_inside w p b i k g t) f n h = h
  uncut (called w p h down i lost k a t out inner left told back v r c e g s1 j s2 x s3 so s4 z) f n m =
      let f2 = next out t _ inner s2 (next w p _ out s1 f) in
      let f4 = next told p _ back s4 (next left t _ told s3 (rest_of x f2)) in
      let ousted : Option ℕ = gone (depth_of (out.tree p)) told.tree p in
      let l : NotCut (carried ousted h p down r) = subst NotCut (sym so) tt in
      let y : NotCut r = carried_cut ousted h p down r l in
      before w p _ out s1 tt (before out t _ inner s2 tt (uncut x f2 y
      (before left t _ told s3 (done_uncut O t (Some (length down)) r y) (before told p _ back s4 (back_uncut O p h (carried ousted h p down r) l) (uncut z f4 n m)))))
  uncut (called_passed w p h down i lost k a t out inner left told back r g s1 j s2 x s3 q s4) f n m =
      let f2 = next out t _ inner s2 (next w p _ out s1 f) in
      let ousted : Option ℕ = gone (depth_of (out.tree p)) told.tree p in
      let y : NotCut r = carried_cut ousted h p down r n in
      before w p _ out s1 tt (before out t _ inner s2 tt (uncut x f2 y
      (before left t _ told s3 (done_uncut O t (Some (length down)) r y) (before told p _ back s4 (back_uncut O p h (carried ousted h p down r) n) m))))
  uncut (called_halted w p h down i lost k a t out inner left g s1 j s2 x) f n m =
      before w p _ out s1 tt (before out t _ inner s2 tt (uncut x (next out t _ inner s2 (next w p _ out s1 f)) n m))
  uncut (unreached w p h down i lost k a out back v e g s1 j s2 x) f n m =
      before w p _ out s1 tt (before out p _ back s2 tt (uncut x (next out p _ back s2 (next w p _ out s1 f)) n m))
  uncut (called_out w p h down i lost k u v e g s a) f n m = before w p _ u s tt (uncut a (next w p _ u s f) n m)
  uncut (unanswered w p s k g m t) f n h = h
  uncut (unfit w p s k m ms g j l t) f n h = h
  uncut (answered w p s k c u v e g j t a) f n h = before w p _ u t tt (uncut a (next w p _ u t f) n h)
  uncut (heard w p s k y u v e g j t a) f n h = before w p _ u t tt (uncut a (next w p _ u t f) n h)
  uncut (missed w p s k u v e g j t a) f n h = before w p _ u t tt (uncut a (next w p _ u t f) n h)
  uncut (answered_passed w p s k r u q g j t) f n h = before w p _ u t (back_uncut O p (height_of s) r n) h
  uncut (entered w p s k t i inner left told v r e g here s1 a s2 q b) f n h = no_entry w t i inner s1 f
  uncut (entered_halted w p s k t i inner left g here s1 a) f n h = no_entry w t i inner s1 f
  uncut (entered_exiting w p s k t i inner left told v y e g here s1 a s2 b) f n h = no_entry w t i inner s1 f
  uncut (unfound w p s k t i u v e g here s1 a) f n h = no_one_unfound w t i (prog.lost t) u s1 f
  uncut (born w p s k o b u v e g t a) f n h = no_birth w o b u t f
  uncut (fallen w p s k u v e g t a) f n h = no_fall w u t f
