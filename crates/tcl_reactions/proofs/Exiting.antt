-- After an entry that ended by an exit comes nothing but an exit of the call that is open.
use Rattle.std.proofs.Common.{ℤ, Bool, true, false, List, [], ◌∷◌, ◌++◌, None, sym, subst}
use Rattle.tcl_core.specs.Paths.{Place}
use Rattle.tcl_core.specs.Endings.{Reply}
use Rattle.tcl_core.specs.Endings.Reply.{Completed, Stop, Exit, Cut}
use Rattle.tcl_core.specs.Entries.Answer.{Replied}
use Rattle.tcl_core.specs.Trees.{Event, Move, What}
use Rattle.tcl_core.specs.Trees.Move.{Born, Fall, Enter, Come}
use Rattle.tcl_core.specs.Trees.What.{Done, Back}
use Rattle.tcl_core.specs.Programs.{Prog, Table, Wait, closes, spot}
use Rattle.tcl_core.specs.Runs.{Ending, Exiting, Exits, Halts, Step, World, ends_call, height_of}
use Rattle.tcl_core.specs.Rules.{Derives, IsNoExit}
use Rattle.tcl_core.specs.Rules.Derives.{completed, exited, acted, refused, unheard, went, passed, halted, wrapped, wrapped_passed, wrapped_halted, too_deep, shut, unheard_inside, called, called_passed, called_halted, unreached, called_out, unanswered, unfit, answered, heard, missed, answered_passed, entered, entered_halted, entered_exiting, born, fallen, unfound}
use Rattle.tcl_core.proofs.Plain.{IsPlain, closes_plain, decide_plain, opens_plain}

module _ {O : Type 0} where
  -- an entry from outside ends by an exit
  abbrev pub IsExit : What O → Type 0
  IsExit (Done None (Exit n)) = Unit {0}
  IsExit x = Prim.⊥

  -- a call is ended by an exit
  abbrev pub IsExitBack : What O → Type 0
  IsExitBack (Back h (Replied (Exit n))) = Unit {0}
  IsExitBack x = Prim.⊥

  abbrev pub Follows : List (Event O) → Type 0
  Follows [] = Unit {0}
  Follows (ev ∷ τ) = IsExitBack ev.what

  abbrev pub Obeys : List (Event O) → Type 0
  Obeys [] = Unit {0}
  Obeys (ev ∷ τ) = (IsExit ev.what → Follows τ) × Obeys τ

  goes : (w : World O) (p : Place) (x : What O) (u : World O) → Step w p x u → (IsExit x → Follows u.tape) → Obeys u.tape → Obeys w.tape
  goes w p x u s f g = subst Obeys (sym s.tape) (f, g)

  plain_no_exit : {A : Type 0} (x : What O) → IsPlain x → IsExit x → A
  plain_no_exit (Done h r) f g = absurd f
  plain_no_exit x f g = absurd g

  plain : (w : World O) (p : Place) (x : What O) (u : World O) → Step w p x u → IsPlain x → Obeys u.tape → Obeys w.tape
  plain w p x u s f g = goes w p x u s (λ e. plain_no_exit x f e) g

  -- where one exits, what comes next ends a call so
  pub obeyed : (a : List (Event O)) (ev next : Event O) (τ : List (Event O)) → Obeys (a ++ ev ∷ (next ∷ τ)) → IsExit ev.what → IsExitBack next.what
  obeyed [] ev next τ f e = f.0 e
  obeyed (y ∷ a) ev next τ f e = obeyed a ev next τ f.1 e

no_exit : (O : Type 0) (r : Reply) (τ : List (Event O)) → IsNoExit r → IsExit {O = O} (Done None r) → Follows τ
no_exit O (Completed c) τ f e = absurd e
no_exit O (Stop n m) τ f e = absurd e
no_exit O (Exit n) τ f e = absurd f
no_exit O (Cut c) τ f e = absurd e

module _ {O I : Type 0} (prog : Table O I) where
  exits_obey : (w : World O) (p : Place) (s : Wait) (n : ℤ) (ms : List (Move O)) (v : World O) (e : Ending) → Exits w p s n ms v e → Obeys v.tape → Follows w.tape × Obeys w.tape
  exits_obey w p s n ms v e a h = by ms a
    where
      halt : Halts w v e → Follows w.tape × Obeys w.tape
      halt x = (subst Follows (sym x.tape) tt, subst Obeys (sym x.tape) tt)

      back : (l : Bool) → Exiting w p s n l v e → Follows w.tape × Obeys w.tape
      back false x = halt x
      back true x = (subst Follows (sym x.0.tape) tt, goes w p (Back (height_of s) (Replied (Exit n))) v x.0 (λ f. absurd f) h)

      by : (ms : List (Move O)) → Exits w p s n ms v e → Follows w.tape × Obeys w.tape
      by [] x = halt x
      by (Come y ∷ ms) x = back (ends_call s n y) x
      by (Born o l ∷ ms) x = halt x
      by (Fall ∷ ms) x = halt x
      by (Enter u i ∷ ms) x = halt x

  pub exiting : {w : World O} {p : Place} {x : Prog O I} {v : World O} {e : Ending} → Derives prog w p x v e → Obeys v.tape → Obeys w.tape
  exiting (completed w p y) h = h
  exiting (exited w p n) h = h
  exiting (acted w p y k x u v e g on s a) h = plain w (spot p x.0) x.1 u s (decide_plain y w.tree p w.grants x g) (exiting a h)
  exiting (refused w p y k x r u g off s) h = plain w (spot p x.0) x.1 u s (decide_plain y w.tree p w.grants x g) h
  exiting (unheard w p y k g t) h = h
  exiting (went w p i k u y v e a b) h = exiting a (exiting b h)
  exiting (passed w p i k u r q a) h = exiting a h
  exiting (halted w p i k u a) h = exiting a h
  exiting (wrapped w p b i k x inner left closed v y e g on s a t z) h =
      plain w (spot p x.0) x.1 inner s (opens_plain b w.tree p w.grants x g) (exiting a (plain left p (closes b (inner.tree p) (left.tree p)) closed t (closes_plain b (inner.tree p) (left.tree p)) (exiting z h)))
  exiting (wrapped_passed w p b i k x inner left closed r q g on s a t) h =
      plain w (spot p x.0) x.1 inner s (opens_plain b w.tree p w.grants x g) (exiting a (plain left p (closes b (inner.tree p) (left.tree p)) closed t (closes_plain b (inner.tree p) (left.tree p)) h))
  exiting (wrapped_halted w p b i k x inner left g on s a) h = plain w (spot p x.0) x.1 inner s (opens_plain b w.tree p w.grants x g) (exiting a h)
  exiting (too_deep w p b i k x u v e g deep s a) h = plain w (spot p x.0) x.1 u s (opens_plain b w.tree p w.grants x g) (exiting a h)
  exiting (shut w p b i k x r u g off s) h = plain w (spot p x.0) x.1 u s (opens_plain b w.tree p w.grants x g) h
  exiting (unheard_inside w p b i k g t) h = h
  exiting (called w p h down i lost k a t out inner left told back v r y e g s1 j s2 x s3 so s4 b) f =
      goes w p _ out s1 (λ z. absurd z) (goes out t _ inner s2 (λ z. absurd z) (exiting x (goes left t _ told s3 (λ z. absurd z) (goes told p _ back s4 (λ z. absurd z) (exiting b f)))))
  exiting (called_passed w p h down i lost k a t out inner left told back r g s1 j s2 x s3 q s4) f =
      goes w p _ out s1 (λ z. absurd z) (goes out t _ inner s2 (λ z. absurd z) (exiting x (goes left t _ told s3 (λ z. absurd z) (goes told p _ back s4 (λ z. absurd z) f))))
  exiting (called_halted w p h down i lost k a t out inner left g s1 j s2 x) f = goes w p _ out s1 (λ z. absurd z) (goes out t _ inner s2 (λ z. absurd z) (exiting x f))
  exiting (unreached w p h down i lost k a out back v e g s1 j s2 x) f = goes w p _ out s1 (λ z. absurd z) (goes out p _ back s2 (λ z. absurd z) (exiting x f))
  exiting (called_out w p h down i lost k u v e g s a) f = goes w p _ u s (λ z. absurd z) (exiting a f)
  exiting (unanswered w p s k g m t) h = h
  exiting (unfit w p s k m ms g j l t) h = h
  exiting (answered w p s k y u v e g j t a) h = goes w p _ u t (λ z. absurd z) (exiting a h)
  exiting (heard w p s k y u v e g j t a) h = goes w p _ u t (λ z. absurd z) (exiting a h)
  exiting (missed w p s k u v e g j t a) h = goes w p _ u t (λ z. absurd z) (exiting a h)
  exiting (answered_passed w p s k r u q g j t) h = goes w p _ u t (λ z. absurd z) h
  exiting (entered w p s k t i inner left told v r e g here s1 a s2 n b) h = goes w t _ inner s1 (λ z. absurd z) (exiting a (goes left t _ told s2 (no_exit O r told.tape n) (exiting b h)))
  exiting (entered_halted w p s k t i inner left g here s1 a) h = goes w t _ inner s1 (λ z. absurd z) (exiting a h)
  exiting (entered_exiting w p s k t i inner left told v n e g here s1 a s2 b) h =
      let z = exits_obey told p s n told.moves v e b h in
      goes w t _ inner s1 (λ z. absurd z) (exiting a (goes left t _ told s2 (λ f. z.0) z.1))
  exiting (born w p s k o b u v e g t a) h = goes w [] _ u t (λ z. absurd z) (exiting a h)
  exiting (unfound w p s k t i u v e g here b a) h = goes w [] _ u b (λ z. absurd z) (exiting a h)
  exiting (fallen w p s k u v e g t a) h = goes w [] _ u t (λ z. absurd z) (exiting a h)
