-- A run that comes to its end, with more moves and happenings behind it.
use Rattle.std.proofs.Common.{◌≡◌, ℤ, Bool, true, false, List, [], ◌∷◌, ◌++◌, Some, refl, sym, ◌∙◌, ap}
use Rattle.tcl_core.specs.Paths.{Place}
use Rattle.tcl_core.specs.Endings.{Reply}
use Rattle.tcl_core.specs.Endings.Reply.{Exit}
use Rattle.tcl_core.specs.Entries.Answer.{Replied}
use Rattle.tcl_core.specs.Trees.{Event, Move, What}
use Rattle.tcl_core.specs.Trees.Move.{Born, Fall, Enter, Come}
use Rattle.tcl_core.specs.Trees.What.{Back}
use Rattle.tcl_core.specs.Programs.{Prog, Table, Wait, spot}
use Rattle.tcl_core.specs.Runs.{Ending, Exiting, Exits, Halts, Step, World, ends_call, height_of}
use Rattle.tcl_core.specs.Rules.{Derives}
use Rattle.tcl_core.specs.Rules.Derives.{completed, exited, acted, refused, unheard, went, passed, halted, wrapped, wrapped_passed, wrapped_halted, too_deep, shut, unheard_inside, called, called_passed, called_halted, unreached, called_out, unanswered, unfit, answered, heard, missed, answered_passed, entered, entered_halted, entered_exiting, born, fallen, unfound}
use Rattle.tcl_core.proofs.MoreMoves.{asked_more, none_not}

module _ {O : Type 0} where
  -- the same world, with these moves and these happenings behind it
  abbrev pub longer : World O → List (Move O) → List (Event O) → World O
  longer w ms σ = record { tree = w.tree; moves = w.moves ++ ms; grants = w.grants; tape = w.tape ++ σ }

  pub step_longer : (ms : List (Move O)) (σ : List (Event O)) (w : World O) (p : Place) (x : What O) (u : World O) → Step w p x u → Step (longer w ms σ) p x (longer u ms σ)
  step_longer ms σ w p x u s = record { tape = ap (λ l. l ++ σ) s.tape; tree = s.tree; moves = ap (λ l. l ++ ms) s.moves ∙ asked_more p x u.moves ms; grants = s.grants }

module _ {O I : Type 0} (prog : Table O I) (more : List (Move O)) (σ : List (Event O)) where
  abbrev ext : World O → World O
  ext w = longer w more σ

  abbrev step_extended : (w : World O) (p : Place) (x : What O) (u : World O) → Step w p x u → Step (ext w) p x (ext u)
  step_extended w p x u s = step_longer more σ w p x u s

  exits_extended : (w : World O) (p : Place) (s : Wait) (n : ℤ) (ms : List (Move O)) (v : World O) (e : Ending) (r : Reply) → e ≡ Some r → Exits w p s n ms v e → Exits (ext w) p s n (ms ++ more) (ext v) e
  exits_extended w p s n ms v e r f a = by ms a
    where
      halt : {A : Type 0} → Halts w v e → A
      halt x = none_not r (sym x.ending ∙ f)

      back : (l : Bool) → Exiting w p s n l v e → Exiting (ext w) p s n l (ext v) e
      back false x = halt x
      back true (x, y) = (step_extended w p (Back (height_of s) (Replied (Exit n))) v x, y)

      by : (ms : List (Move O)) → Exits w p s n ms v e → Exits (ext w) p s n (ms ++ more) (ext v) e
      by [] x = halt x
      by (Come y ∷ ms) x = back (ends_call s n y) x
      by (Born o l ∷ ms) x = halt x
      by (Fall ∷ ms) x = halt x
      by (Enter u i ∷ ms) x = halt x

  pub extended : {w : World O} {p : Place} {x : Prog O I} {v : World O} {e : Ending} → Derives prog w p x v e → (r : Reply) → e ≡ Some r → Derives prog (ext w) p x (ext v) e
  extended (completed w p c) z q = completed (ext w) p c
  extended (exited w p n) z q = exited (ext w) p n
  extended (acted w p d k x u v e g on s a) z q = acted (ext w) p d k x (ext u) (ext v) e g on (step_extended w (spot p x.0) x.1 u s) (extended a z q)
  extended (refused w p d k x r u g off s) z q = refused (ext w) p d k x r (ext u) g off (step_extended w (spot p x.0) x.1 u s)
  extended (unheard w p d k g t) z q = none_not z q
  extended (went w p i k u c v e a b) z q = went (ext w) p i k (ext u) c (ext v) e (extended a _ refl) (extended b z q)
  extended (passed w p i k u r l a) z q = passed (ext w) p i k (ext u) r l (extended a r refl)
  extended (halted w p i k u a) z q = none_not z q
  extended (wrapped w p b i k x inner left closed v c e g on s a t d) z q =
      wrapped (ext w) p b i k x (ext inner) (ext left) (ext closed) (ext v) c e g on (step_extended w (spot p x.0) x.1 inner s) (extended a _ refl) (step_extended left p _ closed t) (extended d z q)
  extended (wrapped_passed w p b i k x inner left closed r l g on s a t) z q =
      wrapped_passed (ext w) p b i k x (ext inner) (ext left) (ext closed) r l g on (step_extended w (spot p x.0) x.1 inner s) (extended a r refl) (step_extended left p _ closed t)
  extended (wrapped_halted w p b i k x inner left g on s a) z q = none_not z q
  extended (too_deep w p b i k x u v e g deep s a) z q = too_deep (ext w) p b i k x (ext u) (ext v) e g deep (step_extended w (spot p x.0) x.1 u s) (extended a z q)
  extended (shut w p b i k x r u g off s) z q = shut (ext w) p b i k x r (ext u) g off (step_extended w (spot p x.0) x.1 u s)
  extended (unheard_inside w p b i k g t) z q = none_not z q
  extended (called w p h down i lost k a t out inner left told back v r c e f s1 g s2 x s3 y s4 b) z q =
      called (ext w) p h down i lost k a t (ext out) (ext inner) (ext left) (ext told) (ext back) (ext v) r c e f (step_extended w p _ out s1) g (step_extended out t _ inner s2) (extended x r refl) (step_extended left t _ told s3) y (step_extended told p _ back s4) (extended b z q)
  extended (called_passed w p h down i lost k a t out inner left told back r f s1 g s2 x s3 l s4) z q =
      called_passed (ext w) p h down i lost k a t (ext out) (ext inner) (ext left) (ext told) (ext back) r f (step_extended w p _ out s1) g (step_extended out t _ inner s2) (extended x r refl) (step_extended left t _ told s3) l (step_extended told p _ back s4)
  extended (called_halted w p h down i lost k a t out inner left f s1 g s2 x) z q = none_not z q
  extended (unreached w p h down i lost k a out back v e f s1 g s2 x) z q = unreached (ext w) p h down i lost k a (ext out) (ext back) (ext v) e f (step_extended w p _ out s1) g (step_extended out p _ back s2) (extended x z q)
  extended (called_out w p h down i lost k u v e f s a) z q = called_out (ext w) p h down i lost k (ext u) (ext v) e f (step_extended w p _ u s) (extended a z q)
  extended (unanswered w p s k f g t) z q = none_not z q
  extended (unfit w p s k a ms f g h t) z q = none_not z q
  extended (answered w p s k c u v e f g t a) z q = answered (ext w) p s k c (ext u) (ext v) e f g (step_extended w p _ u t) (extended a z q)
  extended (heard w p s k y u v e f g t a) z q = heard (ext w) p s k y (ext u) (ext v) e f g (step_extended w p _ u t) (extended a z q)
  extended (missed w p s k u v e f g t a) z q = missed (ext w) p s k (ext u) (ext v) e f g (step_extended w p _ u t) (extended a z q)
  extended (answered_passed w p s k r u l f g t) z q = answered_passed (ext w) p s k r (ext u) l f g (step_extended w p _ u t)
  extended (entered w p s k t i inner left told v r e f here s1 a s2 n b) z q =
      entered (ext w) p s k t i (ext inner) (ext left) (ext told) (ext v) r e f here (step_extended w t _ inner s1) (extended a r refl) (step_extended left t _ told s2) n (extended b z q)
  extended (entered_halted w p s k t i inner left f here s1 a) z q = none_not z q
  extended (entered_exiting w p s k t i inner left told v n e f here s1 a s2 b) z q =
      entered_exiting (ext w) p s k t i (ext inner) (ext left) (ext told) (ext v) n e f here (step_extended w t _ inner s1) (extended a (Exit n) refl) (step_extended left t _ told s2) (exits_extended told p s n told.moves v e z q b)
  extended (born w p s k o b u v e f t a) z q = born (ext w) p s k o b (ext u) (ext v) e f (step_extended w [] _ u t) (extended a z q)
  extended (unfound w p s k t i u v e f here b a) z q = unfound (ext w) p s k t i (ext u) (ext v) e f here (step_extended w [] _ u b) (extended a z q)
  extended (fallen w p s k u v e f t a) z q = fallen (ext w) p s k (ext u) (ext v) e f (step_extended w [] _ u t) (extended a z q)
