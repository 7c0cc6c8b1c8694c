-- What halts has no more to happen.
use Rattle.std.proofs.Common.{sym, ◌≡◌, ℤ, Bool, true, false, List, [], ◌∷◌, Some, None, ◌∙◌, ap, subst}
use Rattle.tcl_core.specs.Paths.{Place}
use Rattle.tcl_core.specs.Endings.{Reply}
use Rattle.tcl_core.specs.Endings.Reply.{Exit}
use Rattle.tcl_core.specs.Entries.Answer.{Replied}
use Rattle.tcl_core.specs.Trees.{Move}
use Rattle.tcl_core.specs.Trees.What.{Back}
use Rattle.tcl_core.specs.Trees.Move.{Born, Fall, Enter, Come}
use Rattle.tcl_core.specs.Programs.{Wait, Prog, Table}
use Rattle.tcl_core.specs.Runs.{World, Step, Ending, Halts, Exits, Exiting, ends_call, height_of}
use Rattle.tcl_core.specs.Rules.{Derives}
use Rattle.tcl_core.specs.Rules.Derives.{completed, exited, acted, refused, unheard, went, passed, halted, wrapped, wrapped_passed, wrapped_halted, too_deep, shut, unheard_inside, called, called_passed, called_halted, unreached, called_out, unanswered, unfit, answered, heard, missed, answered_passed, entered, entered_halted, entered_exiting, born, fallen, unfound}

-- What holds at an exit, and where it comes back to a call, holds wherever it leads.
pub exits_so : {O : Type 0} (Q : World O → Type 0) (w : World O) (p : Place) (s : Wait) (n : ℤ) (ms : List (Move O)) (v : World O) (e : Ending) → Q w → (Step w p (Back (height_of s) (Replied (Exit n))) v → Q v) → Exits w p s n ms v e → Q v
exits_so {O} Q w p s n ms v e here comes a = by ms a
  where
    halt : Halts w v e → Q v
    halt x = subst Q (sym x.same) here

    back : (l : Bool) → Exiting w p s n l v e → Q v
    back false x = halt x
    back true x = comes x.0

    by : (ms : List (Move O)) → Exits w p s n ms v e → Q v
    by [] x = halt x
    by (Come y ∷ ms) x = back (ends_call s n y) x
    by (Born o l ∷ ms) x = halt x
    by (Fall ∷ ms) x = halt x
    by (Enter u i ∷ ms) x = halt x

module _ {O I : Type 0} (prog : Table O I) where
  -- what halts has no more to happen
  some_not : {A : Type 0} (r : Reply) → Some r ≡ None → A
  some_not r e = absurd (bad e)
    where
      bad : Some r ≡ None → Prim.⊥
      bad f = cc

  exits_tape : (w : World O) (p : Place) (s : Wait) (n : ℤ) (ms : List (Move O)) (v : World O) (e : Ending) → e ≡ None → Exits w p s n ms v e → v.tape ≡ []
  exits_tape w p s n ms v e f a = by ms a
    where
      halt : Halts w v e → v.tape ≡ []
      halt x = ap (λ u. u.tape) x.same ∙ x.tape

      back : (l : Bool) → Exiting w p s n l v e → v.tape ≡ []
      back false x = halt x
      back true x = some_not (Exit n) (sym x.1 ∙ f)

      by : (ms : List (Move O)) → Exits w p s n ms v e → v.tape ≡ []
      by [] x = halt x
      by (Come y ∷ ms) x = back (ends_call s n y) x
      by (Born o l ∷ ms) x = halt x
      by (Fall ∷ ms) x = halt x
      by (Enter u i ∷ ms) x = halt x

  pub halted_tape : {w : World O} {p : Place} {x : Prog O I} {v : World O} {e : Ending} → Derives prog w p x v e → e ≡ None → v.tape ≡ []
  halted_tape (completed w p c) q = some_not _ q
  halted_tape (exited w p n) q = some_not _ q
  halted_tape (acted w p d k x u v e g on s a) q = halted_tape a q
  halted_tape (refused w p d k x r u g off s) q = some_not r q
  halted_tape (unheard w p d k g t) q = t
  halted_tape (went w p i k u c v e a b) q = halted_tape b q
  halted_tape (passed w p i k u r l a) q = some_not r q
  halted_tape (halted w p i k u a) q = halted_tape a q
  halted_tape (wrapped w p b i k x inner left closed v c e g on s a t d) q = halted_tape d q
  halted_tape (wrapped_passed w p b i k x inner left closed r l g on s a t) q = some_not r q
  halted_tape (wrapped_halted w p b i k x inner left g on s a) q = halted_tape a q
  halted_tape (too_deep w p b i k x u v e g deep s a) q = halted_tape a q
  halted_tape (shut w p b i k x r u g off s) q = some_not r q
  halted_tape (unheard_inside w p b i k g t) q = t
  halted_tape (called w p h down i lost k a t out inner left told back v r c e f s1 g s2 x s3 so s4 b) q = halted_tape b q
  halted_tape (called_passed w p h down i lost k a t out inner left told back r f s1 g s2 x s3 l s4) q = some_not _ q
  halted_tape (called_halted w p h down i lost k a t out inner left f s1 g s2 x) q = halted_tape x q
  halted_tape (unreached w p h down i lost k a out back v e f s1 g s2 x) q = halted_tape x q
  halted_tape (called_out w p h down i lost k u v e f s a) q = halted_tape a q
  halted_tape (unanswered w p s k f m t) q = t
  halted_tape (unfit w p s k m ms f g h t) q = t
  halted_tape (answered w p s k c u v e f g t a) q = halted_tape a q
  halted_tape (heard w p s k y u v e f g t a) q = halted_tape a q
  halted_tape (missed w p s k u v e f g t a) q = halted_tape a q
  halted_tape (answered_passed w p s k r u l f g t) q = some_not r q
  halted_tape (entered w p s k t i inner left told v r e f here s1 a s2 n b) q = halted_tape b q
  halted_tape (entered_halted w p s k t i inner left f here s1 a) q = halted_tape a q
  halted_tape (entered_exiting w p s k t i inner left told v n e f here s1 a s2 b) q = exits_tape told p s n told.moves v e q b
  halted_tape (born w p s k o b u v e f t a) q = halted_tape a q
  halted_tape (fallen w p s k u v e f t a) q = halted_tape a q
  halted_tape (unfound w p s k t i u v e f here b a) q = halted_tape a q
