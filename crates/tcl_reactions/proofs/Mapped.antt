-- What comes with one outside comes with another one that goes along with it.
use Rattle.std.proofs.Common.{ap}
use Rattle.tcl_core.specs.Endings.{Reply}
use Rattle.tcl_core.specs.Lives.{Outcome}
use Rattle.tcl_core.specs.Paths.{Place}
use Rattle.tcl_core.specs.Programs.{Prog, Table, Wait}
use Rattle.tcl_core.specs.Execution.{Crossings, Executes, hears}
use Rattle.tcl_core.specs.Execution.Executes.{completed, exited, acted, refused, went, passed, wrapped, wrapped_passed, too_deep, shut, called, called_passed, unreached, called_out, answered, heard, missed, answered_passed, entered, entered_exiting, unfound}
use Rattle.tcl_core.specs.Trees.{Event, Tree, What}
use Rattle.tcl_core.specs.Trees.What.{Charged, Refused, Dropped, Out, In, Done, Back, Unfound}
use Rattle.std.specs.Prelude.{None}
use Rattle.tcl_reactions.specs.Moving.{Lived}
use Rattle.tcl_reactions.specs.Moving

module _ {O I S R : Type 0} (step : Tree O → S → Wait → Event O → S → Type 0) (goes : Tree O → R → Wait → Event O → R → Type 0) (f : S → R)
    (along : (T : Tree O) (o : S) (s : Wait) (ev : Event O) (u : S) → step T o s ev u → goes T (f o) s ev (f u)) (prog : Table O I) where
  pub comes_along : {T V : Tree O} {o z : S} {p : Place} {x : Prog O I} {r : Reply} → Executes step prog T o p x V z r → Executes goes prog T (f o) p x V (f z) r
  comes_along completed = completed
  comes_along exited = exited
  comes_along (acted x d on s t) = acted x d on (along _ _ _ _ _ s) (comes_along t)
  comes_along (refused x d off s) = refused x d off (along _ _ _ _ _ s)
  comes_along (went a b) = went (comes_along a) (comes_along b)
  comes_along (passed q a) = passed q (comes_along a)
  comes_along (wrapped x d on s a e b) = wrapped x d on (along _ _ _ _ _ s) (comes_along a) (along _ _ _ _ _ e) (comes_along b)
  comes_along (wrapped_passed x q d on s a e) = wrapped_passed x q d on (along _ _ _ _ _ s) (comes_along a) (along _ _ _ _ _ e)
  comes_along (too_deep x d deep s t) = too_deep x d deep (along _ _ _ _ _ s) (comes_along t)
  comes_along (shut x d off s) = shut x d off (along _ _ _ _ _ s)
  comes_along (called a t up at s1 s2 run s3 is s4 rest) = called a t up at (along _ _ _ _ _ s1) (along _ _ _ _ _ s2) (comes_along run) (along _ _ _ _ _ s3) is (along _ _ _ _ _ s4) (comes_along rest)
  comes_along (called_passed a t up at s1 s2 run s3 is q s4) = called_passed a t up at (along _ _ _ _ _ s1) (along _ _ _ _ _ s2) (comes_along run) (along _ _ _ _ _ s3) is q (along _ _ _ _ _ s4)
  comes_along (unreached a up gone s1 s2 rest) = unreached a up gone (along _ _ _ _ _ s1) (along _ _ _ _ _ s2) (comes_along rest)
  comes_along (called_out up s t) = called_out up (along _ _ _ _ _ s) (comes_along t)
  comes_along (answered up fit s t) = answered up fit (along _ _ _ _ _ s) (comes_along t)
  comes_along (heard up fit s t) = heard up fit (along _ _ _ _ _ s) (comes_along t)
  comes_along (missed up fit s t) = missed up fit (along _ _ _ _ _ s) (comes_along t)
  comes_along (answered_passed q up fit s) = answered_passed q up fit (along _ _ _ _ _ s)
  comes_along (entered t i up here s1 run s2 stays rest) = entered t i up here (along _ _ _ _ _ s1) (comes_along run) (along _ _ _ _ _ s2) stays (comes_along rest)
  comes_along (entered_exiting t i up here s1 run s2 s3) = entered_exiting t i up here (along _ _ _ _ _ s1) (comes_along run) (along _ _ _ _ _ s2) (along _ _ _ _ _ s3)
  comes_along (unfound t i up nobody s rest) = unfound t i up nobody (along _ _ _ _ _ s) (comes_along rest)

-- and so it is of what an outside is told of
module _ {O S R : Type 0} (step : Tree O → S → Wait → Event O → S → Type 0) (goes : Tree O → R → Wait → Event O → R → Type 0) (f : S → R)
    (along : (T : Tree O) (o : S) (s : Wait) (ev : Event O) (u : S) → step T o s ev u → goes T (f o) s ev (f u)) where
  hears_along : (T : Tree O) (o : S) (s : Wait) (p : Place) (x : What O) (u : S) → hears step T o s p x u → hears goes T (f o) s p x (f u)
  hears_along T o s p (Out h down i) u t = along _ _ _ _ _ t
  hears_along T o s p (Back h a) u t = along _ _ _ _ _ t
  hears_along T o s p (In h i) u t = along _ _ _ _ _ t
  hears_along T o s p (Done h r) u t = along _ _ _ _ _ t
  hears_along T o s p Charged u t = along _ _ _ _ _ t
  hears_along T o s p (Refused m None) u t = along _ _ _ _ _ t
  hears_along T o s p Dropped u t = along _ _ _ _ _ t
  hears_along T o s p (Unfound q i c) u t = along _ _ _ _ _ t
  hears_along T o s p x u t = ap f t

  pub crosses_along : (T : Tree O) (o : S) (s : Wait) (ev : Event O) (u : S) → Crossings step T o s ev u → Crossings goes T (f o) s ev (f u)
  crosses_along T o s ev u t = record { told = hears_along T o s ev.place ev.what u t.told }

  pub lives_along : {I : Type 0} (prog : Table O I) {T : Tree O} {o : S} {V : Tree O} {z : S} {x : Outcome} → Lived step prog T o V z x → Lived goes prog T (f o) V (f z) x
  lives_along prog Moving.Lived.begun = Moving.Lived.begun
  lives_along prog (Moving.Lived.entered t i r l here s1 run s2) = Moving.Lived.entered t i r (lives_along prog l) here (along _ _ _ _ _ s1) (comes_along (Crossings step) (Crossings goes) f crosses_along prog run) (along _ _ _ _ _ s2)
  lives_along prog (Moving.Lived.unfound t i l nobody s) = Moving.Lived.unfound t i (lives_along prog l) nobody (along _ _ _ _ _ s)
