-- What is given up with one outside on its way is given up so with another one that goes along with it.
use Rattle.tcl_core.specs.Paths.{Place}
use Rattle.tcl_core.specs.Programs.{Prog, Table, Wait}
use Rattle.tcl_core.specs.Execution.{Crossings}
use Rattle.tcl_core.specs.Trees.{Event, Tree}
use Rattle.tcl_partial_runs.specs.Beginnings.{Begun}
use Rattle.tcl_partial_runs.specs.Beginnings.Begun.{stopped, ended, acted, going, went, within, wrapped, too_deep, calling_out, calling, returning, called, unreached, called_out, answered, heard, missed, entering_in, leaving, left, entered, unfound}
use Rattle.tcl_run.specs.Outsides.{Going}
use Rattle.tcl_tree.specs.Own.{Own}
use Rattle.tcl_recorder.specs.Recording.{recorded}
use Rattle.tcl_recorder.specs.declared.recorder.Recorder.{Recorder}
use Rattle.tcl_recorder.proofs.Watched.{comes_along, step as recorder_step}

module _ {O I S R : Type 0} (step : Tree O → S → Wait → Event O → S → Type 0) (goes : Tree O → R → Wait → Event O → R → Type 0) (f : S → R)
    (along : (T : Tree O) (o : S) (s : Wait) (ev : Event O) (u : S) → step T o s ev u → goes T (f o) s ev (f u)) (prog : Table O I) where
  pub begun_along : {T : Tree O} {o z : S} {p : Place} {x : Prog O I} → Begun step prog T o p x z → Begun goes prog T (f o) p x (f z)
  begun_along stopped = stopped
  begun_along (ended t) = ended (comes_along step goes f along prog t)
  begun_along (acted x d on s b) = acted x d on (along _ _ _ _ _ s) (begun_along b)
  begun_along (going b) = going (begun_along b)
  begun_along (went t b) = went (comes_along step goes f along prog t) (begun_along b)
  begun_along (within x d on s b) = within x d on (along _ _ _ _ _ s) (begun_along b)
  begun_along (wrapped x d on s t e b) = wrapped x d on (along _ _ _ _ _ s) (comes_along step goes f along prog t) (along _ _ _ _ _ e) (begun_along b)
  begun_along (too_deep x d deep s b) = too_deep x d deep (along _ _ _ _ _ s) (begun_along b)
  begun_along (calling_out s) = calling_out (along _ _ _ _ _ s)
  begun_along (calling a t up at s1 s2 b) = calling a t up at (along _ _ _ _ _ s1) (along _ _ _ _ _ s2) (begun_along b)
  begun_along (returning a t up at s1 s2 run s3) = returning a t up at (along _ _ _ _ _ s1) (along _ _ _ _ _ s2) (comes_along step goes f along prog run) (along _ _ _ _ _ s3)
  begun_along (called a t up at s1 s2 run s3 is s4 b) =
      called a t up at (along _ _ _ _ _ s1) (along _ _ _ _ _ s2) (comes_along step goes f along prog run) (along _ _ _ _ _ s3) is (along _ _ _ _ _ s4) (begun_along b)
  begun_along (unreached a up gone s1 s2 b) = unreached a up gone (along _ _ _ _ _ s1) (along _ _ _ _ _ s2) (begun_along b)
  begun_along (called_out up s b) = called_out up (along _ _ _ _ _ s) (begun_along b)
  begun_along (answered up fit s b) = answered up fit (along _ _ _ _ _ s) (begun_along b)
  begun_along (heard up fit s b) = heard up fit (along _ _ _ _ _ s) (begun_along b)
  begun_along (missed up fit s b) = missed up fit (along _ _ _ _ _ s) (begun_along b)
  begun_along (entering_in t i up here s1 b) = entering_in t i up here (along _ _ _ _ _ s1) (begun_along b)
  begun_along (leaving t i up here s1 run) = leaving t i up here (along _ _ _ _ _ s1) (comes_along step goes f along prog run)
  begun_along (left t i up here s1 run s2) = left t i up here (along _ _ _ _ _ s1) (comes_along step goes f along prog run) (along _ _ _ _ _ s2)
  begun_along (entered t i up here s1 run s2 stays b) = entered t i up here (along _ _ _ _ _ s1) (comes_along step goes f along prog run) (along _ _ _ _ _ s2) stays (begun_along b)
  begun_along (unfound t i up here s b) = unfound t i up here (along _ _ _ _ _ s) (begun_along b)

pub given_up_unwatched : {I S : Type 0} (goes : Going S) (prog : Table Own I) (T : Tree Own) (o z : Recorder S) (p : Place) (x : Prog Own I) →
    Begun (Crossings (recorded goes)) prog T o p x z → Begun (Crossings goes) prog T o.outside p x z.outside
given_up_unwatched {S = S} goes prog T o z p x b = begun_along (Crossings (recorded goes)) (Crossings goes) (λ (w : Recorder S). w.outside) (λ T a s ev u g. (recorder_step goes T a s ev u g).outside) prog b
