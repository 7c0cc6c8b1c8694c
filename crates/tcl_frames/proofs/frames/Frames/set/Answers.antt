use Rattle.std.proofs.Common.{◌≡◌, sym, subst, Ok}
use Rattle.std.specs.Prelude.{OnOk}
use Rattle.std.proofs.lemmas.Result.{IfErr-weaker}
use Rattle.tcl_frames.specs.Chain.{with_frames}
use Rattle.tcl_frames.specs.Faults.{Refuses}
use Rattle.tcl_frames.proofs.ChainLemmas.{with_refused}
use Rattle.tcl_frames.proofs.StepLemmas.{written_is}
use Rattle.tcl_frames.proofs.frames.Frames.set.Goals as goal

pub returns-clause-ok : goal.returns-clause-ok
returns-clause-ok c =
    subst (λ o. OnOk c.change.result (with_frames c.args.self.now o ≡ Ok c.change.new.self)) (sym (written_is c.args.self.now.frames c.args.name.now c.args.value)) c.change.ensures.ok

pub returns-clause-err : goal.returns-clause-err
returns-clause-err c =
    IfErr-weaker c.change.result _ _ (λ e p. with_refused e c.args.self.now _ (subst (Refuses e) (sym (written_is c.args.self.now.frames c.args.name.now c.args.value)) p)) c.change.ensures.err
