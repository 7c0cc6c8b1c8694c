use Rattle.std.proofs.Common.{◌≡◌, sym, subst, Ok}
use Rattle.std.specs.Prelude.{OnOk}
use Rattle.std.proofs.lemmas.Result.{IfErr-weaker}
use Rattle.tcl_frames.specs.Chain.{with_frames}
use Rattle.tcl_frames.specs.Faults.{Refuses}
use Rattle.tcl_frames.proofs.ChainLemmas.{with_refused}
use Rattle.tcl_frames.proofs.StepLemmas.{removed_is}
use Rattle.tcl_frames.proofs.frames.Frames.unset.Goals as goal

pub returns-clause-ok : goal.returns-clause-ok
returns-clause-ok c =
    subst (λ o. OnOk c.change.result (with_frames c.args.self.now o ≡ Ok c.change.new.self)) (sym (removed_is c.args.self.now.frames c.args.name.now)) c.change.ensures.ok

pub returns-clause-err : goal.returns-clause-err
returns-clause-err c =
    IfErr-weaker c.change.result _ _ (λ e p. with_refused e c.args.self.now _ (subst (Refuses e) (sym (removed_is c.args.self.now.frames c.args.name.now)) p)) c.change.ensures.err
