use Rattle.std.proofs.Common.{◌≡◌, ◌∙◌, ap, sym, subst, Ok}
use Rattle.std.specs.Prelude.{OnOk}
use Rattle.std.proofs.lemmas.Result.{IfErr-weaker}
use Rattle.tcl_frames.specs.Arrays.{elements_unset}
use Rattle.tcl_frames.specs.Chain.{with_frames}
use Rattle.tcl_frames.specs.Faults.{Refuses}
use Rattle.tcl_frames.proofs.ChainLemmas.{with_refused}
use Rattle.tcl_frames.proofs.StepLemmas.{elements_unset_is}
use Rattle.tcl_frames.proofs.frames.Frames.unset_elements.Goals as goal

pub returns-clause-ok : goal.returns-clause-ok
returns-clause-ok c =
    let fs = c.args.self.now.frames in
    let is = sym (elements_unset_is fs c.args.name.now c.in_ok-pattern.pattern) ∙ ap (elements_unset fs c.args.name.now) c.in_ok-pattern.ensures in
    subst (λ o. OnOk c.change.result (with_frames c.args.self.now o ≡ Ok c.change.new.self)) is c.change.ensures.ok

pub returns-clause-err : goal.returns-clause-err
returns-clause-err c =
    let fs = c.args.self.now.frames in
    let is = sym (elements_unset_is fs c.args.name.now c.in_ok-pattern.pattern) ∙ ap (elements_unset fs c.args.name.now) c.in_ok-pattern.ensures in
    IfErr-weaker c.change.result _ _ (λ e p. with_refused e c.args.self.now _ (subst (Refuses e) is p)) c.change.ensures.err
