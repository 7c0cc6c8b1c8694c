use Rattle.std.proofs.lemmas.Result.{IfErr-weaker}
use Rattle.tcl_frames.proofs.ChainLemmas.{with_refused}
use Rattle.tcl_frames.proofs.frames.Frames.unset_element.Goals as goal

pub returns-clause-err : goal.returns-clause-err
returns-clause-err c = IfErr-weaker c.change_key.result _ _ (λ e p. with_refused e c.args.self.now _ p) c.change_key.ensures.err
