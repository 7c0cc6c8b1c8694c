use Rattle.std.proofs.Common.{◌≡◌, ap, ◌∙◌}
use Rattle.std.proofs.lemmas.Option.{same_Some}
use Rattle.std.specs.Option.{option_map}
use Rattle.tcl_core.specs.Trees as core
use Rattle.tcl_frames.specs.Chain.{read}
use Rattle.tcl_tree.specs.Own.{Own}
use Rattle.tcl_run.proofs.Endings.{tells}
use Rattle.tcl_run.proofs.steps.read_named.Goals as goal

pub returns-in-Err-clause-read : goal.returns-in-Err-clause-read
returns-in-Err-clause-read c = λ p n at there.
    let chain : c.in-Some.frames.now ≡ n.own.chain = same_Some _ _ (c.in-Some.ensures p at ∙ ap (option_map (λ (m : core.Node Own). m.own.chain)) there) in
    tells c.in-Err.error (read n.own.chain.frames c.args.name.now) c.frame_failure.result (rw chain at c.in-Err.ensures.err) c.frame_failure.ensures
