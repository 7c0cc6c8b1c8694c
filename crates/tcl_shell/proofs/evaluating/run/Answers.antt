use Rattle.std.proofs.Common.{◌∙◌, ap}
use Rattle.tcl_shell.proofs.EvaluatingLemmas.{runs_on, runs_out}
use Rattle.tcl_shell.proofs.evaluating.run.Goals as goal

pub returns-in-Finished : goal.returns-in-Finished
returns-in-Finished g c =
    let begun = c.in-Ok-Ok.begun in
    runs_on g.H.Host.step c.args.options.now c.args.script.now c.args.host.now c.ended.new.host c.ended-in-Finished.new.host begun.tree c.ended.new.begun.tree c.ended-in-Finished.new.begun.tree c.ended.result c.in-Finished.field-0 c.ended-in-Finished.result
    begun.path.items c.ended.new.begun.path.items c.as_str.result.now c.in-Finished.is c.in-Ok-Ok.ensures.path (ap (λ v. v.items) c.ended.ensures.path ∙ c.in-Ok-Ok.ensures.path) (c.as_str.ensures.value ∙ c.in-Ok-Ok.ensures') c.in-Ok-Ok.ensures.tree
    c.ended.ensures.ends c.ended-in-Finished.ensures.ends

pub returns : goal.returns
returns g c =
    let begun = c.in-Ok-Ok.begun in
    runs_out g.H.Host.step c.args.options.now c.args.script.now c.args.host.now c.ended.new.host begun.tree c.ended.new.begun.tree c.ended.result begun.path.items c.as_str.result.now c.in_default-ended.not-Finished c.in-Ok-Ok.ensures.path
    (c.as_str.ensures.value ∙ c.in-Ok-Ok.ensures') c.in-Ok-Ok.ensures.tree c.ended.ensures.ends
