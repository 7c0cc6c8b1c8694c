use Rattle.std.proofs.Common.{refl}
use Rattle.tcl_shell.proofs.EvaluatingLemmas.{end_ends, ends_so, refused_ends}
use Rattle.tcl_shell.proofs.evaluating.ended.Goals as goal

pub returns-in-Ok-clause-ends : goal.returns-in-Ok-clause-ends
returns-in-Ok-clause-ends g c =
    ends_so g.H.Host.step c.args.begun.now.tree c.eval.new.tree c.args.host.now c.eval.new.host c.as_slice-path.result.now c.args.begun.now.path.items c.args.script.now c.args.script.now c.args.limit c.ending_of.result c.as_slice-path.ensures.value refl
    (end_ends g.H.Host.step c.args.begun.now.tree c.eval.new.tree c.args.host.now c.eval.new.host c.as_slice-path.result.now c.args.script.now c.args.limit c.in-Ok.end c.ending_of.result c.in-Ok.ensures.runs c.ending_of.ensures)

pub returns-in-Err-clause-ends : goal.returns-in-Err-clause-ends
returns-in-Err-clause-ends g c =
    ends_so g.H.Host.step c.args.begun.now.tree c.eval.new.tree c.args.host.now c.eval.new.host c.as_slice-path.result.now c.args.begun.now.path.items c.args.script.now c.args.script.now c.args.limit c.refused_by.result c.as_slice-path.ensures.value refl
    (refused_ends g.H.Host.step c.args.begun.now.tree c.eval.new.tree c.args.host.now c.eval.new.host c.as_slice-path.result.now c.args.script.now c.args.limit c.eval.result c.in-Err.refused c.refused_by.result c.in-Err.is
    c.eval.ensures.refused c.eval.ensures.unchanged c.eval.ensures.begun c.eval.ensures.asked c.refused_by.ensures)
