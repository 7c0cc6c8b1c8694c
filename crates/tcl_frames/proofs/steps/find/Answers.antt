use Rattle.std.proofs.Common.{◌∙◌, sym, ap}
use Rattle.std.specs.Option.{option_copied}
use Rattle.tcl_frames.specs.Places.{bound}
use Rattle.tcl_frames.specs.Reached.{reached, link_of}
use Rattle.tcl_frames.proofs.StepLemmas.{find_none, find_some}
use Rattle.tcl_frames.proofs.steps.find.Goals as goal

pub returns-in-None-clause-variable : goal.returns-in-None-clause-variable
returns-in-None-clause-variable c =
    (find_none c.args.frames.now c.args.level c.args.base.now (option_copied c.variable_at-variable.result) c.variable_at-variable.ensures (sym c.link_in.ensures ∙ ap option_copied c.in-None.is)).0

pub returns-in-None-clause-part : goal.returns-in-None-clause-part
returns-in-None-clause-part c =
    (find_none c.args.frames.now c.args.level c.args.base.now (option_copied c.variable_at-variable.result) c.variable_at-variable.ensures (sym c.link_in.ensures ∙ ap option_copied c.in-None.is)).1

pub returns-in-Some-clause-variable : goal.returns-in-Some-clause-variable
returns-in-Some-clause-variable c =
    (find_some c.args.frames.now c.requires c.args.level c.args.base.now c.in-Some.link.now (reached c.reach-end.result) (option_copied c.variable_at.result)
    (ap link_of (sym c.variable_at-variable.ensures) ∙ sym c.link_in.ensures ∙ ap option_copied c.in-Some.is)
    c.reach-end.ensures
    (c.variable_at.ensures ∙ ap (bound c.args.frames.now c.reach-end.result.level) c.as_str.ensures)).0

pub returns-in-Some-clause-part : goal.returns-in-Some-clause-part
returns-in-Some-clause-part c =
    (find_some c.args.frames.now c.requires c.args.level c.args.base.now c.in-Some.link.now (reached c.reach-end.result) (option_copied c.variable_at.result)
    (ap link_of (sym c.variable_at-variable.ensures) ∙ sym c.link_in.ensures ∙ ap option_copied c.in-Some.is)
    c.reach-end.ensures
    (c.variable_at.ensures ∙ ap (bound c.args.frames.now c.reach-end.result.level) c.as_str.ensures)).1
