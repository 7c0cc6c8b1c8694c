use Rattle.std.proofs.Common.{◌∙◌, sym, ap}
use Rattle.std.specs.Option.{option_copied}
use Rattle.tcl_frames.specs.Variables.{part_of}
use Rattle.tcl_frames.specs.Reached.{reached, link_of}
use Rattle.tcl_frames.proofs.StepLemmas.{target_none, target_some}
use Rattle.tcl_frames.proofs.steps.find_target.Goals as goal

pub returns-in-None : goal.returns-in-None
returns-in-None c =
    target_none c.args.frames.now c.args.level c.args.base.now (part_of (option_copied c.args.key))
    (ap link_of (sym c.variable_at.ensures) ∙ sym c.link_in.ensures ∙ ap option_copied c.in-None.is)

pub returns-in_ok-with_key-in-Some : goal.returns-in_ok-with_key-in-Some
returns-in_ok-with_key-in-Some c =
    target_some c.args.frames.now c.requires c.args.level c.args.base.now (part_of (option_copied c.args.key)) c.in-Some.link.now (reached c.reach-end.result) _ _
    (ap link_of (sym c.variable_at.ensures) ∙ sym c.link_in.ensures ∙ ap option_copied c.in-Some.is)
    c.reach-end.ensures
    c.in_ok-clone-in-Some.ensures.cases
    c.in_ok-with_key-in-Some.ensures
