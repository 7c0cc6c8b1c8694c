use Rattle.std.specs.Option.{option_copied}
use Rattle.tcl_frames.specs.Variables.{part_of}
use Rattle.tcl_frames.proofs.StepLemmas.{target_none}
use Rattle.tcl_frames.proofs.steps.find_end.Goals as goal

pub returns-in-Some : goal.returns-in-Some
returns-in-Some c = target_none c.args.frames.now c.args.level c.args.base.now (part_of (option_copied c.args.key)) c.in-Some.ensures
