use Rattle.std.specs.Option.{option_copied}
use Rattle.tcl_frames.specs.Parts.{seen_part}
use Rattle.tcl_frames.specs.Written.{seen}
use Rattle.tcl_frames.proofs.StepLemmas.{read_none, read_some, place_bad, stands}
use Rattle.tcl_frames.proofs.steps.look.Goals as goal

pub returns-in-None-clause-err : goal.returns-in-None-clause-err
returns-in-None-clause-err c =
    (place_bad c.args.frames.now c.args.name.now (read_none c.read_name.result c.as_str.result.now c.args.name.now c.read_name.ensures c.as_str.ensures c.in-None.is), c.refused.ensures)

pub returns-in-Some-clause-ok : goal.returns-in-Some-clause-ok
returns-in-Some-clause-ok c =
    stands c.args.frames.now c.args.name.now (seen c.in-Some.written) c.level_meant-level.result (option_copied c.find-found.result.variable) (seen_part c.find-found.result.part)
    (read_some c.read_name.result c.as_str.result.now c.args.name.now c.in-Some.written c.read_name.ensures c.as_str.ensures c.in-Some.is)
    c.level_meant-level.ensures c.find-found.ensures.variable c.find-found.ensures.part
