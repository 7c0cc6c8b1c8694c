use Rattle.std.proofs.Common.{rules, IsTrue}
use Rattle.std.specs.Option.{option_copied}
use Rattle.tcl_frames.specs.Parts.{seen_part}
use Rattle.tcl_frames.proofs.ElementLemmas.{element_read}
use Rattle.tcl_frames.proofs.frames.elements.element_in.Goals as goal

pub returns : goal.returns
returns c =
    let yes : IsTrue c.is_base.result = search rules in
    element_read c.args.frames.now c.args.array.now c.args.key.now c.level_meant-level.result (option_copied c.find-found.result.variable) (seen_part c.find-found.result.part) c.element_at.result
    (c.is_base.ensures.simple yes) (c.is_base.ensures.unopened yes) c.level_meant-level.ensures c.find-found.ensures.variable c.find-found.ensures.part c.element_at.ensures
