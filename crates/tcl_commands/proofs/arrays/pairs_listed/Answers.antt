use Rattle.std.proofs.Common.{ap}
use Rattle.std.specs.Option.{option_copied}
use Rattle.tcl_frames.specs.Arrays.{of_elements}
use Rattle.tcl_frames.specs.Chain.{array_at}
use Rattle.tcl_language.specs.Arrays as arrays
use Rattle.tcl_language.specs.Instructions.{gives}
use Rattle.tcl_run.proofs.Endings.{tells}
use Rattle.tcl_text.specs.Writing.{written_list}
use Rattle.tcl_frames.specs.VariableArrays.{taken}
use Rattle.tcl_commands.proofs.ArrayEnds.{list_acts, reads_fails, reads_gives}
use Rattle.tcl_commands.proofs.arrays.pairs_listed.Goals as goal

pub returns-in-Ok : goal.returns-in-Ok
returns-in-Ok c =
    reads_gives c.args.tree.now c.args.place (λ fs. of_elements (taken (option_copied c.args.pattern)) (array_at fs c.args.name.now)) (λ es. gives (written_list (arrays.in_turn es))) c.frames_seen.result.now c.in-Ok.elements.items c.args.tree.now c.pairs_value.result c.frames_seen.ensures c.in-Ok.ensures.ok
    (list_acts c.args.tree.now c.args.place (arrays.in_turn c.as_slice.result.now) (arrays.in_turn c.in-Ok.elements.items) c.pairs_value.result (ap arrays.in_turn c.as_slice.ensures.value) c.pairs_value.ensures)

pub returns-in-Err : goal.returns-in-Err
returns-in-Err c =
    reads_fails c.args.tree.now c.args.place (λ fs. of_elements (taken (option_copied c.args.pattern)) (array_at fs c.args.name.now)) (λ es. gives (written_list (arrays.in_turn es))) c.frames_seen.result.now c.frame_failure.result c.frames_seen.ensures
    (tells c.in-Err.error (of_elements (taken (option_copied c.args.pattern)) (array_at c.frames_seen.result.now.frames c.args.name.now)) c.frame_failure.result c.in-Err.ensures.err c.frame_failure.ensures)
