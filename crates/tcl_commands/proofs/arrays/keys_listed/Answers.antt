use Rattle.std.specs.Map.{keys_of}
use Rattle.std.specs.Option.{option_copied}
use Rattle.tcl_frames.specs.Arrays.{of_elements}
use Rattle.tcl_frames.specs.Chain.{array_at}
use Rattle.tcl_language.specs.Instructions.{gives}
use Rattle.tcl_run.proofs.Endings.{tells}
use Rattle.tcl_text.specs.Writing.{written_list}
use Rattle.tcl_frames.specs.VariableArrays.{taken}
use Rattle.tcl_commands.proofs.ArrayEnds.{list_acts, reads_fails, reads_gives}
use Rattle.tcl_commands.proofs.arrays.keys_listed.Goals as goal

pub returns-in-Ok : goal.returns-in-Ok
returns-in-Ok c =
    reads_gives c.args.tree.now c.args.place (λ fs. of_elements (λ es. keys_of (taken (option_copied c.args.pattern) es)) (array_at fs c.args.name.now)) (λ es. gives (written_list (es))) c.frames_seen.result.now c.in-Ok.keys.items c.args.tree.now c.list_value.result c.frames_seen.ensures c.in-Ok.ensures.ok
    (list_acts c.args.tree.now c.args.place c.as_slice.result.now c.in-Ok.keys.items c.list_value.result c.as_slice.ensures.value c.list_value.ensures)

pub returns-in-Err : goal.returns-in-Err
returns-in-Err c =
    reads_fails c.args.tree.now c.args.place (λ fs. of_elements (λ es. keys_of (taken (option_copied c.args.pattern) es)) (array_at fs c.args.name.now)) (λ es. gives (written_list (es))) c.frames_seen.result.now c.frame_failure.result c.frames_seen.ensures
    (tells c.in-Err.error (of_elements (λ es. keys_of (taken (option_copied c.args.pattern) es)) (array_at c.frames_seen.result.now.frames c.args.name.now)) c.frame_failure.result c.in-Err.ensures.err c.frame_failure.ensures)
