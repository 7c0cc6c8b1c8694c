use Rattle.std.proofs.Common.{Result, reverse, ◌^◌, ◌<◌}
use Rattle.tcl_core.specs.Endings.{Options}
use Rattle.tcl_flow.specs.View.{options_of}
use Rattle.tcl_flow.specs.OptionReading.{Reads, weight}
use Rattle.tcl_flow.specs.declared.returning.OptionsFault.{OptionsFault}
use Rattle.tcl_flow.proofs.reading.read_pending.Given as goal

abbrev pub decreases-options : goal.decreases-options
decreases-options l = weight l.pending.items

abbrev pub invariant-options : goal.invariant-options
invariant-options l = ((r : Result Options OptionsFault) → Reads l.style (reverse l.pending.items) (options_of l.options) r → Reads l.style (reverse l.initial.pending.items) (options_of l.initial.options) r) × (l.options.level < 2 ^ 63)
