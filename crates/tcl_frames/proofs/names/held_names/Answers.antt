use Rattle.std.proofs.Common.{◌∙◌, sym, arith}
use Rattle.tcl_frames.proofs.NamesLemmas.{held_end}
use Rattle.tcl_frames.proofs.names.held_names.Goals as goal

pub returns : goal.returns
returns c = sym (held_end c.args.frames.now c.args.level c.args.variables.now c.names.index c.names.names.items (omega (arith, c.len-index-end.ensures, c.names-test.false))) ∙ c.names.invariant
