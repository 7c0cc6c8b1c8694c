use Rattle.std.proofs.Common.{◌∙◌, sym, arith}
use Rattle.tcl_frames.proofs.NamesLemmas.{own_end}
use Rattle.tcl_frames.proofs.names.unlinked_names.Goals as goal

pub returns : goal.returns
returns c = sym (own_end c.args.variables.now c.names.index c.names.names.items (omega (arith, c.len-index-end.ensures, c.names-test.false))) ∙ c.names.invariant
