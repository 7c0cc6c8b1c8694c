use Rattle.std.proofs.Common.{◌∙◌, sym, arith}
use Rattle.std.specs.Option.{option_copied}
use Rattle.tcl_frames.proofs.ArrayLemmas.{element_end}
use Rattle.tcl_frames.proofs.arrays.elements_taken.Goals as goal

pub returns : goal.returns
returns c = sym (element_end (option_copied c.args.pattern) c.args.elements.now c.pairs.index c.pairs.pairs.items (omega (arith, c.len-index-end.ensures, c.pairs-test.false))) ∙ c.pairs.invariant
