use Rattle.std.proofs.Common.{◌∙◌, sym, arith}
use Rattle.std.specs.Option.{option_copied}
use Rattle.tcl_frames.proofs.ArrayLemmas.{key_end}
use Rattle.tcl_frames.proofs.arrays.keys_taken.Goals as goal

pub returns : goal.returns
returns c = sym (key_end (option_copied c.args.pattern) c.args.elements.now c.keys.index c.keys.keys.items (omega (arith, c.len-index-end.ensures, c.keys-test.false))) ∙ c.keys.invariant
