use Rattle.std.proofs.Common.{◌∙◌, sym, arith}
use Rattle.tcl_calls.proofs.Listed.{key_end}
use Rattle.tcl_calls.proofs.questions.keys_of.Goals as goal

pub returns : goal.returns
returns g c = sym (key_end c.args.map.now.entries c.keys.index c.keys.names.items (omega (arith, c.len-index-end.ensures.len, c.keys-test.false))) ∙ c.keys.invariant
