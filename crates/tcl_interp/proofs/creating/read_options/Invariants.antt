use Rattle.std.proofs.Common.{◌≡◌, false, drop}
use Rattle.tcl_language.specs.Interpreters.{create_options}
use Rattle.tcl_interp.proofs.creating.read_options.Given as goal

abbrev pub invariant-words : goal.invariant-words
invariant-words l = create_options false l.args ≡ create_options l.safe (drop l.index l.args)
