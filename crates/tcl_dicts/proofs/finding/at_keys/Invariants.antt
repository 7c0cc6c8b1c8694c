use Rattle.std.proofs.Common.{◌≡◌, drop}
use Rattle.tcl_dicts.specs.Dicts.{at_keys}
use Rattle.tcl_dicts.proofs.finding.at_keys.Given as goal

abbrev pub invariant-keys : goal.invariant-keys
invariant-keys l = at_keys l.at (drop l.key-index l.keys) ≡ at_keys l.value l.keys
