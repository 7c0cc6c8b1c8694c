use Rattle.std.proofs.Common.{◌≡◌, ◌++◌, drop}
use Rattle.tcl_calls.specs.Listing.{first_of}
use Rattle.tcl_calls.proofs.questions.keys_of.Given as goal

abbrev pub invariant-keys : goal.invariant-keys
invariant-keys g l = l.names.items ++ first_of (drop l.index l.map.entries) ≡ first_of l.map.entries
