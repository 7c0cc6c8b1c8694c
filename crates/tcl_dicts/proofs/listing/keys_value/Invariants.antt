use Rattle.std.proofs.Common.{◌≡◌, ◌++◌, drop}
use Rattle.std.specs.Prelude.{filter}
use Rattle.tcl_dicts.specs.Dicts.{fits, keys_in}
use Rattle.tcl_dicts.proofs.listing.keys_value.Given as goal

abbrev pub invariant-entries : goal.invariant-entries
invariant-entries l = l.made ++ filter (fits l.pattern) (keys_in (drop l.index l.dict)) ≡ filter (fits l.pattern) (keys_in l.dict)
