use Rattle.std.proofs.Common.{◌≡◌, ◌++◌, drop}
use Rattle.std.specs.Prelude.{filter}
use Rattle.tcl_dicts.specs.Dicts.{fits, values_in}
use Rattle.tcl_dicts.proofs.listing.values_value.Given as goal

abbrev pub invariant-entries : goal.invariant-entries
invariant-entries l = l.made ++ filter (fits l.pattern) (values_in (drop l.index l.dict)) ≡ filter (fits l.pattern) (values_in l.dict)
