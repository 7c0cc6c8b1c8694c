use Rattle.std.proofs.Common.{◌≡◌, ◌++◌, drop, map}
use Rattle.tcl_lists.specs.Searching.{placed, taken, told}
use Rattle.tcl_lists.proofs.searching.all_told.Given as goal

abbrev pub invariant-elements : goal.invariant-elements
invariant-elements l =
    l.made ++ map (told l.search.inline) (taken l.search l.pattern (placed l.index (drop l.index l.list)))
    ≡ map (told l.search.inline) (taken l.search l.pattern (placed 0 l.list))
