use Rattle.std.proofs.Common.{◌≡◌, take}
use Rattle.indexmap.specs.IndexMap.{keys}
use Rattle.tcl_interpreter.proofs.comparing.same_names.Given as goal

-- the names so far are the same
abbrev pub invariant-names : goal.invariant-names
invariant-names l = take l.index (keys l.these) ≡ take l.index (keys l.those)
