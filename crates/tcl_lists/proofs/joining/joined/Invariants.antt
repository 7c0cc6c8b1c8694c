use Rattle.std.proofs.Common.{◌≡◌, ◌≤◌, ◌++◌, length, drop}
use Rattle.std.specs.List.{flat_map}
use Rattle.std.specs.String.{string_bytes}
use Rattle.tcl_lists.specs.Joining.{joined}
use Rattle.tcl_lists.proofs.joining.joined.Given as goal

abbrev pub invariant-rest : goal.invariant-rest
invariant-rest l =
    (string_bytes l.made ++ flat_map (λ y. l.separator ++ y) (drop l.value-index l.rest) ≡ joined l.separator l.values)
    × (length (string_bytes l.made) ≤ 16777216)
