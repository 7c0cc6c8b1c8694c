use Rattle.std.proofs.Common.{◌≡◌, drop}
use Rattle.tcl_lists.specs.Nested.{key_removed}
use Rattle.tcl_lists.specs.Steps.{raised}
use Rattle.tcl_lists.proofs.nested.key_removed.Given as goal

abbrev pub invariant-path : goal.invariant-path
invariant-path l = key_removed l.fn.path l.fn.key l.fn.own ≡ raised l.steps.items (key_removed (drop l.first-index l.path) l.fn.key l.at)
