use Rattle.std.proofs.Common.{◌≡◌, drop}
use Rattle.tcl_lists.specs.Nested.{value_changed}
use Rattle.tcl_lists.specs.Steps.{raised}
use Rattle.tcl_lists.proofs.nested.value_changed.Given as goal

abbrev pub invariant-path : goal.invariant-path
invariant-path l = value_changed l.fn.path l.fn.value l.fn.own ≡ raised l.steps.items (value_changed (drop l.key-index l.path) l.fn.value l.at)
