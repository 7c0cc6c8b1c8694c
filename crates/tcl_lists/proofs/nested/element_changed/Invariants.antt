use Rattle.std.proofs.Common.{◌≡◌, drop}
use Rattle.tcl_lists.specs.Nested.{element_changed}
use Rattle.tcl_lists.specs.Steps.{raised}
use Rattle.tcl_lists.proofs.nested.element_changed.Given as goal

abbrev pub invariant-path : goal.invariant-path
invariant-path l = element_changed l.style l.fn.path l.fn.value l.fn.own ≡ raised l.steps.items (element_changed l.style (drop l.index-index l.path) l.fn.value l.at)
