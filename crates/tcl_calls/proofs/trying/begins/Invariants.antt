use Rattle.std.proofs.Common.{◌≡◌, drop}
use Rattle.tcl_language.specs.Trying.{begins}
use Rattle.tcl_calls.proofs.trying.begins.Given as goal

abbrev pub invariant-elements : goal.invariant-elements
invariant-elements l = begins l.pattern l.list ≡ begins (drop l.index l.pattern) (drop l.index l.list)
