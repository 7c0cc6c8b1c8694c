use Rattle.std.proofs.Common.{◌≡◌}
use Rattle.serde_json.specs.View.{view}
use Rattle.tcl_serve.specs.Fields.{only}
use Rattle.tcl_serve.proofs.Readings.{names_in}
use Rattle.tcl_serve.proofs.fields.only.Given as goal

abbrev pub invariant-names : goal.invariant-names
invariant-names l = only l.fields (view l.fn.line) ≡ names_in l.fields l.name-iterator
