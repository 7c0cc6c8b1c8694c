use Rattle.serde_json.specs.Find.{as_number}
use Rattle.serde_json.specs.View.{view}
use Rattle.std.proofs.Common.{Err, ap, sym, ◌∙◌, rules}
use Rattle.tcl_serve.proofs.Readings.{none_number}
use Rattle.tcl_serve.proofs.fields.number_of.Goals as goal

pub returns-in-None-clause-err : goal.returns-in-None-clause-err
returns-in-None-clause-err c = none_number c.args.field (as_number (view c.args.value.now)) (search rules) ∙ ap Err (sym c.no_number.ensures)
