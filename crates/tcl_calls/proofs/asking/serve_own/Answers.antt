use Rattle.std.proofs.Common.{sym, subst}
use Rattle.tcl_language.specs.Table.{serve}
use Rattle.tcl_run.specs.Entering.{whole_entry}
use Rattle.tcl_run.specs.Runs.{EvaluatesAt}
use Rattle.tcl_run.specs.declared.entry.Entry.{Entry}
use Rattle.tcl_calls.proofs.asking.serve_own.Goals as goal

pub returns-clause-runs : goal.returns-clause-runs
returns-clause-runs g c = subst (λ (e : Entry). EvaluatesAt g.O.Outside.goes c.args.tree.now c.args.outside.now c.args.place (λ style. serve style (whole_entry e)) c.serve.new.tree c.serve.new.outside c.serve.result) (sym c.in-Own.is) c.serve.ensures.runs
