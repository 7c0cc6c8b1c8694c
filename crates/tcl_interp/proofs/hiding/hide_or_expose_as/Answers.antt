use Rattle.std.proofs.Common.{sym, ap}
use Rattle.tcl_core.specs.Entries.{Entry}
use Rattle.tcl_language.specs.Interpreters.{asks_trusted}
use Rattle.tcl_run.specs.Entering.{entry_of}
use Rattle.tcl_calls.proofs.EntryTelling.{evaluates_as}
use Rattle.tcl_interp.specs.Programs.{hiding_entry}
use Rattle.tcl_interp.specs.Subjects.{about, path_text}
use Rattle.tcl_interp.proofs.hiding.hide_or_expose_as.Goals as goal

pub returns-clause-evaluates : goal.returns-clause-evaluates
returns-clause-evaluates g c = evaluates_as g.O.Outside.goes c.args.tree.now c.ask_trusted.new.tree c.args.outside.now c.ask_trusted.new.outside c.args.place (λ style. asks_trusted (path_text (about c.args.subject)) (hiding_entry c.args.hiding c.args.from.now c.args.to.now))
    (λ style. asks_trusted (path_text (about c.args.subject)) (entry_of c.in_ok-entry.entry)) c.ask_trusted.result
    (λ style. ap (λ (e : Entry). asks_trusted (path_text (about c.args.subject)) e) (sym c.in_ok-entry.ensures)) c.ask_trusted.ensures.evaluates
