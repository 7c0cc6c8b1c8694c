use Rattle.tcl_run.specs.Entering.{entry_of}
use Rattle.tcl_calls.proofs.EntryTelling.{asks_telling}
use Rattle.tcl_calls.proofs.requests.ask_telling.Goals as goal

pub returns-clause-evaluates : goal.returns-clause-evaluates
returns-clause-evaluates g c = asks_telling g.O.Outside.goes c.args.tree.now c.ask.new.tree c.args.outside.now c.ask.new.outside c.args.place c.args.path.now (entry_of c.args.entry) c.args.value c.ask.result c.answered_with.result c.answered_with.ensures c.ask.ensures.asks
