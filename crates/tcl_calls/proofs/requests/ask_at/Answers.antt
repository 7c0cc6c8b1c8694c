use Rattle.tcl_run.specs.Entering.{entry_of}
use Rattle.tcl_calls.proofs.EntryTelling.{asks_last}
use Rattle.tcl_calls.proofs.requests.ask_at.Goals as goal

pub returns-clause-evaluates : goal.returns-clause-evaluates
returns-clause-evaluates g c = asks_last g.O.Outside.goes c.args.tree.now c.ask.new.tree c.args.outside.now c.ask.new.outside c.args.place c.args.path.now (entry_of c.args.entry) c.ask.result c.ask.ensures.asks
