use Rattle.std.proofs.Common.{sym, ◌∙◌}
use Rattle.tcl_run.specs.Entering.{entry_of}
use Rattle.tcl_calls.proofs.Carried.{asks_another, asks_itself, is_empty_path, is_some_path}
use Rattle.tcl_calls.proofs.asking.ask.Goals as goal

pub returns-then-is_empty-clause-asks : goal.returns-then-is_empty-clause-asks
returns-then-is_empty-clause-asks g c = asks_itself g.O.Outside.goes c.args.tree.now c.serve.new.tree c.args.outside.now c.serve.new.outside c.args.place c.args.path.now (entry_of c.args.entry) c.serve.result
    (is_empty_path c.args.path.now (sym c.is_empty.ensures ∙ c.if-is_empty.true)) c.serve.ensures.runs

pub returns-clause-asks : goal.returns-clause-asks
returns-clause-asks g c = asks_another g.O.Outside.goes c.args.tree.now c.ask_below.new.tree c.args.outside.now c.ask_below.new.outside c.args.place c.args.path.now (entry_of c.args.entry) c.ask_below.result
    (is_some_path c.args.path.now (sym c.is_empty.ensures ∙ c.if-is_empty.false)) c.ask_below.ensures.calls
