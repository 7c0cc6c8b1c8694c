use Rattle.std.proofs.Common.{subst}
use Rattle.tcl_core.specs.Entries.Entry.{Delete}
use Rattle.tcl_core.specs.Paths.{Text}
use Rattle.tcl_calls.specs.Asking.{Asks}
use Rattle.tcl_interp.proofs.Stepping.{deletes_steps}
use Rattle.tcl_interp.proofs.deleting.delete_below.Goals as goal

pub returns-clause-steps : goal.returns-clause-steps
returns-clause-steps g c = deletes_steps g.O.Outside.goes c.args.tree.now c.ask-ended.new.tree c.args.outside.now c.ask-ended.new.outside c.args.place c.args.above.now c.args.name.now c.ask-ended.ensures.here c.ask-ended.result c.deleted.result c.deleted.ensures
    (subst (λ (x : Text). Asks g.O.Outside.goes c.args.tree.now c.args.outside.now c.args.place c.args.above.now (Delete x) c.ask-ended.new.tree c.ask-ended.new.outside c.ask-ended.result) c.in_ok-clone.ensures.cases c.ask-ended.ensures.asks)
