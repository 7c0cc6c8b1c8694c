use Rattle.tcl_functions.proofs.Ways.{comes_next, host_comes}
use Rattle.tcl_run.specs.Entering.{whole_entry}
use Rattle.tcl_tree.specs.TreeOf.{tree_of}
use Rattle.tcl_functions.proofs.serving.WithFunctionsOutside.next.Goals as goal

pub returns-in_ok-ask-in-None-AskHost-clause-comes : goal.returns-in_ok-ask-in-None-AskHost-clause-comes
returns-in_ok-ask-in-None-AskHost-clause-comes g c = λ p d held top.
    let asked = c.in-None-AskHost in
    let heard = c.in_ok-ask-in-None-AskHost in
    host_comes g.F.Functions.serves g.H.Host.step (tree_of c.args._tree.now) c.args.self.now c.ask.new.host p d c.args.up c.args.entry.now
    asked.request heard.field-0 asked.is-0 asked.is-1 heard.ensures.stepped heard.ensures.lawful.fits

pub returns-in-Some-default-clause-comes : goal.returns-in-Some-default-clause-comes
returns-in-Some-default-clause-comes g c = λ p d held top.
    comes_next g.F.Functions.serves g.H.Host.step (tree_of c.args._tree.now) c.args.self.now c.serve.new.self c.args.up c.in-Some-default.field-0-0 p d (whole_entry c.args.entry.now) c.serve.result c.in-Some-default.is-0 top c.serve.ensures.serves
