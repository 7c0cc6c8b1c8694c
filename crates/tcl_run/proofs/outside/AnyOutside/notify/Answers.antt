use Rattle.tcl_run.proofs.Hosting.{unheard}
use Rattle.tcl_run.proofs.outside.AnyOutside.notify.Goals as goal

pub returns-clause-told : goal.returns-clause-told
returns-clause-told g c = unheard g.H.Host.step c.args._tree.now c.args.self.now c.args._happening
