use Rattle.std.proofs.Common.{ap}
use Rattle.tcl_sessions.proofs.Tellings.{runs_so}
use Rattle.tcl_tree.specs.TreeOf.{Marks}
use Rattle.tcl_sessions.proofs.session.Session.run.Goals as goal

pub returns-in-Ok : goal.returns-in-Ok
returns-in-Ok c =
    runs_so c.args.self.now c.tell.new.self c.args.evaluation c.attempt.new.tree c.in_ok-start.start c.attempt.new.standing c.in-Ok.told c.tell.result
    c.in-Ok.ensures c.in_ok-start.ensures.tree (ap (λ (m : Marks). m.integers) c.in_ok-start.ensures.marks) c.tell.ensures
