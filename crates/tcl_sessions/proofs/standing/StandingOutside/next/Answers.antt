use Rattle.std.proofs.Common.{Option, subst}
use Rattle.std.specs.Prelude.{Ok}
use Rattle.tcl_run.specs.Entering.{whole_entry}
use Rattle.tcl_sessions.proofs.Coming.{comes_again, comes_from}
use Rattle.tcl_sessions.specs.Standing.{IsRecalled}
use Rattle.tcl_sessions.specs.declared.standing.Answer.{Answer}
use Rattle.tcl_tree.specs.TreeOf.{tree_of}
use Rattle.tcl_sessions.proofs.standing.StandingOutside.next.Goals as goal

pub returns-in-Some-clause-comes : goal.returns-in-Some-clause-comes
returns-in-Some-clause-comes c = λ p d at past.
    comes_again (tree_of c.args.tree.now) c.args.self.now c.recall.new.self p d c.args.up (whole_entry c.args.entry.now) c.in-Some.answer c.answer_again.result past
    (subst (λ (a : Option Answer). IsRecalled c.args.self.now (Ok a) c.recall.new.self) c.in-Some.is c.in_ok-answer.ensures) c.answer_again.ensures

pub returns-in-None-clause-comes : goal.returns-in-None-clause-comes
returns-in-None-clause-comes c = λ p d at past.
    let none = subst (λ (a : Option Answer). IsRecalled c.args.self.now (Ok a) c.recall.new.self) c.in-None.is c.in_ok-answer.ensures in
    comes_from (tree_of c.args.tree.now) c.args.self.now c.recall.new.self c.turn.new.self p d c.args.up (whole_entry c.args.entry.now) c.turn.result none.1
    (c.turn.ensures.comes p d at past)
