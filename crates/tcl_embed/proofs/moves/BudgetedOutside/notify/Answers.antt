use Rattle.std.proofs.Common.{sym, ◌∙◌}
use Rattle.std.proofs.lemmas.Result.{on_ok_weaker}
use Rattle.tcl_embed.proofs.Moving.{notified_on, notified_over}
use Rattle.tcl_embed.proofs.moves.BudgetedOutside.notify.Goals as goal

pub returns-then-is_some-clause-told : goal.returns-then-is_some-clause-told
returns-then-is_some-clause-told g c = notified_over g.O.Outside.goes g.O.Outside.hands_in c.args.tree.now c.args.self.now.outside c.args.self.now.left c.args.self.now.halt c.args.happening (sym c.is_some.ensures ∙ c.if-is_some.true)

pub returns-clause-told : goal.returns-clause-told
returns-clause-told g c =
    on_ok_weaker c.notify.result
    (λ f. notified_on g.O.Outside.goes g.O.Outside.hands_in c.args.tree.now c.args.self.now.outside c.args.self.now.left c.args.self.now.halt c.args.happening c.notify.new.self (sym c.is_some.ensures ∙ c.if-is_some.false) f) c.notify.ensures.told
