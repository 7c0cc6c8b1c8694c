use Rattle.std.proofs.Common.{◌∙◌, ◌-◌, sym, ap}
use Rattle.tcl_expr.proofs.Parsings.{popped_none, popped_some, on_none, none_settle, not_settle, one_settles}
use Rattle.tcl_expr.proofs.parser.Parser.settle_one.Goals as goal

pub returns-in_default-clause-settled : goal.returns-in_default-clause-settled
returns-in_default-clause-settled c = none_settle c.args.next c.args.self.now.nodes.items c.args.self.now.pending.items c.pop.new.self.items c.args.self.now.depth (sym (popped_none _ _ _ c.pop.ensures.items c.in_default.is)) (sym c.args.self.now.pending.ok.0 ∙ (on_none _ _ _ c.pop.ensures.cases c.in_default.is).0)

pub returns-in_default-closing-clause-settled : goal.returns-in_default-closing-clause-settled
returns-in_default-closing-clause-settled c = not_settle c.args.next c.args.self.now.nodes.items c.args.self.now.pending.items c.push.new.self.items c.pop.new.self.items c.in-Some.pending c.args.self.now.depth c.closing.result (popped_some _ _ _ _ c.pop.ensures.items c.in-Some.is) c.in_ok-push.ensures.items c.closing.ensures c.in_default-closing.is

pub returns-clause-settled : goal.returns-clause-settled
returns-clause-settled c = one_settles c.args.next c.args.self.now.nodes.items c.push-2.new.self.items c.args.self.now.pending.items c.pop.new.self.items c.in-Some.pending c.args.self.now.depth c.saturating_sub-self.result c.closing.result c.in-Some-closing.node (popped_some _ _ _ _ c.pop.ensures.items c.in-Some.is) c.closing.ensures c.in-Some-closing.is c.in_ok-push-2.ensures.items (c.saturating_sub-self.ensures ∙ ap (λ x. c.args.self.now.depth - x) c.weight.ensures)
