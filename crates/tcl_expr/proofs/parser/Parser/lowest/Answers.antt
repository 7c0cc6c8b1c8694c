use Rattle.std.proofs.Common.{◌∙◌, ◌∷◌, ◌++◌, [], sym, ap}
use Rattle.tcl_expr.specs.Trees.{leaf}
use Rattle.tcl_expr.specs.declared.token.Leaf.TheVariants.{Literal}
use Rattle.tcl_expr.specs.declared.tree.Node.TheVariants as node
use Rattle.tcl_expr.proofs.Parsings.{popped_some, emptied}
use Rattle.tcl_expr.proofs.Parsteps.{holds_as, has, too_large, lowest_comes, lowest_fails, lowest_fails_empty}
use Rattle.tcl_expr.proofs.parser.Parser.lowest.Goals as goal

pub returns-in_default : goal.returns-in_default
returns-in_default c = λ os h. too_large c.args.self.now.nodes.items c.pop.new.self.items c.args.self.now.depth _ (lowest_fails_empty os _ _ _ _ h (emptied _ _ _ _ _ c.args.self.now.pending.ok.0 c.pop.ensures.cases c.in_default.is))

pub returns-then-not-is_negation : goal.returns-then-not-is_negation
returns-then-not-is_negation c = λ os h. too_large c.args.self.now.nodes.items c.pop.new.self.items c.args.self.now.depth _ (lowest_fails os _ _ _ c.in-Some.pending _ _ h (popped_some _ _ _ _ c.pop.ensures.items c.in-Some.is) (sym c.is_negation.ensures ∙ c.if-not-is_negation.true))

pub returns : goal.returns
returns c = λ os h.
    let l = lowest_comes os _ _ c.pop.new.self.items c.in-Some.pending _ c.args.digits.now h (popped_some _ _ _ _ c.pop.ensures.items c.in-Some.is) (sym c.is_negation.ensures ∙ c.if-not-is_negation.false) in
    has _ _ _ _ _ l.0 (leaf (Literal (45 ∷ c.args.digits.now))) c.rise.ensures.mode l.1 (holds_as _ _ _ _ _ _ _ _ (c.rise.ensures.nodes ∙ c.in_ok-push.ensures.items ∙ ap (λ y. c.args.self.now.nodes.items ++ node.Operand (Literal y) ∷ []) c.in_ok-literal.ensures) c.rise.ensures.pending c.rise.ensures.depth l.2)
