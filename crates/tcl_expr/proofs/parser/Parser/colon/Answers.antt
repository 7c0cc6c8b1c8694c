use Rattle.std.proofs.Common.{◌∙◌, sym, refl}
use Rattle.tcl_expr.proofs.Parsings.{popped_some, emptied}
use Rattle.tcl_expr.proofs.Parsteps.{holds_as, wants, misfit, colon_comes, colon_fails, colon_fails_empty}
use Rattle.tcl_expr.proofs.parser.Parser.colon.Goals as goal

pub returns-in_default : goal.returns-in_default
returns-in_default c = λ os a h. misfit c.settle.new.self.nodes.items c.pop.new.self.items c.settle.new.self.depth _ (colon_fails_empty _ _ _ _ _ (c.in_ok-settle.ensures os a h) (emptied _ _ _ _ _ c.settle.new.self.pending.ok.0 c.pop.ensures.cases c.in_default.is))

pub returns-then-not-is_deciding : goal.returns-then-not-is_deciding
returns-then-not-is_deciding c = λ os a h. misfit c.settle.new.self.nodes.items c.pop.new.self.items c.settle.new.self.depth _ (colon_fails _ _ _ _ _ c.in-Some.pending _ (c.in_ok-settle.ensures os a h) (popped_some _ _ _ _ c.pop.ensures.items c.in-Some.is) (sym c.is_deciding.ensures ∙ c.if-not-is_deciding.true))

pub returns : goal.returns
returns c = λ os a h.
    let l = colon_comes _ _ _ _ c.pop.new.self.items c.in-Some.pending _ (c.in_ok-settle.ensures os a h) (popped_some _ _ _ _ c.pop.ensures.items c.in-Some.is) (sym c.is_deciding.ensures ∙ c.if-not-is_deciding.false) in
    wants _ _ _ _ _ l.gives (holds_as _ _ _ _ _ _ _ _ c.in_ok-push.ensures.items c.in_ok-push-2.ensures.items refl l.holds)
