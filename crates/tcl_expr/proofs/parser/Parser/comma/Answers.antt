use Rattle.std.proofs.Common.{◌≡◌, ◌∙◌, ◌∷◌, ◌++◌, [], ◌+◌, sym, ap, refl, arith}
use Rattle.std.proofs.Common.{suc}
use Rattle.tcl_expr.specs.declared.parser.Pending.TheVariants as pending
use Rattle.tcl_expr.proofs.Parsings.{popped_some, emptied}
use Rattle.tcl_expr.proofs.Parsteps.{holds_as, wants, misfit, comma_comes, comma_fails, comma_fails_empty}
use Rattle.tcl_expr.proofs.parser.Parser.comma.Goals as goal

pub returns-in_default : goal.returns-in_default
returns-in_default c = λ os a h. misfit c.settle.new.self.nodes.items c.pop.new.self.items c.settle.new.self.depth _ (comma_fails_empty _ _ _ _ _ (c.in_ok-settle.ensures os a h) (emptied _ _ _ _ _ c.settle.new.self.pending.ok.0 c.pop.ensures.cases c.in_default.is))

pub returns-in_default-argument_end : goal.returns-in_default-argument_end
returns-in_default-argument_end c = λ os a h. misfit c.settle.new.self.nodes.items c.pop.new.self.items c.settle.new.self.depth _ (comma_fails _ _ _ _ _ c.in-Some.pending _ (c.in_ok-settle.ensures os a h) (popped_some _ _ _ _ c.pop.ensures.items c.in-Some.is) (sym c.argument_end.ensures ∙ c.in_default-argument_end.is))

pub returns : goal.returns
returns c = λ os a h.
    let l = comma_comes _ _ _ _ c.pop.new.self.items c.in-Some.pending _ c.in-Some-argument_end.function c.in-Some-argument_end.count (c.in_ok-settle.ensures os a h) (popped_some _ _ _ _ c.pop.ensures.items c.in-Some.is) (sym c.argument_end.ensures ∙ c.in-Some-argument_end.is) in
    let more : c.in-Some-argument_end.count + 1 ≡ suc c.in-Some-argument_end.count = omega arith in
    wants _ _ _ _ _ l.gives (holds_as _ _ _ _ _ _ _ _ refl (c.in_ok-push.ensures.items ∙ ap (λ n. c.pop.new.self.items ++ pending.CallingOn c.in-Some-argument_end.function n ∷ []) more) refl l.holds)
