use Rattle.std.proofs.Common.{◌∙◌, ◌∷◌, [], sym, refl}
use Rattle.std.proofs.lemmas.List.{append-nil}
use Rattle.tcl_expr.specs.declared.parser.End.TheVariants as end
use Rattle.tcl_expr.proofs.Parsings.{popped_some, emptied}
use Rattle.tcl_expr.proofs.Parsteps.{holds_as, has, misfit, close_comes, close_fails, close_fails_empty}
use Rattle.tcl_expr.proofs.parser.Parser.close.Goals as goal

pub returns-in_default : goal.returns-in_default
returns-in_default c = λ os a h. misfit c.settle.new.self.nodes.items c.pop.new.self.items c.settle.new.self.depth _ (close_fails_empty _ _ _ _ _ (c.in_ok-settle.ensures os a h) (emptied _ _ _ _ _ c.settle.new.self.pending.ok.0 c.pop.ensures.cases c.in_default.is))

pub returns-in-Group : goal.returns-in-Group
returns-in-Group c = λ os a h.
    let l = close_comes _ _ _ _ c.pop.new.self.items c.in-Some.pending _ [] end.Group (c.in_ok-settle.ensures os a h) (popped_some _ _ _ _ c.pop.ensures.items c.in-Some.is) (sym c.end_of.ensures ∙ c.in-Group.is) refl in
    has _ _ _ _ _ _ _ c.rise.ensures.mode l.gives (holds_as _ _ _ _ _ _ _ _ (c.rise.ensures.nodes ∙ sym (append-nil _)) c.rise.ensures.pending c.rise.ensures.depth l.holds)

pub returns-in_ok-push-in-Step : goal.returns-in_ok-push-in-Step
returns-in_ok-push-in-Step c = λ os a h.
    let l = close_comes _ _ _ _ c.pop.new.self.items c.in-Some.pending _ (c.in-Step.node ∷ []) (end.Step c.in-Step.node) (c.in_ok-settle.ensures os a h) (popped_some _ _ _ _ c.pop.ensures.items c.in-Some.is) (sym c.end_of.ensures ∙ c.in-Step.is) refl in
    has _ _ _ _ _ _ _ c.rise-in-Step.ensures.mode l.gives (holds_as _ _ _ _ _ _ _ _ (c.rise-in-Step.ensures.nodes ∙ c.in_ok-push-in-Step.ensures.items) c.rise-in-Step.ensures.pending c.rise-in-Step.ensures.depth l.holds)

pub returns-in-Missing : goal.returns-in-Missing
returns-in-Missing c = λ os a h. misfit c.settle.new.self.nodes.items c.pop.new.self.items c.settle.new.self.depth _ (close_fails _ _ _ _ _ c.in-Some.pending _ (c.in_ok-settle.ensures os a h) (popped_some _ _ _ _ c.pop.ensures.items c.in-Some.is) (sym c.end_of.ensures ∙ c.in-Missing.is))
