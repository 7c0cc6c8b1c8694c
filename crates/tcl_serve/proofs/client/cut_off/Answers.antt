use Rattle.std.proofs.Common.{◌∷◌, [], ◌++◌, ap, sym, ◌∙◌, append_assoc, append-nil}
use Rattle.tcl_serve.specs.Clients.AllCut.{none, one}
use Rattle.tcl_serve.proofs.client.cut_off.Goals as goal

pub awaited-init : goal.awaited-init
awaited-init g c = ([], sym (append-nil _), none)

pub awaited-preserved : goal.awaited-preserved
awaited-preserved g c = (
  c.in-Some.last ∷ c.awaited.invariant.0,
  c.awaited.invariant.1 ∙ ap (λ xs. xs ++ c.awaited.invariant.0) c.in-Some.ensures.items ∙ append_assoc c.pop.new.self.items (c.in-Some.last ∷ []) c.awaited.invariant.0,
  one _ _ c.in-Some.last c.awaited.invariant.0 c.awaited.invariant.2 c.reply.ensures,
)
