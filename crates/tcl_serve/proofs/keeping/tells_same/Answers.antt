use Rattle.std.proofs.Common.{◌≡◌, subst, ◌∙◌}
use Rattle.std.specs.Prelude.{◌↔◌, IsTrue}
use Rattle.tcl_serve.proofs.keeping.tells_same.Goals as goal

pub returns : goal.returns
returns c = subst (λ xs. IsTrue c.same_lines.result ↔ (c.args.lines.now ≡ xs)) (c.as_slice.ensures.value ∙ c.in_ok-wanted.ensures) c.same_lines.ensures
