use Rattle.std.proofs.lemmas.Bool.Decides.{nat_tests}
use Rattle.std.proofs.Common.{arith, ◌≡◌, false, [], ap, sym, ◌∙◌}
use Rattle.std.specs.Prelude.{nat_le}
use Rattle.tcl_core.specs.Programs.{limit_or}
use Rattle.tcl_interpreter.specs.Nodes.{full_of, state_view}
use Rattle.tcl_interpreter.specs.declared.node.Meter.{Meter}
use Rattle.tcl_interpreter.proofs.node.State.advance.Goals as goal

pub prove-unreachable-requires : goal.prove-unreachable-requires
prove-unreachable-requires c =
    let open_is : nat_le (limit_or c.args.self.now.limit) c.args.self.now.count ≡ false = ap (λ (m : Meter). full_of m (state_view c.args.self.now [])) (sym c.in-Steps.is) ∙ c.requires [] in
    let most = c.most_steps-most.ensures in
    let past = c.if-prove.true in
    grind (arith, nat_tests)

pub overflow_add-self-in-Levels : goal.overflow_add-self-in-Levels
overflow_add-self-in-Levels c =
    let open_is : nat_le c.args.self.now.depth_limit c.args.self.now.depth ≡ false = ap (λ (m : Meter). full_of m (state_view c.args.self.now [])) (sym c.in-Levels.is) ∙ c.requires [] in
    let f = c.fits-self in
    grind (arith, nat_tests)
