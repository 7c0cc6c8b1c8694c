use Rattle.std.proofs.Common.{subst, refl}
use Rattle.tcl_expr.specs.Reading.{settle}
use Rattle.tcl_expr.specs.Code.{code_of}
use Rattle.tcl_expr.specs.Parsing.{Holds}
use Rattle.tcl_expr.proofs.Parsteps.{holds_as, wants, infix_holds}
use Rattle.tcl_expr.proofs.parser.Parser.infix.Goals as goal

pub returns : goal.returns
returns c = λ os a h.
    let held = subst (λ n. Holds c.settle.new.self.nodes.items c.settle.new.self.pending.items c.settle.new.self.depth (settle n os a).os (code_of (settle n os a).tree)) c.level.ensures (c.in_ok-settle.ensures os a h) in
    wants _ _ _ _ _ refl (holds_as _ _ _ _ _ _ _ _ c.in_ok-push_mark.ensures c.in_ok-push.ensures.items refl (infix_holds c.args.operator _ _ _ _ _ held))
