use Rattle.std.proofs.Common.{refl, arith}
use Rattle.std.proofs.lemmas.Bool.Decides.{nat_tests}
use Rattle.tcl_expr.proofs.Parsteps.{holds_as, wants, deeper_holds, deeper_is}
use Rattle.tcl_expr.proofs.parser.Parser.deeper.Goals as goal

pub returns : goal.returns
returns c = λ os o h i. wants _ _ _ _ _ (deeper_is o os c.args.self.now.depth h.deep_is (grind (arith, nat_tests))) (holds_as _ _ _ _ _ _ _ _ refl c.in_ok-push.ensures.items refl (deeper_holds os o _ _ _ c.args.pending h i))
