use Rattle.std.proofs.Common.{refl, arith}
use Rattle.std.proofs.lemmas.Bool.Decides.{nat_tests}
use Rattle.tcl_expr.specs.Reading.{deciding, settle}
use Rattle.tcl_expr.proofs.Parsteps.{holds_as, wants, question_holds, deeper_is}
use Rattle.tcl_expr.proofs.parser.Parser.question.Goals as goal

pub returns : goal.returns
returns c = λ os a h.
    let held = c.in_ok-settle.ensures os a h in
    wants _ _ _ _ _ (deeper_is (deciding (settle 15 os a).tree) (settle 15 os a).os c.settle.new.self.depth held.deep_is (grind (arith, nat_tests))) (holds_as _ _ _ _ _ _ _ _ c.in_ok-push.ensures.items c.in_ok-push-2.ensures.items refl (question_holds _ _ _ _ _ held))
