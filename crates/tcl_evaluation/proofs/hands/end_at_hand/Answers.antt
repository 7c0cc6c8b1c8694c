use Rattle.std.proofs.Common.{ap, subst}
use Rattle.tcl_parser.specs.Words.{Reading, WordRead}
use Rattle.tcl_evaluation.specs.Hands.{IsCounted}
use Rattle.tcl_evaluation.proofs.hands.end_at_hand.Goals as goal

pub returns-in-Some : goal.returns-in-Some
returns-in-Some c = λ p n names there. (
  ap (λ (w : WordRead). w.expand) c.in-Some.ensures,
  c.in_ok-value.ensures.short,
  c.in-Some.bracket.now,
  ap (λ (w : WordRead). w.parts) c.in-Some.ensures,
  subst (λ (r : Reading). IsCounted c.args.tree.now.integers n r c.in_ok-value.value) c.script.ensures (c.in_ok-value.ensures.at_hand p n names there),
)
