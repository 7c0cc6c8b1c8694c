use Rattle.std.proofs.Common.{inr, ap, subst}
use Rattle.tcl_parser.specs.Words.{Reading, WordRead}
use Rattle.tcl_value.specs.Writing.{write}
use Rattle.tcl_evaluation.specs.Hands.{IsCounted}
use Rattle.tcl_evaluation.proofs.HandCalling.{some_both}
use Rattle.tcl_evaluation.proofs.list_parts.part_at_hand.Goals as goal

pub returns : goal.returns
returns c = some_both c.part_of_script.result _ _ _ (λ part answer short p n names there. (
  ap (λ (w : WordRead). w.expand) c.in_ok-bracket.ensures,
  short,
  c.in_ok-bracket.bracket.now,
  ap (λ (w : WordRead). w.parts) c.in_ok-bracket.ensures,
  subst (λ (r : Reading). IsCounted c.args.tree.now.integers n r (write part)) c.script.ensures (inr (answer p n names there)),
)) c.part_of_script.ensures.answer c.part_of_script.ensures.short
