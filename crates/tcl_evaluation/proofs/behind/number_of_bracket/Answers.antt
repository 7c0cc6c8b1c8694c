use Rattle.std.proofs.Common.{[], ◌∷◌, refl, subst}
use Rattle.tcl_expression_evaluation.specs.AtHand.{IsNumberFrom}
use Rattle.tcl_parser.specs.Words.{Reading}
use Rattle.tcl_text.specs.declared.integer.Integers.{Integers}
use Rattle.tcl_evaluation.specs.Hands.{IsCounted}
use Rattle.tcl_evaluation.proofs.HandCalling.{some_more}
use Rattle.tcl_evaluation.proofs.behind.number_of_bracket.Goals as goal

pub returns : goal.returns
returns c =
    let rest = c.args.rest.now in
    let value = c.in_ok-value.value in
    some_more c.number_from_at.result _ _ (λ number h. λ p m names there. record {
      inner = c.args.bracket.now;
      rest = rest;
      are = refl;
      text = value;
      short = c.in_ok-value.ensures.short;
      counted = subst (λ (r : Reading). IsCounted c.args.tree.now.integers m r value) c.script.ensures (c.in_ok-value.ensures.at_hand p m names there);
      comes = subst (λ (s : Integers). IsNumberFrom m.own.chain.frames s (value ∷ []) rest number) c.integers.ensures (h p m names there);
    }) c.number_from_at.ensures
