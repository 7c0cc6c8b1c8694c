use Rattle.std.proofs.Common.{inl}
use Rattle.tcl_evaluation.proofs.HandCalling.{some_more}
use Rattle.tcl_evaluation.proofs.hands.value_at_hand.Goals as goal

pub returns : goal.returns
returns c = some_more c.plain_word_at_hand.result _ _ (λ value h. record { single = h.single; short = h.short; by = inl h.by }) c.plain_word_at_hand.ensures
