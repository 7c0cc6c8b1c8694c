use Rattle.std.proofs.Common.{◌≡◌, drop}
use Rattle.tcl_expression_evaluation.specs.Apply.{choose}
use Rattle.tcl_expression_evaluation.proofs.apply.choose_among.Given as goal

-- the texts stay, and what is chosen is chosen among the best so far and the rest
pub record Chosen (texts_stay : Type 0) (best_stays : Type 0) : Type 0 where
  pub texts : texts_stay
  pub best : best_stays

abbrev pub invariant-others : goal.invariant-others
invariant-others l = Chosen (l.others ≡ l.initial.others) (choose l.style l.function l.initial.best l.initial.others ≡ choose l.style l.function l.best (drop l.i l.initial.others))
