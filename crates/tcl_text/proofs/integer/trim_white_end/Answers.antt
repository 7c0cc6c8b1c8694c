use Rattle.std.proofs.Common.{arith, sym, ◌∙◌}
use Rattle.tcl_text.proofs.Digits.{drop_white, keep_last}
use Rattle.tcl_text.proofs.integer.trim_white_end.Goals as goal

pub rest-preserved : goal.rest-preserved
rest-preserved c = drop_white c.rest.rest.now c.is_white.result (omega arith) c.is_white.ensures c.if-not-is_white.false ∙ c.rest.invariant

pub returns-then-not-is_white : goal.returns-then-not-is_white
returns-then-not-is_white c = sym (keep_last c.rest.rest.now c.is_white.result (omega arith) c.is_white.ensures c.if-not-is_white.true) ∙ c.rest.invariant
