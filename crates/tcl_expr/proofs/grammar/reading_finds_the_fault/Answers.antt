use Rattle.tcl_expr.proofs.Misfits.{fails, faults}
use Rattle.tcl_expr.proofs.grammar.reading_finds_the_fault.Goals as goal

pub returns : goal.returns
returns c = λ room s e. (fails room s e, λ f. faults f)
