use Rattle.tcl_parser.proofs.ScriptRules.{ReadsAll-function, function-ReadsAll}
use Rattle.tcl_parser.proofs.laws.scripts_read_one_way.Goals as goal

pub returns-clause-reads : goal.returns-clause-reads
returns-clause-reads c = function-ReadsAll

pub returns-clause-only : goal.returns-clause-only
returns-clause-only c = λ s commands fault h. ReadsAll-function h
