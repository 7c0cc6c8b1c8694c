use Rattle.tcl_parser.proofs.ScriptRules.{decided, Reads-function, function-Reads, HasFault-function, function-HasFault}
use Rattle.tcl_parser.proofs.laws.commands_read_one_way.Goals as goal

pub returns-clause-decided : goal.returns-clause-decided
returns-clause-decided c = decided

pub returns-clause-command : goal.returns-clause-command
returns-clause-command c = λ k s ws rest. (Reads-function k s ws rest, function-Reads k s ws rest)

pub returns-clause-fault : goal.returns-clause-fault
returns-clause-fault c = λ k s f. (HasFault-function k s f, function-HasFault k s f)
