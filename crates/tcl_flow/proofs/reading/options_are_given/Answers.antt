use Rattle.tcl_flow.proofs.Options.{makes_so, reads_so}
use Rattle.tcl_flow.proofs.reading.options_are_given.Goals as goal

pub returns-clause-makes : goal.returns-clause-makes
returns-clause-makes c = makes_so

pub returns-clause-reads : goal.returns-clause-reads
returns-clause-reads c = reads_so
