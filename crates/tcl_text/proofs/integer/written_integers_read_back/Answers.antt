use Rattle.tcl_text.proofs.Written.{written_back, fits_back}
use Rattle.tcl_text.proofs.integer.written_integers_read_back.Goals as goal

pub returns-clause-reads : goal.returns-clause-reads
returns-clause-reads c = written_back

pub returns-clause-fits : goal.returns-clause-fits
returns-clause-fits c = fits_back
