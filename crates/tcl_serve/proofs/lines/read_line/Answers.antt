use Rattle.std.proofs.Common.{rules}
use Rattle.tcl_serve.proofs.LineLemmas.{end_read, error_read, more_read, whole_read}
use Rattle.tcl_serve.proofs.lines.read_line.Goals as goal

pub returns-in_err-append_shown : goal.returns-in_err-append_shown
returns-in_err-append_shown g c = let e = error_read _ _ _ _ c.steps.invariant.2 c.steps.invariant.1 c.in_err-append_shown.ensures in search rules
