use Rattle.std.proofs.Common.{◌≤◌, vec_len}
use Rattle.std.specs.Io.KnownBytes.{Consumes}
use Rattle.tcl_serve.specs.Lines.{IsWithin, most_line}
use Rattle.tcl_serve.proofs.lines.read_line.Given as goal

abbrev pub invariant-steps : goal.invariant-steps
invariant-steps g l = (vec_len l.line ≤ most_line) × IsWithin l.line.items ×
    Consumes (g.R.Read.remaining l.initial.reader) (g.R.Read.remaining l.reader) l.line.items
