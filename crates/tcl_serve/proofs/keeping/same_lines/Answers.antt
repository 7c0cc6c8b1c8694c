use Rattle.std.proofs.lemmas.Slice.Eq.{bytes_eq-Decides, slice_eq-Decides}
use Rattle.tcl_serve.proofs.keeping.same_lines.Goals as goal

pub returns : goal.returns
returns c = slice_eq-Decides bytes_eq-Decides c.args.lines.now c.args.others.now c.eq.result c.eq.ensures
