use Rattle.std.proofs.Common.{sym}
use Rattle.tcl_text.specs.Numbers.{integer_of}
use Rattle.tcl_run.proofs.Levelling.{level_none}
use Rattle.tcl_run.proofs.levels.level_at.Goals as goal

pub returns-in-Err : goal.returns-in-Err
returns-in-Err c = level_none c.args.current (integer_of c.args.style c.args.number.now) c.in-Err.field-0 c.requires (sym c.in-Err.ensures)
