use Rattle.std.proofs.Common.{sym, ap, ◌∙◌}
use Rattle.tcl_core.specs.Paths.{Text}
use Rattle.std.proofs.Common.{List}
use Rattle.tcl_text.proofs.Items.{no_item, split_first}
use Rattle.tcl_interp.specs.Subjects.{on_itself, split_path}
use Rattle.tcl_interp.proofs.subject.split_path.Goals as goal

pub returns-in-len1-up : goal.returns-in-len1-up
returns-in-len1-up c = ap split_path (split_first c.args.args.now c.path-item.result c.in-len1-up.len_at_least c.path-item.is)

pub returns-in-empty : goal.returns-in-empty
returns-in-empty c = ap split_path (no_item c.args.args.now c.in-empty.len_below) ∙ ap (λ (x : List Text). (on_itself, x)) (sym (no_item c.args.args.now c.in-empty.len_below))
