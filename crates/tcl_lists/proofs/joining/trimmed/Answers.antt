use Rattle.std.proofs.Common.{◌∙◌, ap}
use Rattle.std.specs.Str.{chars}
use Rattle.tcl_characters.specs.Texts.{text_of, trim_end}
use Rattle.tcl_characters.proofs.Trims.{chars_of_start}
use Rattle.tcl_lists.specs.Joining.{white}
use Rattle.tcl_lists.proofs.joining.trimmed.Goals as goal

pub returns : goal.returns
returns c = c.trim_right.ensures ∙ ap (λ cs. text_of (trim_end (chars white) cs)) (chars_of_start (chars white) c.args.text.now c.trim_left.result.now c.utf8.text c.trim_left.ensures)
