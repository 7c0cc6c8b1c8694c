use Rattle.std.proofs.Common.{◌∙◌, ap}
use Rattle.tcl_characters.proofs.StartLemmas.{starts, starts-chars}
use Rattle.tcl_characters.proofs.parts.character_count.Goals as goal

pub returns : goal.returns
returns c = c.starts_in.ensures ∙ ap starts c.as_bytes.ensures.value ∙ starts-chars c.args.text.now c.utf8.text
