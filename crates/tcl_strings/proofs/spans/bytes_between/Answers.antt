use Rattle.std.proofs.Common.{ℕ, ◌∙◌, ap}
use Rattle.tcl_words.specs.Spans.{from}
use Rattle.tcl_characters.proofs.LetterSteps.{text_of-chars}
use Rattle.tcl_strings.proofs.spans.bytes_between.Goals as goal

pub returns : goal.returns
returns c = text_of-chars _ _ c.bytes_from.utf8 (c.bytes_from.ensures ∙ ap (from {X = ℕ} c.args.first) c.bytes_up_to.ensures.front)
