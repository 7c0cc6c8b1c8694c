use Rattle.tcl_characters.proofs.LetterSteps.{text_of-chars}
use Rattle.tcl_strings.proofs.spans.span.Goals as goal

pub returns-clause-bytes : goal.returns-clause-bytes
returns-clause-bytes c = text_of-chars _ _ c.part.utf8 c.part.ensures
