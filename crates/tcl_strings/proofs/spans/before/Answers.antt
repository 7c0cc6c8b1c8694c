use Rattle.tcl_characters.proofs.LetterSteps.{text_of-chars}
use Rattle.tcl_strings.proofs.spans.before.Goals as goal

pub returns : goal.returns
returns c = text_of-chars _ _ c.before_place.utf8 c.before_place.ensures
