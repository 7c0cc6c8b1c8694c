use Rattle.tcl_characters.proofs.LetterSteps.{text_of-chars}
use Rattle.tcl_strings.proofs.spans.behind.Goals as goal

pub returns : goal.returns
returns c = text_of-chars _ _ c.behind_place.utf8 c.behind_place.ensures
