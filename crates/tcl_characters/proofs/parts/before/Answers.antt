use Rattle.tcl_characters.proofs.LetterSteps.{text_of-chars}
use Rattle.tcl_characters.proofs.parts.before.Goals as goal

pub returns : goal.returns
returns c = text_of-chars _ _ c.first_characters.utf8 c.first_characters.ensures
