use Rattle.tcl_characters.proofs.LetterSteps.{text_of-chars}
use Rattle.tcl_characters.proofs.parts.from.Goals as goal

pub returns : goal.returns
returns c = text_of-chars _ _ c.skip_characters.utf8 c.skip_characters.ensures.rest
