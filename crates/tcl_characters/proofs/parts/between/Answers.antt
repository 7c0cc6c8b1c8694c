use Rattle.std.proofs.Common.{◌∙◌, ap, drop}
use Rattle.tcl_characters.proofs.LetterSteps.{text_of-chars}
use Rattle.tcl_characters.proofs.parts.between.Goals as goal

pub returns : goal.returns
returns c = text_of-chars _ _ c.skip_characters.utf8 (c.skip_characters.ensures.rest ∙ ap (λ cs. drop c.args.start cs) c.first_characters.ensures)
