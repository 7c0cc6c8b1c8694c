use Rattle.tcl_words.specs.Limits.{counted}
use Rattle.tcl_words.specs.Outcomes.{answer_text}
use Rattle.tcl_commands.proofs.Short.{counted_fits, fits_at}
use Rattle.tcl_commands.proofs.texts.count_of.Goals as goal

pub answer_value-requires : goal.answer_value-requires
answer_value-requires c = fits_at (counted c.characters_of.result) (answer_text c.in_ok-answer.answer) (counted_fits c.characters_of.result) c.in_ok-answer.ensures
