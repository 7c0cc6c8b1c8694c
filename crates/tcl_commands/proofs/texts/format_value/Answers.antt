use Rattle.tcl_format.specs.Filling.{format_of}
use Rattle.tcl_words.specs.Outcomes.{answer_text}
use Rattle.tcl_commands.proofs.Short.{fits_at, format_fits}
use Rattle.tcl_commands.proofs.texts.format_value.Goals as goal

pub answer_value-requires : goal.answer_value-requires
answer_value-requires c = fits_at (format_of c.args.style c.args.args.now) (answer_text c.in_ok-answer.answer) (format_fits c.args.style c.args.args.now) c.in_ok-answer.ensures
