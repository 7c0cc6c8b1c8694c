use Rattle.tcl_strings.specs.Subcommands.{string_of}
use Rattle.tcl_words.specs.Outcomes.{answer_text}
use Rattle.tcl_commands.proofs.Short.{fits_at, string_fits}
use Rattle.tcl_commands.proofs.texts.string_answer.Goals as goal

pub answer_value-requires : goal.answer_value-requires
answer_value-requires c = fits_at (string_of c.args.style c.args.texts.now) (answer_text c.in_ok-answer.answer) (string_fits c.args.style c.args.texts.now) c.in_ok-answer.ensures
