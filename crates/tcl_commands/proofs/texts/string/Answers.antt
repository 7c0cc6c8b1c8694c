use Rattle.tcl_strings.specs.Subcommands.{string_of}
use Rattle.tcl_commands.proofs.Answering.{given_acts}
use Rattle.tcl_commands.proofs.texts.string.Goals as goal

pub returns-clause-acts : goal.returns-clause-acts
returns-clause-acts c = given_acts c.args.tree.now c.args.place (λ style. string_of style c.args.args.now) c.answered.result c.integers.result c.integers.ensures (c.answered.ensures (string_of c.integers.result c.args.args.now) c.string_value.ensures)
