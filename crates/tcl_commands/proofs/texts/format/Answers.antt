use Rattle.tcl_format.specs.Filling.{format_of}
use Rattle.tcl_commands.proofs.Answering.{given_acts}
use Rattle.tcl_commands.proofs.texts.format.Goals as goal

pub returns-clause-acts : goal.returns-clause-acts
returns-clause-acts c = given_acts c.args.tree.now c.args.place (λ style. format_of style c.args.args.now) c.answered.result c.integers.result c.integers.ensures (c.answered.ensures (format_of c.integers.result c.args.args.now) c.format_value.ensures)
