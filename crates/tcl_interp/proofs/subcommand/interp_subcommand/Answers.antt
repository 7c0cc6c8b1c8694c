use Rattle.std.proofs.Common.{sym, ap, ◌∙◌}
use Rattle.tcl_interp.specs.Subcommands.{interp_program_named}
use Rattle.tcl_interp.proofs.Named.{by_name}
use Rattle.tcl_interp.proofs.subcommand.interp_subcommand.Goals as goal

pub returns : goal.returns
returns c = λ style args. by_name style c.args.word.now args ∙ ap (λ o. interp_program_named style o c.args.word.now args) (sym c.named.ensures)
