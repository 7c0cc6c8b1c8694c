use Rattle.std.proofs.Common.{sym, ap, ◌∙◌}
use Rattle.tcl_interp.specs.Subcommands.{child_program_named}
use Rattle.tcl_interp.proofs.Named.{child_by_name}
use Rattle.tcl_interp.proofs.subcommand.child_subcommand.Goals as goal

pub returns : goal.returns
returns c = λ style name args. child_by_name style name c.args.word.now args ∙ ap (λ o. child_program_named style name o c.args.word.now args) (sym c.named.ensures)
