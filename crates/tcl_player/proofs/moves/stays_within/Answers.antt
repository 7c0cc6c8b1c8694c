use Rattle.std.proofs.Common.{ap, sym, ◌∙◌}
use Rattle.std.specs.Prelude.{is_some}
use Rattle.tcl_core.specs.Paths.{rise_to}
use Rattle.tcl_player.proofs.Ways.{rises}
use Rattle.tcl_player.proofs.moves.stays_within.Goals as goal

pub returns-in-Some : goal.returns-in-Some
returns-in-Some c = rises c.in-Some.levels c.args.path.now ∙ ap (λ h. is_some (rise_to h c.args.path.now)) (sym c.in-Some.is)
