use Rattle.tcl_run.specs.Language.{language}
use Rattle.tcl_run_laws.specs.Language.{leaves_steps}
use Rattle.tcl_isolation.proofs.Limited.{language_rules}
use Rattle.tcl_isolation.proofs.Safe.{all_lowering, within_limit}
use Rattle.tcl_isolation.proofs.laws.scripts_stay_within.Goals as goal

pub returns : goal.returns
returns g d style T V o z t i c crossings r n l b w f e at_limit low lb nb =
    let h = within_limit _ (language style) T V o z t i c crossings r w n l b f e (all_lowering _ (language style) T V o z t i c crossings r leaves_steps (language_rules style) w n l f e low) at_limit lb nb in
    record { count = h.0; limit = h.1 }
