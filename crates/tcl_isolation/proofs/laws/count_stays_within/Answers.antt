use Rattle.tcl_isolation.proofs.Safe.{within_limit}
use Rattle.tcl_isolation.proofs.laws.count_stays_within.Goals as goal

pub returns : goal.returns
returns g d prog T V o z t i c crossings r n l b w f e g2 low lb nb =
    let h = within_limit _ prog T V o z t i c crossings r w n l b f e low g2 lb nb in
    record { count = h.0; limit = h.1 }
