use Rattle.std.proofs.Common.{refl}
use Rattle.tcl_run.proofs.Quiet.{unchanged}
use Rattle.tcl_sessions.specs.Standing.{goes}
use Rattle.tcl_sessions.proofs.standing.StandingOutside.notify.Goals as goal

pub returns-clause-told : goal.returns-clause-told
returns-clause-told c =
    let o = c.args.self.now in
    unchanged goes c.args._tree.now o c.args._happening (λ T p. refl) (λ p n a down i e. record { between = o; leaves = refl; enters = refl })
    (λ p n a down s r e. record { between = o; leaves = refl; returns = refl }) (λ p n a down i r e. record { between = o; leaves = refl; returns = refl })
    (λ p h down i e. refl) (λ q r. refl)
