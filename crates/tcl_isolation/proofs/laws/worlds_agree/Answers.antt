use Rattle.std.proofs.Common.{ap}
use Rattle.tcl_core.specs.Lives.{outs_of}
use Rattle.tcl_isolation.proofs.Comparing.{all_agree}
use Rattle.tcl_isolation.proofs.laws.worlds_agree.Goals as goal

pub returns : goal.returns
returns g j prog T V T2 V2 o z o2 z2 t t2 i i2 c d xs ys r r2 n w f e u y f2 u2 same m =
    let h = all_agree _ _ prog T V T2 V2 o z o2 z2 t t2 i i2 c d xs ys r r2 n w y f e u f2 u2 same m in
    (h.0, ap outs_of h.0, h.1)
