use Rattle.tcl_isolation.proofs.Comparing.{two_worlds}
use Rattle.tcl_isolation.proofs.laws.worlds_agree_until.Goals as goal

pub returns : goal.returns
returns g j prog T V T2 V2 o z o2 z2 t t2 i i2 c d xs ys r r2 n ms a b w f e u y f2 u2 same m m2 =
    two_worlds _ _ prog T V T2 V2 o z o2 z2 t t2 i i2 c d xs ys r r2 n w y ms a b f e u f2 u2 same m m2
