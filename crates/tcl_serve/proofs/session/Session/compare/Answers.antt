use Rattle.std.proofs.Common.{refl, sym}
use Rattle.tcl_serve.proofs.session.Session.compare.Goals as goal

pub returns : goal.returns
returns c = (record { one = c.in-Some.one.now; other = c.in-Some-get.other.now; first = sym c.in-Some.ensures; second = sym c.in-Some-get.ensures; same = c.same.result; says = refl; is = c.same.ensures }, refl)
