use Rattle.std.proofs.Common.{[], ◌++◌, None, refl}
use Rattle.tcl_core.specs.Execution.{before}
use Rattle.tcl_core.proofs.Outside.{quiet_outside}
use Rattle.tcl_isolation.specs.Visits.{visit}
use Rattle.tcl_isolation.proofs.Hosts.{found_at, host_between}
use Rattle.tcl_isolation.proofs.Turning.{enters, stays}
use Rattle.tcl_isolation.proofs.Watching.{life}
use Rattle.tcl_isolation.proofs.laws.quiet_between.Goals as goal

pub returns : goal.returns
returns g d = record {
  tree = λ prog T V o z t i c crossings r first mid last ev m w e f n.
      quiet_outside prog c (before T (visit t i w.events r)) (before V []) None first mid last ev (life _ prog T V o z t i c crossings r w) refl e (enters c ev m (found_at _ prog T V o z t i c crossings r w first (mid ++ last) ev e) f) (stays c mid n);
  host = λ prog T V o z t i c crossings r first mid last ev m cs ds M N o1 o2 w e f n k. host_between _ prog T V o z t i c crossings r w first mid last ev cs ds M N o1 o2 e (enters c ev m (found_at _ prog T V o z t i c crossings r w first (mid ++ last) ev e) f) (stays c mid n) k;
}
