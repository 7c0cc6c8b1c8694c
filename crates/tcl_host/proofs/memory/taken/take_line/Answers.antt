use Rattle.std.proofs.Common.{◌<◌, length, arith}
use Rattle.std.proofs.lemmas.Bool.Decides.{nat_tests}
use Rattle.tcl_host.proofs.TakenLemmas.{found_as, last_as}
use Rattle.tcl_host.proofs.memory.taken.take_line.Goals as goal

pub returns-in_ok-copy_of-in-Some-clause-taken : goal.returns-in_ok-copy_of-in-Some-clause-taken
returns-in_ok-copy_of-in-Some-clause-taken c =
    found_as c.args.rest.now c.in-Some.end _ c.in-Some.ensures c.in_ok-copy_of-in-Some.ensures

pub returns-in_ok-copy_of-in-None-clause-taken : goal.returns-in_ok-copy_of-in-None-clause-taken
returns-in_ok-copy_of-in-None-clause-taken c =
    let some : 0 < length c.args.rest.now = grind (arith, nat_tests) in
    last_as c.args.rest.now _ some c.in-None.ensures c.in_ok-copy_of-in-None.ensures
