use Rattle.std.proofs.Common.{◌≡◌, arith, drop}
use Rattle.tcl_core.specs.Paths.{together}
use Rattle.tcl_interpreter.proofs.AliasLemmas.{together_more, together_none, together_second, differ, agree}
use Rattle.tcl_interpreter.proofs.alias.in_common.Goals as goal

pub returns-then-ne-clause-names : goal.returns-then-ne-clause-names
returns-then-ne-clause-names c =
    let none : together (drop c.names.count c.args.these.now) (drop c.names.count c.args.those.now) ≡ 0 =
    together_none _ _ c.names.count _ _ c.names-test.true c.if-count-those.true c.index-these-count.is c.index-those-count.is (differ _ _ c.ne.ensures c.if-ne.true) in
    let all = c.names.invariant.so_far in
    omega arith

pub names-preserved : goal.names-preserved
names-preserved c =
    let more = together_more _ _ c.names.count _ _ c.names-test.true c.if-count-those.true c.index-these-count.is c.index-those-count.is (agree _ _ c.ne.ensures c.if-ne.false) in
    let all = c.names.invariant.so_far in
    let these = c.names-test.true in
    let those = c.if-count-those.true in
    record { these = omega arith; those = omega arith; so_far = omega arith }

pub returns-else-count-those-clause-names : goal.returns-else-count-those-clause-names
returns-else-count-those-clause-names c =
    let none : together (drop c.names.count c.args.these.now) (drop c.names.count c.args.those.now) ≡ 0 = together_second _ _ c.names.count c.if-count-those.false in
    let all = c.names.invariant.so_far in
    omega arith
