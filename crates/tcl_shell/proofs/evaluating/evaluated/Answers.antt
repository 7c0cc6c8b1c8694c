use Rattle.std.proofs.Common.{◌≤◌, length, arith}
use Rattle.std.proofs.lemmas.Bool.Decides.{nat_tests}
use Rattle.tcl_shell.specs.Evaluating.{longest}
use Rattle.tcl_shell.proofs.EvaluatingLemmas.{evaluates_so}
use Rattle.tcl_shell.proofs.evaluating.evaluated.Goals as goal

pub returns-in-Ok : goal.returns-in-Ok
returns-in-Ok g c =
    let short = c.if-script-gt-MOST_BYTES.false in
    let within : length c.args.script.now ≤ longest = grind (arith, nat_tests) in
    evaluates_so g.H.Host.step c.args.options.now c.args.script.now c.in-Ok.script.now c.args.host.now c.run.new.host c.run.result within c.in-Ok.ensures.cases.1 c.in-Ok.ensures.cases.0 c.run.ensures
