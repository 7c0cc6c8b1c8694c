use Rattle.std.proofs.Common.{◌≡◌, ℕ, ◌+◌, ◌-◌, ◌≤◌, length, sym, ap, ◌∙◌, arith}
use Rattle.std.specs.Prelude.{nat_lt}
use Rattle.tcl_core.specs.Paths.{Path, falls, together}
use Rattle.tcl_core.specs.Runs.{lessened}
use Rattle.tcl_flow.specs.Stopping.{kind_of}
use Rattle.tcl_interpreter.proofs.LastNames.{falls_length}
use Rattle.tcl_run.proofs.Steady.{holds_stood}
use Rattle.tcl_calls.proofs.Stops.{told_above}
use Rattle.tcl_calls.proofs.carrying.stop_for_caller.Goals as goal

pub overflow_sub-up : goal.overflow_sub-up
overflow_sub-up c =
    let names = c.as_slice.ensures.value ∙ c.in-Ok.ensures.stood c.requires.0 (holds_stood c.args.tree.now c.args.place c.requires.0 c.requires.1 c.requires.2) in
    let most = falls_length c.args.up c.requires.0 in
    let common = c.in_common-common.ensures.these in
    let same = ap length names in
    omega arith

pub returns-in-Some : goal.returns-in-Some
returns-in-Some c = λ p d at.
    let names = c.as_slice.ensures.value ∙ c.in-Ok.ensures.stood p (holds_stood c.args.tree.now c.args.place p d at) in
    let most = falls_length c.args.up p in
    let these = c.in_common-common.ensures.these in
    let those = c.in_common-common.ensures.those in
    let same = ap length names in
    let within : c.in_common-common.result ≤ c.args.up = omega arith in
    let over = c.if-stop-apart.false in
    let is = c.in-Some.ensures in
    let common : together (falls c.args.up p) c.args.down.now ≡ c.in_common-common.result = ap (λ (xs : Path). together xs c.args.down.now) (sym names) ∙ sym c.in_common-common.ensures.names in
    told_above c.args.stop.levels_up c.args.up (length c.args.down.now) c.in_common-common.result c.in-Some.levels_up (kind_of c.args.stop.kind) those within (omega arith) (omega arith)
    ∙ ap (λ (n : ℕ). lessened (nat_lt (c.args.stop.levels_up + n) (length c.args.down.now)) (c.args.stop.levels_up + c.args.up - length c.args.down.now) (kind_of c.args.stop.kind)) (sym common)
