use Rattle.std.proofs.Common.{◌≡◌, Some, sym, ◌∙◌, ap}
use Rattle.std.specs.Option.{option_copied}
use Rattle.tcl_core.specs.Paths.{strip}
use Rattle.tcl_recorder.specs.Boundary.{passing}
use Rattle.tcl_recorder.proofs.Boundaries.{passes, passing_out, stays}
use Rattle.tcl_recorder.proofs.passing.passing.Goals.{in_default-via-in-Some+else-levels-inside, in_default-via-in_default}
use Rattle.tcl_recorder.proofs.passing.passing.Goals as goal

pub returns-in-Some : goal.returns-in-Some
returns-in-Some c =
    let inside : strip c.args.top.now c.args.path.now ≡ Some c.in_ok-inside.inside.now = sym c.below.ensures ∙ ap option_copied c.in_ok-inside.was in
    sym (ap (passing c.args.top.now c.args.path.now) c.in-Some.is ∙ stays c.args.top.now c.args.path.now c.in_ok-inside.inside.now c.in-Some.levels inside c.if-levels-inside.true)

pub returns-in_default : goal.returns-in_default
returns-in_default c =
    let inside : strip c.args.top.now c.args.path.now ≡ Some c.in_ok-inside.inside.now = sym c.below.ensures ∙ ap option_copied c.in_ok-inside.was in
    elim c.in_default.branch [
      | in_default-via-in-Some+else-levels-inside w ↦
          sym (ap (passing c.args.top.now c.args.path.now) w.in-Some.is ∙ passes c.args.top.now c.args.path.now c.in_ok-inside.inside.now w.in-Some.levels inside w.if-levels-inside.false)
      | in_default-via-in_default w ↦
          sym (ap (passing c.args.top.now c.args.path.now) w.in_default.is ∙ passing_out c.args.top.now c.args.path.now ∙ inside)
    ]
