use Rattle.std.proofs.Common.{Some, take, sym, ◌∙◌, ap, lt_of_not-le}
use Rattle.std.specs.Option.{option_copied}
use Rattle.tcl_core.proofs.PathLaws.{rise_past}
use Rattle.tcl_recorder.proofs.Boundaries.{rise_front}
use Rattle.tcl_recorder.proofs.passing.top_of_way.Goals as goal

pub returns-in_err-levels : goal.returns-in_err-levels
returns-in_err-levels c = ap option_copied c.from_residual.ensures ∙ sym (rise_past c.args.up c.args.path.now (lt_of_not-le c.in_err-levels.ensures))

pub returns : goal.returns
returns c =
    let gave = c.in_ok-levels.ensures in
    ap (λ k. Some (take k c.args.path.now)) gave.1 ∙ sym (rise_front c.args.up c.args.path.now gave.0)
