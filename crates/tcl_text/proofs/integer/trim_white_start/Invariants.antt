use Rattle.std.proofs.Common.{◌≡◌, length}
use Rattle.tcl_text.specs.Numbers.{trim_start}
use Rattle.tcl_text.proofs.integer.trim_white_start.Given as goal

abbrev pub invariant-rest : goal.invariant-rest
invariant-rest l = trim_start l.rest ≡ trim_start l.text

abbrev pub decreases-rest : goal.decreases-rest
decreases-rest l = length l.rest
