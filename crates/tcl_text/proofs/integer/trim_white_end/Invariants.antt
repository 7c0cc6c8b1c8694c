use Rattle.std.proofs.Common.{◌≡◌, length}
use Rattle.tcl_text.specs.Numbers.{trim_end}
use Rattle.tcl_text.proofs.integer.trim_white_end.Given as goal

abbrev pub invariant-rest : goal.invariant-rest
invariant-rest l = trim_end l.rest ≡ trim_end l.text

abbrev pub decreases-rest : goal.decreases-rest
decreases-rest l = length l.rest
