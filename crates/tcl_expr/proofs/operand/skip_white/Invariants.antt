use denote.Text.{Utf8}
use denote.Shadow.{shadow}
use Rattle.std.proofs.Common.{◌≡◌, length}
use Rattle.tcl_text.specs.Numbers.{trim_start}
use Rattle.tcl_expr.proofs.operand.skip_white.Given as goal

abbrev pub invariant-white : goal.invariant-white
invariant-white l = shadow (Utf8 l.rest) × (trim_start l.rest ≡ trim_start l.text)

abbrev pub decreases-white : goal.decreases-white
decreases-white l = length l.rest
