use Rattle.std.proofs.Common.{◌≡◌, drop}
use Rattle.tcl_language.specs.Words.{are_digits}
use Rattle.tcl_calls.proofs.levels.are_digits.Given as goal

abbrev pub invariant-digits : goal.invariant-digits
invariant-digits l = are_digits l.text ≡ are_digits (drop l.digit-index l.text)
