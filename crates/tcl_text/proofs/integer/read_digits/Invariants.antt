use Rattle.std.proofs.Common.{◌≡◌, true, take}
use Rattle.tcl_text.specs.Numbers.{are_digits, sum_of_digits, IsKept}
use Rattle.tcl_text.proofs.integer.read_digits.Given as goal

abbrev pub invariant-digits : goal.invariant-digits
invariant-digits l =
    (are_digits l.base (take l.byte-index l.fn.digits) ≡ true) × IsKept l.sum (sum_of_digits l.base (take l.byte-index l.fn.digits))
