use Rattle.std.proofs.Common.{◌≡◌, ℕ, length}
use Rattle.std.specs.Prelude.{min}
use denote.Text.{Utf8}
use denote.Shadow.{shadow}
use Rattle.std.specs.Str.{chars}
use Rattle.tcl_format.specs.Specifiers.{read_number}
use Rattle.tcl_format.proofs.specifier.read_number.Given as goal

abbrev pub invariant-digits : goal.invariant-digits
invariant-digits l =
    shadow (Utf8 l.rest) × ((n : ℕ) × (read_number 0 (chars l.text) ≡ read_number n (chars l.rest)) × (l.number ≡ min n 16777216))

abbrev pub decreases-digits : goal.decreases-digits
decreases-digits l = length (chars l.rest)
