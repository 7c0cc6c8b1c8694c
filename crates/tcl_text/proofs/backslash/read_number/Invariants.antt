use Rattle.std.proofs.Common.{◌-◌, ◌≡◌, ◌≤◌, take, IsCharBoundary}
use Rattle.std.specs.List.{prefix_len}
use Rattle.std.specs.Char.{is_digit}
use Rattle.std.specs.Str.Parse.{digits_value}
use Rattle.tcl_text.proofs.backslash.read_number.Given as goal

abbrev pub invariant-digits : goal.invariant-digits
invariant-digits l = record {
  within : l.count ≤ l.width;
  digits : l.count ≤ prefix_len (λ b. is_digit b l.base) l.text;
  value : l.value ≡ digits_value l.base (take l.count l.text);
  small : l.value ≤ l.greatest;
  seam : IsCharBoundary l.text l.count;
}

abbrev pub decreases-digits : goal.decreases-digits
decreases-digits l = l.width - l.count
