use Rattle.std.proofs.Common.{◌∙◌, ap, ◌≤◌, length, arith, w64, ◌++◌}
use Rattle.std.specs.String.{string_bytes}
use Rattle.std.specs.Fmt.{signed_decimal}
use Rattle.std.proofs.lemmas.Int.{to_z-of_z}
use Rattle.tcl_flow.proofs.Lengths.{with_number}
use Rattle.tcl_flow.proofs.messages.bad_code.Goals as goal

pub short_value-requires : goal.short_value-requires
short_value-requires c =
    let number = to_z-of_z w64 c.args.code c.ranges.code in
    let front : length (string_bytes c.in_ok-text.text) ≤ 50 = rw c.in_ok-text.ensures.ok (omega arith) in
    with_number (string_bytes c.in_ok-text.text) (string_bytes c.write.new.self) c.args.code c.ranges.code front (c.in_ok-write.ensures.bytes ∙ ap (λ (n : _). string_bytes c.in_ok-text.text ++ signed_decimal n) number)
