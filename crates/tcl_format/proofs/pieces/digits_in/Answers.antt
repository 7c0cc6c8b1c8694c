use Rattle.std.proofs.Common.{◌∙◌, ap, sym, true, false}
use Rattle.std.specs.Fmt.{digits}
use Rattle.arrayvec.specs.declared.array_string.ArrayString.{ArrayString}
use Rattle.tcl_format.specs.Pieces.{digits_in}
use Rattle.tcl_format.proofs.Layouts.{written}
use Rattle.tcl_format.proofs.pieces.digits_in.Goals as goal
use Rattle.tcl_format.proofs.pieces.digits_in.Goals.{in-Binary+in_ok-write-in-Binary, in-Octal+in_ok-write-in-Octal, in-Hexadecimal+in_ok-write-in-Hexadecimal, in-UpperHexadecimal+in_ok-write-in-UpperHexadecimal}

pub returns : goal.returns
returns c = elim c.match-radix.branch [
  | in-Binary+in_ok-write-in-Binary w ↦
      ap (λ (s : ArrayString 64). s.bytes) w.made-is
      ∙ written _ (λ (s : ArrayString 64). s.bytes) (λ _ _ _ t. t) _ _ _ (digits 2 false c.args.number) c.new-made.ensures w.in_radix.ensures w.in_ok-write-in-Binary.ensures.writes
      ∙ ap (λ r. digits_in r c.args.number) (sym w.in-Binary.is)
  | in-Octal+in_ok-write-in-Octal w ↦
      ap (λ (s : ArrayString 64). s.bytes) w.made-is
      ∙ written _ (λ (s : ArrayString 64). s.bytes) (λ _ _ _ t. t) _ _ _ (digits 8 false c.args.number) c.new-made.ensures w.in_radix-in-Octal.ensures w.in_ok-write-in-Octal.ensures.writes
      ∙ ap (λ r. digits_in r c.args.number) (sym w.in-Octal.is)
  | in-Hexadecimal+in_ok-write-in-Hexadecimal w ↦
      ap (λ (s : ArrayString 64). s.bytes) w.made-is
      ∙ written _ (λ (s : ArrayString 64). s.bytes) (λ _ _ _ t. t) _ _ _ (digits 16 false c.args.number) c.new-made.ensures w.in_radix-in-Hexadecimal.ensures w.in_ok-write-in-Hexadecimal.ensures.writes
      ∙ ap (λ r. digits_in r c.args.number) (sym w.in-Hexadecimal.is)
  | in-UpperHexadecimal+in_ok-write-in-UpperHexadecimal w ↦
      ap (λ (s : ArrayString 64). s.bytes) w.made-is
      ∙ written _ (λ (s : ArrayString 64). s.bytes) (λ _ _ _ t. t) _ _ _ (digits 16 true c.args.number) c.new-made.ensures w.in_radix-in-UpperHexadecimal.ensures w.in_ok-write-in-UpperHexadecimal.ensures.writes
      ∙ ap (λ r. digits_in r c.args.number) (sym w.in-UpperHexadecimal.is)
]
