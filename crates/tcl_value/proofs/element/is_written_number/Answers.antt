use Rattle.std.proofs.Common.{◌≡◌, w64, subst}
use Rattle.std.specs.Prelude.{◌↔◌, IsTrue}
use Rattle.std.specs.Fmt.{signed_decimal}
use Rattle.std.proofs.lemmas.Int.{to_z-of_z}
use Rattle.tcl_value.proofs.Written.{write_element-number}
use Rattle.tcl_value.proofs.element.is_written_number.Goals as goal

pub returns : goal.returns
returns c = rw (write_element-number c.args.first c.args.n c.ranges.n) (subst (λ z. IsTrue c.is_int.result ↔ (c.args.text.now ≡ signed_decimal z)) (to_z-of_z w64 c.args.n c.ranges.n) c.is_int.ensures)
