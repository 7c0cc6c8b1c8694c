use Rattle.std.proofs.Common.{◌≡◌, ◌++◌, w64, subst}
use Rattle.std.specs.Prelude.{OnOk}
use Rattle.std.specs.String.{string_bytes}
use Rattle.std.specs.Fmt.{signed_decimal}
use Rattle.std.proofs.lemmas.Int.{to_z-of_z}
use Rattle.tcl_value.proofs.Written.{write_element-number}
use Rattle.tcl_value.proofs.element.write_number_to.Goals as goal

pub returns-clause-written : goal.returns-clause-written
returns-clause-written c = rw (write_element-number c.args.first c.args.n c.ranges.n) (subst (λ z. OnOk c.push_int.result (string_bytes c.push_int.new.text ≡ string_bytes c.args.out.now ++ signed_decimal z)) (to_z-of_z w64 c.args.n c.ranges.n) c.push_int.ensures.pushed)
