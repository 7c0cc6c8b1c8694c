use Rattle.std.proofs.Common.{◌∙◌, ap, sym, w64, Ok}
use Rattle.std.proofs.lemmas.Int.{to_z-of_z}
use Rattle.tcl_value.proofs.Laws.{int_of-number}
use Rattle.tcl_value.proofs.value.number_of.Goals as goal

pub returns : goal.returns
returns c = ap (λ z. Ok z) (to_z-of_z w64 c.args.n c.ranges.n) ∙ sym (int_of-number c.args.style c.args.n c.ranges.n)
