use Rattle.std.proofs.Common.{sym, ap, ◌∙◌, arith}
use Rattle.std.proofs.lemmas.Fmt.{decimal_digit}
use Rattle.tcl_commands.specs.GrowthKinds.{first_of}
use Rattle.tcl_commands.proofs.growing.first_value.Goals as goal

pub returns-in-Sum : goal.returns-in-Sum
returns-in-Sum c = c.from_int.ensures ∙ decimal_digit 0 (omega arith) ∙ sym (ap first_of c.in-Sum.is)

pub returns-in-Number : goal.returns-in-Number
returns-in-Number c = c.from_int-in-Number.ensures ∙ decimal_digit 0 (omega arith) ∙ sym (ap first_of c.in-Number.is)
