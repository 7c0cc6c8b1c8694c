use Rattle.std.proofs.Common.{◌∙◌, ap}
use Rattle.std.specs.Str.{bytes_eq}
use Rattle.tcl_interpreter.specs.Names.{have_plain_names}
use Rattle.tcl_interpreter.proofs.PlainLemmas.{plain_removed}
use Rattle.tcl_interpreter.proofs.node.State.remove.Goals as goal

pub invariant_of-self-clause-plain : goal.invariant_of-self-clause-plain
invariant_of-self-clause-plain c = λ known. ap have_plain_names c.shift_remove.ensures.entries ∙ plain_removed (bytes_eq c.args.name.now) _ (c.args.self.now.plain known)
