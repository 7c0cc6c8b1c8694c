use Rattle.std.proofs.Common.{subst}
use Rattle.tcl_language.specs.Faults.{integer_message}
use Rattle.tcl_run.specs.Ends.{Gave}
use Rattle.tcl_text.specs.declared.integer.Integers.{Integers}
use Rattle.tcl_text.specs.Numbers.{in_64_bits, integer_of}
use Rattle.tcl_commands.proofs.steps.word_integer.Goals as goal

pub returns : goal.returns
returns c =
    let word = c.args.word.now in
    subst (λ (s : Integers). Gave (integer_message word) (in_64_bits (integer_of s word)) c.integer_of.result) c.integers.ensures c.integer_of.ensures
