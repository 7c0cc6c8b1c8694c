use Rattle.std.proofs.Common.{◌≡◌, ◌++◌, drop}
use Rattle.tcl_language.specs.Variables.{joined}
use Rattle.tcl_commands.proofs.growing.append_all.Given as goal

abbrev pub invariant-more : goal.invariant-more
invariant-more l = l.fn.value ++ joined l.more ≡ l.value ++ joined (drop l.part-index l.more)
