use Rattle.std.proofs.Common.{◌≡◌, ◌++◌, ◌-◌}
use Rattle.tcl_lists.specs.Lists.{copies}
use Rattle.tcl_lists.proofs.lengthening.copies_value.Given as goal

abbrev pub invariant-copies : goal.invariant-copies
invariant-copies l = l.made ++ copies (l.count - l.counter) l.words ≡ copies l.count l.words
