use Rattle.std.proofs.Common.{◌≡◌, ◌++◌, take}
use Rattle.std.specs.String.{string_bytes}
use Rattle.tcl_value.specs.Writing.{write}
use Rattle.tcl_value.specs.Texts.{texts, flat, pairs}
use Rattle.tcl_value.proofs.+write.Given as goal

abbrev pub invariant-entries::Entries::write_to-entries :
    goal.invariant-entries::Entries::write_to-entries
invariant-entries::Entries::write_to-entries l = string_bytes l.out ≡ string_bytes l.fn.out ++ write (flat (take l.index (pairs l.self-inside.keys.keys (texts l.value-items))))

abbrev pub invariant-items::Items::write_to-elements :
    goal.invariant-items::Items::write_to-elements
invariant-items::Items::write_to-elements l = string_bytes l.out ≡ string_bytes l.fn.out ++ write (take l.index (texts l.element-items))
