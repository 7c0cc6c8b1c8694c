use Rattle.std.proofs.Common.{◌≡◌, ◌++◌, ◌∷◌, false, take, string_bytes, flat_map}
use Rattle.tcl_text.specs.Writing.{written}
use Rattle.tcl_text.proofs.list_writing.write_list.Given as goal

abbrev pub invariant-elements : goal.invariant-elements
invariant-elements l = string_bytes l.out ≡ string_bytes l.initial.out ++ flat_map (λ y. 32 ∷ written false y) (take l.element-index l.others)
