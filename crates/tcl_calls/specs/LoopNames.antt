-- The names of the variables of a loop, as they are kept.
use Rattle.std.specs.Prelude.{ℕ, List, [], ◌∷◌}
use Rattle.tcl_calls.specs.declared.walks.NameList.{NameList}
use Rattle.tcl_calls.specs.declared.walks.NameList.TheVariants.{One, Several}

abbrev pub names_in : NameList → List (List ℕ)
names_in (One name) = name ∷ []
names_in (Several names) = names.items
