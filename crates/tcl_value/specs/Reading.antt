-- What texts read as.
use Rattle.std.specs.Prelude.{◌≡◌, ℕ, ℤ, List, None, Result}
use Rattle.tcl_text.specs.declared.integer.Integers.{Integers}
use Rattle.tcl_text.specs.declared.integer.IntegerFault.{IntegerFault}
use Rattle.tcl_text.specs.Numbers.{integer_of, in_64_bits}
pub use Rattle.tcl_text.specs.Lists.{list_of}

-- the integer of 64 bits of a text, or why there is none
abbrev pub int_of : Integers → List ℕ → Result ℤ IntegerFault
int_of style text = in_64_bits (integer_of style text)

-- a text that is no integer text
abbrev pub IsNoInteger : List ℕ → Type 0
IsNoInteger text = (style : Integers) → integer_of style text ≡ None
