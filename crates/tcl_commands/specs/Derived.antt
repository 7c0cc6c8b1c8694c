-- What is derived from a value.
use Rattle.std.specs.Prelude.{◌++◌}
use Rattle.std.specs.String.{string_bytes}
use Rattle.tcl_core.specs.Paths.{Text}
use Rattle.tcl_commands.specs.declared.derivation.Derived.{Derived}
use Rattle.tcl_commands.specs.declared.derivation.Derived.TheVariants.{Part, Longer}
use Rattle.tcl_value.specs.Writing.{write}

-- the text that it has
abbrev pub text_of : Derived → Text
text_of (Part part) = write part
text_of (Longer value more) = value ++ string_bytes more
