-- Commands that change the variable that their first word names.
use Rattle.std.specs.Prelude.{List, [], ◌∷◌}
use Rattle.tcl_core.specs.Paths.{Text}
use Rattle.tcl_interpreter.specs.declared.builtin.Builtin.{Builtin}
use Rattle.tcl_interpreter.specs.declared.builtin.Builtin.TheVariants as name
use Rattle.tcl_commands.specs.declared.named.VariableChange.{VariableChange}
use Rattle.tcl_commands.specs.declared.named.VariableChange.TheVariants.{Set, Derived, Raise, Incr}
use Rattle.tcl_commands.specs.declared.named.VariableChange.TheVariants.{Append, Lappend}
use Rattle.tcl_commands.specs.Derived.{text_of}
use Rattle.tcl_commands.specs.Sums.{added_words}

-- the command that makes the change
abbrev pub builtin_of : VariableChange → Builtin
builtin_of (Set value) = name.Set
builtin_of (Derived derived) = name.Set
builtin_of (Raise by) = name.Incr
builtin_of (Incr by) = name.Incr
builtin_of (Append value) = name.Append
builtin_of (Lappend value) = name.Lappend

-- its words behind the variable's name
abbrev pub words_of : VariableChange → List Text
words_of (Set value) = value ∷ []
words_of (Derived derived) = text_of derived ∷ []
words_of (Raise by) = added_words by
words_of (Incr by) = by ∷ []
words_of (Append value) = value ∷ []
words_of (Lappend value) = value ∷ []
