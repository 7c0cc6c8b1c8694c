-- What there is in a safe interpreter, and what can go on in it.
use Rattle.std.specs.Prelude.{Bool, true, false, not, ◌&&◌, [], ◌∷◌}
use Rattle.tcl_core.specs.Tables.{exposes, sets_limit}
use Rattle.tcl_tree.specs.Own.{Own, CommandMap}
use Rattle.tcl_interpreter.specs.declared.builtin.Builtin.{Builtin}
use Rattle.tcl_interpreter.specs.declared.builtin.Builtin.TheVariants as name
use Rattle.tcl_interpreter.specs.declared.command.Command.{Command}
use Rattle.tcl_interpreter.specs.declared.command.Command.TheVariants as command
use Rattle.tcl_language.specs.Instructions.{Instr}
use Rattle.tcl_language.specs.Instructions.Instr.{Invoke, Hidden, Serve}

-- a command that reaches the host; `exit` doesn't
abbrev pub is_host : Builtin → Bool
is_host name.Open = true
is_host name.Close = true
is_host name.Gets = true
is_host name.Puts = true
is_host name.Read = true
is_host name.Eof = true
is_host name.Flush = true
is_host name.Source = true
is_host _ = false

abbrev pub is_plain : Command → Bool
is_plain (command.Builtin b) = not (is_host b)
is_plain (command.Procedure p) = true
is_plain (command.Alias a) = true
is_plain command.Child = true

abbrev pub are_plain : CommandMap → Bool
are_plain [] = true
are_plain (e ∷ es) = is_plain e.1 && are_plain es

-- none of its commands reaches the host
abbrev pub plain : Own → Bool
plain own = are_plain own.commands

-- what can go on where nobody is asked to expose a command or to invoke a hidden one
abbrev pub is_quiet : Instr → Bool
is_quiet (Invoke is_global words) = false
is_quiet (Hidden is_global words) = false
is_quiet (Serve entry) = not (exposes entry)
is_quiet _ = true

-- what can go on where nobody is asked to set a limit
abbrev pub is_modest : Instr → Bool
is_modest (Serve entry) = not (sets_limit entry)
is_modest _ = true
