-- What command a word names.
use Rattle.std.specs.Prelude.{Option, Some, None, Result, Ok, Err}
use Rattle.std.specs.Str.{bytes_eq}
use Rattle.std.specs.Map.{lookup}
use Rattle.tcl_core.specs.Paths.{Text}
use Rattle.tcl_core.specs.Trees.{Node}
use Rattle.tcl_language.specs.Faults.{bad_name, invalid_command, invalid_hidden}
use Rattle.tcl_language.specs.Naming.{command_name}
use Rattle.tcl_tree.specs.Own.{Own, CommandMap}
use Rattle.tcl_interpreter.specs.declared.command.Command.{Command}
use Rattle.tcl_interpreter.specs.declared.command.Command.TheVariants as command
use Rattle.tcl_calls.specs.declared.lookup.Callee.{Callee}
use Rattle.tcl_calls.specs.declared.lookup.Callee.TheVariants as callee

-- the command, or the error that there is none
abbrev pub or_missing : Text → Option Command → Result Command Text
or_missing message None = Err message
or_missing message (Some command) = Ok command

abbrev pub kept_as : Option Text → Text → CommandMap → Result Command Text
kept_as None word commands = Err (bad_name word)
kept_as (Some plain) word commands = or_missing (invalid_command word)
    (lookup (bytes_eq plain) commands)

-- the command that a word names in an interpreter
abbrev pub found : Node Own → Text → Result Command Text
found n word = kept_as (command_name word) word n.own.commands

-- and among its hidden ones
abbrev pub hidden_found : Node Own → Text → Result Command Text
hidden_found n word = or_missing (invalid_hidden word) (lookup (bytes_eq word) n.own.hidden)

-- the command that a call found
abbrev pub callee_command : Callee → Command
callee_command (callee.Builtin builtin) = command.Builtin builtin
callee_command (callee.Other other) = other
