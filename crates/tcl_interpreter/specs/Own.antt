-- The own part of an interpreter.
use Rattle.std.specs.Prelude.{List, Bool, true, false, [], ◌∷◌, ◌++◌, map, Option}
use Rattle.std.specs.Str.{bytes_eq}
use Rattle.std.specs.Map.{lookup, remove_entry}
use Rattle.indexmap.specs.IndexSet.{remove_key}
use Rattle.tcl_core.specs.Paths.{Text}
use Rattle.tcl_frames.specs.Chain as frames
use Rattle.tcl_frames.specs.Chain.{Chain}
use Rattle.tcl_interpreter.specs.declared.builtin.Builtin as builtin
use Rattle.tcl_interpreter.specs.declared.command.Command.{Command}
use Rattle.tcl_interpreter.specs.declared.command.Command.TheVariants as command
use Rattle.tcl_interpreter.specs.Builtins.{named, language, host}

-- what names stand for, in the order in which they were given
abbrev pub CommandMap : Type 0
CommandMap = List (Text × Command)

-- Its chain of frames, with the parts that are set aside; its commands and its hidden commands; and
-- the names of its children.
pub record Own : Type 0 where
  pub chain : Chain
  pub commands : CommandMap
  pub hidden : CommandMap
  pub children : List Text

-- a built-in command under its name
abbrev pub entry_of : builtin.Builtin → Text × Command
entry_of b = (named b, command.Builtin b)

-- the commands of a new interpreter: in a safe one those that reach the host are hidden
abbrev pub commands_of : Bool → CommandMap
commands_of true = map entry_of language
commands_of false = map entry_of (language ++ host)

abbrev pub hidden_of : Bool → CommandMap
hidden_of true = map entry_of host
hidden_of false = []

-- a new interpreter's own part
abbrev pub new_own : Bool → Own
new_own safe = record {
  chain = frames.fresh;
  commands = commands_of safe;
  hidden = hidden_of safe;
  children = [];
}

-- with a child of this name, which is a command; and without it
abbrev pub with_new_child : Text → Own → Own
with_new_child n own = record own
    { commands = own.commands ++ (n, command.Child) ∷ []; children = own.children ++ n ∷ [] }

abbrev pub without_old_child : Text → Own → Own
without_old_child n own = record own {
  commands = remove_entry (bytes_eq n) own.commands;
  children = remove_key (bytes_eq n)
      own.children;
}

-- what a name stands for
abbrev pub command_in : Own → Text → Option Command
command_in own n = lookup (bytes_eq n) own.commands

abbrev pub hidden_in : Own → Text → Option Command
hidden_in own n = lookup (bytes_eq n) own.hidden
