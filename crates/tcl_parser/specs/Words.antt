-- What a script, a command and a word are, as they are read from a text.
use Rattle.std.specs.Prelude.{Bool, List, Option}
use Rattle.tcl_parser.specs.declared.fault.Fault.{Fault}
use Rattle.tcl_parser.specs.declared.script.Part.{Part}

-- a word: its parts, and whether `{*}` stands before it
pub record WordRead : Type 0 where
  pub parts : List Part
  pub expand : Bool

-- a script: its commands, each the list of its words, and the fault that comes after them
pub record Reading : Type 0 where
  pub commands : List (List WordRead)
  pub fault : Option Fault
