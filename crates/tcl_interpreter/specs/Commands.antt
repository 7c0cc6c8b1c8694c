-- What procedures and aliases are.
use Rattle.std.specs.Prelude.{ℕ, ◌+◌, ◌-◌, List, [], length, drop, nat_le}
use Rattle.tcl_core.specs.Paths.{Text, falls, together, unless}
use Rattle.tcl_interpreter.specs.declared.parameter.Parameter.{Parameter}

-- a procedure: its parameters in order, and the text of its body
pub record ProcedureView : Type 0 where
  pub parameters : List Parameter
  pub body : Text

-- an alias: how many levels up and which names down its target is, and the words with which a call
-- begins
pub record AliasView : Type 0 where
  pub up : ℕ
  pub down : List Text
  pub words : List Text

-- the way from one path to another, with no leading names that the two have in common, and these
-- words
abbrev pub way_between : List Text → List Text → List Text → AliasView
way_between from to words = record {
  up = length from - together from to;
  down = drop (together from to) to;
  words = words;
}

-- the way from a path to what is above the root, and these words
abbrev pub way_past : List Text → List Text → AliasView
way_past from words = record { up = length from + 1; down = []; words = words }

-- How many names the way down from the interpreter so many levels above the one at a path has in
-- common with the way from there to it: none where that is above the tree.
abbrev pub detour : List Text → ℕ → List Text → ℕ
detour at up down = unless (nat_le up (length at)) (together (falls up at) down)

-- An alias as the interpreter at a path has it: its way doesn't go up and come down again by the
-- same names.
abbrev pub straight : List Text → AliasView → AliasView
straight at a = record {
  up = a.up - detour at a.up a.down;
  down = drop (detour at a.up a.down) a.down;
  words = a.words;
}
