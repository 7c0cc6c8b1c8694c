-- Entries as they are handed in.
use Rattle.tcl_core.specs.Entries.{Entry}
use Rattle.tcl_core.specs.Entries.Entry.{SetAlias}
use Rattle.tcl_core.specs.Paths.{Path, Text}
use Rattle.tcl_interpreter.specs.Commands.{AliasView, straight}

-- a name becomes this alias
abbrev pub sets : Text → AliasView → Entry
sets name way = SetAlias name way.up way.down way.words

-- What a function asks of the interpreter at t, as it is handed in: an alias that it sets has the
-- shortest way.
abbrev pub handed : Path → Entry → Entry
handed t (SetAlias name up down words) = sets name (straight t (record {
  up = up;
  down = down;
  words = words;
}))
handed t i = i
