-- Moves as they are kept, in the words of the core.
use Rattle.std.specs.Prelude.{List, [], ◌∷◌, map, Option, Some, None}
use Rattle.tcl_core.specs.Trees as core
use Rattle.tcl_core.specs.Trees.Move.{Enter, Come}
use Rattle.tcl_run.specs.Entering.{whole_entry}
use Rattle.tcl_tree.specs.Own.{Own}
use Rattle.tcl_recorder.specs.Crossings.{answer_of}
use Rattle.tcl_player.specs.declared.moves.Move.{Move}
use Rattle.tcl_player.specs.declared.moves.Move.TheVariants as moving

abbrev pub move_of : Move → core.Move Own
move_of (moving.Enter target entry) = Enter target.items (whole_entry entry)
move_of (moving.Come a) = Come (answer_of a)

abbrev pub moves_in : List Move → List (core.Move Own)
moves_in xs = map move_of xs

-- none or one, as a list
abbrev pub listed : Option Move → List (core.Move Own)
listed None = []
listed (Some m) = move_of m ∷ []
