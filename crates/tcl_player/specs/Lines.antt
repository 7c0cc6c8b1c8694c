-- Lines of text for records and replays.
use Rattle.std.specs.Prelude.{ℕ, ◌==◌, if◌then◌else◌, List, [], ◌∷◌, ◌++◌, codes}
use Rattle.std.specs.Fmt.{signed_decimal}
use Rattle.std.specs.List.{flat_map}
use Rattle.tcl_core.specs.Paths.{Text}
use Rattle.tcl_core.specs.Trees.{Event}
use Rattle.tcl_player.specs.declared.player.Outcome.{Outcome}
use Rattle.tcl_player.specs.declared.player.Outcome.TheVariants as outcome
use Rattle.tcl_player.specs.Words.{crossing_words}
use Rattle.tcl_recorder.specs.Crossings.{event_of, events_of}
use Rattle.tcl_recorder.specs.declared.crossing.Crossing.{Crossing}
use Rattle.tcl_text.specs.Writing.{written_list}
use Rattle.tcl_tree.specs.Own.{Own}

-- in place of each newline stand a backslash and an n
abbrev pub line_byte : ℕ → Text
line_byte b = if b == 10 then 92 ∷ 110 ∷ [] else b ∷ []

abbrev pub one_line : Text → Text
one_line text = flat_map line_byte text

-- what happens at an interpreter, as a list
abbrev pub event_line : Event Own → Text
event_line ev = one_line (written_list (crossing_words ev.place ev.what))

-- a crossing
abbrev pub line : Crossing → Text
line crossing = event_line (event_of crossing)

-- each of them, and a newline behind it
abbrev pub event_lines : List (Event Own) → Text
event_lines [] = []
event_lines (ev ∷ evs) = event_line ev ++ 10 ∷ event_lines evs

abbrev pub lines : List Crossing → Text
lines crossings = event_lines (events_of crossings)

-- what came of moves that were played
abbrev pub outcome_text : Outcome → Text
outcome_text outcome.Finished = codes "finished"
outcome_text outcome.Waiting = codes "waiting"
outcome_text outcome.Ended = codes "ended"
outcome_text (outcome.Exited n) = codes "exited " ++ signed_decimal n
outcome_text outcome.Spent = codes "spent"
outcome_text outcome.Misfit = codes "misfit"

-- what an interpreter told in a replay, and what came of the moves
abbrev pub replay_lines : List Crossing → Outcome → Text
replay_lines outwards o = lines outwards ++ outcome_text o ++ 10 ∷ []
