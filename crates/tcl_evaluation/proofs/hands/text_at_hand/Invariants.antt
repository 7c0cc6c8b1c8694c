use Rattle.std.proofs.Common.{◌≤◌, length, map, take}
use Rattle.std.specs.String.{string_bytes}
use Rattle.tcl_prepared.specs.Views.{seen_part}
use Rattle.tcl_evaluation.specs.Hands.{PartsStand}
use Rattle.tcl_evaluation.proofs.hands.text_at_hand.Given as goal

abbrev pub invariant-parts : goal.invariant-parts
invariant-parts l = PartsStand l.frames.frames (map seen_part (take l.part-index l.parts)) (string_bytes l.text) × (length (string_bytes l.text) ≤ l.most)
