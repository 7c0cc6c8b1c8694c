use Rattle.std.proofs.Common.{◌≡◌, ◌+◌, drop, length}
use Rattle.tcl_language.specs.Variables.{joined}
use Rattle.tcl_commands.proofs.growing.has_room.Given as goal

-- what is taken of the room is what stands before
abbrev pub invariant-more : goal.invariant-more
invariant-more l = (length l.value + length (joined l.more) + l.room ≡ 16777216 + length (joined (drop l.part-index l.more)))
