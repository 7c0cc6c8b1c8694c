use Rattle.std.proofs.Common.{◌≡◌, take}
use Rattle.tcl_interpreter.proofs.comparing.same_commands.Given as goal

-- the entries so far are the same
abbrev pub invariant-commands : goal.invariant-commands
invariant-commands l = take l.index l.these.entries ≡ take l.index l.those.entries
