-- The names of commands.
use Rattle.std.specs.Prelude.{Bool, false, [], ◌∷◌, not}
use Rattle.tcl_core.specs.Paths.{Text}
use Rattle.tcl_frames.specs.Names.{has_colons}

-- a name that a child can have: it isn't empty, and has no two colons side by side
abbrev pub is_name : Text → Bool
is_name [] = false
is_name (c ∷ cs) = not (has_colons (c ∷ cs))
