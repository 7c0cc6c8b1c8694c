-- What is told of calls that go on.
use Rattle.std.specs.Prelude.{ℕ, zero, suc, List, Option, Some, None}
use Rattle.tcl_core.specs.Paths.{Text}
use Rattle.tcl_frames.specs.Chain.{words_at}
use Rattle.tcl_frames.specs.Places.{Levels}

-- the words of the call at a level, if there is one; level 0 has none
abbrev pub words_numbered : Option ℕ → Levels → Option (List Text)
words_numbered None frames = None
words_numbered (Some zero) frames = None
words_numbered (Some (suc level)) frames = words_at frames (suc level)
