use Rattle.std.proofs.Common.{◌≡◌, ◌++◌, length}
use Rattle.std.specs.String.{string_bytes}
use Rattle.tcl_player.specs.Lines.{one_line}
use denote.Shadow.{shadow}
use denote.Text.{Utf8}
use Rattle.tcl_player.proofs.lines.one_line.Given as goal

abbrev pub invariant-newlines : goal.invariant-newlines
invariant-newlines l = record { utf8 : shadow (Utf8 l.rest); so_far : string_bytes l.made ++ one_line l.rest ≡ one_line l.text }

abbrev pub decreases-newlines : goal.decreases-newlines
decreases-newlines l = length l.rest
