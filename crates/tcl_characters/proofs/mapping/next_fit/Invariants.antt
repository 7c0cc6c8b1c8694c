use Rattle.std.proofs.Common.{length}
use Rattle.std.specs.Str.{chars}
use Rattle.tcl_characters.proofs.RunLemmas.{Kept}
use Rattle.tcl_characters.proofs.mapping.next_fit.Given as goal
use denote.Shadow.{shadow}
use denote.Text.{Utf8}

abbrev pub invariant-places : goal.invariant-places
invariant-places l = shadow (Utf8 l.rest) × Kept l.nocase l.mapping l.text l.rest

abbrev pub decreases-places : goal.decreases-places
decreases-places l = length (chars l.rest)
