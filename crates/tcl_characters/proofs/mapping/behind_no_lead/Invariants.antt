use Rattle.std.proofs.Common.{◌≤◌, ◌-◌, length}
use Rattle.tcl_characters.proofs.SkipLemmas.{NoneFits}
use Rattle.tcl_characters.proofs.mapping.behind_no_lead.Given as goal

abbrev pub invariant-bytes : goal.invariant-bytes
invariant-bytes l = (l.at ≤ length l.text) × NoneFits l.mapping l.text l.at

abbrev pub decreases-bytes : goal.decreases-bytes
decreases-bytes l = length l.text - l.at
