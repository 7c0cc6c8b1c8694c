use Rattle.std.proofs.Common.{◌≡◌}
use Rattle.tcl_frames.specs.Places.{end_of, under, links, next}
use Rattle.tcl_frames.specs.Variables.Part.{whole}
use Rattle.tcl_frames.specs.Parts.{seen_part}
use Rattle.tcl_frames.proofs.WalkLemmas.{hops}
use Rattle.tcl_frames.proofs.steps.reach.Given as goal

abbrev pub invariant-links : goal.invariant-links
invariant-links l = end_of l.frames (record { level = l.level; name = l.name; part = seen_part l.part }) ≡ end_of l.frames (under l.link whole)

abbrev pub decreases-links : goal.decreases-links
decreases-links l = hops (links l.frames) (next l.frames) (record { level = l.level; name = l.name; part = seen_part l.part })
