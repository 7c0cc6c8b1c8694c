use Rattle.std.proofs.Common.{◌≡◌, ◌+◌, ◌++◌, ◌≤◌, reverse}
use Rattle.std.specs.Vec.{vec_len, vec_capacity}
use Rattle.tcl_frames.proofs.frames.split_frames.Given as goal

abbrev pub invariant-frames : goal.invariant-frames
invariant-frames l = (l.frames.items ++ reverse l.rest.items ≡ l.fn.frames.items) × (vec_capacity l.frames ≡ vec_capacity l.fn.frames) × (l.count ≤ vec_capacity l.rest) × (vec_len l.rest + vec_len l.frames ≡ l.at + l.count) × (l.at ≤ vec_len l.frames)

abbrev pub decreases-frames : goal.decreases-frames
decreases-frames l = vec_len l.frames
