use Rattle.std.proofs.Common.{◌≡◌, slice_get, rules}
use Rattle.tcl_frames.proofs.SameLemmas.{same_more}
use Rattle.tcl_frames.proofs.comparing.NameMapSame.same.Goals as goal

pub entries-preserved : goal.entries-preserved
entries-preserved g c =
    let same : slice_get c.args.self.now c.entries.index ≡ slice_get c.args.other.now c.entries.index = search (rules, c.same_entry.ensures, c.if-not-same_entry.false) in
    same_more c.args.self.now c.args.other.now c.entries.index c.entries.invariant same
