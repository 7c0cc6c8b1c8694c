use Rattle.tcl_value.proofs.Removed.{put_back}
use Rattle.tcl_value.proofs.entries.Entries.reads_back.Goals as goal

pub returns : goal.returns
returns c = put_back c.self.inside.keys.keys c.self.inside.values.items c.args.self.now c.self.invariant.same c.self.invariant.distinct c.self.view_is
