use Rattle.std.proofs.Common.{◌∙◌, sym, ap, length}
use Rattle.tcl_frames.proofs.EntryLemmas.{length-named}
use Rattle.tcl_frames.proofs.many_names.ManyNames.len.Goals as goal

pub returns : goal.returns
returns g c = c.len.ensures.len ∙ sym (length-named c.self.inside.entries.entries) ∙ ap length c.self.view_is
