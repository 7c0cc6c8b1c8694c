use Rattle.std.proofs.Common.{◌∙◌, ap}
use Rattle.std.specs.Map.{remove_entry}
use Rattle.std.specs.Str.{bytes_eq}
use Rattle.tcl_frames.specs.Entries.{named}
use Rattle.tcl_frames.proofs.EntryLemmas.{remove-named}
use Rattle.tcl_frames.proofs.many_names.ManyNames.remove.Goals as goal

pub returns : goal.returns
returns g c = ap named c.shift_remove.ensures.entries ∙ remove-named c.args.name.now c.self.inside.entries.entries ∙ ap (remove_entry (bytes_eq c.args.name.now)) c.self.view_is
