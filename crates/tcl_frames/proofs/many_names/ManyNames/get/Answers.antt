use Rattle.std.proofs.Common.{◌∙◌, sym, ap}
use Rattle.std.specs.Map.{lookup}
use Rattle.std.specs.Str.{bytes_eq}
use Rattle.tcl_frames.proofs.EntryLemmas.{lookup-named}
use Rattle.tcl_frames.proofs.many_names.ManyNames.get.Goals as goal

pub returns : goal.returns
returns g c = c.get.ensures.value ∙ sym (lookup-named c.args.name.now c.self.inside.entries.entries) ∙ ap (lookup (bytes_eq c.args.name.now)) c.self.view_is
