use Rattle.std.proofs.Common.{ap, ◌∙◌, Some}
use Rattle.tcl_host.proofs.NameLemmas.{get-of_view}
use Rattle.tcl_host.proofs.memory.files.Files.get.Goals as goal

pub returns-in_err-bytes : goal.returns-in_err-bytes
returns-in_err-bytes c = let e = c.in_err-bytes.ensures.value ∙ get-of_view c.self.inside.entries _ c.args.name.now c.self.view_is in
    let f = c.from_residual.ensures in cc

pub returns : goal.returns
returns c = ap Some c.as_slice.ensures ∙ c.in_ok-bytes.ensures.value ∙ get-of_view c.self.inside.entries _ c.args.name.now c.self.view_is
