use Rattle.std.proofs.Common.{◌≡◌, List, sym, subst}
use Rattle.std.specs.Prelude.{IfOk, Result}
use Rattle.tcl_core.specs.Paths.{Text}
use Rattle.tcl_language.specs.Trying.{begins_read}
use Rattle.tcl_text.specs.declared.list.ListFault.{ListFault}
use Rattle.tcl_calls.proofs.trying.begins_read.Goals as goal

pub returns-in-Ok : goal.returns-in-Ok
returns-in-Ok c =
    subst (λ (r : Result (List Text) ListFault). IfOk c.begins.result (λ found. found ≡ begins_read c.args.pattern.now r)) (sym c.in-Ok.ensures.read) c.begins.ensures
