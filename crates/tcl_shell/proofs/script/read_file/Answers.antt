use Rattle.std.proofs.Common.{Err, subst, sym}
use Rattle.tcl_shell.specs.Reading.{ReadsFile}
use Rattle.tcl_shell.specs.declared.ending.Ending.{Ending}
use Rattle.tcl_shell.proofs.ReadingLemmas.{refused_to_close}
use Rattle.tcl_shell.proofs.script.read_file.Goals as goal

pub returns : goal.returns
returns g c =
    let step = g.H.Host.step in
    let closed = refused_to_close step c.args.file.now c.args.host.now c.open.new.self c.read_all.new.self c.close.new.self c.in-Ok.channel c.as_str.result.now c.as_str-2.result.now c.read_all.result c.in-Err-close.error
    c.as_str.ensures c.as_str-2.ensures c.in-Ok.ensures c.read_all.ensures c.in-Err-close.ensures in
    subst (λ (e : Ending). ReadsFile step c.args.file.now c.args.host.now (Err e) c.close.new.self) (sym c.unread-in-Err-close.ensures) closed
