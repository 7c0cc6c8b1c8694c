use Rattle.std.specs.Prelude.{codes}
use Rattle.std.proofs.lemmas.Result.{err_from_is_err_and}
use Rattle.tcl_language.specs.Hosting.{flushes}
use Rattle.tcl_calls.proofs.Hosted.{channel_over}
use Rattle.tcl_calls.proofs.host_calls.flush_call.Goals as goal

pub returns-in_err-channel : goal.returns-in_err-channel
returns-in_err-channel c =
    let p = err_from_is_err_and c.from_residual.result c.from_residual.ensures.1 in
    channel_over (codes "flush channel") flushes c.args.args.now c.from_residual.result c.in_err-channel.field-0.0 p.0 p.1 p.2 c.in_err-channel.ensures.refused

pub returns : goal.returns
returns c = c.in_ok-channel.ensures.named (codes "flush channel") flushes
