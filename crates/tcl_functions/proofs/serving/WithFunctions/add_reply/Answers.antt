use Rattle.std.proofs.Common.{refl}
use Rattle.tcl_functions.specs.Serving.TakesReply.{taken}
use Rattle.tcl_functions.proofs.serving.WithFunctions.add_reply.Goals as goal

pub returns-clause-taken : goal.returns-clause-taken
returns-clause-taken g c =
    let call = c.in-Some.call in
    taken c.pop.new.self.items call (record { caller = call.caller; words = call.words; replies = c.push.new.self }) c.in-Some.ensures.items c.in_ok-push-2.ensures.items
    (record { caller = refl; words = refl; reply = c.args.reply; replies = c.in_ok-push.ensures.items; is = refl }) refl refl (record { host = refl; entries = refl })
