use Rattle.std.proofs.Common.{refl}
use Rattle.tcl_recorder.specs.Crossings.{reply_of}
use Rattle.tcl_player.proofs.Lists.{new_last}
use Rattle.tcl_player.proofs.Played.{ends_by}
use Rattle.tcl_player.proofs.player.Player.entry_ends.Goals as goal

pub invariant_of-self-2 : goal.invariant_of-self-2
invariant_of-self-2 c = record {
  last = new_last c.push.new.self.items c.args.self.now.outs.items _ (reply_of c.in_ok-reply.reply) c.exit_of-exited.result c.in_ok-push.ensures.items (λ y. refl) (ends_by (reply_of c.in_ok-reply.reply) c.exit_of-exited.result c.exit_of-exited.ensures);
}
