use Rattle.std.proofs.Common.{ap, rules, subst, ◌∙◌}
use Rattle.tcl_serve.proofs.Turning.{turned}
use Rattle.tcl_serve.specs.Clients.Acts.{gone}
use Rattle.tcl_serve.specs.Clients.Idles.{refuses}
use Rattle.tcl_serve.specs.Opened.{IsNext}
use Rattle.tcl_serve.specs.Views.{ClientView}
use Rattle.tcl_serve.specs.Messages.{asks_of}
use Rattle.tcl_serve.proofs.client.Client.turn.Goals as goal

pub returns-then-is_some : goal.returns-then-is_some
returns-then-is_some g c = gone _ (search rules) (search rules) (search rules)

pub returns-in-Ok : goal.returns-in-Ok
returns-in-Ok g c =
    let next = subst (λ t. IsNext t (asks_of c.in_ok-id.message) c.in-Ok.next) (ap (λ (v : ClientView). v.talk) c.self-2.view_is ∙ c.in_ok-id.ensures.talk) c.in-Ok.ensures.next in
    turned c.args.self.now c.hear.new.self c.follow.new.self c.in_ok-id.id (asks_of c.in_ok-id.message) c.in-Ok.next c.follow.result c.in_ok-id.ensures.listens c.in_ok-id.ensures.talk next (search rules)

pub returns-in-Err : goal.returns-in-Err
returns-in-Err g c = refuses c.in_ok-id.id (asks_of c.in_ok-id.message) c.in-Err.refusal c.hear.new.self.lines c.in_ok-id.ensures.listens (search rules) c.reply.ensures.replies (search rules)
