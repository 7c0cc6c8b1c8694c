use Rattle.std.proofs.Common.{◌≡◌, refl, sym, ap, ◌∙◌}
use Rattle.std.specs.Prelude.{is_ok}
use Rattle.tcl_core.specs.Paths.{rise_to}
use Rattle.tcl_core.specs.Execution.{event}
use Rattle.tcl_core.specs.Trees.What.{Out}
use Rattle.tcl_run.specs.Entering.{whole_entry}
use Rattle.tcl_player.specs.Players.{player_of}
use Rattle.tcl_player.proofs.Lists.{same_last, same_out, told_more}
use Rattle.tcl_player.proofs.Played.{outer, told_on}
use Rattle.tcl_player.proofs.player.Player.call_goes.Goals as goal

pub invariant_of-self : goal.invariant_of-self
invariant_of-self c = record { last = same_last (is_ok c.push.result) c.push.new.self.items c.args.self.now.outs.items _ c.args.self.now.exited c.push.ensures.items c.args.self.now.last (λ y. refl) }

pub returns-clause-told : goal.returns-clause-told
returns-clause-told c = λ p at up.
    let down : c.in_ok-from_clones.field-0.items ≡ c.args.down.now = c.in_ok-from_clones.ensures.items_if_clones_equal (λ x y h. h) in
    let entry : whole_entry c.in_ok-copy.field-0 ≡ whole_entry c.args.entry.now = c.in_ok-copy.ensures in
    let told = told_more c.push.new.self.items c.args.self.now.outs.items _ (event p (Out c.args.up c.args.down.now (whole_entry c.args.entry.now))) c.in_ok-push.ensures.items
    (same_out c.args.up _ p _ c.args.down.now _ (whole_entry c.args.entry.now) (c.in_ok-path_of.ensures.named p at) down entry) in
    let o = player_of c.args.self.now in
    outer (rise_to c.args.up p) o _ _ up (told_on c.args.self.now.fate o _ _ (sym c.is_some.ensures ∙ c.if-is_some.false) (ap (λ outs. record { left = o.left; steps = o.steps; outs = outs; fate = o.fate }) told))
