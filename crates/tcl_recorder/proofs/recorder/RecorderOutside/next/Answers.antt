use Rattle.std.proofs.Common.{refl, ◌∙◌}
use Rattle.tcl_run.specs.Entering.{whole_entry}
use Rattle.tcl_run.proofs.Steady.{holds_stood}
use Rattle.tcl_tree.specs.TreeOf.{tree_of}
use Rattle.tcl_recorder.proofs.Recorders.{comes, lost_entry, noted_so, silent_next}
use Rattle.tcl_run.proofs.Losing.{lost_where}
use Rattle.tcl_recorder.proofs.recorder.RecorderOutside.next.Goals as goal

pub returns-clause-comes : goal.returns-clause-comes
returns-clause-comes g c = λ p d at up.
    comes g.O.Outside.goes g.O.Outside.hands_in (tree_of c.args.tree.now) c.args.self.now (record { outside = c.next-turn.new.self; kept = c.turn_comes-noted.new.self; deleted = c.args.self.now.deleted; incomplete = c.is_err-self.result }) c.as_slice.result.now p c.is_gone-gone.result d c.args.up (whole_entry c.args.entry.now) c.next-turn.result
    (c.as_slice.ensures.value ∙ c.in_ok-path.ensures.stood p (holds_stood c.args.tree.now c.args.caller p d at)) (c.is_gone-gone.ensures p d at) c.if-self.false c.in_ok-goes_on.ensures (noted_so c.turn_comes-noted.result c.is_err-self.result c.is_err-self.ensures.value c.turn_comes-noted.ensures) refl (c.next-turn.ensures.comes p d at up)

pub returns-clause-lost : goal.returns-clause-lost
returns-clause-lost g c = lost_where g.O.Outside.loses c.next-turn.result c.args.self.now.outside c.next-turn.new.self c.next-turn.ensures.lost

pub returns-clause-handed : goal.returns-clause-handed
returns-clause-handed g c = lost_entry g.O.Outside.loses c.next-turn.result c.args.self.now.outside c.next-turn.new.self c.next-turn.ensures.handed

-- once it was dropped
pub returns-then-self-clause-comes : goal.returns-then-self-clause-comes
returns-then-self-clause-comes g c = λ p d at up. silent_next g.O.Outside.goes g.O.Outside.hands_in (tree_of c.args.tree.now) c.args.self.now p d c.args.up (whole_entry c.args.entry.now) c.next.new.self c.next.result c.if-self.true (c.next.ensures.comes p d at up)

pub returns-then-self-clause-lost : goal.returns-then-self-clause-lost
returns-then-self-clause-lost g c = lost_where g.O.Outside.loses c.next.result c.args.self.now.outside c.next.new.self c.next.ensures.lost

pub returns-then-self-clause-handed : goal.returns-then-self-clause-handed
returns-then-self-clause-handed g c = lost_entry g.O.Outside.loses c.next.result c.args.self.now.outside c.next.new.self c.next.ensures.handed
