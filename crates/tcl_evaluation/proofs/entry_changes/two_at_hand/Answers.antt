use Rattle.std.proofs.Common.{sym}
use Rattle.tcl_prepared.specs.Views.{seen_word}
use Rattle.tcl_evaluation.proofs.HandCalling.{two_end}
use Rattle.tcl_evaluation.proofs.entry_changes.two_at_hand.Goals as goal

pub returns : goal.returns
returns c = λ p n names there.
    two_end c.args.tree.now.integers n (seen_word c.args.first.now) (seen_word c.args.second.now) c.in_ok-a.in_first c.in_ok-b.in_second c.in_ok-sums.sums c.in_ok-a.a c.in_ok-b.b (sym c.in_ok-sums.ensures) (c.in_ok-a.ensures p n names there) (c.in_ok-b.ensures p n names there)
