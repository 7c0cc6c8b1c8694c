use Rattle.std.proofs.Common.{Err, ◌+◌, drop, reverse, ◌∙◌, ap}
use Rattle.tcl_lists.proofs.Lengths.{past_at}
use Rattle.tcl_lists.proofs.Parts.{reverse_more, take_and_drop}
use Rattle.tcl_lists.proofs.commands.reversed.Goals as goal

pub returns-in-Err : goal.returns-in-Err
returns-in-Err c =
    let l = c.args.list.now in
    let i = c.elements.index in
    let front = reverse_more l c.elements.made i c.len-count.result c.elements.invariant c.len-count.ensures c.elements-test.true in
    c.not_made.ensures _ (λ is. past_at _ (drop (i + 1) (reverse l)) _ (take_and_drop (reverse l) _ (i + 1) front) (c.in-Err.ensures.refused (ap Err is)))

pub elements-preserved : goal.elements-preserved
elements-preserved c =
    let more = reverse_more c.args.list.now c.elements.made c.elements.index c.len-count.result c.elements.invariant c.len-count.ensures c.elements-test.true in
    c.in_default.ensures.pushed ∙ more
