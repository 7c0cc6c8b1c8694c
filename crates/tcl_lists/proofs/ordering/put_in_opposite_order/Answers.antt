use Rattle.tcl_lists.proofs.Reversed.{opposite}
use Rattle.tcl_lists.proofs.ordering.put_in_opposite_order.Goals as goal

pub returns : goal.returns
returns g c = opposite g.T.Ord.cmp c.args.rows.now.items _ _ _ c.reverse.ensures.items c.reverse-2.ensures.items c.in_ok-sort.ensures.permutation c.in_ok-sort.ensures.sorted c.in_ok-sort.ensures.stable
