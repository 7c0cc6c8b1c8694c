use Rattle.std.proofs.Common.{Bool, sym, subst}
use Rattle.std.specs.Prelude.{OnOk}
use Rattle.tcl_lists.specs.Sorting.{is_before, IsOrdered}
use Rattle.tcl_lists.proofs.ordering.put_in_order.Goals as goal

pub returns-then-decreasing : goal.returns-then-decreasing
returns-then-decreasing g c = subst (λ (d : Bool). OnOk c.put_in_opposite_order.result (IsOrdered (is_before g.T.Ord.cmp d) c.args.rows.now.items c.put_in_opposite_order.new.rows.items)) (sym c.if-decreasing.true) c.put_in_opposite_order.ensures

pub returns : goal.returns
returns g c = subst (λ (d : Bool). IsOrdered (is_before g.T.Ord.cmp d) c.args.rows.now.items c.sort.new.self.items) (sym c.if-decreasing.false)
    (record { permutation = c.in_ok-sort.ensures.permutation; ordered = c.in_ok-sort.ensures.sorted; stable = c.in_ok-sort.ensures.stable })
