use Rattle.std.proofs.Common.{◌≡◌, List, ℕ, ap, subst}
use Rattle.tcl_lists.specs.Lists.{list_value}
use Rattle.tcl_lists.specs.Sorting.{is_before, text_order, IsOrdered, kept, same_text, IsSortedList}
use Rattle.tcl_lists.proofs.Given.{some_given}
use Rattle.tcl_lists.proofs.ordering.sorted_texts.Goals as goal

pub returns : goal.returns
returns c =
    let m = c.put_in_order.new.rows.items in
    let ordered : IsOrdered {X = List ℕ} (is_before text_order c.args.decreasing) c.args.list.now m =
    subst (λ (o : List (List ℕ)). IsOrdered {X = List ℕ} (is_before text_order c.args.decreasing) o m) c.in_ok-rows.ensures c.in_ok-put_in_order.ensures in
    let same : list_value (kept same_text c.args.unique c.deref.result.now) ≡ list_value (kept same_text c.args.unique m) = ap (λ (t : List (List ℕ)). list_value (kept same_text c.args.unique t)) c.deref.ensures.value in
    some_given c.rows_value.result (list_value (kept same_text c.args.unique c.deref.result.now)) (IsSortedList c.args.list.now c.args.decreasing c.args.unique) c.rows_value.ensures (m, ordered, same)
