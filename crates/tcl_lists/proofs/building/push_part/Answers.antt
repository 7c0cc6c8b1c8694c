use Rattle.std.proofs.Common.{Err, ◌++◌, take, drop, sym, ap, append_assoc}
use Rattle.tcl_lists.proofs.Lengths.{past_at, past_here}
use Rattle.tcl_lists.proofs.building.push_part.Goals as goal

pub returns-in-Err-clause-refused : goal.returns-in-Err-clause-refused
returns-in-Err-clause-refused c = λ rest.
    let part = drop c.args.first (take c.args.end c.args.list.now) in
    c.not_made.ensures _ (λ is. past_at (c.args.made.now ++ part) rest _ (sym (append_assoc c.args.made.now part rest)) (c.in-Err.ensures.refused (ap Err is)))

pub returns-in-Err-clause-refused_here : goal.returns-in-Err-clause-refused_here
returns-in-Err-clause-refused_here c = c.not_made.ensures _ (λ is. past_here _ (c.in-Err.ensures.refused (ap Err is)))
