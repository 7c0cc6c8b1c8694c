use Rattle.std.proofs.Common.{◌++◌, take, sym, ◌∙◌, ap, take-append-drop}
use Rattle.tcl_characters.proofs.starts.skip_characters.Goals as goal

pub returns-clause-cut : goal.returns-clause-cut
returns-clause-cut c =
    let front = take c.start_behind-start.result c.args.text.now in
    let whole = sym (take-append-drop c.start_behind-start.result c.args.text.now) ∙ ap (λ rest. front ++ rest) (sym c.range_from.ensures.value) in
    (front, whole, c.start_behind-start.ensures.front)
