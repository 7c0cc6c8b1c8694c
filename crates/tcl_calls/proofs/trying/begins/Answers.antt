use Rattle.std.proofs.Common.{◌≡◌, rules, true, false, drop, sym, ◌∙◌, arith}
use Rattle.std.specs.Str.{bytes_eq}
use Rattle.tcl_text.proofs.Items.{none_on}
use Rattle.tcl_calls.proofs.Handling.{begins_more, begins_none, begins_on}
use Rattle.tcl_calls.proofs.trying.begins.Goals as goal

pub returns-then-len : goal.returns-then-len
returns-then-len c = sym (begins_more c.args.pattern.now c.args.list.now (omega arith))

pub returns-then-not-same : goal.returns-then-not-same
returns-then-not-same c =
    let other : bytes_eq c.in_ok-wanted.wanted c.in_ok-found.found ≡ false = search rules in
    sym (c.elements.invariant ∙ begins_on c.args.pattern.now c.args.list.now c.elements.index c.in_ok-wanted.wanted c.in_ok-found.found false (omega arith) (omega arith) c.in_ok-wanted.ensures c.in_ok-found.ensures other)

pub elements-preserved : goal.elements-preserved
elements-preserved c =
    let same : bytes_eq c.in_ok-wanted.wanted c.in_ok-found.found ≡ true = search rules in
    c.elements.invariant ∙ begins_on c.args.pattern.now c.args.list.now c.elements.index c.in_ok-wanted.wanted c.in_ok-found.found true (omega arith) (omega arith) c.in_ok-wanted.ensures c.in_ok-found.ensures same

pub returns : goal.returns
returns c = sym (c.elements.invariant ∙ begins_none (drop c.elements.index c.args.pattern.now) (drop c.elements.index c.args.list.now) (none_on c.args.pattern.now c.elements.index (omega arith)))
