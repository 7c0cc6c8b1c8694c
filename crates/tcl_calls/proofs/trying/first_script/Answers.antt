use Rattle.std.proofs.Common.{◌≡◌, ◌+◌, rules, true, false, List, drop, sym, ap, ◌∙◌}
use Rattle.std.specs.Prelude.{codes}
use Rattle.std.specs.Str.{bytes_eq}
use Rattle.tcl_language.specs.Trying.{first_script}
use Rattle.tcl_text.proofs.Items.{item_on, none_on}
use Rattle.tcl_calls.specs.Trying.{handler_of, handlers_of}
use Rattle.tcl_calls.specs.declared.trying.Handler as read
use Rattle.tcl_calls.proofs.Handling.{script_on}
use Rattle.tcl_calls.proofs.trying.first_script.Goals as goal

pub returns-then-not-is_text : goal.returns-then-not-is_text
returns-then-not-is_text c =
    let item = item_on c.args.handlers.now c.handlers.handler-index c.handler-item.result c.handlers-test.true c.handler-item.is in
    let other : bytes_eq c.handler-item.result.script.now (codes "-") ≡ false = search rules in
    sym (c.handlers.invariant ∙ ap (λ (hs : List read.Handler). first_script (handlers_of hs)) item
    ∙ script_on (handler_of c.handler-item.result) (handlers_of (drop (c.handlers.handler-index + 1) c.args.handlers.now)) false other)

pub handlers-preserved : goal.handlers-preserved
handlers-preserved c =
    let item = item_on c.args.handlers.now c.handlers.handler-index c.handler-item.result c.handlers-test.true c.handler-item.is in
    let same : bytes_eq c.handler-item.result.script.now (codes "-") ≡ true = search rules in
    c.handlers.invariant ∙ ap (λ (hs : List read.Handler). first_script (handlers_of hs)) item
    ∙ script_on (handler_of c.handler-item.result) (handlers_of (drop (c.handlers.handler-index + 1) c.args.handlers.now)) true same

pub returns : goal.returns
returns c = sym (c.handlers.invariant ∙ ap (λ (hs : List read.Handler). first_script (handlers_of hs)) (none_on c.args.handlers.now c.handlers.handler-index c.handlers-test.false))
