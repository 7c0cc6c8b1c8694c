use Rattle.std.proofs.Common.{◌-◌, true, false, List, take, drop, length, Option, sym, ap, ◌∙◌, arith}
use Rattle.tcl_core.specs.Paths.{Text}
use Rattle.tcl_flow.specs.View.{completion_of}
use Rattle.tcl_language.specs.Expressions.{runs_last}
use Rattle.tcl_language.specs.Instructions.{or_fails}
use Rattle.tcl_language.specs.Trying.{first_script, handled_by, keeps}
use Rattle.tcl_text.specs.Lists.{list_of}
use Rattle.tcl_text.specs.Writing.{fault_message}
use Rattle.tcl_text.proofs.Items.{no_item, split_first}
use Rattle.tcl_calls.specs.Trying.{handler_of, handlers_of}
use Rattle.tcl_calls.specs.declared.trying.Handler as read
use Rattle.tcl_calls.proofs.Handling.{handled_on}
use Rattle.tcl_calls.proofs.trying.handler_for.Goals as goal

pub returns-then-branch : goal.returns-then-branch
returns-then-branch c =
    let left = c.handlers.left.now in
    let first = split_first left c.handler-item.result c.in-len1-up.len_at_least c.handler-item.is in
    c.handlers.invariant ∙ ap (λ (hs : List read.Handler). handled_by (completion_of c.args.completion.now) (handlers_of hs)) first
    ∙ handled_on (completion_of c.args.completion.now) (handler_of c.handler-item.result) (handlers_of (take (length left - 1) (drop 1 left))) true (sym c.if-branch.true ∙ c.in_ok-is_handled.ensures)
    ∙ ap (λ (o : Option Text). or_fails fault_message (list_of c.handler-item.result.names.now) (λ xs. keeps xs (completion_of c.args.completion.now) (runs_last o)))
    (ap (λ (hs : List read.Handler). first_script (handlers_of hs)) (sym first) ∙ sym c.first_script.ensures)

pub handlers-preserved : goal.handlers-preserved
handlers-preserved c =
    let left = c.handlers.left.now in
    let first = split_first left c.handler-item.result c.in-len1-up.len_at_least c.handler-item.is in
    c.handlers.invariant ∙ ap (λ (hs : List read.Handler). handled_by (completion_of c.args.completion.now) (handlers_of hs)) first
    ∙ handled_on (completion_of c.args.completion.now) (handler_of c.handler-item.result) (handlers_of (take (length left - 1) (drop 1 left))) false (sym c.if-branch.false ∙ c.in_ok-is_handled.ensures)

pub returns : goal.returns
returns c = c.handlers.invariant ∙ ap (λ (hs : List read.Handler). handled_by (completion_of c.args.completion.now) (handlers_of hs)) (no_item c.handlers.left.now (omega arith))
