use Rattle.std.proofs.Common.{◌≡◌, rules, pos, None, not, sym, ap, ◌∙◌}
use Rattle.tcl_core.specs.Endings.Reply.{Completed}
use Rattle.tcl_calls.proofs.Handling.{none_is, ordinary}
use Rattle.tcl_calls.proofs.trying.released.Goals as goal

pub returns-then-is_none : goal.returns-then-is_none
returns-then-is_none c =
    let f = c.if-completion-eq-OK.true in
    let code : c.args.completion.code ≡ pos 0 = search rules in
    let g = c.if-options-eq-OK.true in
    let behind : c.args.completion.options.code ≡ pos 0 = search rules in
    let h = c.if-options-eq0.true in
    let level : c.args.completion.options.level ≡ 0 = search rules in
    let kind : c.args.completion.options.errorcode ≡ None = none_is c.args.completion.options.errorcode (c.is_none.ensures ∙ ap not c.if-is_none.true) in
    ap Completed (sym (ordinary c.args.completion code behind level kind))
