use Rattle.std.proofs.Common.{sym, ap, ◌∙◌, arith}
use Rattle.tcl_text.specs.Lists.{list_of}
use Rattle.tcl_commands.proofs.Defining.{one_made, one_refused, other_refused, two_made, two_refused}
use Rattle.tcl_commands.proofs.definitions.read_parameter.Goals as goal

pub returns-in-1-clause-made : goal.returns-in-1-clause-made
returns-in-1-clause-made c =
    one_made c.args.text.now c.in_ok-words.words (ap list_of (sym c.in_ok-own.ensures.cases) ∙ c.in_ok-words.ensures.read) c.args.before.now c.len.result c.in_ok-get-in-1.field-0 c.in_ok-text-in-1.field-0 c.named_parameter.result
    c.len.ensures c.in-1.is c.in_ok-get-in-1.ensures c.in_ok-text-in-1.ensures c.named_parameter.ensures.made

pub returns-in-1-clause-refused : goal.returns-in-1-clause-refused
returns-in-1-clause-refused c =
    one_refused c.args.text.now c.in_ok-words.words (ap list_of (sym c.in_ok-own.ensures.cases) ∙ c.in_ok-words.ensures.read) c.args.before.now c.len.result c.in_ok-get-in-1.field-0 c.in_ok-text-in-1.field-0 c.named_parameter.result
    c.len.ensures c.in-1.is c.in_ok-get-in-1.ensures c.in_ok-text-in-1.ensures c.named_parameter.ensures.refused

pub returns-in-2-clause-made : goal.returns-in-2-clause-made
returns-in-2-clause-made c =
    two_made c.args.text.now c.in_ok-words.words (ap list_of (sym c.in_ok-own.ensures.cases) ∙ c.in_ok-words.ensures.read) c.args.before.now c.len.result c.in_ok-get-in-2.field-0 c.in_ok-text-in-2.field-0 c.in_ok-get-in-2-2.field-0 c.named_parameter-in-2.result
    c.len.ensures c.in-2.is c.in_ok-get-in-2.ensures c.in_ok-text-in-2.ensures c.in_ok-get-in-2-2.ensures c.named_parameter-in-2.ensures.made

pub returns-in-2-clause-refused : goal.returns-in-2-clause-refused
returns-in-2-clause-refused c =
    two_refused c.args.text.now c.in_ok-words.words (ap list_of (sym c.in_ok-own.ensures.cases) ∙ c.in_ok-words.ensures.read) c.args.before.now c.len.result c.in_ok-get-in-2.field-0 c.in_ok-text-in-2.field-0 c.in_ok-get-in-2-2.field-0 c.named_parameter-in-2.result
    c.len.ensures c.in-2.is c.in_ok-get-in-2.ensures c.in_ok-text-in-2.ensures c.in_ok-get-in-2-2.ensures c.named_parameter-in-2.ensures.refused

pub returns-clause-refused : goal.returns-clause-refused
returns-clause-refused c =
    other_refused c.args.text.now c.in_ok-words.words (ap list_of (sym c.in_ok-own.ensures.cases) ∙ c.in_ok-words.ensures.read) c.args.before.now c.bad_name.result c.as_str.result.now
    (λ e. absurd (omega arith)) (λ e. absurd (omega arith)) (c.as_str.ensures ∙ c.in_ok-text-in_default.ensures) c.bad_name.ensures
