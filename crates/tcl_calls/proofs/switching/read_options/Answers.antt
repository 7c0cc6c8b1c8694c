use Rattle.std.proofs.Common.{◌-◌, take, drop, length, sym, ◌∙◌, subst, arith}
use Rattle.tcl_language.specs.Switching.{Choice, choice}
use Rattle.tcl_run.specs.Ends.{IsFailure, itself}
use Rattle.tcl_run.proofs.Endings.{Interrupts-more}
use Rattle.tcl_calls.specs.Switching.{manner_of}
use Rattle.tcl_calls.proofs.Branching.{split}
use Rattle.tcl_calls.proofs.Choosing.{choice_few, compared_at, few_left, first_at}
use Rattle.tcl_calls.proofs.switching.read_options.Goals as goal

pub returns-then-rest-lt2 : goal.returns-then-rest-lt2
returns-then-rest-lt2 c =
    let word = split c.options.left.now c.word-item.result c.in-len1-up.len_at_least c.word-item.is in
    c.options.invariant ∙ choice_few (manner_of c.options.manner) c.options.left.now (few_left c.options.left.now c.word-item.result _ word c.if-rest-lt2.true)

pub returns-in-Ends : goal.returns-in-Ends
returns-in-Ends c =
    let rest = take (length c.options.left.now - 1) (drop 1 c.options.left.now) in
    let word = split c.options.left.now c.word-item.result c.in-len1-up.len_at_least c.word-item.is in
    c.options.invariant ∙ first_at (manner_of c.options.manner) c.options.left.now c.word-item.result c.as_str-option.result.now rest word (c.as_str-option.ensures ∙ c.in_ok-text.ensures) c.if-rest-lt2.false ∙ c.in-Ends.ensures rest (λ m. choice m rest)

pub returns-in-Unknown : goal.returns-in-Unknown
returns-in-Unknown c =
    let rest = take (length c.options.left.now - 1) (drop 1 c.options.left.now) in
    let word = split c.options.left.now c.word-item.result c.in-len1-up.len_at_least c.word-item.is in
    let is = c.options.invariant ∙ first_at (manner_of c.options.manner) c.options.left.now c.word-item.result c.as_str-option.result.now rest word (c.as_str-option.ensures ∙ c.in_ok-text.ensures) c.if-rest-lt2.false
    ∙ c.in-Unknown.ensures rest (λ m. choice m rest) in
    Interrupts-more c.bad_option.result _ _ (λ e h. subst (λ (r : Choice). IsFailure itself r e) (sym is) h) c.bad_option.ensures

pub returns-in-Compared : goal.returns-in-Compared
returns-in-Compared c =
    let rest = take (length c.options.left.now - 1) (drop 1 c.options.left.now) in
    let word = split c.options.left.now c.word-item.result c.in-len1-up.len_at_least c.word-item.is in
    let same = c.as_str-option.ensures ∙ c.in_ok-text.ensures in
    c.options.invariant ∙ first_at (manner_of c.options.manner) c.options.left.now c.word-item.result c.as_str-option.result.now rest word same c.if-rest-lt2.false ∙ c.in-Compared.ensures rest (λ m. choice m rest)
    ∙ compared_at (manner_of c.options.manner) c.options.left.now c.word-item.result c.as_str-option.result.now rest word same

pub options-preserved : goal.options-preserved
options-preserved c =
    let rest = take (length c.options.left.now - 1) (drop 1 c.options.left.now) in
    let word = split c.options.left.now c.word-item.result c.in-len1-up.len_at_least c.word-item.is in
    c.options.invariant ∙ first_at (manner_of c.options.manner) c.options.left.now c.word-item.result c.as_str-option.result.now rest word (c.as_str-option.ensures ∙ c.in_ok-text.ensures) c.if-rest-lt2.false ∙ c.in-Sets.ensures rest (λ m. choice m rest)

pub returns : goal.returns
returns c = c.options.invariant ∙ choice_few (manner_of c.options.manner) c.options.left.now (omega arith)
