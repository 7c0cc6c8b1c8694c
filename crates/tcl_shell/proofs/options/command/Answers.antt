use Rattle.std.proofs.Common.{◌∙◌, ap₂}
use Rattle.std.proofs.lemmas.Result.{IfOk-weaker}
use Rattle.clap.specs.Words.{with_rule}
use Rattle.tcl_shell.proofs.options.command.Goals as goal

pub returns : goal.returns
returns c =
    let names = c.integers_option.ensures.rule.0 in
    let one = c.in_ok-arg.ensures.shape c.limit_option.ensures.local ∙ ap₂ with_rule c.named.ensures c.limit_option.ensures.rule in
    let two = c.in_ok-arg-2.ensures.shape c.safe_option.ensures.local ∙ ap₂ with_rule one c.safe_option.ensures.rule in
    let three = c.in_ok-arg-3.ensures.shape c.integers_option.ensures.local ∙ ap₂ with_rule two c.integers_option.ensures.rule.2 in
    let four = c.in_ok-arg-4.ensures.shape c.file_argument.ensures.local ∙ ap₂ with_rule three c.file_argument.ensures.rule in
    IfOk-weaker c.arg-5.result _ _ (λ made h. (names, c.integers_option.ensures.rule.1, h.shape c.arguments_argument.ensures.local ∙ ap₂ with_rule four c.arguments_argument.ensures.rule)) c.arg-5.ensures
