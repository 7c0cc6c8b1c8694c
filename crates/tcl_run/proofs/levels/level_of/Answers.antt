use Rattle.std.proofs.Common.{ℕ, ◌-◌, sym, ap, ◌∙◌, arith}
use Rattle.std.specs.Option.{option_map}
use Rattle.std.proofs.lemmas.Option.{MatchOption-at_none}
use Rattle.std.proofs.lemmas.Str.Pattern.{strip_prefix_char}
use Rattle.tcl_text.specs.Numbers.{integer_of}
use Rattle.tcl_run.proofs.Levelling.{level_within, plain_is, up_is}
use Rattle.tcl_run.proofs.levels.level_of.Goals as goal

pub returns-in_err-up-in-None : goal.returns-in_err-up-in-None
returns-in_err-up-in-None c =
    let f = strip_prefix_char 35 c.args.word.now c.strip_prefix.result c.strip_prefix.ensures.cases (omega arith) in
    let no_sign = MatchOption-at_none _ _ c.in-None.is f in
    c.from_residual.ensures ∙ sym (plain_is c.args.style c.args.current c.args.word.now no_sign ∙ up_is c.args.current (integer_of c.args.style c.args.word.now)
    ∙ ap (option_map (λ (m : ℕ). c.args.current - m)) (sym c.level_at-in-None.ensures ∙ c.in_err-up-in-None.was))

pub overflow_sub-result : goal.overflow_sub-result
overflow_sub-result c = level_within c.args.current (integer_of c.args.style c.args.word.now) c.in_ok-up-in-None.up (sym c.in_ok-up-in-None.was ∙ c.level_at-in-None.ensures)

pub returns-in_ok-up-in-None : goal.returns-in_ok-up-in-None
returns-in_ok-up-in-None c =
    let f = strip_prefix_char 35 c.args.word.now c.strip_prefix.result c.strip_prefix.ensures.cases (omega arith) in
    let no_sign = MatchOption-at_none _ _ c.in-None.is f in
    sym (plain_is c.args.style c.args.current c.args.word.now no_sign ∙ up_is c.args.current (integer_of c.args.style c.args.word.now)
    ∙ ap (option_map (λ (m : ℕ). c.args.current - m)) (sym c.level_at-in-None.ensures ∙ c.in_ok-up-in-None.was))
