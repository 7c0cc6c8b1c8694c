use Rattle.std.proofs.Common.{◌∙◌, ap}
use Rattle.std.specs.Prelude.{codes}
use Rattle.tcl_core.specs.Endings.Reply.{Completed}
use Rattle.tcl_core.specs.Paths.{Text}
use Rattle.tcl_language.specs.Interpreters as interpreters
use Rattle.tcl_run.specs.Ends.{failing}
use Rattle.tcl_run.proofs.Endings.{Interrupts-more}
use Rattle.std.specs.Str.{bytes_eq}
use Rattle.tcl_calls.proofs.Looks.{goes_true, fails_false, is_word, is_no_word, untrue}
use Rattle.tcl_interp.proofs.limits.value_only.Goals as goal

pub returns-then-is_text : goal.returns-then-is_text
returns-then-is_text c = λ rest. goes_true c.args.tree.now c.args.place (bytes_eq c.args.word.now (codes "-value")) rest _ (is_word c.args.word.now (codes "-value") (c.is_text.ensures.0 c.if-is_text.true))

pub returns : goal.returns
returns c = Interrupts-more c.bad_option.result _ _ (λ e f rest. fails_false c.args.tree.now c.args.place (bytes_eq c.args.word.now (codes "-value")) rest (interpreters.bad_option c.args.word.now) e
    (is_no_word c.args.word.now (codes "-value") (untrue c.is_text.result _ c.is_text.ensures.1 c.if-is_text.false))
    (f ∙ ap (λ (x : Text). Completed (failing (interpreters.bad_option x))) (c.as_str.ensures ∙ c.in_ok-text.ensures))) c.bad_option.ensures
