use Rattle.std.proofs.Common.{arith, sym, ◌∙◌}
use Rattle.tcl_text.proofs.Words.{longer, one_differs, all_fit}
use Rattle.tcl_text.proofs.boolean.abbreviates.Goals as goal

pub returns-then-word-text : goal.returns-then-word-text
returns-then-word-text c = sym (longer c.args.text.now c.args.word.now (omega arith))

pub returns-then-to_ascii_lowercase-word : goal.returns-then-to_ascii_lowercase-word
returns-then-to_ascii_lowercase-word c = sym (one_differs c.args.text.now c.args.word.now c.bytes.i (omega arith) (λ e. c.if-to_ascii_lowercase-word.true (c.to_ascii_lowercase.ensures.value ∙ e)))

pub returns : goal.returns
returns c = sym (all_fit c.args.text.now c.args.word.now (omega arith) (λ k h. c.bytes.invariant k (omega arith)))
