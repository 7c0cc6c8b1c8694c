use Rattle.std.proofs.Common.{ℕ, List, sym, ap, subst, ◌∙◌}
use Rattle.std.specs.Prelude.{Result, Err}
use Rattle.std.proofs.lemmas.Result.{err_from_is_err_and}
use Rattle.tcl_language.specs.Faults.{integer_message}
use Rattle.tcl_run.specs.declared.interruption.Interruption.{Interruption}
use Rattle.tcl_text.specs.Numbers.{in_64_bits, integer_of}
use Rattle.tcl_commands.specs.Growing.{GrowsTo}
use Rattle.tcl_commands.specs.Sums.{increment, number_of, raised}
use Rattle.tcl_commands.proofs.Raising.{added_none, number_read}
use Rattle.tcl_commands.proofs.sums.raise_read.Goals as goal

pub returns-in_err-n : goal.returns-in_err-n
returns-in_err-n c =
    let style = c.args.style in
    let old = c.args.value.now in
    let words = c.args.words.now in
    let new = c.integer.new.value in
    let p = err_from_is_err_and c.from_residual.result c.from_residual.ensures.1 in
    let read = number_read (integer_message old) (in_64_bits (integer_of style old)) (Err c.in_err-n.field-0.0) c.in_err-n.ensures.read in
    subst (λ (r : Result (List ℕ) Interruption). GrowsTo old (raised style words) new r) (sym (p.1 ∙ ap Err p.2))
    (added_none old new (number_of style old) (increment style words) c.in_err-n.field-0.0 c.in_err-n.ensures.text read)
