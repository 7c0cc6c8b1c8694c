use Rattle.std.proofs.Common.{ℤ, refl, subst}
use Rattle.std.proofs.lemmas.Result.{err_from_is_err_and}
use Rattle.tcl_frames.specs.Places.{current}
use Rattle.tcl_language.specs.Inspection as inspection
use Rattle.tcl_language.specs.Instructions.{look}
use Rattle.tcl_run.specs.Plain.{Acts}
use Rattle.tcl_text.specs.Numbers.{integer_of}
use Rattle.tcl_text.proofs.Items.{one_item, no_item}
use Rattle.tcl_tree.specs.TreeOf.{marks_of}
use Rattle.tcl_commands.proofs.Setting.{given_fits, handed}
use Rattle.tcl_commands.proofs.Telling.{level_acts, level_ends, level_fails}
use Rattle.tcl_commands.proofs.inspection.level.Goals as goal

pub returns-in_err-number-in-len1 : goal.returns-in_err-number-in-len1
returns-in_err-number-in-len1 c =
    let p = err_from_is_err_and c.from_residual-in_err-number-in-len1.result c.from_residual-in_err-number-in-len1.ensures.1 in
    level_fails c.args.tree.now c.args.place c.args.args.now c.word-item.result (marks_of c.args.tree.now).integers c.in_err-number-in-len1.field-0.0 p.0 c.from_residual-in_err-number-in-len1.result
    (one_item c.args.args.now c.word-item.result c.in-len1.len_at_least c.in-len1.len_below c.word-item.is) refl p.1 p.2 c.in_err-number-in-len1.ensures

pub returns-in_ok-number_value-in-empty : goal.returns-in_ok-number_value-in-empty
returns-in_ok-number_value-in-empty c =
    level_ends c.args.tree.now c.args.place c.args.args.now c.in_ok-number_value-in-empty.field-0 c.level.result c.frames_seen.result.now (no_item c.args.args.now c.in-empty.len_below)
    c.in_ok-number_value-in-empty.ensures c.level.ensures c.frames_seen.ensures

pub returns-in_ok-number-in-len1 : goal.returns-in_ok-number-in-len1
returns-in_ok-number-in-len1 c =
    let same = handed c.in_ok-number-in-len1.number (given_fits c.word-item.result (integer_of (marks_of c.args.tree.now).integers c.word-item.result) c.in_ok-number-in-len1.number c.in_ok-number-in-len1.ensures) in
    level_acts c.args.tree.now c.args.place c.args.args.now c.word-item.result c.in_ok-number-in-len1.number (marks_of c.args.tree.now).integers c.call_words.result
    (one_item c.args.args.now c.word-item.result c.in-len1.len_at_least c.in-len1.len_below c.word-item.is) refl c.in_ok-number-in-len1.ensures
    (subst (λ (z : ℤ). Acts c.args.tree.now c.args.place (λ style. look (λ n. inspection.words_of c.word-item.result (inspection.numbered (current n.own.chain.frames) z) n)) c.args.tree.now c.call_words.result) same c.call_words.ensures)
