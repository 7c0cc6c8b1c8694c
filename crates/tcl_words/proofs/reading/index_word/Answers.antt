use Rattle.std.proofs.Common.{◌≡◌, ℤ, pos, ◌-ℤ◌, to_z, of_z, w64, sym, ◌∙◌, ap}
use Rattle.std.proofs.lemmas.Int.{to_z-of_z}
use Rattle.tcl_text.specs.Indexes.{index_of}
use Rattle.tcl_text.proofs.Fitting.{fits_last}
use Rattle.tcl_words.specs.Words.{index_or}
use Rattle.tcl_words.proofs.WordLemmas.{refuses_at, index_ok, index_err, counted}
use Rattle.tcl_words.proofs.reading.index_word.Goals as goal

pub returns-in-Ok : goal.returns-in-Ok
returns-in-Ok c =
    let passed : to_z w64 (of_z w64 c.last_place.result) ≡ pos c.args.count -ℤ pos 1 = ap (λ (z : ℤ). to_z w64 (of_z w64 z)) c.last_place.ensures ∙ to_z-of_z w64 (pos c.args.count -ℤ pos 1) (fits_last c.args.count c.if-count-gt-MOST_BYTES.false) in
    counted c.args.style c.args.count c.args.word.now c.if-count-gt-MOST_BYTES.false
    ∙ ap (λ (z : ℤ). index_or c.args.word.now (index_of c.args.style z c.args.word.now)) (sym passed)
    ∙ index_ok c.args.word.now (index_of c.args.style (to_z w64 (of_z w64 c.last_place.result)) c.args.word.now) c.in-Ok.place c.in-Ok.ensures

pub returns-in-Err : goal.returns-in-Err
returns-in-Err c =
    let passed : to_z w64 (of_z w64 c.last_place.result) ≡ pos c.args.count -ℤ pos 1 = ap (λ (z : ℤ). to_z w64 (of_z w64 z)) c.last_place.ensures ∙ to_z-of_z w64 (pos c.args.count -ℤ pos 1) (fits_last c.args.count c.if-count-gt-MOST_BYTES.false) in
    refuses_at c.fault_with.result _ _
    (counted c.args.style c.args.count c.args.word.now c.if-count-gt-MOST_BYTES.false
    ∙ ap (λ (z : ℤ). index_or c.args.word.now (index_of c.args.style z c.args.word.now)) (sym passed)
    ∙ index_err c.args.word.now (index_of c.args.style (to_z w64 (of_z w64 c.last_place.result)) c.args.word.now) c.in-Err.field-0 c.in-Err.ensures)
    (c.fault_with.ensures _ c.bad_index_message.ensures)
