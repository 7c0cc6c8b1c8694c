use Rattle.std.proofs.Common.{◌≡◌, false, length, ap, sym, ◌∙◌, arith}
use Rattle.std.specs.Prelude.{Ok, ◌==◌}
use Rattle.std.proofs.lemmas.Bool.Decides.{nat_tests}
use Rattle.std.proofs.lemmas.Result.{err_from_is_err_and}
use Rattle.tcl_dicts.specs.Dicts.{dict_word}
use Rattle.tcl_run.specs.Ends.{IsFailure, itself}
use Rattle.tcl_run.proofs.Endings.{Interrupts-more, at_err}
use Rattle.tcl_text.specs.Lists.{list_of}
use Rattle.tcl_calls.specs.Walks.{MisreadsEntry}
use Rattle.tcl_calls.proofs.Walking.{entries_misread, entries_not_two, entries_read}
use Rattle.tcl_calls.proofs.walks.read_entries.Goals as goal

pub returns-then-len-ne2-clause-refused : goal.returns-then-len-ne2-clause-refused
returns-then-len-ne2-clause-refused c =
    let names : list_of c.args.names.now ≡ Ok c.in_ok-names-2.names = ap list_of (sym c.in_ok-names.ensures.cases) ∙ c.in_ok-names-2.ensures.read in
    let test = c.if-len-ne2.true in
    let other : (length c.in_ok-names-2.names == 2) ≡ false = grind (arith, nat_tests) in
    Interrupts-more c.wrong_args.result _ _ (λ e h. entries_not_two c.args.names.now c.args.dict.now c.in_ok-names-2.names e names other h) c.wrong_args.ensures

pub returns-in_err-elements-clause-refused : goal.returns-in_err-elements-clause-refused
returns-in_err-elements-clause-refused c =
    let p = err_from_is_err_and c.from_residual-in_err-elements.result c.from_residual-in_err-elements.ensures.1 in
    let names : list_of c.args.names.now ≡ Ok c.in_ok-names-2.names = ap list_of (sym c.in_ok-names.ensures.cases) ∙ c.in_ok-names-2.ensures.read in
    let test = c.if-len-ne2.false in
    let two : length c.in_ok-names-2.names ≡ 2 = grind (arith, nat_tests) in
    at_err c.from_residual-in_err-elements.result c.in_err-elements.field-0.0 p.0 (IsFailure itself (dict_word c.args.dict.now)) (MisreadsEntry c.args.names.now c.args.dict.now) p.1 p.2 c.in_err-elements.ensures
    (λ e h. entries_misread c.args.names.now c.args.dict.now c.in_ok-names-2.names e names two h)

pub returns-clause-read : goal.returns-clause-read
returns-clause-read c =
    let same = c.in_ok-names-3.ensures in
    let names : list_of c.args.names.now ≡ Ok c.in_ok-names-3.names = ap list_of (sym c.in_ok-names.ensures.cases) ∙ c.in_ok-names-2.ensures.read ∙ ap Ok (sym same) in
    let test = c.if-len-ne2.false in
    let held : length c.in_ok-names-2.names ≡ 2 = grind (arith, nat_tests) in
    λ k. entries_read c.args.names.now c.args.dict.now c.in_ok-names-3.names c.in_ok-elements.elements k names (ap length same ∙ held) c.in_ok-elements.ensures
