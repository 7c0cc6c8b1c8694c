use Rattle.std.proofs.Common.{◌≡◌, ℕ, List, [], ◌∷◌, Bool, sym, ap, ◌∙◌}
use Rattle.std.specs.Prelude.{Ok, codes}
use Rattle.tcl_language.specs.Instructions.{either}
use Rattle.tcl_language.specs.Procedures as procedures
use Rattle.tcl_parser.specs.Faults.{is_complete_with}
use Rattle.tcl_parser.specs.Reading.{read_script}
use Rattle.tcl_text.proofs.Items.{one_item}
use Rattle.tcl_commands.proofs.ArrayEnds.{by_words, done_acts}
use Rattle.tcl_commands.proofs.procedures.complete.Goals as goal

pub returns-in_ok-is_complete-in-len1 : goal.returns-in_ok-is_complete-in-len1
returns-in_ok-is_complete-in-len1 c =
    let t = c.args.tree.now in
    let text = c.in_ok-text-in-len1.text in
    let value = c.truth_value.result in
    let args : c.args.args.now ≡ text ∷ [] =
    one_item c.args.args.now c.text-item.result c.in-len1.len_at_least c.in-len1.len_below c.text-item.is ∙ ap (λ (x : List ℕ). x ∷ []) (sym c.in_ok-text-in-len1.ensures) in
    by_words t t c.args.place procedures.complete c.args.args.now (text ∷ []) (Ok value) args
    (done_acts t c.args.place value (either (is_complete_with (read_script text).fault) (codes "1") (codes "0"))
    (c.truth_value.ensures ∙ ap (λ (b : Bool). either b (codes "1") (codes "0")) (c.in_ok-is_complete-in-len1.ensures ∙ ap (λ (x : List ℕ). is_complete_with (read_script x).fault) c.as_str.ensures)))
