use Rattle.std.proofs.Common.{◌≡◌, ℕ, List, [], ◌∷◌, sym, ap, ◌∙◌}
use Rattle.tcl_language.specs.Procedures as procedures
use Rattle.tcl_text.proofs.Items.{no_item, one_item}
use Rattle.tcl_commands.proofs.ArrayEnds.{by_words}
use Rattle.tcl_commands.proofs.procedures.names.Goals as goal

pub returns-in-empty : goal.returns-in-empty
returns-in-empty c =
    by_words c.args.tree.now c.args.tree.now c.args.place (procedures.names c.args.only_procedures c.args.form.now) c.args.args.now [] c.listed.result (no_item c.args.args.now c.in-empty.len_below) c.listed.ensures

pub returns-in_ok-pattern-in-len1 : goal.returns-in_ok-pattern-in-len1
returns-in_ok-pattern-in-len1 c =
    let pattern = c.in_ok-pattern-in-len1.pattern in
    let args : c.args.args.now ≡ pattern ∷ [] =
    one_item c.args.args.now c.pattern-item.result c.in-len1.len_at_least c.in-len1.len_below c.pattern-item.is ∙ ap (λ (x : List ℕ). x ∷ []) (sym c.in_ok-pattern-in-len1.ensures) in
    by_words c.args.tree.now c.args.tree.now c.args.place (procedures.names c.args.only_procedures c.args.form.now) c.args.args.now (pattern ∷ []) c.listed-in-len1.result args c.listed-in-len1.ensures
