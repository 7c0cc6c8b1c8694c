use Rattle.std.proofs.Common.{◌≡◌, ℕ, List, [], ◌∷◌, sym, ap, ◌∙◌}
use Rattle.std.proofs.lemmas.Result.{err_from_is_err_and}
use Rattle.tcl_text.proofs.Items.{one_item, two_items}
use Rattle.tcl_commands.proofs.Setting.{set_reads, set_sets, set_passes}
use Rattle.tcl_commands.proofs.variables.set.Goals as goal

pub returns-in-len1-clause-acts : goal.returns-in-len1-clause-acts
returns-in-len1-clause-acts c =
    set_reads c.args.tree.now c.args.place c.args.args.now c.name-item.result c.read_by_word.result (one_item c.args.args.now c.name-item.result c.in-len1.len_at_least c.in-len1.len_below c.name-item.is) c.read_by_word.ensures.read

pub returns-in_err-set_variable-in-len2-clause-acts :
    goal.returns-in_err-set_variable-in-len2-clause-acts
returns-in_err-set_variable-in-len2-clause-acts c =
    let args : c.args.args.now ≡ c.name-item-then-args-lt3.result ∷ c.in_ok-clone-in-len2.field-0 ∷ [] =
    two_items c.args.args.now c.name-item-then-args-lt3.result c.value-item.result c.in-len2.len_at_least c.in-len2.len_below c.name-item-then-args-lt3.is c.value-item.is
    ∙ ap (λ (x : List ℕ). c.name-item-then-args-lt3.result ∷ x ∷ []) (sym c.in_ok-clone-in-len2.ensures.cases) in
    let p = err_from_is_err_and c.from_residual-in_err-set_variable-in-len2.result c.from_residual-in_err-set_variable-in-len2.ensures.1 in
    set_passes c.args.tree.now c.set_variable.new.tree c.args.place c.args.args.now c.name-item-then-args-lt3.result c.in_ok-clone-in-len2.field-0 c.in_err-set_variable-in-len2.field-0.0 p.0
    c.from_residual-in_err-set_variable-in-len2.result args p.1 p.2 c.in_err-set_variable-in-len2.ensures.set

pub returns-in_ok-clone-in-len2-2-clause-acts : goal.returns-in_ok-clone-in-len2-2-clause-acts
returns-in_ok-clone-in-len2-2-clause-acts c =
    let args : c.args.args.now ≡ c.name-item-then-args-lt3.result ∷ c.in_ok-clone-in-len2.field-0 ∷ [] =
    two_items c.args.args.now c.name-item-then-args-lt3.result c.value-item.result c.in-len2.len_at_least c.in-len2.len_below c.name-item-then-args-lt3.is c.value-item.is
    ∙ ap (λ (x : List ℕ). c.name-item-then-args-lt3.result ∷ x ∷ []) (sym c.in_ok-clone-in-len2.ensures.cases) in
    set_sets c.args.tree.now c.set_variable.new.tree c.args.place c.args.args.now c.name-item-then-args-lt3.result c.in_ok-clone-in-len2.field-0 c.in_ok-clone-in-len2-2.field-0 args
    (c.in_ok-clone-in-len2-2.ensures.cases ∙ sym c.in_ok-clone-in-len2.ensures.cases) c.in_ok-set_variable-in-len2.ensures.set
