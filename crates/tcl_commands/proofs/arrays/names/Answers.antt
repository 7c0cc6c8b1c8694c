use Rattle.std.proofs.Common.{◌≡◌, ℕ, List, [], ◌∷◌, sym, ap, ◌∙◌}
use Rattle.tcl_language.specs.Arrays as arrays
use Rattle.tcl_text.proofs.Items.{one_item, two_items}
use Rattle.tcl_commands.proofs.ArrayEnds.{by_words}
use Rattle.tcl_commands.proofs.arrays.names.Goals as goal

pub returns-in_ok-name-in-len1 : goal.returns-in_ok-name-in-len1
returns-in_ok-name-in-len1 c =
    let name = c.in_ok-name-in-len1.name in
    let args : c.args.args.now ≡ name ∷ [] =
    one_item c.args.args.now c.name-item.result c.in-len1.len_at_least c.in-len1.len_below c.name-item.is ∙ ap (λ (x : List ℕ). x ∷ []) (sym c.in_ok-name-in-len1.ensures) in
    by_words c.args.tree.now c.args.tree.now c.args.place arrays.names c.args.args.now (name ∷ []) c.keys_listed.result args c.keys_listed.ensures

pub returns-in_ok-pattern-in-len2 : goal.returns-in_ok-pattern-in-len2
returns-in_ok-pattern-in-len2 c =
    let name = c.in_ok-name-in-len2.name in
    let pattern = c.in_ok-pattern-in-len2.pattern in
    let item = c.name-item-then-args-lt3 in
    let args : c.args.args.now ≡ name ∷ pattern ∷ [] =
    two_items c.args.args.now item.result c.pattern-item.result c.in-len2.len_at_least c.in-len2.len_below item.is c.pattern-item.is
    ∙ ap (λ (x : List ℕ). x ∷ c.pattern-item.result ∷ []) (sym c.in_ok-name-in-len2.ensures) ∙ ap (λ (x : List ℕ). name ∷ x ∷ []) (sym c.in_ok-pattern-in-len2.ensures) in
    by_words c.args.tree.now c.args.tree.now c.args.place arrays.names c.args.args.now (name ∷ pattern ∷ []) c.keys_listed-in-len2.result args c.keys_listed-in-len2.ensures
