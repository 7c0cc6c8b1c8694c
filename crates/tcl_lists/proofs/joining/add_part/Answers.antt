use Rattle.std.proofs.Common.{◌≡◌, ℕ, List, ◌++◌, IfErr, ◌∙◌, ap, subst}
use Rattle.std.specs.Prelude.{codes}
use Rattle.std.specs.List.{flat_map}
use Rattle.std.specs.String.{string_bytes}
use Rattle.tcl_words.specs.Outcomes.{Refuses}
use Rattle.tcl_words.specs.Limits.{limited}
use Rattle.tcl_lists.specs.Joining.{trimmed, with_part, gap, onto}
use Rattle.tcl_lists.proofs.Added.{part_whole}
use Rattle.tcl_lists.proofs.joining.add_part.Goals as goal

pub returns-clause-refused : goal.returns-clause-refused
returns-clause-refused c = λ l.
    let made = string_bytes c.args.made.now in
    let rest = flat_map (λ (y : List ℕ). codes " " ++ y) l in
    let part = c.trimmed-part.result.now in
    let sep : c.gap-separator.result.now ≡ gap made = c.gap-separator.ensures ∙ ap gap c.as_str.ensures.value in
    let whole : made ++ ((c.gap-separator.result.now ++ part) ++ rest) ≡ onto made (with_part (trimmed c.args.text.now) l) =
    ap (λ (s : List ℕ). made ++ ((s ++ part) ++ rest)) sep ∙ (part_whole made part l c.is_empty.result c.is_empty.ensures c.if-is_empty.false ∙ ap (λ (t : List ℕ). onto made (with_part t l)) c.trimmed-part.ensures) in
    subst (λ (t : List ℕ). IfErr c.add.result (λ e. Refuses {X = List ℕ} e (limited t))) whole (c.add.ensures.refused rest)
