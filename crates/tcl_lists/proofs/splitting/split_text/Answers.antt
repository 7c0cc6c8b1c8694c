use Rattle.std.proofs.Common.{ℕ, List, Ok, sym, ◌∙◌, ap, subst}
use Rattle.std.specs.Str.{chars}
use Rattle.tcl_words.specs.Outcomes.{Gives}
use Rattle.tcl_lists.specs.Lists.{list_value}
use Rattle.tcl_characters.proofs.LetterSteps.{some_character}
use Rattle.tcl_lists.proofs.Between.{split_nothing, split_by_none, split_by_some, some_bytes, no_characters}
use Rattle.tcl_lists.proofs.splitting.split_text.Goals as goal

pub returns-then-is_empty : goal.returns-then-is_empty
returns-then-is_empty c = split_nothing (chars c.args.set.now) (chars c.args.text.now) (no_characters c.args.text.now c.is_empty.result c.is_empty.ensures c.if-is_empty.true) ∙ ap Ok (sym c.empty.ensures)

pub returns-then-is_empty-2 : goal.returns-then-is_empty-2
returns-then-is_empty-2 c =
    let all = split_by_none (chars c.args.set.now) (chars c.args.text.now) (no_characters c.args.set.now c.is_empty-2.result c.is_empty-2.ensures c.if-is_empty-2.true) in
    subst (λ (t : List (List ℕ)). Gives (λ value. value) c.split_letters.result (list_value t)) (sym all) c.split_letters.ensures

pub returns : goal.returns
returns c =
    let s = some_character c.args.set.now c.utf8.set (some_bytes c.args.set.now c.is_empty-2.result c.is_empty-2.ensures c.if-is_empty-2.false) in
    let t = some_character c.args.text.now c.utf8.text (some_bytes c.args.text.now c.is_empty.result c.is_empty.ensures c.if-is_empty.false) in
    let all = split_by_some (chars c.args.set.now) (chars c.args.text.now) s.1 t.1 s.0 t.0 s.2 t.2 in
    subst (λ (t : List (List ℕ)). Gives (λ value. value) c.split_between.result (list_value t)) (sym all) c.split_between.ensures
