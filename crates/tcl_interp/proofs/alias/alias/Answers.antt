use Rattle.std.proofs.Common.{◌≡◌, ◌-◌, List, [], ◌∷◌, length, take, drop, ap, ◌∙◌}
use Rattle.std.specs.Prelude.{codes}
use Rattle.tcl_core.specs.Paths.{Text}
use Rattle.tcl_language.specs.Faults.{wrong_args}
use Rattle.tcl_language.specs.Interpreters.{alias_form}
use Rattle.tcl_calls.proofs.Looks.{untrue}
use Rattle.tcl_calls.proofs.EntryTelling.{evaluates_as, fails_told}
use Rattle.tcl_text.proofs.Emptiness.{some_is, zero_is}
use Rattle.tcl_text.proofs.Items.{no_item, one_item}
use Rattle.tcl_interp.specs.Programs.{aliases, gives_alias}
use Rattle.tcl_interp.specs.Subjects.{about, form_of}
use Rattle.tcl_interp.proofs.Forms.{alias_cleared, alias_many, alias_named, alias_with}
use Rattle.tcl_interp.proofs.alias.alias.Goals.{else-is_empty-via-then-is_empty+else-is_text, else-is_empty-via-else-is_empty}
use Rattle.tcl_interp.proofs.alias.alias.Goals as goal

pub returns-in-empty-clause-evaluates : goal.returns-in-empty-clause-evaluates
returns-in-empty-clause-evaluates g c = fails_told g.O.Outside.goes c.args.tree.now c.args.outside.now c.args.place (λ style. aliases (about c.args.subject) c.args.args.now) (wrong_args (form_of (about c.args.subject) alias_form (codes "alias srcCmd ?targetCmd? ?arg ...?"))) c.wrong_words.result
    (λ style. ap (aliases (about c.args.subject)) (no_item c.args.args.now c.in-empty.len_below)) c.wrong_words.ensures

pub returns-in-len1-clause-evaluates : goal.returns-in-len1-clause-evaluates
returns-in-len1-clause-evaluates g c = evaluates_as g.O.Outside.goes c.args.tree.now c.alias_of.new.tree c.args.outside.now c.alias_of.new.outside c.args.place (λ style. aliases (about c.args.subject) c.args.args.now) (λ style. aliases (about c.args.subject) (c.name-item.result ∷ [])) c.alias_of.result
    (λ style. ap (aliases (about c.args.subject)) (one_item c.args.args.now c.name-item.result c.in-len1.len_at_least c.in-len1.len_below c.name-item.is)) c.alias_of.ensures.evaluates

pub returns-then-is_text-clause-evaluates : goal.returns-then-is_text-clause-evaluates
returns-then-is_text-clause-evaluates g c =
    let words : List Text = take (length c.args.args.now - 2) (drop 2 c.args.args.now) in
    evaluates_as g.O.Outside.goes c.args.tree.now c.clear_alias.new.tree c.args.outside.now c.clear_alias.new.outside c.args.place (λ style. aliases (about c.args.subject) c.args.args.now)
    (λ style. aliases (about c.args.subject) (c.own-item.result ∷ [] ∷ [])) c.clear_alias.result
    (λ style. alias_many (about c.args.subject) c.args.args.now c.own-item.result c.target-item.result c.in-len2-up.len_at_least c.own-item.is c.target-item.is
    ∙ alias_cleared (about c.args.subject) c.own-item.result c.target-item.result words (zero_is _ c.is_empty.result c.is_empty.ensures c.if-is_empty.true) (c.is_text.ensures.0 c.if-is_text.true)) c.clear_alias.ensures.evaluates

pub returns-else-is_empty-clause-evaluates : goal.returns-else-is_empty-clause-evaluates
returns-else-is_empty-clause-evaluates g c =
    let words : List Text = take (length c.args.args.now - 2) (drop 2 c.args.args.now) in
    let same : aliases (about c.args.subject) (c.own-item.result ∷ c.target-item.result ∷ words) ≡ gives_alias (about c.args.subject) c.own-item.result c.target-item.result words = elim c.else-is_empty.branch [
      | else-is_empty-via-then-is_empty+else-is_text w ↦ alias_named (about c.args.subject) c.own-item.result c.target-item.result words (untrue w.is_text.result _ w.is_text.ensures.1 w.if-is_text.false)
      | else-is_empty-via-else-is_empty w ↦ alias_with (about c.args.subject) c.own-item.result c.target-item.result words (some_is (length words) c.is_empty.result c.is_empty.ensures w.if-is_empty.false)
    ] in
    evaluates_as g.O.Outside.goes c.args.tree.now c.give_alias.new.tree c.args.outside.now c.give_alias.new.outside c.args.place (λ style. aliases (about c.args.subject) c.args.args.now)
    (λ style. gives_alias (about c.args.subject) c.own-item.result c.target-item.result words) c.give_alias.result
    (λ style. alias_many (about c.args.subject) c.args.args.now c.own-item.result c.target-item.result c.in-len2-up.len_at_least c.own-item.is c.target-item.is ∙ same) c.give_alias.ensures.evaluates
