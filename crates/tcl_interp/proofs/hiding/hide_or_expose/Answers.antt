use Rattle.std.proofs.Common.{◌⊎◌, inl, inr, ◌<◌, ◌≤◌, length, ap, rules}
use Rattle.tcl_language.specs.Faults.{wrong_args}
use Rattle.tcl_language.specs.Interpreters.{asks_trusted}
use Rattle.tcl_calls.proofs.EntryTelling.{evaluates_as, fails_told}
use Rattle.tcl_text.proofs.Items.{one_item, two_items}
use Rattle.tcl_interp.specs.Programs.{hides_or_exposes, hiding_entry, hiding_forms}
use Rattle.tcl_interp.specs.Subjects.{about, path_text}
use Rattle.tcl_interp.proofs.Forms.{names_wrong}
use Rattle.tcl_interp.proofs.hiding.hide_or_expose.Goals.{in_default-via-then-args-lt1, in_default-via-else-args-lt1+else-args-lt2+else-args-lt3}
use Rattle.tcl_interp.proofs.hiding.hide_or_expose.Goals as goal

pub returns-in-len1-clause-evaluates : goal.returns-in-len1-clause-evaluates
returns-in-len1-clause-evaluates g c = evaluates_as g.O.Outside.goes c.args.tree.now c.hide_or_expose_as.new.tree c.args.outside.now c.hide_or_expose_as.new.outside c.args.place (λ style. hides_or_exposes c.args.hiding (about c.args.subject) c.args.args.now)
    (λ style. asks_trusted (path_text (about c.args.subject)) (hiding_entry c.args.hiding c.name-item.result c.name-item.result)) c.hide_or_expose_as.result
    (λ style. ap (hides_or_exposes c.args.hiding (about c.args.subject)) (one_item c.args.args.now c.name-item.result c.in-len1.len_at_least c.in-len1.len_below c.name-item.is)) c.hide_or_expose_as.ensures.evaluates

pub returns-in-len2-clause-evaluates : goal.returns-in-len2-clause-evaluates
returns-in-len2-clause-evaluates g c = evaluates_as g.O.Outside.goes c.args.tree.now c.hide_or_expose_as-in-len2.new.tree c.args.outside.now c.hide_or_expose_as-in-len2.new.outside c.args.place (λ style. hides_or_exposes c.args.hiding (about c.args.subject) c.args.args.now)
    (λ style. asks_trusted (path_text (about c.args.subject)) (hiding_entry c.args.hiding c.from-item.result c.to-item.result)) c.hide_or_expose_as-in-len2.result
    (λ style. ap (hides_or_exposes c.args.hiding (about c.args.subject)) (two_items c.args.args.now c.from-item.result c.to-item.result c.in-len2.len_at_least c.in-len2.len_below c.from-item.is c.to-item.is)) c.hide_or_expose_as-in-len2.ensures.evaluates

pub returns-in_default-clause-evaluates : goal.returns-in_default-clause-evaluates
returns-in_default-clause-evaluates g c =
    let far : (length c.args.args.now < 1) ⊎ (3 ≤ length c.args.args.now) = elim c.in_default.branch [ in_default-via-then-args-lt1 w ↦ inl (search rules) | in_default-via-else-args-lt1+else-args-lt2+else-args-lt3 w ↦ inr (search rules) ] in
    fails_told g.O.Outside.goes c.args.tree.now c.args.outside.now c.args.place (λ style. hides_or_exposes c.args.hiding (about c.args.subject) c.args.args.now) (wrong_args (hiding_forms c.args.hiding (about c.args.subject))) c.wrong_names.result
    (λ style. names_wrong c.args.hiding (about c.args.subject) c.args.args.now far) c.wrong_names.ensures
