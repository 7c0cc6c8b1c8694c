use Rattle.std.proofs.Common.{◌≡◌, ◌⊎◌, inl, inr, ◌<◌, ◌≤◌, [], ◌∷◌, length, ap, rules}
use Rattle.std.specs.Prelude.{codes}
use Rattle.tcl_language.specs.Faults.{wrong_args}
use Rattle.tcl_language.specs.Interpreters.{limit_form}
use Rattle.tcl_calls.proofs.EntryTelling.{evaluates_as, fails_told}
use Rattle.tcl_text.proofs.Items.{one_item, three_items}
use Rattle.tcl_interp.specs.Programs.{limits}
use Rattle.tcl_interp.specs.Subjects.{about, form_of}
use Rattle.tcl_interp.proofs.Forms.{limit_wrong}
use Rattle.tcl_interp.proofs.limits.limit.Goals.{in_default-via-then-args-lt1, in_default-via-else-args-lt1+else-args-lt2+then-args-lt3, in_default-via-else-args-lt1+else-args-lt2+else-args-lt3+else-args-lt4}
use Rattle.tcl_interp.proofs.limits.limit.Goals as goal

pub returns-in-len1-clause-evaluates : goal.returns-in-len1-clause-evaluates
returns-in-len1-clause-evaluates g c = evaluates_as g.O.Outside.goes c.args.tree.now c.limit_of.new.tree c.args.outside.now c.limit_of.new.outside c.args.place (λ style. limits style (about c.args.subject) c.args.args.now) (λ style. limits style (about c.args.subject) (c.word-item.result ∷ [])) c.limit_of.result
    (λ style. ap (limits style (about c.args.subject)) (one_item c.args.args.now c.word-item.result c.in-len1.len_at_least c.in-len1.len_below c.word-item.is)) c.limit_of.ensures.evaluates

pub returns-in-len3-clause-evaluates : goal.returns-in-len3-clause-evaluates
returns-in-len3-clause-evaluates g c = evaluates_as g.O.Outside.goes c.args.tree.now c.limit_with.new.tree c.args.outside.now c.limit_with.new.outside c.args.place (λ style. limits style (about c.args.subject) c.args.args.now) (λ style. limits style (about c.args.subject) (c.what-item.result ∷ c.option-item.result ∷ c.value-item.result ∷ [])) c.limit_with.result
    (λ style. ap (limits style (about c.args.subject)) (three_items c.args.args.now c.what-item.result c.option-item.result c.value-item.result c.in-len3.len_at_least c.in-len3.len_below c.what-item.is c.option-item.is c.value-item.is)) c.limit_with.ensures.evaluates

pub returns-in_default-clause-evaluates : goal.returns-in_default-clause-evaluates
returns-in_default-clause-evaluates g c =
    let far : (length c.args.args.now < 1) ⊎ ((length c.args.args.now ≡ 2) ⊎ (4 ≤ length c.args.args.now)) = elim c.in_default.branch [ in_default-via-then-args-lt1 w ↦ inl (search rules) | in_default-via-else-args-lt1+else-args-lt2+then-args-lt3 w ↦ inr (inl (search rules)) | in_default-via-else-args-lt1+else-args-lt2+else-args-lt3+else-args-lt4 w ↦ inr (inr (search rules)) ] in
    fails_told g.O.Outside.goes c.args.tree.now c.args.outside.now c.args.place (λ style. limits style (about c.args.subject) c.args.args.now) (wrong_args (form_of (about c.args.subject) limit_form (codes "limit commands ?-value n?"))) c.wrong_words.result
    (λ style. limit_wrong style (about c.args.subject) c.args.args.now far) c.wrong_words.ensures
