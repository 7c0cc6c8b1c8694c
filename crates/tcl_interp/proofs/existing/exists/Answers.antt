use Rattle.std.proofs.Common.{◌⊎◌, inl, inr, ◌<◌, ◌≤◌, [], ◌∷◌, length, ap, rules}
use Rattle.std.specs.Prelude.{codes}
use Rattle.tcl_core.specs.Entries.Question.{Exists}
use Rattle.tcl_language.specs.Interpreters as interpreters
use Rattle.tcl_calls.proofs.EntryTelling.{evaluates_as}
use Rattle.tcl_text.proofs.Items.{one_item}
use Rattle.tcl_interp.proofs.Forms.{exists_asked}
use Rattle.tcl_interp.proofs.existing.exists.Goals.{in_default-via-then-args-lt1, in_default-via-else-args-lt1+else-args-lt2}
use Rattle.tcl_interp.proofs.existing.exists.Goals as goal

pub returns-in-len1-clause-evaluates : goal.returns-in-len1-clause-evaluates
returns-in-len1-clause-evaluates g c = evaluates_as g.O.Outside.goes c.args.tree.now c.exists_there.new.tree c.args.outside.now c.exists_there.new.outside c.args.place (λ style. interpreters.exists c.args.args.now) (λ style. interpreters.exists (c.word-item.result ∷ [])) c.exists_there.result
    (λ style. ap interpreters.exists (one_item c.args.args.now c.word-item.result c.in-len1.len_at_least c.in-len1.len_below c.word-item.is)) c.exists_there.ensures.evaluates

pub returns-in_default-clause-evaluates : goal.returns-in_default-clause-evaluates
returns-in_default-clause-evaluates g c =
    let far : (length c.args.args.now < 1) ⊎ (2 ≤ length c.args.args.now) = elim c.in_default.branch [ in_default-via-then-args-lt1 w ↦ inl (search rules) | in_default-via-else-args-lt1+else-args-lt2 w ↦ inr (search rules) ] in
    evaluates_as g.O.Outside.goes c.args.tree.now c.ask_about.new.tree c.args.outside.now c.ask_about.new.outside c.args.place (λ style. interpreters.exists c.args.args.now) (λ style. interpreters.question (codes "interp exists ?path?") Exists c.args.args.now) c.ask_about.result
    (λ style. exists_asked c.args.args.now far) c.ask_about.ensures.evaluates
