use Rattle.std.proofs.Common.{[], ap}
use Rattle.std.specs.Prelude.{codes}
use Rattle.tcl_language.specs.Faults.{wrong_args}
use Rattle.tcl_calls.proofs.EntryTelling.{evaluates_as, fails_told}
use Rattle.tcl_text.proofs.Items.{no_item, one_item}
use Rattle.tcl_interp.specs.Programs.{depth_form, depths, sets}
use Rattle.tcl_interp.specs.Subjects.{about, form_of}
use Rattle.tcl_interp.specs.declared.limits.LimitOf.TheVariants.{Depth}
use Rattle.tcl_interp.proofs.Forms.{depth_wrong}
use Rattle.tcl_interp.proofs.limits.recursion_limit.Goals as goal

pub returns-in-empty-clause-evaluates : goal.returns-in-empty-clause-evaluates
returns-in-empty-clause-evaluates g c = evaluates_as g.O.Outside.goes c.args.tree.now c.depth_limit_of.new.tree c.args.outside.now c.depth_limit_of.new.outside c.args.place (λ style. depths style (about c.args.subject) c.args.args.now) (λ style. depths style (about c.args.subject) []) c.depth_limit_of.result
    (λ style. ap (depths style (about c.args.subject)) (no_item c.args.args.now c.in-empty.len_below)) c.depth_limit_of.ensures.evaluates

pub returns-in-len1-clause-evaluates : goal.returns-in-len1-clause-evaluates
returns-in-len1-clause-evaluates g c = evaluates_as g.O.Outside.goes c.args.tree.now c.set_limit.new.tree c.args.outside.now c.set_limit.new.outside c.args.place (λ style. depths style (about c.args.subject) c.args.args.now) (λ style. sets style Depth (about c.args.subject) c.value-item.result) c.set_limit.result
    (λ style. ap (depths style (about c.args.subject)) (one_item c.args.args.now c.value-item.result c.in-len1.len_at_least c.in-len1.len_below c.value-item.is)) c.set_limit.ensures.evaluates

pub returns-in_default-clause-evaluates : goal.returns-in_default-clause-evaluates
returns-in_default-clause-evaluates g c = fails_told g.O.Outside.goes c.args.tree.now c.args.outside.now c.args.place (λ style. depths style (about c.args.subject) c.args.args.now) (wrong_args (form_of (about c.args.subject) depth_form (codes "recursionlimit ?n?"))) c.wrong_words.result
    (λ style. depth_wrong style (about c.args.subject) c.args.args.now c.in_default.len_at_least) c.wrong_words.ensures
