use Rattle.std.proofs.Common.{◌⊎◌, inl, inr, ◌<◌, ◌≤◌, [], ◌∷◌, length, ap, rules}
use Rattle.std.specs.Prelude.{codes}
use Rattle.tcl_language.specs.Definitions as definitions
use Rattle.tcl_language.specs.Faults.{wrong_args}
use Rattle.tcl_calls.proofs.EntryTelling.{evaluates_as, fails_told}
use Rattle.tcl_text.proofs.Items.{two_items}
use Rattle.tcl_interp.proofs.Forms.{rename_wrong}
use Rattle.tcl_interp.proofs.naming.rename.Goals.{in_default-via-then-args-lt2, in_default-via-else-args-lt2+else-args-lt3}
use Rattle.tcl_interp.proofs.naming.rename.Goals as goal

pub returns-in-len2-clause-evaluates : goal.returns-in-len2-clause-evaluates
returns-in-len2-clause-evaluates g c = evaluates_as g.O.Outside.goes c.args.tree.now c.rename_as.new.tree c.args.outside.now c.rename_as.new.outside c.args.place (λ style. definitions.rename c.args.args.now) (λ style. definitions.rename (c.old-item.result ∷ c.new-item.result ∷ [])) c.rename_as.result
    (λ style. ap definitions.rename (two_items c.args.args.now c.old-item.result c.new-item.result c.in-len2.len_at_least c.in-len2.len_below c.old-item.is c.new-item.is)) c.rename_as.ensures.evaluates

pub returns-in_default-clause-evaluates : goal.returns-in_default-clause-evaluates
returns-in_default-clause-evaluates g c =
    let far : (length c.args.args.now < 2) ⊎ (3 ≤ length c.args.args.now) = elim c.in_default.branch [ in_default-via-then-args-lt2 w ↦ inl (search rules) | in_default-via-else-args-lt2+else-args-lt3 w ↦ inr (search rules) ] in
    fails_told g.O.Outside.goes c.args.tree.now c.args.outside.now c.args.place (λ style. definitions.rename c.args.args.now) (wrong_args (codes "rename oldName newName")) c.wrong_args.result (λ style. rename_wrong c.args.args.now far) c.wrong_args.ensures
